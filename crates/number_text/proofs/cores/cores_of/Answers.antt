use Rattle.std.proofs.Common.{sym, arith}
use Rattle.number_text.proofs.Parsing.{cores_more, cores_end, cores_done, shl_core, room_more}
use Rattle.number_text.proofs.cores.cores_of.Goals as goal

pub returns-in_default-number_within : goal.returns-in_default-number_within
returns-in_default-number_within c =
    let h = rw (c.in-Some.is, c.cut_at.ensures.parts) at c.cutting.invariant.so_far in
    sym (cores_end c.cutting.mask c.cutting.low _ _ _ c.in_default-number_within.ensures.value h)

pub cutting-preserved : goal.cutting-preserved
cutting-preserved c =
    let h = rw (c.in-Some.is, c.cut_at.ensures.parts) at c.cutting.invariant.so_far in
    let core = c.in-Some-number_within.core in
    let within = c.in-Some-number_within.ensures.within in
    let e = shl_core core within.1 in
    rw e (record {
      so_far = cores_more c.cutting.mask c.cutting.low core _ _ _ c.in-Some-number_within.ensures.value h;
      room = room_more c.cutting.mask c.cutting.low core c.cutting.invariant.room within.0;
      within = omega (arith, within.1);
    })

pub returns : goal.returns
returns c = sym (cores_done c.cutting.mask c.cutting.low _ (rw c.in_default.is at c.cutting.invariant.so_far))
