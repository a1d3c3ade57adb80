use Rattle.std.proofs.Common.{arith}
use Rattle.std.proofs.lemmas.Int.{to_z-of_z}
use Rattle.std.specs.Int.{w64}
use Rattle.number_text.proofs.Parsing.{args_more, args_end, args_done, none_is, some_is, pushed}
use Rattle.number_text.proofs.lists.list_of.Goals as goal

pub returns-in_default-whole : goal.returns-in_default-whole
returns-in_default-whole c =
    let h = rw (c.in-Some.is, c.cut_at.ensures.parts) at c.cutting.invariant.so_far in
    none_is c.args.text.now (args_end c.cutting.args _ _ _ c.in_default-whole.ensures.value h)

pub cutting-preserved : goal.cutting-preserved
cutting-preserved c =
    let h = rw (c.in-Some.is, c.cut_at.ensures.parts) at c.cutting.invariant.so_far in
    let k = rw (c.in-Some.is, c.cut_at.ensures.parts) at c.cutting.invariant.count in
    let z = c.in-Some-whole.value in
    let fits = rw (to_z-of_z w64 z c.in-Some-whole.ensures.fits) at c.push.ensures.pushed in
    let p = pushed c.cutting.args c.push.new.self z c.push.result c.if-not-push.false c.push.ensures.room.0 fits in
    record {
      so_far = rw p.1 (args_more c.cutting.args _ _ c.in-Some-whole.value _ c.in-Some-whole.ensures.value h);
      count = omega (arith, k, p.2);
      within = omega (arith, p.0, p.2);
    }

pub returns : goal.returns
returns c =
    let h = rw c.in_default.is at c.cutting.invariant.so_far in
    let k = rw c.in_default.is at c.cutting.invariant.count in
    some_is c.args.text.now c.cutting.args (omega (arith, k, c.cutting.invariant.within)) (args_done c.cutting.args _ h)
