use Rattle.std.proofs.Common.{refl, ◌∙◌, ap, arith, ◌<◌, length}
use Rattle.workload_runners.specs.Turns.{Seat}
use Rattle.workload_runners.proofs.Meets.{met_none, met_more, met_all}
use Rattle.workload_runners.proofs.crew.end.meet_all.Goals as goal

pub loop-i-init : goal.loop-i-init
loop-i-init c = record { met = met_none _ _; len = refl; capacity = refl }

pub meet-requires : goal.meet-requires
meet-requires c =
    let x = c.loop-i.invariant.met in
    let l : c.loop-i.i < length c.args.others.now.items = omega arith in
    let s = c.index_mut.result.now in
    (x.main.cell ∙ c.requires.main, ap (λ (v : Seat). v.cell) c.index_mut.ensures.value ∙ ((x.others c.loop-i.i s s l).cell ∙ c.requires.others c.loop-i.i s l))

pub loop-i-preserved : goal.loop-i-preserved
loop-i-preserved c =
    let x = c.loop-i.invariant in
    let e = c.meet.ensures in
    record {
      met = met_more c.args.main.now c.loop-i.main c.meet.new.a c.index_mut.result.now c.meet.new.b c.args.others.now.items c.loop-i.others.items _ c.loop-i.i
          x.met (omega arith) c.index_mut.ensures.value e.first e.second e.one e.second_own refl;
      len = x.len;
      capacity = x.capacity;
    }

pub returns-clause-met : goal.returns-clause-met
returns-clause-met c = met_all _ _ _ _ c.loop-i.i (omega arith) c.loop-i.invariant.met
