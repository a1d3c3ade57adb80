use Rattle.std.proofs.Common.{refl, rules}
use Rattle.std.proofs.lemmas.Result.{IfOk-at_ok}
use Rattle.workload_runners.specs.Crews.{HaveHeld}
use Rattle.workload_runners.proofs.CrewSeats.{taken_out, new_in, one_more_back}
use Rattle.workload_runners.proofs.crew.callers.+fn-start_callers-pair+start_callers.Goals as goal

pub invariant_of-job : goal.invariant_of-job
invariant_of-job g t c =
    let n = new_in c.args.cell.now (record c.args.callers { seats = c.pop-2.new.self; others = c.pop.new.self }) c.in-Some-pop.seat
    (taken_out c.args.cell.now c.args.callers c.pop-2.new.self c.pop.new.self c.in-Some-pop.seat c.in-Some.client c.requires c.in-Some.ensures.items
    c.in-Some.ensures.len c.in-Some-pop.ensures.items) in
    record { of_cell = n.cell; caller = n.number; new = n.new }

pub pair-outcome-requires-after_bounds : goal.pair-outcome-requires-after_bounds
pair-outcome-requires-after_bounds g t c κs within =
    let out = taken_out c.args.cell.now c.args.callers c.pop-2.new.self c.pop.new.self c.in-Some-pop.seat c.in-Some.client c.requires
    c.in-Some.ensures.items c.in-Some.ensures.len c.in-Some-pop.ensures.items in
    let may = out.may in
    search rules

pub returns-in-Ok-returned-clause-back : goal.returns-in-Ok-returned-clause-back
returns-in-Ok-returned-clause-back g t c =
    let out = taken_out c.args.cell.now c.args.callers c.pop-2.new.self c.pop.new.self c.in-Some-pop.seat c.in-Some.client c.requires
    c.in-Some.ensures.items c.in-Some.ensures.len c.in-Some-pop.ensures.items in
    one_more_back g.C.Holder.promise g.D.Holder.promise c.args.cell.now c.args.callers c.pop-2.new.self c.pop.new.self c.in-Some-pop.seat
    c.in-Some.client c.in-Ok-returned.returned c.joined.result c.in-Ok.held c.in-Some.ensures.items c.in-Some.ensures.len out c.in-Ok.ensures.done
    c.joined.ensures
    (IfOk-at_ok (HaveHeld g.C.Holder.promise g.D.Holder.promise c.args.cell.now
    (record c.args.callers { seats = c.pop-2.new.self; others = c.pop.new.self })) c.in-Ok-returned.is c.in-Ok.ensures.ran.met.0)
