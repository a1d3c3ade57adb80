use Rattle.std.proofs.Common.{refl, rules, ap, ◌≡◌, ◌+◌, vec_len}
use Rattle.std.proofs.lemmas.Result.{IfOk-at_ok}
use Rattle.workload_runners.specs.Turns.{Seat}
use Rattle.workload_runners.specs.Crews.{HaveCome}
use Rattle.workload_runners.proofs.CrewSeats.{worker_out, worker_back, all_closed, each_of_cell}
use Rattle.workload_runners.proofs.crew.workers.+fn-start_workers-pair+start_workers.Goals as goal
use Rattle.workload_runners.proofs.crew.workers.+fn-start_workers-pair+start_workers.Goals.{in-Ok, in-Err}

pub invariant_of-job : goal.invariant_of-job
invariant_of-job g t c =
    let o = worker_out c.args.cell.now c.args.threads c.pop.new.self c.in-Some.seat c.requires c.in-Some.ensures.items c.in-Some.ensures.len in
    record { of_cell = ap (λ (s : Seat). s.cell) o.seat_is; rest = o.rest }

pub pair-outcome-requires-after_bounds : goal.pair-outcome-requires-after_bounds
pair-outcome-requires-after_bounds g t c κs within =
    let out = worker_out c.args.cell.now c.args.threads c.pop.new.self c.in-Some.seat c.requires c.in-Some.ensures.items c.in-Some.ensures.len in
    let ready = out.ready in
    search rules

pub returns-in-Ok-crew-clause-back : goal.returns-in-Ok-crew-clause-back
returns-in-Ok-crew-clause-back g t c =
    let out = worker_out c.args.cell.now c.args.threads c.pop.new.self c.in-Some.seat c.requires c.in-Some.ensures.items c.in-Some.ensures.len in
    worker_back g.S.Set.Serve.rounds g.C.Holder.promise g.D.Holder.promise c.args.cell.now c.args.threads c.pop.new.self c.in-Some.seat c.in-Ok-crew.crew
    c.joined.result c.in-Ok-outcome.served
    c.in-Some.ensures.len out c.in-Ok-outcome.ensures.done c.joined.ensures
    (IfOk-at_ok (HaveCome g.S.Set.Serve.rounds g.C.Holder.promise g.D.Holder.promise c.args.cell.now
    (record c.args.threads { workers = c.pop.new.self })) c.in-Ok-crew.is c.in-Ok-outcome.ensures.ran.met.0)

pub begin_end-requires-clause-others : goal.begin_end-requires-clause-others
begin_end-requires-clause-others g t c =
    each_of_cell g.D.Holder.promise c.args.cell.now (c.args.cell.now.terms.node.settings.workers + 1) c.args.threads.callers.others.items
    c.in-Ok.returned.seats.items c.in-Ok.returned.others.items c.in-Ok.ensures.back.others

pub returns-in_default-clause-back : goal.returns-in_default-clause-back
returns-in_default-clause-back g t c =
    let none : vec_len c.args.threads.workers ≡ 0 = search rules in
    elim c.match-start_callers.branch [
      | in-Ok w ↦
          let h = all_closed g.S.Set.Serve.rounds g.C.Holder.promise g.D.Holder.promise c.args.cell.now c.args.threads w.in-Ok.returned w.begin_end.result none
          c.requires
          w.in-Ok.ensures.back w.begin_end.ensures.closed in
          search rules
      | in-Err w ↦ search rules
    ]
