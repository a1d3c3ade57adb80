use Rattle.task_board.proofs.Names.{◌≡◌, ◌+◌, length, Option, sym, subst, arith, slot_value, MtapiStatus, ended_of, Freed}
use Rattle.task_board.proofs.EachLemmas.{freed-next, freed-all, freed-group}
use Rattle.task_board.proofs.members.free_members.Goals as goal

pub loop-index-preserved : goal.loop-index-preserved
loop-index-preserved c =
    subst (λ (o : Option MtapiStatus). Freed c.args.scheduler.now c.take_first.new.self c.args.g.0 (c.loop-index._index + 1) o) (sym c.or_fault-fault.ensures)
    (freed-next c.args.scheduler.now c.loop-index.scheduler c.take_first.new.self c.args.g.0 c.loop-index._index c.in-Some.field-0-0.0 c.loop-index.fault
    c.in-Some.end c.loop-index.invariant c.in-Some.ensures)

pub returns-clause-none : goal.returns-clause-none
returns-clause-none c =
    let all : c.loop-index._index ≡ length (ended_of (slot_value c.args.scheduler.now.groups.pool c.args.g.0)) =
    omega (arith, c.loop-index-test.false, c.ended_count-index-end.ensures, c.loop-index.auto._index-end) in
    freed-group c.args.scheduler.now c.loop-index.scheduler c.args.g.0 c.loop-index.fault
    (freed-all c.args.scheduler.now c.loop-index.scheduler c.args.g.0 c.loop-index._index c.loop-index.fault c.loop-index.invariant all) c.is_kept.ensures
