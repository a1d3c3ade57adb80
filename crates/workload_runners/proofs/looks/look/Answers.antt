use Rattle.workload_runners.proofs.Names.{IfOk-weaker, NodeLooked, Pending, journal_legal, looks_of, op_of_look}
use Rattle.turn_looks.specs.Looks as looks
use Rattle.workload_runners.proofs.LookLemmas.{looked}
use Rattle.workload_runners.proofs.looks.look.Goals as goal

pub returns-clause-answered : goal.returns-clause-answered
returns-clause-answered g c =
    IfOk-weaker c.look.result (λ r. looks.Looked journal_legal (op_of_look c.args.wanted) Pending (looks_of c.args.timeout) c.args.seat.now c.look.new.seat r)
    (λ r. NodeLooked c.args.wanted (looks_of c.args.timeout) c.args.seat.now c.look.new.seat r)
    (λ r l. looked c.args.wanted (looks_of c.args.timeout) c.args.seat.now c.look.new.seat r l) c.look.ensures.answered
