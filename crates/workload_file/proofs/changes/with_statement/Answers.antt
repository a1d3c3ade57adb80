use Rattle.workload_file.proofs.Cited.{arith, length_push}
use Rattle.workload_file.proofs.Places.{bound_push}
use Rattle.workload_file.proofs.changes.with_statement.Goals as goal

pub returns-clause-reader : goal.returns-clause-reader
returns-clause-reader c =
    let pushed = c.in_ok-push.ensures.ok in
    let more = length_push c.args.r.now.said.current.statements c.args.statement in
    record {
      statements = rw pushed (omega (arith, more, c.requires.named.statements));
      count = omega (arith, c.requires.few);
      names = λ name. rw (pushed, c.requires.named.names name) (bound_push name c.args.r.now.said.current.statements c.args.statement);
    }
