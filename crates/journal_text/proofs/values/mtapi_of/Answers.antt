use Rattle.journal_text.proofs.Names.{mtapi_finds_each, named_exact, unnamed_exact, mtapi_of}
use Rattle.journal_text.proofs.PlainNames.{mtapi_plain}
use Rattle.journal_text.proofs.values.mtapi_of.Goals as goal

pub returns-in-Ok : goal.returns-in-Ok
unfolding mtapi_of
returns-in-Ok c = named_exact mtapi_finds_each c.args.text.now c.from_name.result (rw c.in-Ok.ensures.cases.0 at c.from_name.ensures.known)

pub returns-in-Err : goal.returns-in-Err
unfolding mtapi_of
returns-in-Err c = unnamed_exact mtapi_finds_each c.args.text.now mtapi_plain c.in-Err.ensures.cases.0
