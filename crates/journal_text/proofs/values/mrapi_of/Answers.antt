use Rattle.journal_text.proofs.Names.{mrapi_finds_each, named_exact, unnamed_exact, mrapi_of}
use Rattle.journal_text.proofs.PlainNames.{mrapi_plain}
use Rattle.journal_text.proofs.values.mrapi_of.Goals as goal

pub returns-in-Ok : goal.returns-in-Ok
unfolding mrapi_of
returns-in-Ok c = named_exact mrapi_finds_each c.args.text.now c.from_name.result (rw c.in-Ok.ensures.cases.0 at c.from_name.ensures.known)

pub returns-in-Err : goal.returns-in-Err
unfolding mrapi_of
returns-in-Err c = unnamed_exact mrapi_finds_each c.args.text.now mrapi_plain c.in-Err.ensures.cases.0
