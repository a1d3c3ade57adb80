use Rattle.std.proofs.Common.{refl}
use Rattle.run_check.proofs.Fronts.{at_front}
use Rattle.run_check.proofs.Ran.{caller_some, caller_none, some_of, none_of, is_nil}
use Rattle.run_check.proofs.parts.caller_ran.Goals as goal

pub returns-in-Some : goal.returns-in-Some
returns-in-Some c = caller_some c.args.statements.now c.args.lines.now c.first-item.result _ c.in-Some.rest.now c.is_empty.result
    (at_front c.args.lines.now c.first-item.result c.in-len1-up.len_at_least c.first-item.is) (c.if-not-enters.ensures.0 refl)
    (some_of _ c.in_ok-rest.field-0 c.in-Some.rest c.in-Some.is c.in_ok-rest.ensures.some) (is_nil c.in-Some.rest.now c.is_empty.result c.is_empty.ensures)

pub returns-in-None : goal.returns-in-None
returns-in-None c = caller_none c.args.statements.now c.args.lines.now c.first-item.result _
    (at_front c.args.lines.now c.first-item.result c.in-len1-up.len_at_least c.first-item.is)
    (none_of c.in_ok-rest.field-0 c.in-None.is c.in_ok-rest.ensures.none)
