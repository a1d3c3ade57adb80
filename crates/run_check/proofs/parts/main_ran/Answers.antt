use Rattle.run_check.proofs.Names.{◌≡◌, ◌++◌, Bool, subst, head_lines}
use Rattle.run_check.proofs.Ran.{main_some, main_none, some_of, none_of}
use Rattle.run_check.proofs.parts.main_ran.Goals as goal

pub returns-in-Some-2 : goal.returns-in-Some-2
returns-in-Some-2 c = main_some c.args.statements.now c.args.lines.now c.in-Some.lines.now c.in-Some-2.rest.now c.is_tail.result
    (subst (λ (b : Bool). c.args.lines.now ≡ head_lines b ++ c.in-Some.lines.now) c.has_begin.ensures c.in-Some.ensures.some)
    (some_of _ c.in_ok-rest.field-0 c.in-Some-2.rest c.in-Some-2.is c.in_ok-rest.ensures.some) c.is_tail.ensures

pub returns-in-None : goal.returns-in-None
returns-in-None c = main_none c.args.statements.now c.args.lines.now c.in-Some.lines.now
    (subst (λ (b : Bool). c.args.lines.now ≡ head_lines b ++ c.in-Some.lines.now) c.has_begin.ensures c.in-Some.ensures.some)
    (none_of c.in_ok-rest.field-0 c.in-None.is c.in_ok-rest.ensures.none)
