use Rattle.run_check.proofs.Names.{◌≡◌, ℕ, List, [], refl, sym, subst, arith, nil_from_length, Part, Line, lines_of}
use Rattle.run_check.proofs.Several.{Some, no_callers, not_first, and_rest}
use Rattle.run_check.proofs.whole.+callers_ran.Goals as goal

pub returns-in_default : goal.returns-in_default
returns-in_default t c =
    let made : ℕ → List Line = λ w. lines_of w c.args.entries.now c.args.skipped.now in
    let nil : c.args.parts.now ≡ [] = nil_from_length c.args.parts.now (omega (arith, c.in_default.len_below)) in
    (λ x. subst (λ (ps : List Part). Some made c.args.who ps) (sym nil) (no_callers made c.args.who), λ s. refl)

pub returns-then-not-branch : goal.returns-then-not-branch
returns-then-not-branch t c = (
  λ x. absurd (let y = x in cc),
  λ s. absurd (not_first (λ w. lines_of w c.args.entries.now c.args.skipped.now) c.args.who c.args.parts.now c.part-item.result c.in-len1-up.len_at_least
      c.part-item.is (λ r. let x = c.in_ok-caller_made.ensures.1 r in let y = c.if-not-branch.true in absurd (cc)) s),
)

pub returns : goal.returns
returns t c = and_rest (λ w. lines_of w c.args.entries.now c.args.skipped.now) c.args.who c.args.parts.now c.part-item.result c.in_ok-rest_ran.rest_ran
    c.in-len1-up.len_at_least c.part-item.is (c.in_ok-caller_made.ensures.0 c.if-not-branch.false) c.in_ok-rest_ran.ensures
