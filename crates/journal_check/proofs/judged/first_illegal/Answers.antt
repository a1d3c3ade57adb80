use Rattle.std.proofs.Common.{IfOk, map}
use Rattle.node_journals.specs.Shorts.{entry_of}
use Rattle.journal_check.specs.Judged.{IsLegalOr}
use Rattle.journal_check.proofs.Names.{[], sym, subst, Terms, terms_with, Legal}
use Rattle.journal_check.proofs.Prefixes.{empty_legal}
use Rattle.journal_check.proofs.judged.first_illegal.Goals as goal

pub first_refused-requires-clause-legal : goal.first_refused-requires-clause-legal
first_refused-requires-clause-legal c =
    let terms : Terms = terms_with c.args.layout c.args.settings c.args.callers in
    subst (λ (t : Terms). Legal t []) (sym c.in_ok-follower.ensures.terms)
    (empty_legal terms (record { settings = c.is_kept.ensures; some_caller = c.if-callers-lt1.false; callers = c.if-callers-gt9.false }))

pub returns : goal.returns
returns c = subst (λ (t : Terms). IfOk c.first_refused.result
    (IsLegalOr t (map entry_of c.args.shorts.now))) c.in_ok-follower.ensures.terms c.first_refused.ensures
