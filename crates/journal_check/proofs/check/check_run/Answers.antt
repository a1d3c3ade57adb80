use Rattle.std.proofs.Common.{subst}
use Rattle.journal_check.specs.Judged.{IsLegalOr}
use Rattle.journal_check.specs.Verdicts.{terms_of_journal}
use Rattle.journal_check.proofs.Told.{illegal_verdict, yes_verdict, not_run_verdict}
use Rattle.journal_check.proofs.check.check_run.Goals as goal

pub returns-in-Some : goal.returns-in-Some
returns-in-Some c =
    illegal_verdict c.args.load.now c.args.journal.now c.in-Some.entry
    (subst (IsLegalOr (terms_of_journal c.args.journal.now) c.args.journal.now.entries.entries) c.in-Some.is c.in_ok-illegal.ensures)

pub returns-then-branch : goal.returns-then-branch
returns-then-branch c =
    yes_verdict c.args.load.now c.args.journal.now
    (subst (IsLegalOr (terms_of_journal c.args.journal.now) c.args.journal.now.entries.entries) c.in_default.is c.in_ok-illegal.ensures)
    (c.in_ok-runs.ensures.0 c.if-branch.true)

pub returns-else-branch : goal.returns-else-branch
returns-else-branch c =
    not_run_verdict c.args.load.now c.args.journal.now
    (subst (IsLegalOr (terms_of_journal c.args.journal.now) c.args.journal.now.entries.entries) c.in_default.is c.in_ok-illegal.ensures)
    (λ r. let a = c.in_ok-runs.ensures.1 r in let b = c.if-branch.false in absurd (cc))
