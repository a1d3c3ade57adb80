use Rattle.journal_check.specs.Verdicts.{terms_of_journal}
use Rattle.journal_reasons.specs.Judged.{AreInstead}
use Rattle.journal_reasons.proofs.instead.allowed_among.Given as goal

abbrev pub invariant-loop-reply : goal.invariant-loop-reply
invariant-loop-reply l = AreInstead (terms_of_journal l.fn.journal) l.fn.journal.entries.entries l.fn.number l.allowed.items
