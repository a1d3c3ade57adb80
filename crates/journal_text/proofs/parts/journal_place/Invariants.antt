use Rattle.journal_text.proofs.Names.{◌≡◌, ◌<◌, ℕ, false, begins_journal}
use Rattle.journal_text.proofs.parts.journal_place.Given as goal

abbrev pub invariant-loop-at : goal.invariant-loop-at
invariant-loop-at l = (n : ℕ) → n < l.at → begins_journal l.bytes n ≡ false
