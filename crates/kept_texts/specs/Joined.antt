-- A text in which what was kept of a run stands behind its workload.
use Rattle.std.specs.Prelude.{◌≡◌, ℕ, List, [], ◌∷◌, ◌++◌, length, if◌then◌else◌}
use Rattle.journal_text.specs.Splits.{OfParts, begins_line}

-- a text whose last line is ended, as lines behind it need
abbrev pub line_ended : List ℕ → List ℕ
line_ended text = if begins_line text (length text) then text else text ++ 10 ∷ []

-- the text is the first one, its last line ended, and behind it the journal in what was kept
abbrev pub IsJournalBehind : List ℕ → List ℕ → List ℕ → Type 0
IsJournalBehind first kept text = OfParts kept (λ front journal. text ≡ line_ended first ++ journal)
