-- What the code's readers return, seen as what the definitions read.
use Rattle.std.specs.Prelude.{◌≡◌, ℕ, List, Option, Some, None, Result, Ok, Err}
use denote.Ref.{Bor}
use Rattle.number_text.specs.Lists.{pieces_of}
use Rattle.journal_text.specs.declared.faults.LineError.{LineError}
use Rattle.journal_text.specs.declared.faults.LineError.TheVariants.{Memory, Outside}

-- a value and what is left of a line, as a value and the words that are left
abbrev pub left_texts : {A : Type 0} → Option (A × Option (Bor (List ℕ))) → Option (A × List (List ℕ))
left_texts None = None
left_texts (Some x) = Some (x.0, pieces_of 32 x.1)

-- what stands for a failure, where it isn't when out of memory
abbrev pub FailsToRead : {B : Type 0} → LineError → Option B → Type 0
FailsToRead Memory read = Unit {0}
FailsToRead Outside read = read ≡ None

-- what was returned, seen by view, is what reading gives, unless memory ran out
abbrev pub GivesRead : {A B : Type 0} → (A → B) → Result A LineError → Option B → Type 0
GivesRead view (Ok x) read = read ≡ Some (view x)
GivesRead view (Err e) read = FailsToRead e read
