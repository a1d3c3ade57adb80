-- A check of a history by computing. The law is that a list is legal exactly where its replay is the list itself.
use Rattle.std.specs.Prelude.{ℕ, Bool, ◌&&◌, nat_lt, List, [], ◌∷◌, Option, Some, None, if◌then◌else◌}
use Rattle.history.specs.declared.entries.Entry.{Entry}
use Rattle.history.specs.Histories.{entry}
use Rattle.history.specs.Row.{RowOfMachine, unless, gives, never}
use Rattle.history.specs.Legal.{Machine, row_of_entry, state_after}

-- the reply that a row gives
abbrev pub answer_of_row : {Reply Move : Type 0} → RowOfMachine Reply Move → Option Reply
answer_of_row (unless c x row) = if c then Some x else answer_of_row row
answer_of_row (gives x moves) = Some x
answer_of_row never = None

module _ {Op Reply : Type 0} where
  -- the entry with this reply, if any
  abbrev pub said_with : ℕ → Op → Option Reply → Option (Entry Op Reply)
  said_with who op None = None
  said_with who op (Some x) = Some (entry who op x)

  abbrev pub put_entry : Option (Entry Op Reply) → List (Entry Op Reply) → List (Entry Op Reply)
  put_entry None es = []
  put_entry (Some e) es = e ∷ es

-- which ops may be asked if they are corrected, and an op corrected
module _ {State Op Reply Move : Type 0} (m : Machine State Op Reply Move) (sound : Op → Bool) (corrected : Op → Op) where
  -- the entry that the machine makes of this one, if any
  abbrev pub retold : State → Entry Op Reply → Option (Entry Op Reply)
  retold s e = if nat_lt e.who (m.seats s) && sound e.op then said_with e.who (corrected e.op) (answer_of_row (row_of_entry m s e)) else None

  -- the history as the machine makes it, up to an entry that no reply answers
  unfoldable pub replay_rows : State → List (Entry Op Reply) → List (Entry Op Reply)
  replay_rows s [] = []
  replay_rows s (e ∷ es) = put_entry (retold s e) (replay_rows (state_after m s e) es)
