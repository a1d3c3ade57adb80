-- Legal histories of a machine: each reply is one that the row of its op allows.
use Rattle.std.specs.Prelude.{ℕ, ◌<◌, List, [], ◌∷◌}
use Rattle.history.specs.declared.entries.Entry.{Entry}
use Rattle.history.specs.Row.{RowOfMachine, Allows, moves_of, after_each_move}

-- a machine: the number of its seats, which ops may be asked at all, the row of each op, and the state after a move
pub record Machine (State Op Reply Move : Type 0) : Type 1 where
  pub seats : State → ℕ
  pub honest : Op → Type 0
  pub row : State → ℕ → Op → Reply → RowOfMachine Reply Move
  pub apply : Move → State → State

module _ {State Op Reply Move : Type 0} (m : Machine State Op Reply Move) where
  -- the row of an entry's op
  abbrev pub row_of_entry : State → Entry Op Reply → RowOfMachine Reply Move
  row_of_entry s e = m.row s e.who e.op e.reply

  -- the entry may come next: it is by a seat, its op may be asked, and the op's row allows the reply
  pub record MayComeNext (s : State) (e : Entry Op Reply) : Type 0 where
    pub seat : e.who < m.seats s
    pub honest : m.honest e.op
    pub allowed : Allows (row_of_entry s e) e.reply

  -- the state after it
  abbrev pub state_after : State → Entry Op Reply → State
  state_after s e = after_each_move m.apply (moves_of (row_of_entry s e)) s

  -- each entry may come next in its turn
  unfoldable pub EachMayCome : State → List (Entry Op Reply) → Type 0
  EachMayCome s [] = Unit {0}
  EachMayCome s (e ∷ es) = MayComeNext s e × EachMayCome (state_after s e) es

  -- the state after all entries
  unfoldable pub after_entries : State → List (Entry Op Reply) → State
  after_entries s [] = s
  after_entries s (e ∷ es) = after_entries (state_after s e) es
