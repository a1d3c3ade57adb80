-- How the row of an op is written and read: the replies and the moves are those of any machine.
use Rattle.std.specs.Prelude.{◌≡◌, Bool, true, false, List, [], ◌∷◌, Option, Some, None, if◌then◌else◌}
use Rattle.std.specs.Bool.{MatchBool}

-- what an op does in a state
pub data RowOfMachine (Reply Move : Type 0) : Type 0 where
  -- where the condition is met this reply answers and nothing changes; else the row goes on
  unless : Bool → Reply → RowOfMachine Reply Move → RowOfMachine Reply Move
  -- this reply, and the state changes by these moves
  gives : Reply → List Move → RowOfMachine Reply Move
  -- no reply
  never : RowOfMachine Reply Move

module _ {Reply Move : Type 0} where
  -- the replies that a row allows
  abbrev pub Allows : RowOfMachine Reply Move → Reply → Type 0
  Allows (unless c x row) reply = MatchBool c (reply ≡ x) (Allows row reply)
  Allows (gives x moves) reply = reply ≡ x
  Allows never reply = ⊥

  -- the moves that it makes
  abbrev pub moves_of : RowOfMachine Reply Move → List Move
  moves_of (unless c x row) = if c then [] else moves_of row
  moves_of (gives x moves) = moves
  moves_of never = []

  -- this reply, and nothing changes
  abbrev pub says : Reply → RowOfMachine Reply Move
  says x = gives x []

  -- the row where the condition is met, and else no reply
  abbrev pub only : Bool → RowOfMachine Reply Move → RowOfMachine Reply Move
  only true row = row
  only false row = never

  -- the row of what is there, and the other one where there is nothing
  abbrev pub live : {T : Type 0} → Option T → RowOfMachine Reply Move → (T → RowOfMachine Reply Move) → RowOfMachine Reply Move
  live None other row = other
  live (Some x) other row = row x

-- the state after these moves, one after the other
abbrev pub after_each_move : {State Move : Type 0} → (Move → State → State) → List Move → State → State
after_each_move apply [] s = s
after_each_move apply (m ∷ ms) s = after_each_move apply ms (apply m s)
