-- Words for what a client promises of its seat's own entries.
use Rattle.std.specs.Prelude.{◌≡◌, ℕ, List, [], ◌∷◌, ◌++◌}
use Rattle.mtapi_machine.specs.Legal.{NodeEntry}
use Rattle.workload_runners.specs.Turns.{Seat, SameNodeSeat}

-- these calls stand among the entries, in this order
abbrev pub CallsInOrder : List NodeEntry → List NodeEntry → Type 0
CallsInOrder [] es = Unit {0}
CallsInOrder (x ∷ xs) es =
    (before : List NodeEntry) × (after : List NodeEntry) × (es ≡ before ++ x ∷ after) × CallsInOrder xs after

-- the same seat, with further entries of its own, among them these calls
pub record WentOn (calls : List NodeEntry) (old new : Seat) : Type 0 where
  pub same : SameNodeSeat old new
  pub more : List NodeEntry
  pub mine : new.mine ≡ old.mine ++ more
  pub asked : CallsInOrder calls more
