-- What a turn of a seat adds.
use Rattle.std.specs.Prelude.{◌≡◌, ◌≤◌, ◌^◌, List, [], ◌∷◌, ◌++◌}
use Rattle.history.specs.declared.entries.Entry.{Entry}
use Rattle.history.specs.Histories.{entry, entries_of}
use Rattle.turn_cell.specs.Seats.{SeatView}

module _ {T P Q : Type 0} where
  -- the same seat of the same cell
  pub record SameSeat (old new : SeatView T P Q) : Type 0 where
    pub cell : new.cell ≡ old.cell
    pub number : new.number ≡ old.number
    pub terms : new.terms ≡ old.terms

  -- the seat made one turn: the op and its reply come behind what other seats did since its last one, and the list is legal
  pub record Turned (is_legal : T → List (Entry P Q) → Type 0) (old : SeatView T P Q) (op : P) (reply : Q) (new : SeatView T P Q) : Type 0 where
    pub same : SameSeat old new
    pub before : entries_of old.number old.seen ≡ old.mine
    pub mine : new.mine ≡ old.mine ++ entry old.number op reply ∷ []
    pub between : List (Entry P Q)
    pub others : entries_of old.number between ≡ []
    pub seen : new.seen ≡ (old.seen ++ between) ++ entry old.number op reply ∷ []
    pub legal : is_legal new.terms new.seen

  -- the turns were used up, and nothing was added
  pub record Unturned (old new : SeatView T P Q) : Type 0 where
    pub same : SameSeat old new
    pub mine : new.mine ≡ old.mine
    pub seen : new.seen ≡ old.seen
    pub shown : 2 ^ 62 ≤ new.shown
