-- What contracts see of a cell and of its seats.
use Rattle.std.specs.Prelude.{◌≡◌, ℕ, zero, suc, ◌<◌, ◌==◌, List, [], ◌∷◌}
use Rattle.atomic_table.specs.Seated.{TableId}
use Rattle.history.specs.declared.entries.Entry.{Entry}
use Rattle.history.specs.Histories.{StartsWith, entries_of}
use Rattle.turn_cell.specs.Lists.{total_by, one_if}

-- which cell it is, and the terms of its object
pub record CellView (T : Type 0) : Type 0 where
  pub id : TableId
  pub terms : T

-- a seat: its cell, its number, the object's terms, the history as far as it has seen it, its own entries, and the ticket word shown to it last
pub record SeatView (T P Q : Type 0) : Type 0 where
  pub cell : TableId
  pub number : ℕ
  pub terms : T
  pub seen : List (Entry P Q)
  pub mine : List (Entry P Q)
  pub shown : ℕ

module _ {T P Q : Type 0} where
  -- a seat that has seen nothing and made no call
  abbrev pub fresh_seat : T → TableId → ℕ → SeatView T P Q
  fresh_seat t z k = record { cell = z; number = k; terms = t; seen = []; mine = []; shown = 0 }

  -- such seats with the n numbers from k on
  abbrev pub fresh_seats : T → TableId → ℕ → ℕ → List (SeatView T P Q)
  fresh_seats t z k zero = []
  fresh_seats t z k (suc n) = fresh_seat t z k ∷ fresh_seats t z (suc k) n

  -- the same seat with the same entries of its own, which has seen no less
  pub record HasSeenMore (a b : SeatView T P Q) : Type 0 where
    pub cell : b.cell ≡ a.cell
    pub number : b.number ≡ a.number
    pub terms : b.terms ≡ a.terms
    pub seen : StartsWith b.seen a.seen
    pub mine : b.mine ≡ a.mine
    pub shown : b.shown ≡ a.shown

  -- how many of the seats have the number k
  abbrev pub numbered : ℕ → List (SeatView T P Q) → ℕ
  numbered k seats = total_by (λ s. one_if (s.number == k)) seats

  -- each number below n is among the seats'
  abbrev pub IsComplete : ℕ → List (SeatView T P Q) → Type 0
  IsComplete n seats = (k : ℕ) → k < n → 0 < numbered k seats

  -- the seat shows the terms t, has seen a prefix of the history h, and its own entries are those that h has of it
  pub record IsSeatOf (t : T) (h : List (Entry P Q)) (s : SeatView T P Q) : Type 0 where
    pub terms : s.terms ≡ t
    pub seen : StartsWith h s.seen
    pub mine : entries_of s.number h ≡ s.mine
