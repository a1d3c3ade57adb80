-- How the parts that the proofs know of a seat are what contracts see of it.
use Rattle.std.specs.Prelude.{◌≡◌, ℕ, ◌⊎◌, List, [], ◌∷◌, Option}
use Rattle.atomic_table.specs.Table.{Me}
use Rattle.atomic_table.specs.Seated.{TableId}
use Rattle.history.specs.declared.entries.Entry.{Entry}
use Rattle.history.specs.Histories.{entries_of}
use Rattle.turn_cell.specs.declared.parts.Part.{Part}
use Rattle.turn_cell.specs.declared.parts.Stage.TheVariants.{Idle}
use Rattle.turn_cell.specs.Lists.{AllItems, total_by}
use Rattle.turn_cell.specs.Seats.{SeatView, numbered}
use Rattle.turn_cell.specs.Turns.{fresh_part, has_number}

module _ {T P Q : Type 0} where
  -- the first part, or one that knows nothing
  abbrev pub first_or : T → List (Part T P Q) → Part T P Q
  first_or d [] = fresh_part d 0
  first_or d (p ∷ ps) = p

  -- the seat of the cell z whose token has these parts
  abbrev pub view_of : T → TableId → List (Part T P Q) → SeatView T P Q
  view_of d z v = record {
    cell = z;
    number = (first_or d v).number;
    terms = (first_or d v).terms;
    seen = (first_or d v).seen;
    mine = (first_or d v).mine;
    shown = (first_or d v).shown;
  }

  -- a seat between two calls: its token has one idle part, with a legal history and its own entries of it
  pub record CellAtRest {O : Type 0} (legal : T → List (Entry P Q) → Type 0) (number shown : ℕ) (me : Me (Option O) (List (Part T P Q))) : Type 0 where
    pub part : Part T P Q
    pub me_is : me ≡ (part ∷ [], [])
    pub idle : part.stage ≡ Idle
    pub number_is : part.number ≡ number
    pub shown_is : part.shown ≡ shown
    pub lawful : legal part.terms part.seen
    pub own : entries_of part.number part.seen ≡ part.mine

  -- the part is that of this seat
  abbrev pub IsPartOf : SeatView T P Q → Part T P Q → Type 0
  IsPartOf s p = (p.number ≡ s.number) × (p.terms ≡ s.terms) × (p.seen ≡ s.seen) × (p.mine ≡ s.mine)

  -- one of the parts is that of this seat
  abbrev pub within : List (Part T P Q) → SeatView T P Q → Type 0
  within [] s = ⊥
  within (p ∷ ps) s = IsPartOf s p ⊎ within ps s

  abbrev pub is_idle : Part T P Q → Type 0
  is_idle p = p.stage ≡ Idle

  -- the parts of these seats, and no others
  pub record Gathers (seats : List (SeatView T P Q)) (v : List (Part T P Q)) : Type 0 where
    pub idle : AllItems is_idle v
    pub numbers : (k : ℕ) → total_by (has_number k) v ≡ numbered k seats
    pub all : AllItems (within v) seats
