-- Seats, and marks for each of the 25 seats that a node may have.
use Rattle.std.specs.Prelude.{ℕ, zero, suc, Bool, true, false, not, ◌&&◌, ◌==◌, List, [], ◌∷◌, Option, replicate, slice_index_or, if◌then◌else◌}
use Rattle.mtapi_values.specs.Conditions.{holds}

-- there is a seat, and it is this one
abbrev pub is_seat : ℕ → Option ℕ → Bool
is_seat who o = holds (λ x. x == who) o

-- there is a seat, and it is another one
abbrev pub is_other : ℕ → Option ℕ → Bool
is_other who o = holds (λ x. not (x == who)) o

-- a mark for each seat, none of them set
abbrev pub no_marks : List Bool
no_marks = replicate 25 false

-- this seat is marked
abbrev pub marked : ℕ → List Bool → Bool
marked who l = slice_index_or l who false

-- some seat is marked
abbrev pub any_mark : List Bool → Bool
any_mark [] = false
any_mark (b ∷ bs) = if b then true else any_mark bs

-- each of the first n seats is marked
abbrev pub all_marked : ℕ → List Bool → Bool
all_marked zero bs = true
all_marked (suc n) [] = false
all_marked (suc n) (b ∷ bs) = b && all_marked n bs
