-- Sets of numbers as words of 64 bits, and sets of them by priority.
use Rattle.std.specs.Prelude.{ℕ, ◌/◌, ◌%◌, Bool, ◌==◌, List, [], slice_index_or}
use Rattle.std.specs.Int.{bit_at}

-- the set has the number
abbrev pub has_bit : List ℕ → ℕ → Bool
has_bit words bit = bit_at (slice_index_or words (bit / 64) 0) (bit % 64) == 1

-- no number of this word is in the set
abbrev pub is_empty_word : List ℕ → ℕ → Bool
is_empty_word words word = slice_index_or words word 0 == 0

-- the set of this priority
abbrev pub set_of : List (List ℕ) → ℕ → List ℕ
set_of sets priority = slice_index_or sets priority []

-- the slot is in the set of this priority
abbrev pub has_slot : List (List ℕ) → ℕ → ℕ → Bool
has_slot sets priority slot = has_bit (set_of sets priority) slot
