-- Where the journal begins in an input that has something else before it.
use Rattle.std.specs.Prelude.{◌≡◌, ◌⊎◌, ℕ, ◌-◌, ◌<◌, List, [], ◌++◌, ◌==◌, ◌&&◌, ◌||◌, length, drop, slice_index, codes, Bool, true, false}
use Rattle.std.specs.List.{starts_with}

-- a line begins behind the first n bytes: it is the first one, or stands behind a line feed
abbrev pub begins_line : List ℕ → ℕ → Bool
begins_line bytes n = (n == 0) || (slice_index bytes (n - 1) == 10)

-- a line begins there, and it begins as the first line of a journal does
abbrev pub begins_journal : List ℕ → ℕ → Bool
begins_journal bytes n = begins_line bytes n && starts_with (λ a b. a == b) (drop n bytes) (codes "mtapi-journal ")

-- The input is a first part and a rest. The rest begins with the first line that begins as a journal does, and is empty where there is
-- none.
pub record IsSplit (bytes front rest : List ℕ) : Type 0 where
  pub whole : bytes ≡ front ++ rest
  pub begins : (rest ≡ []) ⊎ (begins_journal bytes (length front) ≡ true)
  pub first : (n : ℕ) → n < length front → begins_journal bytes n ≡ false

-- P holds of the first part and the rest of the input.
pub record OfParts (bytes : List ℕ) (P : List ℕ → List ℕ → Type 0) : Type 0 where
  pub front : List ℕ
  pub rest : List ℕ
  pub split : IsSplit bytes front rest
  pub holds : P front rest
