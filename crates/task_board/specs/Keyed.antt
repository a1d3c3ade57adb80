-- Lists of handles in the order of a number that each has.
use Rattle.std.specs.Prelude.{◌≡◌, ℕ, ◌<◌, true, List, [], ◌∷◌, Option, Some}
use Rattle.linked_places.specs.Lists.{has_handle}

-- each handle of the list has a smaller number than those behind it
abbrev pub RisesByNumber : {A : Type 0} → (A → ℕ) → (ℕ → Option A) → List ℕ → Type 0
RisesByNumber {A} number at [] = Unit {0}
RisesByNumber {A} number at (h ∷ hs) = ((k : ℕ) (s u : A) → has_handle k hs ≡ true → at h ≡ Some s → at k ≡ Some u → number s < number u)
    × RisesByNumber number at hs

-- the list has exactly the handles of which something is seen that passes, in the order of a number of it
pub record ListsBy {A : Type 0} (number : A → ℕ) (Passes : A → Type 0) (at : ℕ → Option A) (hs : List ℕ) : Type 0 where
  pub listed : (h : ℕ) (s : A) → at h ≡ Some s → Passes s → has_handle h hs ≡ true
  pub is_seen : (h : ℕ) → has_handle h hs ≡ true → (s : A) × (at h ≡ Some s) × Passes s
  pub ordered : RisesByNumber number at hs

-- the same where all that is seen is the number
abbrev pub RisesBy : (ℕ → Option ℕ) → List ℕ → Type 0
RisesBy key hs = RisesByNumber (λ n. n) key hs

-- the list has exactly the handles that have a number, in the order of these numbers
pub record AreKeyed (key : ℕ → Option ℕ) (hs : List ℕ) : Type 0 where
  pub listed : (h a : ℕ) → key h ≡ Some a → has_handle h hs ≡ true
  pub has_key : (h : ℕ) → has_handle h hs ≡ true → (a : ℕ) × (key h ≡ Some a)
  pub rises : RisesBy key hs
