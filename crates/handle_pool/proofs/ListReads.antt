-- What `slice_get` reads after a write or a push.
use Rattle.std.proofs.Common.{◌≡◌, ◌≢◌, ℕ, zero, suc, List, [], ◌∷◌, ◌++◌, length, set, Some, slice_get, refl, ap, sym}

module _ {X : Type 0} where
  pub slice_get-set_same : (xs : List X) (i : ℕ) (y x : X) → slice_get xs i ≡ Some x → slice_get (set xs i y) i ≡ Some y
  slice_get-set_same [] i y x found = absurd (cc)
  slice_get-set_same (z ∷ xs) zero y x found = refl
  slice_get-set_same (z ∷ xs) (suc i) y x found = slice_get-set_same xs i y x found

  pub slice_get-set_other : (xs : List X) (i j : ℕ) (y : X) → j ≢ i → slice_get (set xs i y) j ≡ slice_get xs j
  slice_get-set_other [] i j y other = refl
  slice_get-set_other (z ∷ xs) zero zero y other = absurd (other refl)
  slice_get-set_other (z ∷ xs) zero (suc j) y other = refl
  slice_get-set_other (z ∷ xs) (suc i) zero y other = refl
  slice_get-set_other (z ∷ xs) (suc i) (suc j) y other = slice_get-set_other xs i j y (λ same. other (ap suc same))

  pub slice_get-push_old : (xs : List X) (y x : X) (i : ℕ) → slice_get xs i ≡ Some x → slice_get (xs ++ y ∷ []) i ≡ Some x
  slice_get-push_old [] y x i found = absurd (cc)
  slice_get-push_old (z ∷ xs) y x zero found = found
  slice_get-push_old (z ∷ xs) y x (suc i) found = slice_get-push_old xs y x i found

  pub slice_get-push_last : (xs : List X) (y : X) → slice_get (xs ++ y ∷ []) (length xs) ≡ Some y
  slice_get-push_last [] y = refl
  slice_get-push_last (z ∷ xs) y = slice_get-push_last xs y

  -- what is read after a push was there, or is the new one
  pub slice_get-push_cases : (xs : List X) (y x : X) (i : ℕ) {P : Type 0} → slice_get (xs ++ y ∷ []) i ≡ Some x → (slice_get xs i ≡ Some x → P) → (y ≡ x → P)
      → P
  slice_get-push_cases [] y x zero found old new = new (cc)
  slice_get-push_cases [] y x (suc i) found old new = absurd (cc)
  slice_get-push_cases (z ∷ xs) y x zero found old new = old found
  slice_get-push_cases (z ∷ xs) y x (suc i) found old new = slice_get-push_cases xs y x i found old new

  -- what is read after a write is the new one, or was there
  pub slice_get-set_cases : (xs : List X) (i j : ℕ) (y x : X) {P : Type 0} → slice_get (set xs i y) j ≡ Some x → (slice_get xs j ≡ Some x → P) → (y ≡ x → P) → P
  slice_get-set_cases [] i j y x found old new = old found
  slice_get-set_cases (z ∷ xs) zero zero y x found old new = new (cc)
  slice_get-set_cases (z ∷ xs) zero (suc j) y x found old new = old found
  slice_get-set_cases (z ∷ xs) (suc i) zero y x found old new = old found
  slice_get-set_cases (z ∷ xs) (suc i) (suc j) y x found old new = slice_get-set_cases xs i j y x found old new

  -- what was there, written again, changes nothing
  pub set-same : (xs : List X) (i : ℕ) (x : X) → slice_get xs i ≡ Some x → set xs i x ≡ xs
  set-same [] i x found = refl
  set-same (y ∷ xs) zero x found = let is : y ≡ x = cc in ap (λ z. z ∷ xs) (sym is)
  set-same (y ∷ xs) (suc i) x found = ap (λ zs. y ∷ zs) (set-same xs i x found)

  -- the second write at a place is the one that stays
  pub set-set : (xs : List X) (i : ℕ) (x y : X) → set (set xs i x) i y ≡ set xs i y
  set-set [] i x y = refl
  set-set (z ∷ xs) zero x y = refl
  set-set (z ∷ xs) (suc i) x y = ap (λ rest. z ∷ rest) (set-set xs i x y)
