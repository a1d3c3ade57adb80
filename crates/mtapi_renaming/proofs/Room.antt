-- How many slots of a list are taken, by live objects and by those of the last generation that aren't: never more than there may be.
use Rattle.mtapi_renaming.proofs.Names.{◌≡◌, ℕ, ◌+◌, ◌≤◌, false, List, [], ◌∷◌, length, subst, arith, not, is_some, nat_tests, Listed, how_many, live_of, live_object, issue, retired, is_full, length-issue, retired-issue, lasts_in}
use Rattle.mtapi_renaming.proofs.Handles.{SameHandles}
use Rattle.mtapi_renaming.proofs.Lasts.{OnceEach, retired-gone}

module _ {T : Type 0} where
  -- how many slots are taken
  abbrev pub taken : ℕ → List (Listed T) → ℕ
  taken last l = length (live_of l) + retired last l

  -- no more than there may be
  abbrev pub IsWithin : ℕ → ℕ → List (Listed T) → Type 0
  IsWithin last max l = taken last l ≤ max

  -- where each object keeps its handle and none is live again, no slot more is taken
  pub taken-same : (last : ℕ) (l m : List (Listed T)) → SameHandles l m → taken last m ≤ taken last l
  unfolding live_of retired
  taken-same last [] [] v = omega arith
  taken-same last (r ∷ rs) (q ∷ qs) v = grind (arith, v.0.handle, v.0.dead, taken-same last rs qs v.1)
  taken-same last l m v = absurd v

  pub within-same : (last max : ℕ) (l m : List (Listed T)) → SameHandles l m → IsWithin last max l → IsWithin last max m
  within-same last max l m v w = omega (arith, taken-same last l m v, w)

  room_left : (last max : ℕ) (l : List (Listed T)) → is_full last max l ≡ false → IsWithin last max l → taken last l + 1 ≤ max
  unfolding is_full
  room_left last max l e w = grind (arith, nat_tests)

  -- an object is made only where a slot is left
  pub within-issue : (last max h : ℕ) (v : T) (l : List (Listed T)) → is_full last max l ≡ false → IsWithin last max l → IsWithin last max (issue h v l)
  within-issue last max h v l e w = omega (arith, room_left last max l e w, length-issue h v l, retired-issue last h v l)

  -- so by the handles of the last generation
  pub within-told : (last max : ℕ) (l : List (Listed T)) → OnceEach l → IsWithin last max l
      → length (live_of l) + how_many (λ h. not (is_some (live_object l h))) (lasts_in last l) ≤ max
  within-told last max l v w = subst (λ (n : ℕ). length (live_of l) + n ≤ max) (retired-gone last l v) w

pub none_within : (T : Type 0) (last max : ℕ) → IsWithin {T = T} last max []
unfolding live_of retired
none_within T last max = omega arith
