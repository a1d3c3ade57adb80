-- How many objects a list has, and which handle is the next of its slot.
use Rattle.mtapi_renaming.proofs.Names.{◌≡◌, ℕ, ◌+◌, ◌≤◌, ◌<◌, Bool, true, ◌&&◌, List, [], ◌∷◌, length, refl, ap, arith, ◌==◌, nat_le, not, nat_tests, slot_of, generation_of, Listed, how_many, live_of, issue, listed, issued_at, retired, is_full, may_issue, same_tests, listed-issue, issued_at-issue}
use Rattle.mtapi_renaming.proofs.Handles.{SameHandles, listed-same, issued_at-same}

module _ {T : Type 0} where
  pub length-issue : (h : ℕ) (v : T) (l : List (Listed T)) → length (issue h v l) ≡ length l + 1
  unfolding issue
  length-issue h v [] = refl
  length-issue h v (r ∷ rs) = omega (arith, length-issue h v rs)

  -- no handle of the list is of a later generation than there were objects in its slot
  abbrev pub InTurn : List (Listed T) → Type 0
  InTurn l = (h : ℕ) → 1 ≤ listed h l → generation_of h ≤ issued_at h l

  pub turn-same : (l m : List (Listed T)) → SameHandles l m → InTurn l → InTurn m
  turn-same l m v t h some = grind (arith, listed-same h l m v, issued_at-same h l m v, t h)

  next-generation : (last h : ℕ) (l : List (Listed T)) → may_issue last h l ≡ true → generation_of h ≡ issued_at h l + 1
  unfolding may_issue
  next-generation last h l e = grind (arith, nat_tests)

  pub turn-issue : (last h : ℕ) (v : T) (l : List (Listed T)) → may_issue last h l ≡ true → InTurn l → InTurn (issue h v l)
  turn-issue last h v l may t j some = grind (arith, nat_tests, next-generation last h l may, issued_at-issue j h v l, listed-issue j h v l, t j)

  -- a handle may be issued exactly where it is the next of its slot
  pub fresh-next : (last h : ℕ) (l : List (Listed T)) → InTurn l
      → may_issue last h l ≡ (nat_le (generation_of h) last && (generation_of h == issued_at h l + 1))
  unfolding may_issue
  fresh-next last h l t = same_tests _ _ (λ e. grind (arith, nat_tests)) (λ e. grind (arith, nat_tests, t h))

  few : (p : Listed T → Bool) (l : List (Listed T)) → how_many p l ≤ length l
  few p [] = omega arith
  few p (r ∷ rs) = grind (arith, few p rs)

  -- each handle of a list is listed there
  none_last : (last : ℕ) (full l : List (Listed T)) → ((h : ℕ) → listed h l ≤ listed h full) → InTurn full → length full < last
      → how_many (λ r. not r.live && (generation_of r.handle == last)) l ≡ 0
  unfolding listed issued_at
  none_last last full [] within t less = refl
  none_last last full (r ∷ rs) within t less =
      grind (
        arith,
        nat_tests,
        within r.handle,
        t r.handle,
        few (λ q. slot_of q.handle == slot_of r.handle) full,
        none_last last full rs
            (λ h. grind (arith, within h)) t less,
      )

  pub full-live : (last max : ℕ) (l : List (Listed T)) → InTurn l → length l < last → is_full last max l ≡ (length (live_of l) == max)
  unfolding is_full retired
  full-live last max l t less = ap (λ (m : ℕ). m == max) (grind (arith, none_last last l l (λ h. omega arith) t less))
