-- The handles of the last generation of a list: how many of them are gone, what adds to them and what leaves them.
use Rattle.mtapi_renaming.proofs.Names.{◌≡◌, ℕ, ◌+◌, ◌≤◌, Bool, true, false, cond, List, [], ◌∷◌, length, Option, None, refl, sym, ap, arith, ◌==◌, not, is_some, nat_tests, generation_of, Listed, how_many, live_of, live_object, issue, listed, retired, is_full, may_issue, listed-issue, lasts_in, with_last_handle}
use Rattle.mtapi_renaming.proofs.Handles.{SameHandles, listed-same}

module _ {T : Type 0} where
  pub lasts-same : (last : ℕ) (l m : List (Listed T)) → SameHandles l m → lasts_in last m ≡ lasts_in last l
  unfolding lasts_in
  lasts-same last [] [] v = refl
  lasts-same last (r ∷ rs) (q ∷ qs) v = λ i. cond (generation_of (v.0.handle i) == last) (v.0.handle i
      ∷ lasts-same last rs qs v.1 i) (lasts-same last rs qs v.1 i)
  lasts-same last l m v = absurd v

  pub lasts-issue : (last h : ℕ) (v : T) (l : List (Listed T)) → lasts_in last (issue h v l) ≡ with_last_handle last h (lasts_in last l)
  unfolding lasts_in issue
  lasts-issue last h v [] = refl
  lasts-issue last h v (r ∷ rs) = grind (arith, lasts-issue last h v rs)

  -- no handle stands twice in the list
  abbrev pub OnceEach : List (Listed T) → Type 0
  OnceEach l = (h : ℕ) → listed h l ≤ 1

  pub once-same : (l m : List (Listed T)) → SameHandles l m → OnceEach l → OnceEach m
  once-same l m v w h = grind (arith, listed-same h l m v, w h)

  unlisted : (last h : ℕ) (l : List (Listed T)) → may_issue last h l ≡ true → listed h l ≡ 0
  unfolding may_issue
  unlisted last h l e = grind (arith, nat_tests)

  pub once-issue : (last h : ℕ) (v : T) (l : List (Listed T)) → may_issue last h l ≡ true → OnceEach l → OnceEach (issue h v l)
  once-issue last h v l may w j = grind (arith, nat_tests, w j, listed-issue j h v l, unlisted last h l may)

  once-rest : (r : Listed T) (rs : List (Listed T)) → OnceEach (r ∷ rs) → OnceEach rs
  unfolding listed
  once-rest r rs w h = grind (arith, w h)

  none_behind : (r : Listed T) (rs : List (Listed T)) → OnceEach (r ∷ rs) → listed r.handle rs ≡ 0
  unfolding listed
  none_behind r rs w = grind (arith, nat_tests, w r.handle)

  -- a handle that isn't listed names no live object
  unlisted_gone : (h : ℕ) (l : List (Listed T)) → listed h l ≡ 0 → live_object l h ≡ None
  unfolding listed live_of
  unlisted_gone h [] e = refl
  unlisted_gone h (r ∷ rs) e = grind (arith, unlisted_gone h rs)

  -- where no handle stands twice, an object is live exactly where its handle names a live one
  live_named : (r : Listed T) (rs : List (Listed T)) → listed r.handle rs ≡ 0 → is_some (live_object (r ∷ rs) r.handle) ≡ r.live
  unfolding live_of
  live_named r rs none = grind (arith, nat_tests, unlisted_gone r.handle rs none)

  -- what another handle names doesn't depend on the first object
  other_named : (r : Listed T) (rs : List (Listed T)) (h : ℕ) → (r.handle == h) ≡ false → live_object (r ∷ rs) h ≡ live_object rs h
  unfolding live_of
  other_named r rs h e = grind arith

  -- tests that agree but at a handle that isn't listed count as many
  counted_same : (last a : ℕ) (p q : ℕ → Bool) → ((h : ℕ) → (a == h) ≡ false → p h ≡ q h) → (l : List (Listed T)) → listed a l ≡ 0
      → how_many p (lasts_in last l) ≡ how_many q (lasts_in last l)
  unfolding listed lasts_in
  counted_same last a p q same [] none = refl
  counted_same last a p q same (r ∷ rs) none = grind (arith, nat_tests, same r.handle, counted_same last a p q same rs)

  -- so as many have retired as there are handles of the last generation that name no live object
  pub retired-gone : (last : ℕ) (l : List (Listed T)) → OnceEach l → retired last l ≡ how_many (λ h. not (is_some (live_object l h))) (lasts_in last l)
  unfolding retired lasts_in
  retired-gone last [] w = refl
  retired-gone last (r ∷ rs) w = grind (
    arith,
    live_named r rs (none_behind r rs w),
    retired-gone last rs (once-rest r rs w),
    counted_same last r.handle
        (λ h. not (is_some (live_object rs h))) (λ h. not (is_some (live_object (r ∷ rs) h)))
        (λ h e. ap (λ (o : Option T). not (is_some o)) (sym (other_named r rs h e))) rs (none_behind r rs w),
  )

  pub full-told : (last max : ℕ) (l : List (Listed T)) → OnceEach l
      → is_full last max l ≡ (length (live_of l) + how_many (λ h. not (is_some (live_object l h))) (lasts_in last l) == max)
  unfolding is_full
  full-told last max l w = ap (λ (n : ℕ). length (live_of l) + n == max) (retired-gone last l w)
