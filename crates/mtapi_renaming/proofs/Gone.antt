-- The taken slots of a list and those that were the last of theirs: as many as were made at most, and none becomes live again.
use Rattle.mtapi_renaming.proofs.Names.{◌≡◌, ℕ, ◌+◌, ◌≤◌, true, false, cond, List, [], ◌∷◌, length, arith, ◌==◌, is_some, generation_of, Listed, live_of, live_object, issue, retired, retired-issue, lasts_in, nat_tests}
use Rattle.handle_pool.proofs.ListedLemmas.{length-issue as lives-issue}
use Rattle.mtapi_renaming.proofs.Handles.{SameHandles, length-same}
use Rattle.mtapi_renaming.proofs.Counts.{length-issue}
use Rattle.mtapi_renaming.proofs.Room.{taken, taken-same}

-- these numbers made, live and gone are followed by those, with so many more gone at least, of the last generation and of the others
pub record Goes (lasts others made alive gone made_then alive_then gone_then : ℕ) : Type 0 where
  pub last : gone + lasts ≤ gone_then
  pub other : made + (alive_then + gone_then) + others ≤ made_then + (alive + gone)

module _ {lasts others made alive gone made_then alive_then gone_then made_last alive_last gone_last : ℕ} where
  -- what was gone first stays gone
  pub goes_first : Goes lasts others made alive gone made_then alive_then gone_then → Goes 0 0 made_then alive_then gone_then made_last alive_last gone_last
      → Goes lasts others made alive gone made_last alive_last gone_last
  goes_first v w = record { last = omega (arith, v.last, w.last); other = omega (arith, v.other, w.other) }

  pub goes_then : Goes 0 0 made alive gone made_then alive_then gone_then → Goes lasts others made_then alive_then gone_then made_last alive_last gone_last
      → Goes lasts others made alive gone made_last alive_last gone_last
  goes_then v w = record { last = omega (arith, v.last, w.last); other = omega (arith, v.other, w.other) }

module _ {T : Type 0} where
  -- from one list to another
  abbrev pub ListGoes : ℕ → ℕ → ℕ → ℕ → List (Listed T) → List (Listed T) → Type 0
  ListGoes lasts others u v l m = Goes lasts others (length l) (length (live_of l)) (retired u l) (length m) (length (live_of m)) (retired v m)

  pub taken-made : (last : ℕ) (l : List (Listed T)) → taken last l ≤ length l
  unfolding live_of retired
  taken-made last [] = omega arith
  taken-made last (r ∷ rs) = grind (arith, taken-made last rs)

  pub lasts-taken : (last : ℕ) (l : List (Listed T)) → length (lasts_in last l) ≤ taken last l
  unfolding live_of retired lasts_in
  lasts-taken last [] = omega arith
  lasts-taken last (r ∷ rs) = grind (arith, lasts-taken last rs)

  retired-same : (last : ℕ) (l m : List (Listed T)) → SameHandles l m → retired last l ≤ retired last m
  unfolding retired
  retired-same last [] [] v = omega arith
  retired-same last (r ∷ rs) (q ∷ qs) v = grind (arith, v.0.handle, v.0.dead, retired-same last rs qs v.1)
  retired-same last l m v = absurd v

  pub goes-same : (last : ℕ) (l m : List (Listed T)) → SameHandles l m → ListGoes 0 0 last last l m
  goes-same last l m v = record { last = omega (arith, retired-same last l m v); other = omega (arith, taken-same last l m v, length-same l m v) }

  pub goes-issue : (last h : ℕ) (v : T) (l : List (Listed T)) → ListGoes 0 0 last last l (issue h v l)
  goes-issue last h v l = record {
    last = omega (arith, retired-issue last h v l);
    other = omega (arith, retired-issue last h v l, lives-issue h v l, length-issue h v l);
  }

  -- where a live object of this handle isn't live any more, one more is gone
  abbrev Ends : ℕ → ℕ → List (Listed T) → List (Listed T) → Type 0
  Ends last h l m = Goes (cond (generation_of h == last) 1 0) (cond (generation_of h == last) 0 1) (length l) (length (live_of l)) (retired last l) (length m)
      (length (live_of m)) (retired last m)

  ends-same : (last h : ℕ) (l m : List (Listed T)) → SameHandles l m → is_some (live_object l h) ≡ true → is_some (live_object m h) ≡ false →
      (retired last l + cond (generation_of h == last) 1 0 ≤ retired last m) × (taken last m + cond (generation_of h == last) 0 1 ≤ taken last l)
  unfolding live_of retired
  ends-same last h [] [] v e d = absurd (cc)
  ends-same last h [] (q ∷ qs) v e d = absurd v
  ends-same last h (r ∷ rs) [] v e d = absurd v
  ends-same last h (r ∷ rs) (q ∷ qs) v e d =
      grind (arith, nat_tests, v.0.handle, v.0.dead, retired-same last rs qs v.1, taken-same last rs qs v.1, ends-same last h rs qs v.1)

  pub goes-ends : (last h : ℕ) (l m : List (Listed T)) → SameHandles l m → is_some (live_object l h) ≡ true → is_some (live_object m h) ≡ false
      → Ends last h l m
  goes-ends last h l m v e d = let w = ends-same last h l m v e d in record { last = w.0; other = omega (arith, w.1, length-same l m v) }

  -- a live object stays so where another one is made
  pub live-issue : (h j : ℕ) (v : T) (l : List (Listed T)) → is_some (live_object l j) ≡ true → is_some (live_object (issue h v l) j) ≡ true
  unfolding live_of issue
  live-issue h j v [] e = absurd (cc)
  live-issue h j v (r ∷ rs) e = grind (arith, live-issue h j v rs)
