-- Places that were never used, behind those that were.
use Rattle.handle_pool.proofs.Names.{nat_tests, ◌≡◌, ℕ, zero, suc, ◌+◌, ◌-◌, ◌<◌, ◌≤◌, List, [], ◌∷◌, ◌++◌, map, length, replicate, set, Some, slice_get, refl, sym, ap, subst, ◌∙◌, arith, length-append, append_assoc, append-nil, set-append_left, slice_get_within, Place, Free, Live, Retired, free_slot, slot_in, used_in, with_value_at, with_value_in, fresh, IsFree, HasValue, value_in}
use Rattle.std.proofs.Math.Seq.{set-append_seam}

pub fresh-length : (T : Type 0) (from n : ℕ) → length (fresh {T = T} from n) ≡ n
unfolding fresh
fresh-length T from zero = refl
fresh-length T from (suc n) = ap suc (fresh-length T (from + 1) n)

module _ {T : Type 0} where
  -- so many, one, and the rest
  pub fresh-split : (from k n rest : ℕ) → k ≡ n + suc rest → fresh {T = T} from k ≡ fresh from n ++ Free 1 (from + n + 1) ∷ fresh (from + n + 1) rest
  unfolding fresh
  fresh-split from zero n rest all = absurd (omega arith)
  fresh-split from (suc k) zero rest all = grind (arith, nat_tests)
  fresh-split from (suc k) (suc n) rest all = grind (arith, nat_tests, fresh-split (from + 1) k n rest (omega arith))

  -- one more at the end
  pub fresh-push : (from k n : ℕ) → k ≡ n + 1 → fresh {T = T} from k ≡ fresh from n ++ Free 1 (from + n + 1) ∷ []
  unfolding fresh
  fresh-push from k n more = fresh-split from k n 0 more

  -- each of them is an empty slot of generation 1
  pub fresh-slots : (from n generations : ℕ) → map (slot_in generations) (fresh {T = T} from n) ≡ replicate n (free_slot 1)
  unfolding fresh
  fresh-slots from zero generations = refl
  fresh-slots from (suc n) generations = ap (λ xs. free_slot 1 ∷ xs) (fresh-slots (from + 1) n generations)

  -- none of them is in use
  pub used_made : (es : List (Place T)) (from n place : ℕ) → used_in (slice_get (es ++ fresh from n) place) ≡ used_in (slice_get es place)
  unfolding fresh
  used_made [] from zero place = refl
  used_made [] from (suc n) zero = refl
  used_made [] from (suc n) (suc place) = used_made [] (from + 1) n place
  used_made (e ∷ es) from n zero = refl
  used_made (e ∷ es) from n (suc place) = used_made es from n place

  -- a place before them is read as it stands
  pub get-made : (es more : List (Place T)) (place : ℕ) → place < length es → slice_get (es ++ more) place ≡ slice_get es place
  get-made [] more place within = absurd (omega arith)
  get-made (e ∷ es) more zero within = refl
  get-made (e ∷ es) more (suc place) within = get-made es more place (omega arith)

  pub length-made : (es : List (Place T)) (from count : ℕ) → from ≡ length es → from ≤ count → length (es ++ fresh from (count - from)) ≡ count
  length-made es from count made within = omega (arith, length-append es (fresh from (count - from)), fresh-length T from (count - from))

  free_within : (es : List (Place T)) (place : ℕ) → IsFree (slice_get es place) → place < length es
  free_within [] place free = absurd free
  free_within (e ∷ es) zero free = omega arith
  free_within (e ∷ es) (suc place) free = omega (arith, free_within es place free)

  -- a free place is below the number of all places
  pub free_below : (es : List (Place T)) (from count place : ℕ) → from ≡ length es → from ≤ count → IsFree (slice_get (es ++ fresh from (count - from)) place)
      → place < count
  free_below es from count place made within free = rw (← length-made es from count made within) (free_within (es ++ fresh from (count - from)) place free)

  -- a place in use was made
  pub value_below : (es : List (Place T)) (from n place : ℕ) → HasValue (slice_get (es ++ fresh from n) place) → place < length es
  unfolding fresh
  value_below [] from zero place value = absurd value
  value_below [] from (suc n) zero value = absurd value
  value_below [] from (suc n) (suc place) value = absurd (omega (arith, value_below [] (from + 1) n place value))
  value_below (e ∷ es) from n zero value = omega arith
  value_below (e ∷ es) from n (suc place) value = omega (arith, value_below es from n place value)

  -- the value of a place that was made
  pub live-made : (es more : List (Place T)) (place : ℕ) (e : Place T) (v : T) → slice_get es place ≡ Some e → value_in e ≡ Some v
      → (generation : ℕ) × (slice_get (es ++ more) place ≡ Some (Live generation v))
  live-made es more place (Free generation next) v found is = absurd (cc)
  live-made es more place (Live generation x) v found is =
      let same : x ≡ v = cc in
      (generation, get-made es more place (slice_get_within es place _ found) ∙ found ∙ ap (λ y. Some (Live generation y)) same)
  live-made es more place Retired v found is = absurd (cc)

  -- and with another value
  pub write-made : (es more : List (Place T)) (place : ℕ) (e : Place T) (w : T) → slice_get es place ≡ Some e
      → set es place (with_value_in e w) ++ more ≡ with_value_at (es ++ more) place w
  write-made es more place e w found =
      let within = slice_get_within es place e found in
      rw (get-made es more place within, found) (sym (set-append_left es more place (with_value_in e w) within))

  -- where none was made, all are as they were
  pub make-none : (es : List (Place T)) (from : ℕ) → es ≡ es ++ fresh from (from - from)
  unfolding fresh
  make-none es from =
      let none : from - from ≡ 0 = omega arith in
      rw none (sym (append-nil es))

  -- so many of them were made, and one more
  pub make-push : (es : List (Place T)) (from at : ℕ) → from ≤ at → (es ++ fresh from (at - from)) ++ Free 1 (at + 1) ∷ [] ≡ es ++ fresh from (at + 1 - from)
  make-push es from at within =
      let last : from + (at - from) + 1 ≡ at + 1 = omega arith in
      append_assoc es (fresh from (at - from)) (Free 1 (at + 1) ∷ [])
      ∙ ap (λ rest. es ++ rest) (sym (subst (λ k. fresh {T = T} from (at + 1 - from)
      ≡ fresh from (at - from) ++ Free 1 k ∷ []) last (fresh-push from (at + 1 - from) (at - from) (omega arith))))

  -- those up to a place, the place, and those behind it
  parted : (es : List (Place T)) (from count place : ℕ) → from ≤ place → place < count
      → es ++ fresh from (count - from) ≡ (es ++ fresh from (place - from)) ++ Free 1 (place + 1) ∷ fresh (place + 1) (count - (place + 1))
  parted es from count place start within =
      let here : from + (place - from) + 1 ≡ place + 1 = omega arith in
      ap (λ rest. es ++ rest) (subst (λ k. fresh {T = T} from (count - from)
      ≡ fresh from (place - from) ++ Free 1 k
      ∷ fresh k (count - (place + 1))) here (fresh-split from (count - from) (place - from) (count - (place + 1)) (omega arith)))
      ∙ sym (append_assoc es (fresh from (place - from)) (Free 1 (place + 1) ∷ fresh (place + 1) (count - (place + 1))))

  get_seam : (es : List (Place T)) (e : Place T) (more : List (Place T)) → slice_get (es ++ e ∷ more) (length es) ≡ Some e
  get_seam [] e more = refl
  get_seam (x ∷ es) e more = get_seam es e more

  until : (es : List (Place T)) (from place : ℕ) → from ≡ length es → from ≤ place → length (es ++ fresh from (place - from)) ≡ place
  until es from place made start = length-made es from place made start

  -- a place that was never used names the next
  pub get-fresh : (es : List (Place T)) (from count place : ℕ) → from ≡ length es → from ≤ place → place < count
      → slice_get (es ++ fresh from (count - from)) place ≡ Some (Free 1 (place + 1))
  get-fresh es from count place made start within =
      ap (λ all. slice_get all place) (parted es from count place start within)
      ∙ subst (λ k. slice_get ((es ++ fresh from (place - from)) ++ Free 1 (place + 1) ∷ fresh (place + 1) (count - (place + 1))) k
      ≡ Some (Free 1 (place + 1))) (until es from place made start)
      (get_seam (es ++ fresh from (place - from)) (Free 1 (place + 1)) (fresh (place + 1) (count - (place + 1))))

  -- it is filled as the last of those that were used
  pub set-fresh : (es : List (Place T)) (from count place : ℕ) (new : Place T) → from ≡ length es → from ≤ place → place < count
      → ((es ++ fresh from (place - from)) ++ new ∷ []) ++ fresh (place + 1) (count - (place + 1)) ≡ set (es ++ fresh from (count - from)) place new
  set-fresh es from count place new made start within =
      let before = es ++ fresh from (place - from) in
      let rest = fresh (place + 1) (count - (place + 1)) in
      append_assoc before (new ∷ []) rest
      ∙ sym (ap (λ all. set all place new) (parted es from count place start within)
      ∙ subst (λ k. set (before ++ Free 1 (place + 1) ∷ rest) k new
      ≡ before ++ new ∷ rest) (until es from place made start) (set-append_seam before (Free 1 (place + 1)) rest new))
