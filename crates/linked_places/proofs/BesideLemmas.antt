-- What each move of the slots, and of the lists beside them, is for the two together.
use Rattle.linked_places.proofs.Names.{nat_tests, ◌≡◌, ◌↔◌, ℕ, zero, suc, ◌+◌, ◌*◌, ◌^◌, ◌<◌, ◌≤◌, Bool, true, false, List, [], ◌∷◌, length, replicate, Option, Some, None, count_by, fold, cond, set, slice_get, refl, sym, ap, subst, ◌∙◌, arith, length-set, option_map, length-replicate, get_or_past, slice_get_within, Slot, Slots, slot_of, generation_of, free_slot, used_slot, slot_after, slot_value, is_live, is_retired, used_at, IsFull, Inserts, with_value, without, slice_get-set_other, slice_get-set_cases, set-set, list_at, stands_at, NowhereAt}
use Rattle.handle_pool.proofs.StandsLemmas.{used_at_live}
use Rattle.handle_pool.proofs.WalkLemmas.{live-used_at, slot_of-live}
use Rattle.linked_places.specs.Beside.{slot_beside, beside, pool_beside, AreBeside}
use Rattle.linked_places.proofs.HandleLemmas.{list_at-set_same, list_at-set_other}

-- what is not read is past the end
past_end : {X : Type 0} (xs : List X) (n : ℕ) → slice_get xs n ≡ None → length xs ≤ n
past_end [] n past = omega arith
past_end (x ∷ xs) zero past = absurd (cc)
past_end (x ∷ xs) (suc n) past = omega (arith, past_end xs n past)

module _ {A C : Type 0} (f : A → List ℕ → C) where
  pub length-beside : (slots : List (Slot A)) (lists : List (List ℕ)) → length (beside f slots lists) ≡ length slots
  length-beside [] lists = refl
  length-beside (s ∷ ss) [] = ap suc (length-beside ss [])
  length-beside (s ∷ ss) (l ∷ ls) = ap suc (length-beside ss ls)

  pub slice_get-beside : (slots : List (Slot A)) (lists : List (List ℕ)) (place : ℕ)
      → slice_get (beside f slots lists) place ≡ option_map (λ s. slot_beside f s (list_at lists place)) (slice_get slots place)
  slice_get-beside [] lists place = refl
  slice_get-beside (s ∷ ss) [] zero = refl
  slice_get-beside (s ∷ ss) [] (suc place) = slice_get-beside ss [] place
  slice_get-beside (s ∷ ss) (l ∷ ls) zero = refl
  slice_get-beside (s ∷ ss) (l ∷ ls) (suc place) = slice_get-beside ss ls place

  -- another slot beside the same list
  pub beside-slot : (slots : List (Slot A)) (lists : List (List ℕ)) (place : ℕ) (s : Slot A)
      → beside f (set slots place s) lists ≡ set (beside f slots lists) place (slot_beside f s (list_at lists place))
  beside-slot [] lists place s = refl
  beside-slot (t ∷ ss) [] zero s = refl
  beside-slot (t ∷ ss) [] (suc place) s = ap (λ (xs : List (Slot C)). slot_beside f t [] ∷ xs) (beside-slot ss [] place s)
  beside-slot (t ∷ ss) (l ∷ ls) zero s = refl
  beside-slot (t ∷ ss) (l ∷ ls) (suc place) s = ap (λ (xs : List (Slot C)). slot_beside f t l ∷ xs) (beside-slot ss ls place s)

  -- another list beside the same slot
  pub beside-list_at : (slots : List (Slot A)) (lists : List (List ℕ)) (place : ℕ) (s : Slot A) (list : List ℕ) → slice_get slots place ≡ Some s
      → place < length lists → beside f slots (set lists place list) ≡ set (beside f slots lists) place (slot_beside f s list)
  beside-list_at [] lists place s list found within = absurd (cc)
  beside-list_at (t ∷ ss) [] place s list found within = absurd (omega arith)
  beside-list_at (t ∷ ss) (l ∷ ls) zero s list found within = grind (arith, nat_tests)
  beside-list_at (t ∷ ss) (l ∷ ls) (suc place) s list found within = grind (arith, nat_tests, beside-list_at ss ls place s list found)

  -- a count of slots, and the same of those with lists beside them
  fold-beside : (t : Slot C → Bool) (u : Slot A → Bool) → ((s : Slot A) (list : List ℕ) → t (slot_beside f s list) ≡ u s)
      → (slots : List (Slot A)) (lists : List (List ℕ)) (n : ℕ)
      → fold (λ a x. a + cond (t x) 1 0) n (beside f slots lists) ≡ fold (λ a x. a + cond (u x) 1 0) n slots
  fold-beside t u same [] lists n = refl
  fold-beside t u same (s ∷ ss) [] n = grind (arith, nat_tests, beside f ss [], fold-beside t u same ss [] (n + cond (u s) 1 0))
  fold-beside t u same (s ∷ ss) (l ∷ ls) n = grind (arith, nat_tests, beside f ss ls, fold-beside t u same ss ls (n + cond (u s) 1 0))

  is_live-beside : (s : Slot A) (list : List ℕ) → is_live (slot_beside f s list) ≡ is_live s
  is_live-beside s list = grind (arith, nat_tests)

  -- new slots beside new lists are new slots
  pub beside-fresh : (count : ℕ) → beside f (replicate count (free_slot 1)) (replicate count []) ≡ replicate count (free_slot 1)
  beside-fresh zero = refl
  beside-fresh (suc count) = ap (λ (xs : List (Slot C)). free_slot 1 ∷ xs) (beside-fresh count)

  pub live_count-beside : (slots : List (Slot A)) (lists : List (List ℕ)) → count_by is_live (beside f slots lists) ≡ count_by is_live slots
  live_count-beside slots lists = fold-beside is_live is_live is_live-beside slots lists 0

  retired_count-beside : (slots : List (Slot A)) (lists : List (List ℕ)) → count_by is_retired (beside f slots lists) ≡ count_by is_retired slots
  retired_count-beside slots lists = fold-beside is_retired is_retired (λ s list. refl) slots lists 0

  pub IsFull-beside : (p : Slots A) (lists : List (List ℕ)) → IsFull (pool_beside f p lists) ↔ IsFull p
  IsFull-beside p lists =
      let live = live_count-beside p.slots lists in
      let retired = retired_count-beside p.slots lists in
      let size = length-beside p.slots lists in
      ((λ full. omega (arith, full, live, retired, size)), (λ full. omega (arith, full, live, retired, size)))

  -- the value of a live handle, with its list
  pub get-beside : (p : Slots A) (lists : List (List ℕ)) (h : ℕ)
      → slot_value (pool_beside f p lists) h ≡ option_map (λ v. f v (list_at lists (slot_of h))) (slot_value p h)
  get-beside p lists h = rw (slice_get-beside p.slots lists (slot_of h)) (grind (arith, nat_tests))

  -- a new value in a slot that was free
  pub Inserts-beside : (p new : Slots A) (lists : List (List ℕ)) (h : ℕ) (v : A) → AreBeside p.slots lists → Inserts p new h v
      → Inserts (pool_beside f p lists) (pool_beside f new lists) h (f v [])
  Inserts-beside p new lists h v are inserts =
      let none : list_at lists (slot_of h) ≡ [] = are.empty (slot_of h) (free_slot (generation_of h)) inserts.was_free refl in
      let P : Slots A → Type 0 = λ q. pool_beside f q lists ≡ with_value (pool_beside f p lists) h (f v []) in
      record {
        was_free = slice_get-beside p.slots lists (slot_of h) ∙ (rw inserts.was_free refl);
        now = subst P (sym inserts.now) (ap (λ (slots : List (Slot C)). record { generations = p.generations; slots = slots })
            (beside-slot p.slots lists (slot_of h) (used_slot (generation_of h) v) ∙ (rw none refl)));
      }

  -- another value in a slot in use
  pub with_value-beside : (p : Slots A) (lists : List (List ℕ)) (h : ℕ) (v : A)
      → pool_beside f (with_value p h v) lists ≡ with_value (pool_beside f p lists) h (f v (list_at lists (slot_of h)))
  with_value-beside p lists h v = ap (λ (slots : List (Slot C)). record { generations = p.generations; slots = slots })
      (beside-slot p.slots lists (slot_of h) (used_slot (generation_of h) v))

  -- another list beside a slot in use
  pub list-beside : (p : Slots A) (lists : List (List ℕ)) (h : ℕ) (v : A) (list : List ℕ) → AreBeside p.slots lists → slot_value p h ≡ Some v
      → pool_beside f p (set lists (slot_of h) list) ≡ with_value (pool_beside f p lists) h (f v list)
  list-beside p lists h v list are live =
      let at = used_at_live (slice_get p.slots (slot_of h)) (generation_of h) v live in
      let within : slot_of h < length lists = rw are.size (slot_of-live p h v live) in
      let used : slot_beside f at.0 list ≡ used_slot (generation_of h) (f v list) = used_beside at.0 at.2 at.3 (are.retired (slot_of h) at.0 at.1) in
      ap (λ (slots : List (Slot C)). record { generations = p.generations; slots = slots }) (beside-list_at p.slots lists (slot_of h) at.0 list at.1 within
      ∙ rw used refl)
    where
      used_beside : (s : Slot A) → s.generation ≡ generation_of h → s.value ≡ Some v → (s.retired ≡ true → s.value ≡ None)
          → slot_beside f s list ≡ used_slot (generation_of h) (f v list)
      used_beside s turn value empty = grind (arith, nat_tests)

  -- a slot that is given up, with its list
  pub without-beside : (p : Slots A) (lists : List (List ℕ)) (h : ℕ) (v : A) → AreBeside p.slots lists → slot_value p h ≡ Some v
      → pool_beside f (without p h) (set lists (slot_of h) []) ≡ without (pool_beside f p lists) h
  without-beside p lists h v are live =
      let within : slot_of h < length lists = rw are.size (slot_of-live p h v live) in
      let at = used_at_live (slice_get p.slots (slot_of h)) (generation_of h) v live in
      let after = slot_after p.generations (generation_of h) in
      ap (λ (slots : List (Slot C)). record { generations = p.generations; slots = slots })
      (beside-slot p.slots (set lists (slot_of h) []) (slot_of h) after
      ∙ (rw (list_at-set_same lists (slot_of h) [] within, beside-list_at p.slots lists (slot_of h) at.0 [] at.1 within, gone (p.generations) (generation_of h))
      (set-set (beside f p.slots lists) (slot_of h) (slot_beside f at.0 []) (slot_after p.generations (generation_of h)))))
    where
      gone : (generations generation : ℕ) → slot_beside f (slot_after generations generation) [] ≡ slot_after generations generation
      gone generations generation = grind (arith, nat_tests)

pub list_at-none : (count place : ℕ) → list_at (replicate count []) place ≡ []
list_at-none zero place = refl
list_at-none (suc count) zero = refl
list_at-none (suc count) (suc place) = list_at-none count place

module _ {A : Type 0} where
  free-read : (count place : ℕ) (slot : Slot A) → slice_get (replicate count (free_slot 1)) place ≡ Some slot → slot ≡ free_slot 1
  free-read zero place slot found = absurd (cc)
  free-read (suc count) zero slot found = cc
  free-read (suc count) (suc place) slot found = free-read count place slot found

  pub AreBeside-new : (slots : List (Slot A)) (lists : List (List ℕ)) (count : ℕ) → count ≤ 65536 → slots ≡ replicate count (free_slot 1)
      → lists ≡ replicate count [] → AreBeside slots lists
  AreBeside-new slots lists count few slots_are lists_are = rw (slots_are, lists_are) record {
    size = length-replicate count [] ∙ sym (length-replicate count (free_slot {T = A} 1));
    few = omega (arith, few, length-replicate count (free_slot {T = A} 1));
    empty = λ place slot found none. list_at-none count place;
    retired = λ place slot found gone. let P : Slot A → Type 0 = λ s. s.value ≡ None in subst P (sym (free-read count place slot found)) refl;
  }

  pub AreBeside-value : (p : Slots A) (lists : List (List ℕ)) (h : ℕ) (v : A) → AreBeside p.slots lists → AreBeside (with_value p h v).slots lists
  AreBeside-value p lists h v are = record {
    size = are.size ∙ sym (length-set p.slots (slot_of h) (used_slot (generation_of h) v));
    few = rw (length-set p.slots (slot_of h) (used_slot (generation_of h) v)) are.few;
    empty = λ place slot found none. slice_get-set_cases p.slots (slot_of h) place (used_slot (generation_of h) v) slot found
        (λ old. are.empty place slot old none) (λ is. absurd (cc));
    retired = λ place slot found gone. slice_get-set_cases p.slots (slot_of h) place (used_slot (generation_of h) v) slot found
        (λ old. are.retired place slot old gone) (λ is. absurd (cc));
  }

  pub AreBeside-insert : (p new : Slots A) (lists : List (List ℕ)) (h : ℕ) (v : A) → Inserts p new h v → AreBeside p.slots lists → AreBeside new.slots lists
  AreBeside-insert p new lists h v inserts are = rw inserts.now (AreBeside-value p lists h v are)

  pub AreBeside-list : (p : Slots A) (lists : List (List ℕ)) (h : ℕ) (v : A) (list : List ℕ) → slot_value p h ≡ Some v → AreBeside p.slots lists
      → AreBeside p.slots (set lists (slot_of h) list)
  AreBeside-list p lists h v list live are =
      let at = used_at_live (slice_get p.slots (slot_of h)) (generation_of h) v live in
      record {
        size = length-set lists (slot_of h) list ∙ are.size;
        few = are.few;
        empty = λ place slot found none.
            let was = are.empty place slot found none in
            grind (arith, nat_tests, at.1, at.3, list_at-set_other lists (slot_of h) place list);
        retired = are.retired;
      }

  pub AreBeside-remove : (p : Slots A) (lists : List (List ℕ)) (h : ℕ) (v : A) → slot_value p h ≡ Some v → AreBeside p.slots lists
      → AreBeside (without p h).slots (set lists (slot_of h) [])
  AreBeside-remove p lists h v live are =
      let within : slot_of h < length lists = rw are.size (slot_of-live p h v live) in
      record {
        size = length-set lists (slot_of h) [] ∙ (are.size ∙ sym (length-set p.slots (slot_of h) (slot_after p.generations (generation_of h))));
        few = rw (length-set p.slots (slot_of h) (slot_after p.generations (generation_of h))) are.few;
        empty = λ place slot found none.
            let other = slice_get-set_other p.slots (slot_of h) place (slot_after p.generations (generation_of h)) in
            let same = list_at-set_same lists (slot_of h) [] within in
            grind (arith, nat_tests, are.empty place slot, list_at-set_other lists (slot_of h) place []);
        retired = λ place slot found gone. slice_get-set_cases p.slots (slot_of h) place (slot_after p.generations (generation_of h)) slot found
            (λ old. are.retired place slot old gone) (λ is. let P : Slot A → Type 0 = λ s. s.value ≡ None in
            subst P is (empty_after p.generations (generation_of h)));
      }
    where
      empty_after : (generations generation : ℕ) → (slot_after {T = A} generations generation).value ≡ None
      empty_after generations generation = grind (arith, nat_tests)

  -- a place that stands in the list of no live handle stands in no list
  pub NowhereAt-beside : (p : Slots A) (lists : List (List ℕ)) (q : ℕ) → AreBeside p.slots lists
      → ((h : ℕ) (v : A) → slot_value p h ≡ Some v → stands_at q (list_at lists (slot_of h)) ≡ false) → NowhereAt q lists
  NowhereAt-beside p lists q are none place = by_slot (slice_get p.slots place) refl
    where
      by_value : (slot : Slot A) (o : Option A) → slice_get p.slots place ≡ Some slot → slot.value ≡ o → stands_at q (list_at lists place) ≡ false
      by_value slot None found is = rw (are.empty place slot found is) refl
      by_value slot (Some v) found is =
          let within : place < length p.slots = slice_get_within p.slots place slot found in
          let handle : ℕ = slot.generation * 2 ^ 32 + place in
          let small : place < 2 ^ 32 = omega (arith, are.few, within) in
          let used : used_at place (slice_get p.slots place) ≡ Some (handle, v) = rw (found, is) refl in
          let live : slot_value p handle ≡ Some v = live-used_at p place handle v small used in
          let here : slot_of handle ≡ place = omega arith in
          let P : ℕ → Type 0 = λ n. stands_at q (list_at lists n) ≡ false in
          subst P here (none handle v live)

      by_slot : (o : Option (Slot A)) → slice_get p.slots place ≡ o → stands_at q (list_at lists place) ≡ false
      by_slot (Some slot) found = by_value slot slot.value found refl
      by_slot None past = rw (get_or_past lists place [] (rw are.size (past_end p.slots place past))) refl
