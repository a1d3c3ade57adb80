-- What is asked of a list of issued objects, answered from the slots that stand for it.
use Rattle.handle_pool.proofs.Names.{◌≡◌, ℕ, zero, suc, ◌+◌, ◌*◌, ◌^◌, ◌<◌, ◌≤◌, Bool, true, false, cond, List, [], ◌∷◌, length, Option, Some, None, count_by, slice_get, refl, sym, ap, ◌∙◌, inl, inr, arith, ◌==◌, cases_Bool, nat_tests, sum_by-cons, Slot, Slots, slot_of, generation_of, value_at, slot_value, value_passes, count_in, SomeLive, NoneLive, Listed, how_many, live_of, lookup, any_listed, first_handle, count_listed, change_all, Distinct, Stands}
use Rattle.handle_pool.proofs.LiveLemmas.{passing, any_live-at, first_live-passes, first_live-any, first_live-none, how_many-same}

-- the handle of a generation at a place
abbrev handle_at : ℕ → ℕ → ℕ
handle_at generation place = generation * 2 ^ 32 + place

same_test : (g place h : ℕ) → slot_of h ≡ place → (handle_at g place == h) ≡ (g == generation_of h)
same_test g place h is = grind (arith, nat_tests)

other_slot : (g place h : ℕ) → place < 65536 → (slot_of h ≡ place → ⊥) → (handle_at g place == h) ≡ false
other_slot g place h small differs = grind (arith, nat_tests)

slot_of-handle_at : (generation place : ℕ) → place < 65536 → slot_of (handle_at generation place) ≡ place
slot_of-handle_at generation place small = omega arith

module _ {T : Type 0} where
  -- an object of a live handle that passes is one of the list
  pub any-live : (p : Slots T) (l : List (Listed T)) (q : T → Bool) (h : ℕ) (v : T) → Stands p l → slot_value p h ≡ Some v → q v ≡ true → any_listed q l ≡ true
  any-live p l q h v stands found holds = any_live-at q (live_of l) h v (sym (stands.found h) ∙ found) holds

  -- where some object of the list passes, a live handle has it
  pub any-some : (p : Slots T) (l : List (Listed T)) (q : T → Bool) → Stands p l → any_listed q l ≡ true → SomeLive (slot_value p) (λ v. q v ≡ true)
  any-some p l q stands some =
      let one = passing q (live_of l) stands.distinct some in
      (one.handle, one.value, stands.found one.handle ∙ one.stands, one.passes)

  -- where no live handle has an object that passes, none of the list does
  pub any-none : (p : Slots T) (l : List (Listed T)) (q : T → Bool) → Stands p l → NoneLive (slot_value p) (λ v. q v ≡ true) → any_listed q l ≡ false
  any-none p l q stands none =
      elim (cases_Bool (any_listed q l)) [
        | inl some ↦ let one = any-some p l q stands some in absurd (none one.0 one.1 one.2 one.3)
        | inr off ↦ off
      ]

  -- the only live handle with an object that passes is the first
  pub first_live-only : (p : Slots T) (l : List (Listed T)) (q : T → Bool) (h : ℕ) (v : T) → Stands p l → slot_value p h ≡ Some v → q v ≡ true
      → ((k : ℕ) (w : T) → slot_value p k ≡ Some w → q w ≡ true → k ≡ h) → first_handle q (live_of l) ≡ Some h
  first_live-only p l q h v stands found holds only =
      let first = first_live-any q (live_of l) (any-live p l q h v stands found holds) in
      let passes = first_live-passes q (live_of l) first.0 stands.distinct first.1 in
      first.1 ∙ ap Some (only first.0 passes.0 (stands.found first.0 ∙ passes.1) passes.2)

  pub first_live-absent : (p : Slots T) (l : List (Listed T)) (q : T → Bool) → Stands p l → NoneLive (slot_value p) (λ v. q v ≡ true)
      → first_handle q (live_of l) ≡ None
  first_live-absent p l q stands none = first_live-none q (live_of l) (any-none p l q stands none)

  -- the objects in the slots from a place on

  abbrev in_front : ℕ → Option T → List (ℕ × T) → List (ℕ × T)
  in_front h None es = es
  in_front h (Some v) es = (h, v) ∷ es

  abbrev used_from : ℕ → List (Slot T) → List (ℕ × T)
  used_from place [] = []
  used_from place (s ∷ slots) = in_front (handle_at s.generation place) s.value (used_from (place + 1) slots)

  lookup-used_before : (slots : List (Slot T)) (place h : ℕ) → slot_of h < place → place + length slots ≤ 65536 → lookup (used_from place slots) h ≡ None
  lookup-used_before [] place h below few = refl
  lookup-used_before (s ∷ slots) place h below few = grind (arith, nat_tests, lookup-used_before slots (place + 1) h (omega arith) (omega arith))

  lookup-used : (slots : List (Slot T)) (place i h : ℕ) → slot_of h ≡ place + i → place + length slots ≤ 65536
      → lookup (used_from place slots) h ≡ value_at (slice_get slots i) (generation_of h)
  lookup-used [] place i h is few = refl
  lookup-used (s ∷ slots) place zero h is few = grind (arith, nat_tests, lookup-used_before slots (place + 1) h (omega arith) (omega arith))
  lookup-used (s ∷ slots) place (suc i) h is few = grind (arith, nat_tests, lookup-used slots (place + 1) i h (omega arith) (omega arith))

  Distinct-used : (slots : List (Slot T)) (place : ℕ) → place + length slots ≤ 65536 → Distinct (used_from place slots)
  Distinct-used [] place few = tt
  Distinct-used (s ∷ slots) place few =
      let before = lookup-used_before slots (place + 1) (handle_at s.generation place) (omega arith) (omega arith) in
      grind (arith, nat_tests, Distinct-used slots (place + 1) (omega arith))

  how_many-used : (q : T → Bool) (slots : List (Slot T)) (place : ℕ) → how_many (λ e. q e.1) (used_from place slots) ≡ count_by (value_passes q) slots
  how_many-used q [] place = refl
  how_many-used q (s ∷ slots) place =
      grind (arith, nat_tests, sum_by-cons (λ (t : Slot T). cond (value_passes q t) 1 0) s slots, how_many-used q slots (place + 1))

  how_many-live : (q : T → Bool) (l : List (Listed T)) → count_listed q l ≡ how_many (λ e. q e.1) (live_of l)
  unfolding live_of
  how_many-live q [] = refl
  how_many-live q (r ∷ rs) = grind (arith, nat_tests, how_many-live q rs)

  -- as many live objects pass as slots in use have a value that passes
  pub count-slots : (p : Slots T) (l : List (Listed T)) (q : T → Bool) → Stands p l → count_listed q l ≡ count_in q p
  count-slots p l q stands =
      let few = stands.few in
      how_many-live q l
      ∙ how_many-same (λ e. q e.1) (live_of l) (used_from 0 p.slots) stands.distinct (Distinct-used p.slots 0 (omega arith)) (λ h. sym (stands.found h)
      ∙ sym (lookup-used p.slots 0 (slot_of h) h (omega arith) (omega arith)))
      ∙ how_many-used q p.slots 0

  -- every object that passes, changed one after another in any order

  -- where none passes, nothing is left to change
  pub change_all-none : (q : T → Bool) (f : Listed T → Listed T) (l : List (Listed T)) → any_listed q l ≡ false → change_all q f l ≡ l
  unfolding live_of change_all
  change_all-none q f [] none = refl
  change_all-none q f (r ∷ rs) none = grind (arith, nat_tests, change_all-none q f rs)
