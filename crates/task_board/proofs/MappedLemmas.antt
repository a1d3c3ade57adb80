-- What each move of slots is for the mapped slots.
use Rattle.task_board.proofs.Names.{nat_tests, ◌≡◌, ◌↔◌, ℕ, zero, suc, ◌+◌, Bool, List, [], ◌∷◌, replicate, map, Some, fold, cond, slice_get, refl, ap, ◌∙◌, arith, option_map, length-map, map-set, slice_get-map, Slot, Slots, slot_of, generation_of, free_slot, used_slot, slot_after, value_at, slot_value, max_of, is_live, is_retired, IsFull, Inserts, with_value, without, changed, set-same, mapped_slot, mapped}

module _ {A B : Type 0} (f : A → B) where
  abbrev slots_of : ℕ → List (Slot B) → Slots B
  slots_of generations slots = record { generations = generations; slots = slots }

  pub max-mapped : (p : Slots A) → max_of (mapped f p) ≡ max_of p
  max-mapped p = length-map p.slots (mapped_slot f)

  -- the value of a live handle, mapped
  pub value-mapped : (p : Slots A) (h : ℕ) → slot_value (mapped f p) h ≡ option_map f (slot_value p h)
  value-mapped p h = grind (arith, nat_tests, slice_get-map, mapped_slot, slot_of, option_map, value_at, generation_of)

  pub mapped-with_value : (p : Slots A) (h : ℕ) (v : A) → mapped f (with_value p h v) ≡ with_value (mapped f p) h (f v)
  mapped-with_value p h v = ap (slots_of p.generations) (map-set (mapped_slot f) p.slots (slot_of h) (used_slot (generation_of h) v))

  -- a new value in a slot that was free
  pub mapped-insert : (p new : Slots A) (h : ℕ) (v : A) → Inserts p new h v → Inserts (mapped f p) (mapped f new) h (f v)
  mapped-insert p new h v e1 = grind (arith, nat_tests, slice_get-map, mapped_slot, slot_of, option_map, mapped-with_value)

  -- a slot given up
  pub mapped-without : (p : Slots A) (h : ℕ) → mapped f (without p h) ≡ without (mapped f p) h
  mapped-without p h = grind (arith, nat_tests, map-set, mapped_slot, slot_of, slot_after, generation_of, free_slot)

  -- a change of a value, of which the mapped one sees so much
  pub mapped-changed : (p : Slots A) (h : ℕ) (g : A → A) (k : B → B) → ((v : A) → f (g v) ≡ k (f v)) → mapped f (changed p h g) ≡ changed (mapped f p) h k
  mapped-changed p h g k e1 = grind (arith, nat_tests, slot_value, option_map, value-mapped, mapped-with_value, with_value)

  -- new slots are new slots
  pub mapped-new : (count : ℕ) → map (mapped_slot f) (replicate count (free_slot 1)) ≡ replicate count (free_slot 1)
  mapped-new zero = refl
  mapped-new (suc count) = ap (λ (xs : List (Slot B)). free_slot 1 ∷ xs) (mapped-new count)

  -- a count of slots, and the same of the mapped ones
  fold-mapped : (t : Slot B → Bool) (u : Slot A → Bool) → ((s : Slot A) → t (mapped_slot f s) ≡ u s) → (slots : List (Slot A)) (n : ℕ)
      → fold (λ a x. a + cond (t x) 1 0) n (map (mapped_slot f) slots) ≡ fold (λ a x. a + cond (u x) 1 0) n slots
  fold-mapped t u same [] n = refl
  fold-mapped t u same (s ∷ ss) n = grind (arith, nat_tests, fold-mapped t u same ss (n + cond (u s) 1 0))

  is_live-mapped : (s : Slot A) → is_live (mapped_slot f s) ≡ is_live s
  is_live-mapped s = grind (arith, nat_tests)

  -- no slot may be used in the one exactly where none may be in the other
  pub IsFull-mapped : (p : Slots A) → IsFull (mapped f p) ↔ IsFull p
  IsFull-mapped p =
      let live = fold-mapped is_live is_live is_live-mapped p.slots 0 in
      let retired = fold-mapped is_retired is_retired (λ s. refl) p.slots 0 in
      let size = max-mapped p in
      ((λ full. omega (arith, full, live, retired, size)), (λ full. omega (arith, full, live, retired, size)))

-- values that the mapping doesn't tell apart
module _ {A B : Type 0} (b : B) where
  pub mapped-same : (p : Slots A) (h : ℕ) (v : A) → slice_get p.slots (slot_of h) ≡ Some (used_slot (generation_of h) v) → (w : A)
      → mapped (λ _. b) (with_value p h w) ≡ mapped (λ _. b) p
  mapped-same p h v used w =
      mapped-with_value (λ _. b) p h w
      ∙ ap (λ (slots : List (Slot B)). record { generations = p.generations; slots = slots })
      (set-same (map (mapped_slot (λ _. b)) p.slots) (slot_of h) (used_slot (generation_of h) b) (slice_get-map (mapped_slot (λ _. b)) p.slots (slot_of h)
      ∙ ap (option_map (mapped_slot (λ _. b))) used))
