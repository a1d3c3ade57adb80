-- Live values with a key of their own each go on to have one.
use Rattle.handle_pool.proofs.Names.{arith, nat_tests, ◌≡◌, ℕ, Some, None, replicate, refl, sym, ap, ◌∙◌, inl, inr, cases_eq, Slots, slot_of, generation_of, free_slot, slot_value, Inserts, with_value, without, NoneLive, OneEach}
use Rattle.handle_pool.proofs.StandsLemmas.{get-fresh}
use Rattle.handle_pool.proofs.GetLemmas.{get-insert_same, get-insert_other, get-with_value_same, get-with_value_other, get-without_same, get-without_other}

module _ {T : Type 0} (key : T → ℕ) where
  pub OneEach-new : (p : Slots T) (max : ℕ) → p.slots ≡ replicate max (free_slot 1) → OneEach key p
  OneEach-new p max fresh = record {
    only = λ h k v w found other same. let none : slot_value p h ≡ None = rw fresh (get-fresh max (slot_of h) (generation_of h)) in absurd (cc);
  }

  -- the new value's key is that of no live one
  pub OneEach-insert : (p new : Slots T) (handle : ℕ) (value : T) → OneEach key p → NoneLive (slot_value p) (λ v. key v ≡ key value)
      → Inserts p new handle value → OneEach key new
  OneEach-insert p new handle value each free inserts = record {
    only = λ h k v w found other same.
        let here = get-insert_same p new handle value inserts in
        let before = λ (j : ℕ). get-insert_other p new handle j value inserts in
        grind (arith, nat_tests, each.only h k v w, free h v, free k w, before h, before k);
  }

  -- what was live before, with the same key
  record Was (p : Slots T) (h : ℕ) (v : T) : Type 0 where
    value : T
    found : slot_value p h ≡ Some value
    same : key value ≡ key v

  was_with : (p : Slots T) (handle : ℕ) (old new : T) (h : ℕ) (v : T) → slot_value p handle ≡ Some old → key new ≡ key old
      → slot_value (with_value p handle new) h ≡ Some v → Was p h v
  was_with p handle old new h v live keeps found = elim (cases_eq h handle) [
    | inl here ↦ record { value = old; found = ap (slot_value p) here ∙ live; same = grind (arith, nat_tests, get-with_value_same p handle old new live) }
    | inr away ↦ record { value = v; found = sym (get-with_value_other p handle h old new live away) ∙ found; same = refl }
  ]

  -- the value's key stays
  pub OneEach-with_value : (p : Slots T) (handle : ℕ) (old new : T) → OneEach key p → slot_value p handle ≡ Some old → key new ≡ key old
      → OneEach key (with_value p handle new)
  OneEach-with_value p handle old new each live keeps = record {
    only = λ h k v w found other same.
        let a = was_with p handle old new h v live keeps found in
        let b = was_with p handle old new k w live keeps other in
        each.only h k a.value b.value a.found b.found (a.same ∙ same ∙ sym b.same);
  }

  pub OneEach-without : (p : Slots T) (handle : ℕ) (old : T) → OneEach key p → slot_value p handle ≡ Some old → OneEach key (without p handle)
  OneEach-without p handle old each live = record {
    only = λ h k v w found other same.
        let none = get-without_same p handle old live in
        grind (arith, nat_tests, each.only h k v w, get-without_other p handle h old live, get-without_other p handle k old live);
  }
