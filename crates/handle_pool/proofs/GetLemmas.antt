-- What is live after each change of the slots.
use Rattle.handle_pool.proofs.Names.{nat_tests, arith, ◌≡◌, ◌≢◌, ℕ, Some, None, slice_get, Slots, slot_of, generation_of, used_slot, slot_after, slot_value, Inserts, with_value, without}
use Rattle.handle_pool.proofs.ListReads.{slice_get-set_same, slice_get-set_other}
use Rattle.handle_pool.proofs.StandsLemmas.{used_at_live, value_at-used_same}

module _ {T : Type 0} where
  pub get-with_value_same : (p : Slots T) (h : ℕ) (old new : T) → slot_value p h ≡ Some old → slot_value (with_value p h new) h ≡ Some new
  get-with_value_same p h old new found =
      let slot = used_at_live (slice_get p.slots (slot_of h)) (generation_of h) old found in
      rw (slice_get-set_same p.slots (slot_of h) (used_slot (generation_of h) new) _ slot.1) (value_at-used_same (generation_of h) new)

  pub get-with_value_other : (p : Slots T) (h k : ℕ) (old new : T) → slot_value p h ≡ Some old → k ≢ h → slot_value (with_value p h new) k ≡ slot_value p k
  get-with_value_other p h k old new found differs =
      let slot = used_at_live _ (generation_of h) old found in
      let now = used_slot (generation_of h) new in
      grind (arith, nat_tests, slice_get-set_same p.slots (slot_of h) now slot.0, slice_get-set_other p.slots (slot_of h) (slot_of k) now)

  pub get-insert_same : (p new : Slots T) (h : ℕ) (v : T) → Inserts p new h v → slot_value new h ≡ Some v
  get-insert_same p new h v inserts =
      rw (inserts.now, slice_get-set_same p.slots (slot_of h) (used_slot (generation_of h) v) _ inserts.was_free) (value_at-used_same (generation_of h) v)

  -- a handle that an insert gives wasn't live
  pub get-insert_before : (p new : Slots T) (h : ℕ) (v : T) → Inserts p new h v → slot_value p h ≡ None
  get-insert_before p new h v inserts = grind (arith, nat_tests)

  pub get-insert_other : (p new : Slots T) (h k : ℕ) (v : T) → Inserts p new h v → k ≢ h → slot_value new k ≡ slot_value p k
  get-insert_other p new h k v inserts differs =
      let now = used_slot (generation_of h) v in
      let same = slice_get-set_same p.slots (slot_of h) now _ inserts.was_free in
      rw inserts.now (grind (arith, nat_tests, slice_get-set_other p.slots (slot_of h) (slot_of k) now))

  pub get-without_same : (p : Slots T) (h : ℕ) (old : T) → slot_value p h ≡ Some old → slot_value (without p h) h ≡ None
  get-without_same p h old found =
      let slot = used_at_live (slice_get p.slots (slot_of h)) (generation_of h) old found in
      grind (arith, nat_tests, slice_get-set_same p.slots (slot_of h) (slot_after p.generations (generation_of h)) slot.0)

  pub get-without_other : (p : Slots T) (h k : ℕ) (old : T) → slot_value p h ≡ Some old → k ≢ h → slot_value (without p h) k ≡ slot_value p k
  get-without_other p h k old found differs =
      let slot = used_at_live _ (generation_of h) old found in
      let now = slot_after p.generations (generation_of h) in
      grind (arith, nat_tests, slice_get-set_same p.slots (slot_of h) now slot.0, slice_get-set_other p.slots (slot_of h) (slot_of k) now)
