-- How many slots are in use after each change, and how many there are.
use Rattle.handle_pool.proofs.Names.{nat_tests, ◌≡◌, ℕ, ◌+◌, Some, cond, slice_get, replicate, refl, arith, length-set, length-replicate, sum_by-replicate, Slot, Slots, slot_of, generation_of, free_slot, used_slot, slot_after, slot_value, is_live, live_count, max_of, Inserts, with_value, without}
use Rattle.handle_pool.proofs.StandsLemmas.{used_at_live, count_by-set}

module _ {T : Type 0} where
  pub live_count-new : (p : Slots T) (max : ℕ) → p.slots ≡ replicate max (free_slot 1) → live_count p ≡ 0
  live_count-new p max fresh = let one : Slot T → ℕ = λ s. cond (is_live s) 1 0 in rw (fresh, sum_by-replicate one max (free_slot 1)) (omega arith)

  pub max_of-new : (p : Slots T) (max : ℕ) → p.slots ≡ replicate max (free_slot 1) → max_of p ≡ max
  max_of-new p max fresh = rw (fresh, length-replicate) refl

  pub live_count-insert : (p new : Slots T) (h : ℕ) (v : T) → Inserts p new h v → live_count new ≡ live_count p + 1
  live_count-insert p new h v inserts =
      rw inserts.now (omega (arith, count_by-set is_live p.slots (slot_of h) _ (used_slot (generation_of h) v) inserts.was_free))

  pub max_of-insert : (p new : Slots T) (h : ℕ) (v : T) → Inserts p new h v → max_of new ≡ max_of p
  max_of-insert p new h v inserts = rw inserts.now (length-set p.slots (slot_of h) (used_slot (generation_of h) v))

  pub live_count-with_value : (p : Slots T) (h : ℕ) (old new : T) → slot_value p h ≡ Some old → live_count (with_value p h new) ≡ live_count p
  live_count-with_value p h old new found =
      let slot = used_at_live (slice_get p.slots (slot_of h)) (generation_of h) old found in
      grind (arith, nat_tests, count_by-set is_live p.slots (slot_of h) slot.0 (used_slot (generation_of h) new) slot.1)

  pub max_of-with_value : (p : Slots T) (h : ℕ) (v : T) → max_of (with_value p h v) ≡ max_of p
  max_of-with_value p h v = length-set p.slots (slot_of h) (used_slot (generation_of h) v)

  pub live_count-without : (p : Slots T) (h : ℕ) (old : T) → slot_value p h ≡ Some old → live_count (without p h) + 1 ≡ live_count p
  live_count-without p h old found =
      let slot = used_at_live (slice_get p.slots (slot_of h)) (generation_of h) old found in
      grind (arith, nat_tests, count_by-set is_live p.slots (slot_of h) slot.0 (slot_after p.generations (generation_of h)) slot.1)

  pub max_of-without : (p : Slots T) (h : ℕ) → max_of (without p h) ≡ max_of p
  max_of-without p h = length-set p.slots (slot_of h) (slot_after p.generations (generation_of h))
