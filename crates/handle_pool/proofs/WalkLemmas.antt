-- A walk over the places, as upper crates make it.
use Rattle.handle_pool.proofs.Names.{nat_tests, ◌≡◌, ℕ, ◌^◌, ◌<◌, Some, slice_get, arith, slice_get_within, Slots, slot_of, generation_of, slot_value, max_of, used_at}
use Rattle.handle_pool.proofs.StandsLemmas.{used_at_live}

module _ {T : Type 0} where
  -- a live handle's slot is one of the pool's
  pub slot_of-live : (p : Slots T) (handle : ℕ) (value : T) → slot_value p handle ≡ Some value → slot_of handle < max_of p
  slot_of-live p handle value found =
      let slot = used_at_live (slice_get p.slots (slot_of handle)) (generation_of handle) value found in
      slice_get_within p.slots (slot_of handle) slot.0 slot.1

  -- what stands at a live handle's place
  pub used_at-live : (p : Slots T) (handle : ℕ) (value : T) → slot_value p handle ≡ Some value
      → used_at (slot_of handle) (slice_get p.slots (slot_of handle)) ≡ Some (handle, value)
  used_at-live p handle value e1 = grind (arith, nat_tests)

  -- a handle that a walk finds is live
  pub live-used_at : (p : Slots T) (place handle : ℕ) (value : T) → place < 2 ^ 32 → used_at place (slice_get p.slots place) ≡ Some (handle, value)
      → slot_value p handle ≡ Some value
  live-used_at p place handle value e1 e2 = grind (arith, nat_tests)
