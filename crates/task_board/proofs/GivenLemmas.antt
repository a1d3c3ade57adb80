-- Handles that were given to queues, and one queue that changes.
use Rattle.task_board.proofs.Names.{nat_tests, ◌≡◌, ℕ, Option, Some, None, set, slice_get, ap, arith, option_map, cases_eq, Slot, Slots, slot_of, generation_of, free_slot, used_slot, slot_after, slot_value, Inserts, without, put, changed, slice_get-set_same, slice_get-set_other, used_at_live, HeldQueue, HasHad, WasGiven, same_Some}

-- a queue that isn't live doesn't change
pub dead-queue : (p : Slots HeldQueue) (q : ℕ) (f : HeldQueue → HeldQueue) → slot_value p q ≡ None → changed p q f ≡ p
dead-queue p q f g = ap (λ (o : Option HeldQueue). put p q (option_map f o)) g

-- Handles that were given

-- the live handle's slot before
was-live : (p : Slots HeldQueue) (h : ℕ) (x : HeldQueue) → slot_value p h ≡ Some x
    → (s : Slot HeldQueue) × (slice_get p.slots (slot_of h) ≡ Some s) × (s.generation ≡ generation_of h)
was-live p h x g = let s = used_at_live (slice_get p.slots (slot_of h)) (generation_of h) x g in (s.0, s.1, s.2)

pub given-live : (p : Slots HeldQueue) (q : ℕ) (x : HeldQueue) → slot_value p q ≡ Some x → WasGiven p q
given-live p q x e1 = grind (arith, nat_tests)

-- another slot at the place of a handle
given-set : (p : Slots HeldQueue) (h q : ℕ) (was new : Slot HeldQueue) → slice_get p.slots (slot_of h) ≡ Some was
    → (HasHad (generation_of q) was → HasHad (generation_of q) new) → WasGiven p q → WasGiven (record p { slots = set p.slots (slot_of h) new }) q
given-set p h q was new e1 e2 e3 = grind (arith, nat_tests, cases_eq, slot_of, same_Some, slice_get-set_same, generation_of, slice_get-set_other)

-- a later use of a slot of this generation
had-used : (g generation : ℕ) (was : Slot HeldQueue) (x : HeldQueue) → was.generation ≡ generation → HasHad g was → HasHad g (used_slot generation x)
had-used g generation was x e1 e2 = grind (arith, nat_tests)

pub given-changed : (p : Slots HeldQueue) (h q : ℕ) (f : HeldQueue → HeldQueue) (x : HeldQueue) → slot_value p h ≡ Some x → WasGiven p q
    → WasGiven (changed p h f) q
given-changed p h q f x e1 e2 = grind (arith, nat_tests, was-live, option_map, given-set, used_slot, generation_of, had-used)

pub given-insert : (p new : Slots HeldQueue) (h q : ℕ) (x : HeldQueue) → Inserts p new h x → WasGiven p q → WasGiven new q
given-insert p new h q x e1 e2 = grind (arith, nat_tests, given-set, free_slot, generation_of, used_slot, had-used)

-- a handle that is given now wasn't given before
pub given-new : (p new : Slots HeldQueue) (q : ℕ) (x : HeldQueue) → Inserts p new q x → WasGiven p q → ⊥
given-new p new q x e1 e2 = grind (arith, nat_tests)

pub given-without : (p : Slots HeldQueue) (h q : ℕ) (x : HeldQueue) → slot_value p h ≡ Some x → WasGiven p q → WasGiven (without p h) q
given-without p h q x e1 e2 = grind (arith, nat_tests, was-live, given-set, slot_after, generation_of, free_slot)
