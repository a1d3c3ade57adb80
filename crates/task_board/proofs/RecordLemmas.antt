-- The records of the queues stay where only their tasks change.
use Rattle.task_board.proofs.Names.{nat_tests, arith, ◌≡◌, ℕ, Bool, true, List, Option, Some, None, set, slice_get, map, refl, ◌∙◌, ap, option_map, slice_get-map, Slot, Slots, slot_of, generation_of, used_slot, slot_value, put, changed, set-same, used_at_live, Queue, HeldQueue, AreRetiredEmpty, without_task, mapped_slot, left_queue, records_of}
use Rattle.task_board.proofs.MappedLemmas.{mapped-with_value}

-- a slot in use that hasn't retired
used-slot : (s : Slot HeldQueue) (generation : ℕ) (x : HeldQueue) (b : Bool) → s.retired ≡ b → s.generation ≡ generation → s.value ≡ Some x
    → (s.retired ≡ true → s.value ≡ None) → mapped_slot (λ (y : HeldQueue). y.queue) s ≡ used_slot generation x.queue
used-slot s generation x b e1 e2 e3 e4 = grind (arith, nat_tests)

pub records-same : (p : Slots HeldQueue) (q : ℕ) (f : HeldQueue → HeldQueue) → ((x : HeldQueue) → (f x).queue ≡ x.queue) → AreRetiredEmpty p
    → records_of (changed p q f) ≡ records_of p
records-same p q f same empty = by_value (slot_value p q) refl
  where
    by_value : (o : Option HeldQueue) → slot_value p q ≡ o → records_of (put p q (option_map f o)) ≡ records_of p
    by_value None g = refl
    by_value (Some x) g =
        let s = used_at_live (slice_get p.slots (slot_of q)) (generation_of q) x g in
        let used = used-slot s.0 (generation_of q) x s.0.retired refl s.2 s.3 (empty (slot_of q) s.0 s.1) in
        mapped-with_value (λ (y : HeldQueue). y.queue) p q (f x)
        ∙ ap (λ (slots : List (Slot Queue)). record { generations = p.generations; slots = slots })
        (ap (λ (v : Queue). set (map (mapped_slot (λ (y : HeldQueue). y.queue)) p.slots) (slot_of q) (used_slot (generation_of q) v)) (same x)
        ∙ set-same (map (mapped_slot (λ (y : HeldQueue). y.queue)) p.slots) (slot_of q) (used_slot (generation_of q) x.queue)
        (slice_get-map (mapped_slot (λ (y : HeldQueue). y.queue)) p.slots (slot_of q) ∙ ap (option_map (mapped_slot (λ (y : HeldQueue). y.queue))) s.1
        ∙ ap Some used))

pub records-left : (p : Slots HeldQueue) (o : Option ℕ) (h : ℕ) → AreRetiredEmpty p → records_of (left_queue p o h) ≡ records_of p
records-left p None h empty = refl
records-left p (Some q) h empty = records-same p q (without_task h) (λ x. refl) empty
