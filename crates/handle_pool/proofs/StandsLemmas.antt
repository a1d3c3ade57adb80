-- Each call of a pool is a move of the list of issued objects.
use Rattle.handle_pool.proofs.Names.{◌≡◌, ◌≢◌, ◌↔◌, ℕ, zero, suc, ◌+◌, ◌<◌, ◌≤◌, Bool, true, false, List, [], Option, Some, None, count_by, cond, set, slice_get, replicate, refl, sym, ap, ◌∙◌, inl, inr, arith, length-set, ◌==◌, eq-eqb, ne_eqb, eqb-true, cases_lt, nat_tests, length-replicate, sum_by-set, sum_by-replicate, slice_get_within, get_or_from_slice_get, Slot, Slots, slot_of, generation_of, free_slot, used_slot, slot_after, value_at, slot_value, is_live, is_retired, live_count, retired_count, max_of, IsFull, Inserts, without, with_value, changed, Listed, live_of, live_object, issue, with_fields, gone, update, retire, listed, issued_at, retired, is_full, may_issue, SlotStands, Stands}
use Rattle.handle_pool.proofs.ListReads.{set-set, slice_get-set_same, slice_get-set_other}
use Rattle.handle_pool.proofs.ListedLemmas.{at-issue, at-update, at-retire, Distinct-issue, Distinct-update, Distinct-retire, length-issue, length-update, length-retire, listed-change, issued_at-change, retired-update, listed-issue, issued_at-issue, retired-issue, issued_at-slot, retired-retire, change-none}

-- two handles of one slot and one generation are one
pub same_handle : (a b : ℕ) → slot_of a ≡ slot_of b → generation_of a ≡ generation_of b → a ≡ b
same_handle a b slots generations = omega arith

slot_of-place : (place : ℕ) → place < 65536 → slot_of place ≡ place
slot_of-place place few = omega arith

module _ {T : Type 0} where
  -- a count of slots after a write
  pub count_by-set : (p : Slot T → Bool) (slots : List (Slot T)) (place : ℕ) (old new : Slot T) → slice_get slots place ≡ Some old
      → count_by p (set slots place new) + cond (p old) 1 0 ≡ count_by p slots + cond (p new) 1 0
  count_by-set p slots place old new found =
      let within = slice_get_within slots place old found in
      let counted = sum_by-set (λ (s : Slot T). cond (p s) 1 0) slots place new old within in
      rw (get_or_from_slice_get slots place old old found) at counted

  pub value_at-used_same : (generation : ℕ) (value : T) → value_at (Some (used_slot generation value)) generation ≡ Some value
  value_at-used_same generation value = rw (eq-eqb generation generation refl) refl

  pub value_at-used_other : (generation other : ℕ) (value : T) → other ≢ generation → value_at (Some (used_slot generation value)) other ≡ None
  value_at-used_other generation other value e1 = grind (arith, nat_tests)

  pub value_at-none : (slot : Slot T) (generation : ℕ) → slot.value ≡ None → value_at (Some slot) generation ≡ None
  value_at-none slot generation e1 = grind (arith, nat_tests)

  -- a slot of another generation has no value for this one
  pub value_at-turned : (slot : Slot T) (generation : ℕ) → generation ≢ slot.generation → value_at (Some slot) generation ≡ None
  value_at-turned slot generation e1 = grind (arith, nat_tests)

  -- where a value was found, the slot is in use at this generation
  pub used_at_live : (o : Option (Slot T)) (generation : ℕ) (value : T) → value_at o generation ≡ Some value
      → (slot : Slot T) × (o ≡ Some slot) × (slot.generation ≡ generation) × (slot.value ≡ Some value)
  used_at_live None generation value found = absurd (cc)
  used_at_live (Some slot) generation value found = (slot, refl, grind (arith, nat_tests), grind (arith, nat_tests))

  -- a slot that was never used stands for no turn
  SlotStands-fresh : (max generations : ℕ) (place : ℕ) (slot : Slot T) → 1 ≤ generations → slice_get (replicate max (free_slot 1)) place ≡ Some slot
      → SlotStands generations 0 slot
  SlotStands-fresh zero generations place slot once found = absurd (cc)
  SlotStands-fresh (suc max) generations zero slot once found =
      let is : free_slot 1 ≡ slot = cc in
      rw (← is) record { generation = refl; at_most = once; retired = λ gone. absurd (cc) }
  SlotStands-fresh (suc max) generations (suc place) slot once found = SlotStands-fresh max generations place slot once found

  pub get-fresh : (max place generation : ℕ) → value_at (slice_get (replicate max (free_slot {T = T} 1)) place) generation ≡ None
  get-fresh zero place generation = refl
  get-fresh (suc max) zero generation = value_at-none (free_slot 1) generation refl
  get-fresh (suc max) (suc place) generation = get-fresh max place generation

  -- a new pool stands for the empty list
  pub Stands-new : (p : Slots T) (max : ℕ) → 1 ≤ p.generations → max ≤ 65536 → p.slots ≡ replicate max (free_slot 1) → Stands p []
  unfolding live_of listed issued_at retired
  Stands-new p max once few fresh =
      record {
        found = λ h. rw fresh (get-fresh max (slot_of h) (generation_of h));
        distinct = tt;
        slots = λ place slot found. SlotStands-fresh max p.generations place slot once (rw fresh at found);
        turns = λ h some. absurd (omega arith);
        live = let one : Slot T → ℕ = λ s. cond (is_live s) 1 0 in rw (fresh, sum_by-replicate one max (free_slot 1)) (omega arith);
        retired = let one : Slot T → ℕ = λ s. cond (is_retired s) 1 0 in rw (fresh, sum_by-replicate one max (free_slot 1)) (omega arith);
        few = rw (fresh, length-replicate) few;
        once = once;
      }

  -- a handle that was never issued isn't live
  unlisted : (p : Slots T) (l : List (Listed T)) (h : ℕ) (value : T) (new : Slots T) → Stands p l → Inserts p new h value → listed h l ≡ 0
  unlisted p l h value new stands inserts =
      let slot = stands.slots (slot_of h) _ inserts.was_free in
      elim (cases_lt (listed h l) 1) [
        | inl none ↦ omega arith
        | inr some ↦ absurd (omega (arith, stands.turns h some, slot.generation, issued_at-slot h l))
      ]

  off : (p : Slots T) (l : List (Listed T)) (h : ℕ) (value : T) (new : Slots T) → Stands p l → Inserts p new h value → live_object l h ≡ None
  off p l h value new e1 e2 = grind (arith, nat_tests)

  -- the handle of an insert is one that may be issued
  pub may_issue-insert : (p new : Slots T) (l : List (Listed T)) (h : ℕ) (value : T) → Stands p l → Inserts p new h value → may_issue p.generations h l ≡ true
  unfolding may_issue
  may_issue-insert p new l h value stands inserts =
      let slot = stands.slots (slot_of h) _ inserts.was_free in
      grind (arith, nat_tests, unlisted p l h value new stands inserts, issued_at-slot h l)

  -- an insert is an issue
  pub Stands-insert : (p new : Slots T) (l : List (Listed T)) (h : ℕ) (value : T) → Stands p l → Inserts p new h value → Stands new (issue h value l)
  Stands-insert p new l h value stands inserts =
      let place = slot_of h in
      let used = used_slot (generation_of h) value in
      let none = off p l h value new stands inserts in
      let slot = stands.slots place _ inserts.was_free in
      let turn : issued_at h (issue h value l) ≡ issued_at h l + 1 =
      issued_at-issue h h value l ∙ ap (λ b. issued_at h l + cond b 1 0) (eq-eqb place place refl) in
      let wrote = slice_get-set_same p.slots place used _ inserts.was_free in
      let size = length-set p.slots place used in
      rw inserts.now record {
        found = λ k. let was = stands.found k in grind (arith, nat_tests, slice_get-set_other p.slots place (slot_of k) used, at-issue h k value l none);
        distinct = Distinct-issue h value l stands.distinct none;
        slots = λ other it found.
            let few = slice_get_within (set p.slots place used) other it found in
            let was = stands.slots other it in
            grind (arith, nat_tests, slice_get-set_other p.slots place other used, issued_at-slot h l, issued_at-issue other h value l);
        turns = λ k some.
            let was = stands.turns k in
            let within = slice_get_within p.slots place _ inserts.was_free in
            grind (arith, nat_tests, issued_at-slot h l, issued_at-issue k h value l, listed-issue k h value l, stands.once);
        live = omega (arith, stands.live, count_by-set is_live p.slots place _ used inserts.was_free, length-issue h value l);
        retired = omega (arith, stands.retired, count_by-set is_retired p.slots place _ used inserts.was_free, retired-issue p.generations h value l);
        few = rw length-set stands.few;
        once = stands.once;
      }

  -- a change in place is an update
  pub Stands-update : (p : Slots T) (l : List (Listed T)) (h : ℕ) (f : T → T) (value : T) → Stands p l → slot_value p h ≡ Some value
      → Stands (with_value p h (f value)) (update h f l)
  Stands-update p l h f value stands found =
      let slot = used_at_live (slice_get p.slots (slot_of h)) (generation_of h) value found in
      let stood = stands.slots (slot_of h) slot.0 slot.1 in
      let listed_at = sym (stands.found h) ∙ found in
      let new = used_slot (generation_of h) (f value) in
      let wrote = slice_get-set_same p.slots (slot_of h) new slot.0 slot.1 in
      let size = length-set p.slots (slot_of h) new in
      record {
        found = λ k.
            let was = stands.found k in
            grind (arith, nat_tests, slice_get-set_other p.slots (slot_of h) (slot_of k) new, at-update h k f value l listed_at);
        distinct = Distinct-update h f l stands.distinct;
        slots = λ place it read.
            let was = stands.slots place it in
            grind (arith, nat_tests, slice_get-set_other p.slots (slot_of h) place new, issued_at-change place h (with_fields f) (λ r. refl) l);
        turns = λ k some.
            let was = stands.turns k in
            grind (arith, nat_tests, listed-change k h (with_fields f) (λ r. refl) l, issued_at-change k h (with_fields f) (λ r. refl) l);
        live = grind (arith, nat_tests, stands.live, count_by-set is_live p.slots (slot_of h) slot.0 new slot.1, length-update h f l);
        retired = grind (arith, nat_tests, stands.retired, count_by-set is_retired p.slots (slot_of h) slot.0 new slot.1, retired-update p.generations h f l);
        few = rw length-set stands.few;
        once = stands.once;
      }

  -- the same, where the handle may not be live
  pub Stands-changed : (p : Slots T) (l : List (Listed T)) (h : ℕ) (f : T → T) → Stands p l → Stands (changed p h f) (update h f l)
  Stands-changed p l h f stands = by_value (slot_value p h) refl
    where
      by_value : (o : Option T) → slot_value p h ≡ o → Stands (changed p h f) (update h f l)
      by_value None is = rw (is, change-none h (with_fields f) l (sym (stands.found h) ∙ is)) stands
      by_value (Some value) is = rw is (Stands-update p l h f value stands is)

  -- a removal retires the object
  pub Stands-remove : (p : Slots T) (l : List (Listed T)) (h : ℕ) (value : T) → Stands p l → slot_value p h ≡ Some value → Stands (without p h) (retire h l)
  Stands-remove p l h value stands found =
      let slot = used_at_live (slice_get p.slots (slot_of h)) (generation_of h) value found in
      let stood = stands.slots (slot_of h) slot.0 slot.1 in
      let listed_at = sym (stands.found h) ∙ found in
      let new = slot_after p.generations (generation_of h) in
      let wrote = slice_get-set_same p.slots (slot_of h) new slot.0 slot.1 in
      let size = length-set p.slots (slot_of h) new in
      record {
        found = λ k.
            let was = stands.found k in
            grind (arith, nat_tests, slice_get-set_other p.slots (slot_of h) (slot_of k) new, at-retire h k l stands.distinct);
        distinct = Distinct-retire h l stands.distinct;
        slots = λ place it read.
            let was = stands.slots place it in
            grind (arith, nat_tests, slice_get-set_other p.slots (slot_of h) place new, issued_at-change place h gone (λ r. refl) l);
        turns = λ k some.
            let was = stands.turns k in
            grind (arith, nat_tests, listed-change k h gone (λ r. refl) l, issued_at-change k h gone (λ r. refl) l);
        live = grind (arith, nat_tests, stands.live, count_by-set is_live p.slots (slot_of h) slot.0 new slot.1, length-retire h value l listed_at);
        retired =
            let counted = count_by-set is_retired p.slots (slot_of h) slot.0 new slot.1 in
            grind (arith, nat_tests, stands.retired, retired-retire p.generations h value l listed_at);
        few = rw length-set stands.few;
        once = stands.once;
      }

  -- an object that changes and stops being live at once: the change leaves nothing in its slot
  pub Stands-change_and_remove : (p : Slots T) (l : List (Listed T)) (h : ℕ) (f : T → T) (value : T) → Stands p l → slot_value p h ≡ Some value
      → Stands (without p h) (retire h (update h f l))
  Stands-change_and_remove p l h f value stands found =
      let at = used_at_live (slice_get p.slots (slot_of h)) (generation_of h) value found in
      let read : slot_value (with_value p h (f value)) h ≡ Some (f value) =
      rw (slice_get-set_same p.slots (slot_of h) (used_slot (generation_of h) (f value)) _ at.1) (value_at-used_same (generation_of h) (f value)) in
      let removed = Stands-remove (with_value p h (f value)) (update h f l) h (f value) (Stands-update p l h f value stands found) read in
      rw (set-set p.slots (slot_of h) (used_slot (generation_of h) (f value)) (slot_after p.generations (generation_of h))) at removed

  -- the pool is full exactly where no further object can be made
  pub is_full-same : (p : Slots T) (l : List (Listed T)) → Stands p l → is_full p.generations (max_of p) l ≡ (live_count p + retired_count p == max_of p)
  unfolding is_full
  is_full-same p l stands = rw (stands.live, stands.retired) refl

  pub IsFull-limit : (p : Slots T) (l : List (Listed T)) → Stands p l → IsFull p ↔ (is_full p.generations (max_of p) l ≡ true)
  IsFull-limit p l stands = (
    λ full. is_full-same p l stands ∙ eq-eqb (live_count p + retired_count p) (max_of p) full,
    λ limit. eqb-true (live_count p + retired_count p) (max_of p) (sym (is_full-same p l stands) ∙ limit),
  )

  pub IsFull-room : (p : Slots T) (l : List (Listed T)) → Stands p l → (IsFull p → ⊥) → is_full p.generations (max_of p) l ≡ false
  IsFull-room p l stands room = is_full-same p l stands ∙ ne_eqb (live_count p + retired_count p) (max_of p) room
