-- What it means that slots, which are used again, stand for a list of objects that only grows.
use Rattle.std.specs.Prelude.{◌≡◌, ℕ, ◌+◌, ◌<◌, ◌≤◌, Bool, true, false, List, [], ◌∷◌, length, Option, Some, None, slice_get}
use Rattle.handle_pool.specs.Slots.{Slot, Slots, slot_of, generation_of, slot_value, live_count, retired_count, max_of}
use Rattle.handle_pool.specs.Issued.{Listed, live_of, lookup, live_object, listed, issued_at, retired}

-- a handle of this slot and generation was issued: there is such a slot, and it had so many turns
pub record HadTurn (size generation turns slot : ℕ) : Type 0 where
  pub has_slot : slot < size
  pub at_least : 1 ≤ generation
  pub at_most : generation ≤ turns

module _ {T : Type 0} where
  -- no handle stands twice
  abbrev pub Distinct : List (ℕ × T) → Type 0
  Distinct [] = Unit {0}
  Distinct (e ∷ es) = (lookup es e.0 ≡ None) × Distinct es

  -- the generation of a slot that had so many turns: one more where it is empty and may be used again
  abbrev pub generation_after : Option T → Bool → ℕ → ℕ
  generation_after None false turns = turns + 1
  generation_after None true turns = turns
  generation_after (Some _) _ turns = turns

  -- a slot is as it has to be after so many turns
  pub record SlotStands (generations turns : ℕ) (slot : Slot T) : Type 0 where
    pub generation : slot.generation ≡ generation_after slot.value slot.retired turns
    pub at_most : slot.generation ≤ generations
    -- a retired slot is empty, and had its last turn
    pub retired : slot.retired ≡ true → (slot.generation ≡ generations) × (slot.value ≡ None)

  -- the slots stand for the list
  pub record Stands (p : Slots T) (l : List (Listed T)) : Type 0 where
    -- the live handles are the same, with the same fields
    pub found : (h : ℕ) → slot_value p h ≡ live_object l h
    -- no two live objects have one handle
    pub distinct : Distinct (live_of l)
    -- each slot's generation is the number of objects issued there, and one more where it is empty and not retired
    pub slots : (place : ℕ) (slot : Slot T) → slice_get p.slots place ≡ Some slot → SlotStands p.generations (issued_at place l) slot
    -- each listed handle had its turn
    pub turns : (h : ℕ) → 1 ≤ listed h l → HadTurn (max_of p) (generation_of h) (issued_at h l) (slot_of h)
    -- as many are live, and as many have retired
    pub live : live_count p ≡ length (live_of l)
    pub retired : retired_count p ≡ retired p.generations l
    -- the sizes of a pool
    pub few : max_of p ≤ 65536
    pub once : 1 ≤ p.generations
