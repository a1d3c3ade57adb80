-- What a contract sees of a `Pool`.
use Rattle.std.specs.Prelude.{◌≡◌, ℕ, ◌+◌, ◌*◌, ◌/◌, ◌%◌, ◌^◌, ◌==◌, Bool, true, false, List, length, Option, Some, None, is_some, count_by, slice_get, slice_set, refl, if◌then◌else◌}
use Rattle.std.specs.Option.{option_map}
use Rattle.std.specs.Coded.{Coded, code_by, coded×, coded_ℕ, coded_bool, coded_list, coded_option}

-- the slot that a handle names
abbrev pub slot_of : ℕ → ℕ
slot_of handle = handle % 2 ^ 32

-- the generation that a handle names
abbrev pub generation_of : ℕ → ℕ
generation_of handle = handle / 2 ^ 32

-- a slot's generation, its value if it is in use, and whether it has retired
pub record Slot (T : Type 0) : Type 0 where
  pub generation : ℕ
  pub value : Option T
  pub retired : Bool

-- the last generation that a slot may have, and the slots
pub record Slots (T : Type 0) : Type 0 where
  pub generations : ℕ
  pub slots : List (Slot T)

abbrev pub slot_code : {T : Type 0} → Coded T → Coded (Slot T)
slot_code {T} code =
    code_by
    (ℕ × (Option T × Bool))
    (coded× coded_ℕ (coded× (coded_option code) coded_bool))
    (λ s. (s.generation, (s.value, s.retired)))
    (λ p. record { generation = p.0; value = p.1.0; retired = p.1.1 })
    (λ _. refl)

abbrev pub slots_code : {T : Type 0} → Coded T → Coded (Slots T)
slots_code {T} code =
    code_by
    (ℕ × List (Slot T))
    (coded× coded_ℕ (coded_list (slot_code code)))
    (λ s. (s.generations, s.slots))
    (λ p. record { generations = p.0; slots = p.1 })
    (λ _. refl)

module _ {T : Type 0} where
  -- a slot that is empty and may be used
  abbrev pub free_slot : ℕ → Slot T
  free_slot generation = record { generation = generation; value = None; retired = false }

  -- a slot in use
  abbrev pub used_slot : ℕ → T → Slot T
  used_slot generation value = record { generation = generation; value = Some value; retired = false }

  -- what a slot is once its value is taken: it retires at the last generation, and else goes on to
  -- the next one
  abbrev pub slot_after : ℕ → ℕ → Slot T
  slot_after generations generation =
      if generation == generations
      then record { generation = generation; value = None; retired = true }
      else free_slot (generation + 1)

  -- the slot's value, if the slot is there and has this generation
  abbrev pub value_at : Option (Slot T) → ℕ → Option T
  value_at None generation = None
  value_at (Some slot) generation = if slot.generation == generation then slot.value else None

  -- the value of a live handle
  abbrev pub slot_value : Slots T → ℕ → Option T
  slot_value p handle = value_at (slice_get p.slots (slot_of handle)) (generation_of handle)

  abbrev pub is_live : Slot T → Bool
  is_live slot = is_some slot.value

  abbrev pub is_retired : Slot T → Bool
  is_retired slot = slot.retired

  -- how many slots are in use
  abbrev pub live_count : Slots T → ℕ
  live_count p = count_by is_live p.slots

  -- how many slots have retired
  abbrev pub retired_count : Slots T → ℕ
  retired_count p = count_by is_retired p.slots

  -- how many slots there are
  abbrev pub max_of : Slots T → ℕ
  max_of p = length p.slots

  -- no slot may be used
  abbrev pub IsFull : Slots T → Type 0
  IsFull p = live_count p + retired_count p ≡ max_of p

  -- the slot of the handle has this value, and all else is as it was
  abbrev pub with_value : Slots T → ℕ → T → Slots T
  with_value p handle value = record p { slots = slice_set p.slots (slot_of handle) (used_slot (generation_of handle) value) }

  -- the slot of the handle has been given up
  abbrev pub without : Slots T → ℕ → Slots T
  without p handle = record p { slots = slice_set p.slots (slot_of handle) (slot_after p.generations (generation_of handle)) }

  -- the value went into a slot that was free, under this handle, and all else is as it was
  pub record Inserts (old new : Slots T) (handle : ℕ) (value : T) : Type 0 where
    pub was_free : slice_get old.slots (slot_of handle) ≡ Some (free_slot (generation_of handle))
    pub now : new ≡ with_value old handle value

  -- the handle and the value of a slot in use
  abbrev pub used_at : ℕ → Option (Slot T) → Option (ℕ × T)
  used_at place None = None
  used_at place (Some slot) = handle_in slot.value
    where
      handle_in : Option T → Option (ℕ × T)
      handle_in None = None
      handle_in (Some value) = Some (slot.generation * 2 ^ 32 + place, value)

  -- the slots once the value of a handle, if it is live, has become another
  abbrev pub put : Slots T → ℕ → Option T → Slots T
  put p handle None = p
  put p handle (Some value) = with_value p handle value

  -- the slots once the value of a handle, if it is live, has changed so
  abbrev pub changed : Slots T → ℕ → (T → T) → Slots T
  changed p handle f = put p handle (option_map f (slot_value p handle))
