-- What clients say of a pool's live values: which of them pass, and that no two have one key.
use Rattle.std.specs.Prelude.{◌≡◌, ℕ, ◌<◌, Bool, false, Option, Some, None, count_by}
use Rattle.handle_pool.specs.Slots.{Slot, Slots, slot_of, slot_value}

module _ {T : Type 0} where
  -- a slot in use has a value that passes
  abbrev pub value_passes : (T → Bool) → Slot T → Bool
  value_passes q slot = passes slot.value
    where
      passes : Option T → Bool
      passes None = false
      passes (Some value) = q value

  -- how many slots in use have a value that passes
  abbrev pub count_in : (T → Bool) → Slots T → ℕ
  count_in q p = count_by (value_passes q) p.slots

  -- some live handle has a value of which this holds
  abbrev pub SomeLive : (ℕ → Option T) → (T → Type 0) → Type 0
  SomeLive value_of P = (handle : ℕ) × (value : T) × (value_of handle ≡ Some value) × P value

  -- no live handle has one
  abbrev pub NoneLive : (ℕ → Option T) → (T → Type 0) → Type 0
  NoneLive value_of P = (handle : ℕ) (value : T) → value_of handle ≡ Some value → P value → ⊥

  -- no live handle of a slot below this place has one
  abbrev pub NoneBelow : Slots T → ℕ → (T → Type 0) → Type 0
  NoneBelow p place P = (handle : ℕ) (value : T) → slot_of handle < place → slot_value p handle ≡ Some value → P value → ⊥

  -- a live handle has a value of which this holds
  abbrev pub HasLive : Slots T → ℕ → (T → Type 0) → Type 0
  HasLive p handle P = (value : T) × (slot_value p handle ≡ Some value) × P value

  -- no two live values have one key
  pub record OneEach (key : T → ℕ) (p : Slots T) : Type 0 where
    pub only : (h k : ℕ) (v w : T) → slot_value p h ≡ Some v → slot_value p k ≡ Some w → key v ≡ key w → h ≡ k
