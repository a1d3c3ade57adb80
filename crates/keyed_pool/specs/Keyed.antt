-- What a call on the value of a handle needs and leaves, and why a value isn't put into a pool.
use Rattle.std.specs.Prelude.{◌≡◌, ℕ, Option, Some, None}
use Rattle.std.specs.Borrow.{MutBor}
use Rattle.std.specs.Fn.{Once, FnOnceReturnsAtMut}
use Rattle.handle_pool.specs.Slots.{Slots, slot_value, with_value, IsFull}
use Rattle.handle_pool.specs.Walks.{SomeLive, NoneLive}
use Rattle.keyed_pool.specs.declared.InsertError.{InsertError}
use Rattle.keyed_pool.specs.declared.InsertError.TheVariants.{IdTaken, Full}

module _ {T : Type 0} where
  -- a live value has the id, or none has it and no slot may be used
  abbrev pub WhyRefused : Slots T → (T → Type 0) → InsertError → Type 0
  WhyRefused p HasId IdTaken = SomeLive (slot_value p) HasId
  WhyRefused p HasId Full = NoneLive (slot_value p) HasId × IsFull p

  module _ {F R : Type 0} (calls : Once F (MutBor T × Unit {0}) (R × (MutBor T × Unit {0}))) (change : F) where
    -- whatever the function makes of this value has the same id
    abbrev pub KeepsId : (T → ℕ) → Option T → Type 0
    KeepsId id value = (old new : T) (r : R) → value ≡ Some old → FnOnceReturnsAtMut calls change old r new → id new ≡ id old

    -- the function was called at the value of the handle, which left in place changes nothing; or the handle isn't live, and nothing changed
    abbrev pub Updates : ℕ → Slots T → Option R → Slots T → Type 0
    Updates handle old None new = (slot_value old handle ≡ None) × (new ≡ old)
    Updates handle old (Some r) new = (was now : T) × (slot_value old handle ≡ Some was) × (with_value old handle was ≡ old)
        × FnOnceReturnsAtMut calls change was r now × (new ≡ with_value old handle now)
