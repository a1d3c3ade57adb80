-- What a group is after each call of a test.
use Rattle.std.proofs.Common.{◌≡◌, ℕ, Some, ap, ◌∙◌}
use Rattle.handle_pool.specs.Slots.{Slots, slot_value, changed}
use Rattle.handle_pool.proofs.GetLemmas.{get-with_value_same}
use Rattle.group_core.specs.Members.{Members, GroupTable}

pub value-changed : (p : Slots Members) (g : ℕ) (f : Members → Members) (m : Members) → slot_value p g ≡ Some m → slot_value (changed p g f) g ≡ Some (f m)
value-changed p g f m is = rw is (get-with_value_same p g m (f m) is)

pub value-after : (old new : GroupTable) (g : ℕ) (f : Members → Members) (m : Members) → new ≡ record old { pool = changed old.pool g f }
    → slot_value old.pool g ≡ Some m → slot_value new.pool g ≡ Some (f m)
value-after old new g f m made is = ap (λ (t : GroupTable). slot_value t.pool g) made ∙ value-changed old.pool g f m is
