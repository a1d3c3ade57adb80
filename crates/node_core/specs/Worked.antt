-- Worked pools that agree with no list, though each differs from one that does in one number.
use Rattle.std.specs.Prelude.{ℕ, true, false, List, [], ◌∷◌}
use Rattle.mtapi_values.specs.declared.handles.ObjectKind.TheVariants as kind
use Rattle.handle_pool.specs.Slots.{Slots, free_slot, used_slot}
use Rattle.handle_pool.specs.Issued.{Listed}
use Rattle.node_core.specs.Parts.{AgreesIn, same_fields}

-- the handles of a task in the slots 0 and 1, of the first generation, as callers see them
abbrev pub in_slot_0 : ℕ
in_slot_0 = 4328521728

abbrev pub in_slot_1 : ℕ
in_slot_1 = 4328521729

-- one object was made in slot 0, and is gone
abbrev pub one_gone : List (Listed ℕ)
one_gone = record { handle = in_slot_0; live = false; fields = 7 } ∷ []

-- and one in slot 1 is live
abbrev pub one_live : List (Listed ℕ)
one_live = record { handle = in_slot_0; live = false; fields = 7 } ∷ record { handle = in_slot_1; live = true; fields = 8 } ∷ []

-- a pool of one empty slot, whose next object would have the handle of the one that is gone
abbrev pub same_turn : Slots ℕ
same_turn = record { generations = 5; slots = free_slot 1 ∷ [] }

-- a pool of two slots that may be used once, of which the empty one hasn't retired
abbrev pub none_retired : Slots ℕ
none_retired = record { generations = 1; slots = free_slot 2 ∷ used_slot 1 8 ∷ [] }

-- An empty slot goes on to its next generation, and a slot that had its last one counts as retired.
pub record WorkedAgreement : Type 0 where
  pub next_turn : AgreesIn kind.Task same_fields 5 same_turn one_gone → ⊥
  pub last_turn : AgreesIn kind.Task same_fields 1 none_retired one_live → ⊥
