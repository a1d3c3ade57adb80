-- Slots with a list beside each.
use Rattle.std.specs.Prelude.{◌≡◌, ℕ, ◌≤◌, true, List, [], ◌∷◌, length, Some, None, slice_get}
use Rattle.std.specs.Option.{option_map}
use Rattle.handle_pool.specs.Slots.{Slot, Slots}
use Rattle.linked_places.specs.Lists.{list_at}

module _ {A C : Type 0} where
  -- the slot with its list put into its value
  abbrev pub slot_beside : (A → List ℕ → C) → Slot A → List ℕ → Slot C
  slot_beside f slot list = record { generation = slot.generation; value = option_map (λ v. f v list) slot.value; retired = slot.retired }

  -- each slot with the list of its number put into its value
  abbrev pub beside : (A → List ℕ → C) → List (Slot A) → List (List ℕ) → List (Slot C)
  beside f [] lists = []
  beside f (s ∷ ss) [] = slot_beside f s [] ∷ beside f ss []
  beside f (s ∷ ss) (l ∷ ls) = slot_beside f s l ∷ beside f ss ls

  -- the same of a whole pool
  abbrev pub pool_beside : (A → List ℕ → C) → Slots A → List (List ℕ) → Slots C
  pool_beside f p lists = record { generations = p.generations; slots = beside f p.slots lists }

-- there is a list for each slot, and a slot that holds nothing has an empty one
pub record AreBeside {A : Type 0} (slots : List (Slot A)) (lists : List (List ℕ)) : Type 0 where
  pub size : length lists ≡ length slots
  pub few : length slots ≤ 65536
  pub empty : (place : ℕ) (slot : Slot A) → slice_get slots place ≡ Some slot → slot.value ≡ None → list_at lists place ≡ []
  -- a retired slot holds nothing
  pub retired : (place : ℕ) (slot : Slot A) → slice_get slots place ≡ Some slot → slot.retired ≡ true → slot.value ≡ None
