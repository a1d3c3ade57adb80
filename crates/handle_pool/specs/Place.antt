-- How a `Pool` lays out its places. No public clause cites this module.
use Rattle.std.specs.Prelude.{◌≡◌, ℕ, true, zero, suc, ◌+◌, ◌^◌, ◌<◌, ◌≤◌, List, [], ◌∷◌, map, length, Option, Some, None, count_by, slice_get, slice_set}
use Rattle.handle_pool.specs.Slots.{Slot, free_slot, used_slot, is_live, is_retired}
use Rattle.handle_pool.specs.declared.places.Place.{Place}
use Rattle.handle_pool.specs.declared.places.Place.TheVariants.{Free, Live, Retired}

module _ {T : Type 0} where
  -- a retired place has the last generation
  abbrev pub slot_in : ℕ → Place T → Slot T
  slot_in generations (Free generation _) = free_slot generation
  slot_in generations (Live generation value) = used_slot generation value
  slot_in generations Retired = record { generation = generations; value = None; retired = true }

  -- the value in a place, if it has one
  abbrev pub value_in : Place T → Option T
  value_in (Free _ _) = None
  value_in (Live _ value) = Some value
  value_in Retired = None

  -- the place after a write through `value_mut`
  abbrev pub with_value_in : Place T → T → Place T
  with_value_in (Free generation next) new = Free generation next
  with_value_in (Live generation value) new = Live generation new
  with_value_in Retired new = Retired

  -- the generation and the value of a place in use
  abbrev pub used_in : Option (Place T) → Option (ℕ × T)
  used_in None = None
  used_in (Some (Free generation next)) = None
  used_in (Some (Live generation value)) = Some (generation, value)
  used_in (Some Retired) = None

  -- the places, with another value in this one if it is in use
  abbrev pub with_value_at : List (Place T) → ℕ → T → List (Place T)
  with_value_at es place new = written (slice_get es place)
    where
      written : Option (Place T) → List (Place T)
      written None = es
      written (Some e) = slice_set es place (with_value_in e new)

  -- from this place on so many places that were never used, each naming the next
  unfoldable pub fresh : ℕ → ℕ → List (Place T)
  fresh from zero = []
  fresh from (suc n) = Free 1 (from + 1) ∷ fresh (from + 1) n

  -- there is a place, and it is free
  abbrev pub IsFree : Option (Place T) → Type 0
  IsFree None = ⊥
  IsFree (Some (Free generation next)) = Unit {0}
  IsFree (Some (Live generation value)) = ⊥
  IsFree (Some Retired) = ⊥

  -- there is a place, and it has a value
  abbrev pub HasValue : Option (Place T) → Type 0
  HasValue None = ⊥
  HasValue (Some (Free generation next)) = ⊥
  HasValue (Some (Live generation value)) = Unit {0}
  HasValue (Some Retired) = ⊥

  -- from this place on, so many free places each name the next, and the last names the end
  abbrev pub IsFreeList : List (Place T) → ℕ → ℕ → Type 0
  IsFreeList es zero place = place ≡ length es
  IsFreeList es (suc count) place = (generation : ℕ) × (next : ℕ) × (slice_get es place ≡ Some (Free generation next))
      × IsFreeList es count next

  -- the generation is one that the settings allow
  abbrev pub HasGeneration : ℕ → Place T → Type 0
  HasGeneration generations (Free generation _) = (1 ≤ generation) × (generation ≤ generations)
  HasGeneration generations (Live generation _) = (1 ≤ generation) × (generation ≤ generations)
  HasGeneration generations Retired = Unit {0}

  pub record IsSound (es : List (Place T)) (generations live retired next : ℕ) : Type 0 where
    pub live_counted : live ≡ count_by is_live (map (slot_in generations) es)
    pub retired_counted : retired ≡ count_by is_retired (map (slot_in generations) es)
    pub free : ℕ
    pub total : live + retired + free ≡ length es
    pub linked : IsFreeList es free next
    pub some : 1 ≤ length es
    pub few : length es ≤ 65536
    pub top : (1 ≤ generations) × (generations < 2 ^ 32)
    pub generated : (place : ℕ) (e : Place T) → slice_get es place ≡ Some e → HasGeneration generations e
