-- The slots of a pool, each value mapped: what another reads of the values.
use Rattle.std.specs.Prelude.{map}
use Rattle.std.specs.Option.{option_map}
use Rattle.handle_pool.specs.Slots.{Slot, Slots}

module _ {A B : Type 0} (f : A → B) where
  -- the slot with its value mapped, if it has one
  abbrev pub mapped_slot : Slot A → Slot B
  mapped_slot slot = record { generation = slot.generation; value = option_map f slot.value; retired = slot.retired }

  -- each slot so
  abbrev pub mapped : Slots A → Slots B
  mapped p = record { generations = p.generations; slots = map mapped_slot p.slots }
