-- What the places end as, where a `&mut` to the value of one of them is returned.
use Rattle.std.specs.Prelude.{ℕ, List}
use Rattle.std.specs.Borrow.{Lends, Fml, RattleType, MutBor}
use Rattle.handle_pool.specs.Place.{with_value_at}
use Rattle.handle_pool.specs.declared.places.Place.{Place}
use Rattle.handle_pool.specs.contracts.places.Places.{the_row}

module _ (T : RattleType) (p : MutBor (List (Place T.Denot))) (place : ℕ) where
  -- once the borrow ends, the place has the last value written through it
  abbrev pub lends_place : MutBor T.Denot → Fml
  lends_place r = Lends (the_row T) T p r (with_value_at p.now place)
