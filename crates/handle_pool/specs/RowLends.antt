-- What a row ends as, where a `&mut` to its items is returned.
use Rattle.std.specs.Prelude.{ℕ, List, slice_set}
use Rattle.std.specs.Borrow.{Lends, Fml, RattleType, MutBor}
use denote.Array.{Array}
use Rattle.handle_pool.specs.declared.row.Row.{Row}
use Rattle.handle_pool.specs.contracts.row.Row.{the_row}

-- the row with other items
abbrev pub with_items : {X : Type 0} → Row X → List X → Row X
with_items r xs = record r { items = xs }

abbrev pub lends_items : (X : RattleType) → MutBor (Row X.Denot) → MutBor (List X.Denot) → Fml
lends_items X s r = Lends (the_row X) (Array X 0) s r (with_items s.now)

-- the row with another item in this place
abbrev pub with_item : {X : Type 0} → Row X → ℕ → X → Row X
with_item r place x = record r { items = slice_set r.items place x }

abbrev pub lends_item : (X : RattleType) → MutBor (Row X.Denot) → ℕ → MutBor X.Denot → Fml
lends_item X s place r = Lends (the_row X) X s r (with_item s.now place)
