-- What the piece at a place promises, if the results of its parts keep what these promise.
use Rattle.std.specs.Prelude.{◌≡◌, ℕ, List, Some, slice_get}
use Rattle.typed_pieces.specs.Split.{JoinsTo}

-- whatever results the parts have that each of them promises, the piece at this place promises what the join gives of them
abbrev pub JoinsAt : {P D J : Type 0} → (P → D → Type 0) → (J → List D → D → Type 0) → List P → ℕ → List P → J → Type 0
JoinsAt {P} promise joined pieces index parts join = (p : P) → slice_get pieces index ≡ Some p → JoinsTo promise joined p parts join
