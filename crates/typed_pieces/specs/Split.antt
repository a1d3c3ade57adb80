-- What a piece that may split promises.
use Rattle.std.specs.Prelude.{◌≡◌, List, [], ◌∷◌}
use Rattle.typed_pieces.specs.declared.split.Outcome.{Outcome}
use Rattle.typed_pieces.specs.declared.split.Outcome.TheVariants as outcome

-- there is a result for each of these pieces, in their order, and each is one that its piece promises
abbrev pub AllKept : {P D : Type 0} → (P → D → Type 0) → List P → List D → Type 0
AllKept {P} {D} promise [] results = results ≡ []
AllKept {P} {D} promise (p ∷ ps) results = (d : D) × (ds : List D) × (results ≡ d ∷ ds) × promise p d × AllKept promise ps ds

-- whatever results the parts have that each of them promises, the piece promises what the join gives of them
abbrev pub JoinsTo : {P D J : Type 0} → (P → D → Type 0) → (J → List D → D → Type 0) → P → List P → J → Type 0
JoinsTo {P} {D} promise joined piece parts join = (ds : List D) (d : D) → AllKept promise parts ds → joined join ds d → promise piece d

-- what has come of this piece keeps what it promises: its result does, or what the join gives of the results of its parts
abbrev pub IsKeptBy : {P D J : Type 0} → (P → D → Type 0) → (J → List D → D → Type 0) → P → Outcome P D J → Type 0
IsKeptBy promise joined piece (outcome.Done d) = promise piece d
IsKeptBy promise joined piece (outcome.Parts parts join) = JoinsTo promise joined piece parts.items join
