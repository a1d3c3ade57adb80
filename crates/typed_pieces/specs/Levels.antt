-- The pieces of one level, and what came of them.
use Rattle.std.specs.Prelude.{◌≡◌, List, [], ◌∷◌, ◌++◌, length, take, drop, Vec}
use Rattle.std.specs.declared.alloc.Global.{Global}
use Rattle.typed_pieces.specs.declared.split.Outcome.{Outcome}
use Rattle.typed_pieces.specs.declared.split.Outcome.TheVariants as outcome
use Rattle.typed_pieces.specs.declared.level.Pending.{Pending}
use Rattle.typed_pieces.specs.declared.level.Pending.TheVariants as pending
use Rattle.typed_pieces.specs.Split.{JoinsTo}

-- a piece of which this came waits so
abbrev pub pending_of : {P D J : Type 0} → Outcome P D J → Pending D J
pending_of (outcome.Done d) = pending.Done d
pending_of (outcome.Parts parts join) = pending.Joins (length parts.items) join

-- the parts of a piece of which this came
abbrev pub parts_of : {P D J : Type 0} → Outcome P D J → List P
parts_of (outcome.Done d) = []
parts_of (outcome.Parts parts join) = parts.items

-- Each of these pieces has a result that it promises, or waits for those of its parts; and these are the parts, in the order of the pieces.
abbrev pub Waits : {P D J : Type 0} → (P → D → Type 0) → (J → List D → D → Type 0) → List P → List (Pending D J) → List P → Type 0
Waits {P} promise joined pieces [] parts = (pieces ≡ []) × (parts ≡ [])
Waits {P} promise joined pieces (pending.Done d ∷ level) parts =
    (p : P) × (ps : List P) × (pieces ≡ p ∷ ps) × promise p d × Waits promise joined ps level parts
Waits {P} promise joined pieces (pending.Joins count join ∷ level) parts =
    (p : P) × (ps : List P) × (own : List P) × (others : List P)
    × (pieces ≡ p ∷ ps) × (parts ≡ own ++ others) × (length own ≡ count) × JoinsTo promise joined p own join × Waits promise joined ps level others

-- a piece that waits so has this result, where these are the results of the parts of its level that are left, and these are left after it
abbrev pub GivesResult : {D J : Type 0} → (J → List D → D → Type 0) → Pending D J → List D → D → List D → Type 0
GivesResult joined (pending.Done e) results d left = (d ≡ e) × (left ≡ results)
GivesResult joined (pending.Joins count join) results d left = joined join (take count results) d × (left ≡ drop count results)

-- the pieces wait by these levels, each for the next, and these are the parts of the last
abbrev pub AreOpen : {P D J : Type 0} → (P → D → Type 0) → (J → List D → D → Type 0) → List P → List (Vec (Pending D J) Global) → List P → Type 0
AreOpen promise joined pieces [] parts = pieces ≡ parts
AreOpen {P} promise joined pieces (level ∷ levels) parts =
    (own : List P) × Waits promise joined pieces level.items own × AreOpen promise joined own levels parts
