-- What a journal holds.
use Rattle.std.specs.Prelude.{ℕ, Bool, List, [], ◌∷◌, if◌then◌else◌}
use Rattle.mtapi_machine.specs.Legal.{NodeEntry}

-- entries, and as many numbers, one beside each
pub record KeptEntries : Type 0 where
  pub entries : List NodeEntry
  pub skipped : List ℕ

-- what one entry adds
abbrev pub kept_of : Bool → NodeEntry → List NodeEntry
kept_of dropped e = if dropped then [] else e ∷ []

abbrev pub skipped_of : Bool → ℕ → List ℕ
skipped_of dropped n = if dropped then [] else n ∷ []
