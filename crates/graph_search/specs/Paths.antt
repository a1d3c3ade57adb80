-- Steps and paths of a graph.
use Rattle.std.specs.Prelude.{◌≡◌, List, [], ◌∷◌}
use Rattle.std.specs.List.{IsAmong}

-- which lists are all the steps of a state
module _ {S L : Type 0} (has_steps : S → List (L × S) → Type 0) where
  -- a step with this label leads from the one state to the other
  abbrev pub Leads : S → L → S → Type 0
  Leads s label t = (steps : List (L × S)) × has_steps s steps × IsAmong steps (label, t)

  -- steps with these labels lead from the one state to the other
  abbrev pub Path : S → List L → S → Type 0
  Path s [] t = s ≡ t
  Path s (label ∷ labels) t = (u : S) × Leads s label u × Path u labels t
