-- How a search goes on, which no public clause names.
use Rattle.std.specs.Prelude.{◌≡◌, ℕ, ◌≤◌, Bool, List, [], ◌∷◌, ◌++◌, length, Some, slice_get, if◌then◌else◌}
use Rattle.std.specs.List.{list_any}
use Rattle.graph_search.specs.declared.found.Origin.{Origin}
use Rattle.graph_search.specs.Visits.{FollowedBelow, Closed, AreStops, Reached}

-- the states that are visited, and how all but the first were reached
pub record Visits (S L : Type 0) : Type 0 where
  pub states : List S
  pub origins : List (Origin L)

abbrev pub visits : {S L : Type 0} → List S → List (Origin L) → Visits S L
visits states origins = record { states = states; origins = origins }

-- the state of a step goes last, with its origin, unless it is visited already
abbrev pub visit_step : {S L : Type 0} → (S → S → Bool) → ℕ → L × S → Visits S L → Visits S L
visit_step eq from step v =
    if list_any (eq step.1) v.states then v
    else visits (v.states ++ step.1 ∷ []) (v.origins ++ record { from = from; label = step.0 } ∷ [])

-- the same of each step, the last one first
abbrev pub visit_steps : {S L : Type 0} → (S → S → Bool) → ℕ → List (L × S) → Visits S L → Visits S L
visit_steps eq from [] v = v
visit_steps eq from (step ∷ steps) v = visit_step eq from step (visit_steps eq from steps v)

-- the stops after a state with these steps is followed
abbrev pub stops_after : {X : Type 0} → List X → ℕ → List ℕ → List ℕ
stops_after [] place stops = stops ++ place ∷ []
stops_after (step ∷ steps) place stops = stops

module _ {S L : Type 0} (has_steps : S → List (L × S) → Type 0) where
  -- the state at this place was followed
  pub record FollowsState (eq : S → S → Bool) (place : ℕ) (old : Visits S L) (stops : List ℕ) (new : Visits S L) (new_stops : List ℕ) : Type 0 where
    pub state : S
    pub steps : List (L × S)
    pub stands : slice_get old.states place ≡ Some state
    pub all : has_steps state steps
    pub visited : new ≡ visit_steps eq place steps old
    pub told : new_stops ≡ stops_after steps place stops

  -- the first states are followed
  pub record IsSearched (opens : S → Type 0) (eq : S → S → Bool) (n : ℕ) (v : Visits S L) (stops : List ℕ) : Type 0 where
    pub reached : Reached has_steps opens v.states v.origins
    pub followed : FollowedBelow has_steps eq v.states stops n
    pub stopped : AreStops has_steps v.states stops

  -- all states are followed, unless there are more than may be kept
  pub record IsSearchedUpTo (opens : S → Type 0) (eq : S → S → Bool) (most : ℕ) (v : Visits S L) (stops : List ℕ) : Type 0 where
    pub reached : Reached has_steps opens v.states v.origins
    pub closed : length v.states ≤ most → Closed has_steps eq v.states stops
    pub stopped : AreStops has_steps v.states stops
