-- What a search has visited.
use Rattle.std.specs.Prelude.{◌≡◌, ℕ, ◌<◌, Bool, true, List, [], ◌∷◌, ◌++◌, Some, slice_get}
use Rattle.std.specs.List.{list_any, IsAmong}
use Rattle.graph_search.specs.declared.found.Origin.{Origin}
use Rattle.graph_search.specs.Paths.{Leads, Path}

-- the state is equal to one of these
abbrev pub Visited : {S : Type 0} → (S → S → Bool) → List S → S → Type 0
Visited eq states s = list_any (eq s) states ≡ true

-- each of the steps leads to a visited state
abbrev pub LeadToVisited : {S L : Type 0} → (S → S → Bool) → List S → List (L × S) → Type 0
LeadToVisited eq states [] = Unit {0}
LeadToVisited eq states (step ∷ steps) = Visited eq states step.1 × LeadToVisited eq states steps

module _ {S L : Type 0} (has_steps : S → List (L × S) → Type 0) where
  -- the state's steps lead to visited states, and it is among the stops if there are none
  pub record IsFollowed (eq : S → S → Bool) (states : List S) (stops : List ℕ) (place : ℕ) (s : S) : Type 0 where
    pub steps : List (L × S)
    pub all : has_steps s steps
    pub visited : LeadToVisited eq states steps
    pub told : steps ≡ [] → IsAmong stops place

  -- each of the first states is followed
  abbrev pub FollowedBelow : (S → S → Bool) → List S → List ℕ → ℕ → Type 0
  FollowedBelow eq states stops n = (place : ℕ) → place < n → (s : S) → slice_get states place ≡ Some s → IsFollowed eq states stops place s

  -- each state is followed
  abbrev pub Closed : (S → S → Bool) → List S → List ℕ → Type 0
  Closed eq states stops = (place : ℕ) (s : S) → slice_get states place ≡ Some s → IsFollowed eq states stops place s

  -- the state at this place has no step
  abbrev pub IsStop : List S → ℕ → Type 0
  IsStop states place = (s : S) × (slice_get states place ≡ Some s) × has_steps s []

  -- at each of these places is a state without a step
  abbrev pub AreStops : List S → List ℕ → Type 0
  AreStops states [] = Unit {0}
  AreStops states (place ∷ places) = IsStop states place × AreStops states places

  -- the first state is an opening, and a step leads to each further one, from the place and with the label of its origin
  pub data Reached (opens : S → Type 0) : List S → List (Origin L) → Type 0 where
    opening : {s : S} → opens s → Reached opens (s ∷ []) []
    further : {states : List S} {origins : List (Origin L)} {s t : S} (o : Origin L)
        → Reached opens states origins → slice_get states o.from ≡ Some s → Leads has_steps s o.label t
        → Reached opens (states ++ t ∷ []) (origins ++ o ∷ [])

  -- the labels lead from an opening to the state at this place
  pub record LeadsTo (opens : S → Type 0) (states : List S) (place : ℕ) (labels : List L) : Type 0 where
    pub from : S
    pub to : S
    pub opens_it : opens from
    pub stands : slice_get states place ≡ Some to
    pub path : Path has_steps from labels to
