-- What a visit keeps.
use Rattle.std.proofs.Common.{◌≡◌, ℕ, zero, suc, ◌+◌, ◌-◌, ◌<◌, ◌≤◌, Bool, true, false, ◌||◌, List, [], ◌∷◌, ◌++◌, length, Option, Some, slice_get, get_or, reverse, if◌then◌else◌, refl, sym, ap, ◌∙◌, subst, append_assoc, arith, below_more, ◌⊎◌, inl, inr}
use Rattle.std.specs.List.{list_any, IsAmong}
use Rattle.std.proofs.lemmas.List.{append-nil, length-append, reverse-append}
use Rattle.std.proofs.lemmas.List.Folds.{list_any-append}
use Rattle.std.proofs.lemmas.Option.{slice_get_within, slice_get_read}
use Rattle.graph_search.specs.declared.found.Origin.{Origin}
use Rattle.graph_search.specs.Paths.{Leads, Path}
use Rattle.graph_search.specs.Visits.{Visited, LeadToVisited, IsFollowed, IsStop, AreStops, Reached, opening, further, LeadsTo}
use Rattle.graph_search.specs.Visiting.{Visits, visits, visit_step, visit_steps, stops_after, FollowsState, IsSearched, IsSearchedUpTo}

-- what stands at a place stays there as the list grows
pub get_left : {X : Type 0} (xs ys : List X) (i : ℕ) (x : X) → slice_get xs i ≡ Some x → slice_get (xs ++ ys) i ≡ Some x
get_left [] ys i x h = absurd cc
get_left (z ∷ xs) ys zero x h = h
get_left (z ∷ xs) ys (suc i) x h = get_left xs ys i x h

-- and below the old length nothing else does
pub get_back : {X : Type 0} (xs ys : List X) (i : ℕ) (x : X) → i < length xs → slice_get (xs ++ ys) i ≡ Some x → slice_get xs i ≡ Some x
get_back [] ys i x h e = absurd (omega arith)
get_back (z ∷ xs) ys zero x h e = e
get_back (z ∷ xs) ys (suc i) x h e = get_back xs ys i x (omega arith) e

-- below the length there is an element
pub get_some : {X : Type 0} (xs : List X) (i : ℕ) → i < length xs → (x : X) × (slice_get xs i ≡ Some x)
get_some [] i h = absurd (omega arith)
get_some (z ∷ xs) zero h = (z, refl)
get_some (z ∷ xs) (suc i) h = get_some xs i (omega arith)

some_once : {X : Type 0} (o : Option X) (x y : X) → o ≡ Some x → o ≡ Some y → x ≡ y
some_once o x y h k = cc

-- the element of a list is at its place
pub get_here : {X : Type 0} (xs : List X) (i : ℕ) (x : X) → i < length xs → x ≡ get_or xs i x → slice_get xs i ≡ Some x
get_here xs i x h e = slice_get_read xs (length xs) i x refl h e

pub get_last : {X : Type 0} (xs : List X) (x : X) → slice_get (xs ++ x ∷ []) (length xs) ≡ Some x
get_last [] x = refl
get_last (z ∷ xs) x = get_last xs x

module _ {S L : Type 0} where
  -- the states of the later visits are those of the earlier ones, and more
  abbrev pub Grows : Visits S L → Visits S L → Type 0
  Grows v w = (more : List S) × (w.states ≡ v.states ++ more)

  grows_same : (v : Visits S L) → Grows v v
  grows_same v = ([], sym (append-nil v.states))

  grows_on : (u v w : Visits S L) → Grows u v → Grows v w → Grows u w
  grows_on u v w (a, e) (b, f) = (a ++ b, f ∙ ap (λ xs. xs ++ b) e ∙ append_assoc u.states a b)

module _ {S L : Type 0} (eq : S → S → Bool) (from : ℕ) where
  -- the last step is visited first
  pub visit_steps-snoc : (steps : List (L × S)) (x : L × S) (v : Visits S L)
      → visit_steps eq from (steps ++ x ∷ []) v ≡ visit_steps eq from steps (visit_step eq from x v)
  visit_steps-snoc [] x v = refl
  visit_steps-snoc (y ∷ steps) x v = ap (visit_step eq from y) (visit_steps-snoc steps x v)

  step_grows : (x : L × S) (v : Visits S L) → Grows v (visit_step eq from x v)
  step_grows x v =
      elim (list_any (eq x.1) v.states)
      as (λ b. Grows v (if b then v else visits (v.states ++ x.1 ∷ []) (v.origins ++ record { from = from; label = x.0 } ∷ [])))
      [ true ↦ grows_same v | false ↦ (x.1 ∷ [], refl) ]

  pub steps_grow : (steps : List (L × S)) (v : Visits S L) → Grows v (visit_steps eq from steps v)
  steps_grow [] v = grows_same v
  steps_grow (x ∷ steps) v = grows_on v (visit_steps eq from steps v) (visit_step eq from x (visit_steps eq from steps v)) (steps_grow steps v)
      (step_grows x (visit_steps eq from steps v))

-- a visited state stays visited
visited_more : {S : Type 0} (eq : S → S → Bool) (s : S) (states more : List S) → Visited eq states s → Visited eq (states ++ more) s
visited_more eq s states more h = list_any-append (eq s) states more ∙ ap (λ b. b || list_any (eq s) more) h

visited_last : {S : Type 0} (eq : S → S → Bool) (s : S) (states : List S) → eq s s ≡ true → list_any (eq s) states ≡ false → Visited eq (states ++ s ∷ []) s
visited_last eq s states h e =
    list_any-append (eq s) states (s ∷ []) ∙ ap (λ b. b || (eq s s || false)) e ∙ ap (λ b. b || false) h

lead_more : {S L : Type 0} (eq : S → S → Bool) (states more : List S) (steps : List (L × S))
    → LeadToVisited eq states steps → LeadToVisited eq (states ++ more) steps
lead_more eq states more [] h = tt
lead_more eq states more (x ∷ steps) h = (visited_more eq x.1 states more h.0, lead_more eq states more steps h.1)

module _ {S L : Type 0} (eq : S → S → Bool) (from : ℕ) (same : (s : S) → eq s s ≡ true) where
  visits_it : (x : L × S) (v : Visits S L) (b : Bool) → list_any (eq x.1) v.states ≡ b
      → Visited eq (if b then v else visits (v.states ++ x.1 ∷ []) (v.origins ++ record { from = from; label = x.0 } ∷ [])).states x.1
  visits_it x v true e = e
  visits_it x v false e = visited_last eq x.1 v.states (same x.1) e

  -- each of the steps leads to a visited state afterwards
  pub visit_steps_lead : (steps : List (L × S)) (v : Visits S L) → LeadToVisited eq (visit_steps eq from steps v).states steps
  visit_steps_lead [] v = tt
  visit_steps_lead (x ∷ steps) v =
      let w = visit_steps eq from steps v in
      let g = step_grows eq from x w in
      let more = lead_more eq w.states g.0 steps (visit_steps_lead steps v) in
      (visits_it x w (list_any (eq x.1) w.states) refl, subst (λ states. LeadToVisited eq states steps) (sym g.1) more)

module _ {S L : Type 0} (has_steps : S → List (L × S) → Type 0) (opens : S → Type 0) (eq : S → S → Bool) where
  -- a visit of what a step leads to keeps that each state is reached
  reached_step : (from : ℕ) (s : S) (x : L × S) (v : Visits S L) → slice_get v.states from ≡ Some s → Leads has_steps s x.0 x.1
      → Reached has_steps opens v.states v.origins → Reached has_steps opens (visit_step eq from x v).states (visit_step eq from x v).origins
  reached_step from s x v stands leads r =
      elim (list_any (eq x.1) v.states)
      as (λ b. let w : Visits S L = if b then v else visits (v.states ++ x.1 ∷ []) (v.origins ++ record { from = from; label = x.0 } ∷ []) in
      Reached has_steps opens w.states w.origins)
      [ true ↦ r | false ↦ further (record { from = from; label = x.0 }) r stands leads ]

  reached_steps : (from : ℕ) (s : S) (whole : List (L × S)) → has_steps s whole → (steps : List (L × S))
      → ((y : L × S) → IsAmong steps y → IsAmong whole y) → (v : Visits S L) → slice_get v.states from ≡ Some s
      → Reached has_steps opens v.states v.origins → Reached has_steps opens (visit_steps eq from steps v).states (visit_steps eq from steps v).origins
  reached_steps from s whole all [] inside v stands r = r
  reached_steps from s whole all (x ∷ steps) inside v stands r =
      let w = visit_steps eq from steps v in
      let g = steps_grow eq from steps v in
      let there : slice_get w.states from ≡ Some s = subst (λ states. slice_get states from ≡ Some s) (sym g.1) (get_left v.states g.0 from s stands) in
      let rest : (y : L × S) → IsAmong steps y → IsAmong whole y = λ y a. inside y (suc a.0, (omega (arith, a.1.0), a.1.1)) in
      reached_step from s x w there (whole, all, inside x (0, (omega arith, refl)))
      (reached_steps from s whole all steps rest v stands r)

  stop_more : (states more : List S) (place : ℕ) → IsStop has_steps states place → IsStop has_steps (states ++ more) place
  stop_more states more place (s, stands, none) = (s, get_left states more place s stands, none)

  stops_more : (states more : List S) (stops : List ℕ) → AreStops has_steps states stops → AreStops has_steps (states ++ more) stops
  stops_more states more [] h = tt
  stops_more states more (k ∷ stops) h = (stop_more states more k h.0, stops_more states more stops h.1)

  stops_snoc : (states : List S) (stops : List ℕ) (place : ℕ) → AreStops has_steps states stops → IsStop has_steps states place
      → AreStops has_steps states (stops ++ place ∷ [])
  stops_snoc states [] place h k = (k, tt)
  stops_snoc states (j ∷ stops) place h k = (h.0, stops_snoc states stops place h.1 k)

  stopped_after : (states : List S) (s : S) (steps : List (L × S)) (place : ℕ) (stops : List ℕ) → slice_get states place ≡ Some s → has_steps s steps
      → AreStops has_steps states stops → AreStops has_steps states (stops_after steps place stops)
  stopped_after states s [] place stops stands all h = stops_snoc states stops place h (s, stands, all)
  stopped_after states s (x ∷ steps) place stops stands all h = h

-- what is told stays told
among_left : (xs : List ℕ) (y k : ℕ) → IsAmong xs k → IsAmong (xs ++ y ∷ []) k
among_left [] y k (i, (h, e)) = absurd (omega arith)
among_left (x ∷ xs) y k (zero, (h, e)) = (0, (omega arith, e))
among_left (x ∷ xs) y k (suc i, (h, e)) = let r = among_left xs y k (i, (omega arith, e)) in (suc r.0, (omega (arith, r.1.0), r.1.1))

among_last : (xs : List ℕ) (k : ℕ) → IsAmong (xs ++ k ∷ []) k
among_last [] k = (0, (omega arith, refl))
among_last (x ∷ xs) k = let r = among_last xs k in (suc r.0, (omega (arith, r.1.0), r.1.1))

told_more : {X : Type 0} (steps : List X) (place k : ℕ) (stops : List ℕ) → IsAmong stops k → IsAmong (stops_after steps place stops) k
told_more [] place k stops h = among_left stops place k h
told_more (x ∷ steps) place k stops h = h

told_now : {X : Type 0} (steps : List X) (place : ℕ) (stops : List ℕ) → steps ≡ [] → IsAmong (stops_after steps place stops) place
told_now [] place stops e = among_last stops place
told_now (x ∷ steps) place stops e = absurd cc

module _ {S L : Type 0} (has_steps : S → List (L × S) → Type 0) (opens : S → Type 0) (eq : S → S → Bool) (same : (s : S) → eq s s ≡ true) where
  followed_more : {X : Type 0} (xs : List X) (at : ℕ) (states more : List S) (stops : List ℕ) (place : ℕ) (s : S) → IsFollowed has_steps eq states stops place s
      → IsFollowed has_steps eq (states ++ more) (stops_after xs at stops) place s
  followed_more xs at states more stops place s f = record {
    steps = f.steps;
    all = f.all;
    visited = lead_more eq states more f.steps f.visited;
    told = λ e. told_more xs at place stops (f.told e);
  }

  next_followed : (n : ℕ) (v : Visits S L) (stops : List ℕ) (state : S) (steps : List (L × S)) → has_steps state steps → (s : S) (states : List S)
      → states ≡ (visit_steps eq n steps v).states → slice_get states n ≡ Some s → slice_get states n ≡ Some state
      → IsFollowed has_steps eq states (stops_after steps n stops) n s
  next_followed n v stops state steps all s states is stands there = record {
    steps = steps;
    all = subst (λ t. has_steps t steps) (some_once (slice_get states n) state s there stands) all;
    visited = subst (λ states. LeadToVisited eq states steps) (sym is) (visit_steps_lead eq n same steps v);
    told = told_now steps n stops;
  }

  searched_to : (n : ℕ) (v : Visits S L) (stops : List ℕ) → IsSearched has_steps opens eq n v stops → (state : S) (steps : List (L × S))
      → slice_get v.states n ≡ Some state → has_steps state steps → IsSearched has_steps opens eq (n + 1) (visit_steps eq n steps v) (stops_after steps n stops)
  searched_to n v stops a state steps at all =
      let g = steps_grow eq n steps v in
      let now = visit_steps eq n steps v in
      let new = stops_after steps n stops in
      let there : slice_get now.states n ≡ Some state = subst (λ states. slice_get states n ≡ Some state) (sym g.1) (get_left v.states g.0 n state at) in
      let reached = reached_steps has_steps opens eq n state steps all steps (λ y h. h) v at a.reached in
      let stopped = stopped_after has_steps opens eq now.states state steps n stops there all
      (subst (λ states. AreStops has_steps states stops) (sym g.1) (stops_more has_steps opens eq v.states g.0 stops a.stopped)) in
      let short : n < length v.states = slice_get_within v.states n state at in
      let P : ℕ → Type 0 = λ place. (s : S) → slice_get now.states place ≡ Some s → IsFollowed has_steps eq now.states new place s in
      let old : (place : ℕ) → place < n → P place = λ place below s stands.
      let before = get_back v.states g.0 place s (omega arith) (subst (λ states. slice_get states place ≡ Some s) g.1 stands) in
      subst (λ states. IsFollowed has_steps eq states new place s) (sym g.1)
      (followed_more steps n v.states g.0 stops place s (a.followed place below s before)) in
      let this : P n = λ s stands. next_followed n v stops state steps all s now.states refl stands there in
      record { reached = reached; followed = below_more P n old this; stopped = stopped }

  -- after the next state is followed, one more is
  pub searched_on : (n : ℕ) (v w : Visits S L) (stops new_stops : List ℕ) → IsSearched has_steps opens eq n v stops
      → FollowsState has_steps eq n v stops w new_stops → IsSearched has_steps opens eq (n + 1) w new_stops
  searched_on n v w stops new_stops a f =
      subst (λ u. IsSearched has_steps opens eq (n + 1) u new_stops) (sym f.visited)
      (subst (IsSearched has_steps opens eq (n + 1) (visit_steps eq n f.steps v)) (sym f.told) (searched_to n v stops a f.state f.steps f.stands f.all))

  -- with as many followed as there are, or as may be kept, the search is over
  pub searched_all : (n most : ℕ) (v : Visits S L) (stops : List ℕ) → IsSearched has_steps opens eq n v stops
      → (length v.states ≤ most → length v.states ≤ n) → IsSearchedUpTo has_steps opens eq most v stops
  searched_all n most v stops a h = record {
    reached = a.reached;
    closed = λ small place s stands. let within = slice_get_within v.states place s stands in let all = h small in a.followed place (omega arith) s stands;
    stopped = a.stopped;
  }

module _ {S L : Type 0} (has_steps : S → List (L × S) → Type 0) (opens : S → Type 0) where
  -- where the opening alone is visited
  pub begun : (eq : S → S → Bool) (states : List S) (origins : List (Origin L)) (stops : List ℕ) (s : S) → opens s → states ≡ s ∷ [] → origins ≡ [] → stops ≡ []
      → IsSearched has_steps opens eq 0 (visits states origins) stops
  begun eq states origins stops s o e f h = record {
    reached = subst (λ xs. Reached has_steps opens xs origins) (sym e) (subst (λ os. Reached has_steps opens (s ∷ []) os) (sym f) (opening o));
    followed = λ place below. absurd (omega arith);
    stopped = subst (λ ks. AreStops has_steps states ks) (sym h) tt;
  }

  -- there is one origin less than there are states
  pub reached_length : (states : List S) (origins : List (Origin L)) → Reached has_steps opens states origins → length states ≡ suc (length origins)
  reached_length states origins (opening o) = refl
  reached_length states origins (further {states = ss} {origins = os} {t = t} o r stands leads) =
      let n = reached_length ss os r in omega (arith, n, length-append ss (t ∷ []), length-append os (o ∷ []))

  -- the state at place 0 is an opening
  pub reached_first : (states : List S) (origins : List (Origin L)) → Reached has_steps opens states origins → (s : S) × (slice_get states 0 ≡ Some s) × opens s
  reached_first states origins (opening {s = s} o) = (s, refl, o)
  reached_first states origins (further {states = ss} {origins = os} {t = t} o r stands leads) =
      let f = reached_first ss os r in (f.0, get_left ss (t ∷ []) 0 f.0 f.1, f.2)

  -- a step leads to the state behind an origin, from an earlier one
  pub record Before (states : List S) (k : ℕ) (o : Origin L) : Type 0 where
    pub earlier : o.from ≤ k
    pub source : S
    pub target : S
    pub at_source : slice_get states o.from ≡ Some source
    pub at_target : slice_get states (suc k) ≡ Some target
    pub leads : Leads has_steps source o.label target

  before_more : (states : List S) (t : S) (k : ℕ) (o : Origin L) → Before states k o → Before (states ++ t ∷ []) k o
  before_more states t k o b = record {
    earlier = b.earlier;
    source = b.source;
    target = b.target;
    at_source = get_left states (t ∷ []) o.from b.source b.at_source;
    at_target = get_left states (t ∷ []) (suc k) b.target b.at_target;
    leads = b.leads;
  }

  below_or_last : (os : List (Origin L)) (o : Origin L) (k : ℕ) (p : Origin L) → slice_get (os ++ o ∷ []) k ≡ Some p
      → (slice_get os k ≡ Some p) ⊎ ((k ≡ length os) × (o ≡ p))
  below_or_last [] o zero p e = inr (refl, cc)
  below_or_last [] o (suc k) p e = absurd cc
  below_or_last (x ∷ os) o zero p e = inl e
  below_or_last (x ∷ os) o (suc k) p e =
      elim (below_or_last os o k p e) [ inl h ↦ inl h | inr h ↦ inr (ap suc h.0, h.1) ]

  before_last : (ss : List S) (os : List (Origin L)) (s t : S) (o : Origin L) → length ss ≡ suc (length os) → slice_get ss o.from ≡ Some s
      → Leads has_steps s o.label t → (k : ℕ) (p : Origin L) → k ≡ length os → o ≡ p → Before (ss ++ t ∷ []) k p
  before_last ss os s t o long stands leads k p h e =
      let within = slice_get_within ss o.from s stands in
      let here : Before (ss ++ t ∷ []) (length os) o = record {
        earlier = omega arith;
        source = s;
        target = t;
        at_source = get_left ss (t ∷ []) o.from s stands;
        at_target = subst (λ n. slice_get (ss ++ t ∷ []) n ≡ Some t) long (get_last ss t);
        leads = leads;
      } in
      subst (λ n. Before (ss ++ t ∷ []) n p) (sym h) (subst (Before (ss ++ t ∷ []) (length os)) e here)

  pub reached_before : (states : List S) (origins : List (Origin L)) → Reached has_steps opens states origins → (k : ℕ) (p : Origin L)
      → slice_get origins k ≡ Some p → Before states k p
  reached_before states origins (opening o) k p e = absurd cc
  reached_before states origins (further {states = ss} {origins = os} {s = s} {t = t} o r stands leads) k p e =
      elim (below_or_last os o k p e) [
        | inl h ↦ before_more ss t k p (reached_before ss os r k p h)
        | inr h ↦ before_last ss os s t o (reached_length ss os r) stands leads k p h.0 h.1
      ]

  -- steps with these labels, the last one first, lead from the state at one place to the state at another
  pub record LeadsFrom (states : List S) (at place : ℕ) (labels : List L) : Type 0 where
    pub within : at < length states
    pub from : S
    pub to : S
    pub at_from : slice_get states at ≡ Some from
    pub at_to : slice_get states place ≡ Some to
    pub path : Path has_steps from (reverse labels) to

  pub leads_at : (states : List S) (place : ℕ) → place < length states → LeadsFrom states place place []
  leads_at states place h =
      let s = get_some states place h in
      record { within = h; from = s.0; to = s.0; at_from = s.1; at_to = s.1; path = refl }

  -- one step further back
  pub leads_back : (states : List S) (origins : List (Origin L)) → Reached has_steps opens states origins → (k place : ℕ) (o : Origin L) (labels : List L)
      → slice_get origins k ≡ Some o → LeadsFrom states (suc k) place labels → LeadsFrom states o.from place (labels ++ o.label ∷ [])
  leads_back states origins r k place o labels e f =
      let b = reached_before states origins r k o e in
      let same = some_once (slice_get states (suc k)) b.target f.from b.at_target f.at_from in
      record {
        within = slice_get_within states o.from b.source b.at_source;
        from = b.source;
        to = f.to;
        at_from = b.at_source;
        at_to = f.at_to;
        path = subst (λ ls. Path has_steps b.source ls f.to) (sym (reverse-append labels (o.label ∷ [])))
            (b.target, b.leads, subst (λ u. Path has_steps u (reverse labels) f.to) (sym same) f.path);
      }

  pub leads_whole : (states : List S) (origins : List (Origin L)) → Reached has_steps opens states origins → (at place : ℕ) (labels whole : List L)
      → at ≡ 0 → whole ≡ reverse labels → LeadsFrom states at place labels → LeadsTo has_steps opens states place whole
  leads_whole states origins r at place labels whole h w f =
      let first = reached_first states origins r in
      let same = some_once (slice_get states 0) first.0 f.from first.1 (subst (λ n. slice_get states n ≡ Some f.from) h f.at_from) in
      record {
        from = f.from;
        to = f.to;
        opens_it = subst opens same first.2;
        stands = f.at_to;
        path = subst (λ ls. Path has_steps f.from ls f.to) (sym w) f.path;
      }

  -- the origin before a place that isn't the first
  pub origin_at : (states : List S) (origins : List (Origin L)) → Reached has_steps opens states origins → (at : ℕ) (o : Origin L)
      → at < length states → 0 < at → o ≡ get_or origins (at - 1) o → slice_get origins (at - 1) ≡ Some o
  origin_at states origins r at o within more e =
      let n = reached_length states origins r in get_here origins (at - 1) o (omega (arith, n)) e

  pub from_earlier : (states : List S) (origins : List (Origin L)) → Reached has_steps opens states origins → (at : ℕ) (o : Origin L)
      → at < length states → 0 < at → o ≡ get_or origins (at - 1) o → o.from < at
  from_earlier states origins r at o within more e =
      let b = reached_before states origins r (at - 1) o (origin_at states origins r at o within more e) in omega (arith, b.earlier)

  pub leads_further : (states : List S) (origins : List (Origin L)) → Reached has_steps opens states origins
      → (at place : ℕ) (o : Origin L) (labels new : List L)
      → 0 < at → o ≡ get_or origins (at - 1) o → new ≡ labels ++ o.label ∷ [] → LeadsFrom states at place labels → LeadsFrom states o.from place new
  leads_further states origins r at place o labels new more e is f =
      let same : at ≡ suc (at - 1) = omega arith in
      subst (LeadsFrom states o.from place) (sym is)
      (leads_back states origins r (at - 1) place o labels (origin_at states origins r at o f.within more e)
      (subst (λ n. LeadsFrom states n place labels) same f))
