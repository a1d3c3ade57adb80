-- The rule of a turn cell, and what each step tells.
-- Word 0 is the number of turns that are over, which is the length of the history, and word 1 the next ticket. The one slot has the object, and is away while a turn is held.
use Rattle.std.specs.Prelude.{◌≡◌, ◌≢◌, ℕ, zero, suc, ◌^◌, ◌<◌, ◌≤◌, ◌⊎◌, ◌==◌, Bool, cond, List, [], ◌∷◌, ◌++◌, map, length, Option, Some, Box}
use Rattle.std.specs.Box.{box_value}
use mathlib.Core.Option.{none, some}
use lib.ListN.{get_elem?}
use Rattle.atomic_table.specs.Table.{State, Me, Step, rest}
use Rattle.history.specs.declared.entries.Entry.{Entry}
use Rattle.history.specs.Histories.{StartsWith, entries_of}
use Rattle.turn_cell.specs.declared.parts.Part.{Part}
use Rattle.turn_cell.specs.declared.parts.Stage.{Stage}
use Rattle.turn_cell.specs.declared.parts.Stage.TheVariants.{Idle, Waits, Holds}
use Rattle.turn_cell.specs.Lists.{total_by, AllItems, one_if}

-- 1 where the seat waits for the ticket k or holds the object by it
abbrev pub waits_or_holds : ℕ → Stage → ℕ
waits_or_holds k Idle = 0
waits_or_holds k (Waits t) = one_if (t == k)
waits_or_holds k (Holds t) = one_if (t == k)

-- 1 where the seat holds the object by the ticket k
abbrev pub holds_turn : ℕ → Stage → ℕ
holds_turn k Idle = 0
holds_turn k (Waits t) = 0
holds_turn k (Holds t) = one_if (t == k)

module _ {T P Q : Type 0} where
  abbrev pub has_number : ℕ → Part T P Q → ℕ
  has_number k p = one_if (p.number == k)

  abbrev pub has_ticket : ℕ → Part T P Q → ℕ
  has_ticket k p = waits_or_holds k p.stage

  abbrev pub has_turn : ℕ → Part T P Q → ℕ
  has_turn k p = holds_turn k p.stage

  -- f of each part of each token, added up
  abbrev pub count : (Part T P Q → ℕ) → List (List (Part T P Q)) → ℕ
  count f views = total_by (total_by f) views

  abbrev pub fresh_part : T → ℕ → Part T P Q
  fresh_part t k = record { number = k; terms = t; seen = []; mine = []; shown = 0; stage = Idle }

  -- the parts of the n seats from k on
  abbrev pub fresh_parts : T → ℕ → ℕ → List (Part T P Q)
  fresh_parts t k zero = []
  fresh_parts t k (suc n) = fresh_part t k ∷ fresh_parts t (suc k) n

  -- the ticket word r was shown, and the ticket is the seat's own or not
  abbrev pub after_draw : Part T P Q → ℕ → Bool → Part T P Q
  after_draw p r won = record p { shown = r; stage = cond won (Waits r) Idle }

  -- the seat holds the object by the ticket k, and has seen the history h
  abbrev pub after_take : Part T P Q → List (Entry P Q) → ℕ → Part T P Q
  after_take p h k = record p { seen = h; stage = Holds k }

  -- the seat's own entry e came to the end of the history
  abbrev pub after_pass : Part T P Q → Entry P Q → Part T P Q
  after_pass p e = record p { seen = p.seen ++ e ∷ []; mine = p.mine ++ e ∷ []; stage = Idle }

  abbrev pub foremost_part : List (Part T P Q) → List (Part T P Q)
  foremost_part [] = []
  foremost_part (p ∷ ps) = p ∷ []

  abbrev pub parts_behind : List (Part T P Q) → List (Part T P Q)
  parts_behind [] = []
  parts_behind (p ∷ ps) = ps

  -- the part, once it has seen the history h
  abbrev pub having_seen : List (Entry P Q) → Part T P Q → Part T P Q
  having_seen h p = record p { seen = h }

  -- an entry that this seat makes
  abbrev pub part_entry : Part T P Q → P → Q → Entry P Q
  part_entry p op reply = record { who = p.number; op = op; reply = reply }

-- the same of an object in a box, in which a turn moves it
abbrev pub boxed_terms : {O T Z : Type 0} → (O → T) → Box O Z → T
boxed_terms terms_of b = terms_of (box_value b)

abbrev pub boxed_stands : {O E Z : Type 0} → (O → List E → Type 0) → Box O Z → List E → Type 0
boxed_stands stands b l = stands (box_value b) l

module _ {O T P Q : Type 0} (terms_of : O → T) (seat_count : T → ℕ) (legal : T → List (Entry P Q) → Type 0) (stands : O → List (Entry P Q) → Type 0) where
  -- what a part knows is true of the history, and who holds the object has seen all of it
  pub record FitsPart (t : T) (history : List (Entry P Q)) (tickets : ℕ) (p : Part T P Q) : Type 0 where
    pub terms : p.terms ≡ t
    pub number : p.number < seat_count t
    pub seen : StartsWith history p.seen
    pub mine : entries_of p.number history ≡ p.mine
    pub seen_mine : entries_of p.number p.seen ≡ p.mine
    pub shown : p.shown ≤ tickets
    pub holds : (k : ℕ) → p.stage ≡ Holds k → (p.seen ≡ history) × (k ≡ length history)

  -- an object that stands for the history is at home in its slot, or a seat holds the turn that is served
  abbrev pub Placed : T → List (Entry P Q) → State (Option O) (List (Part T P Q)) → Type 0
  Placed t history s =
      ((o : O) × (s.homes ≡ some (Some o) ∷ []) × stands o history × (terms_of o ≡ t))
      ⊎ ((s.homes ≡ none ∷ []) × (0 < count (has_turn (length history)) s.views))

  -- there is one legal history, of the length that the serving word says. Each seat and each ticket is there once
  pub record Invariant (t : T) (s : State (Option O) (List (Part T P Q))) : Type 0 where
    pub history : List (Entry P Q)
    pub tickets : ℕ
    pub words : s.words ≡ length history ∷ tickets ∷ []
    pub order : length history ≤ tickets
    pub most : tickets ≤ 2 ^ 62
    pub lawful : legal t history
    pub place : Placed t history s
    pub each : (i : ℕ) (v : List (Part T P Q)) → get_elem? s.views i ≡ some v → AllItems (FitsPart t history tickets) v
    pub numbers : (k : ℕ) → count (has_number k) s.views ≤ 1
    pub turns : (k : ℕ) → count (has_ticket k) s.views ≤ 1
    pub in_line : (k : ℕ) → 0 < count (has_ticket k) s.views → (length history ≤ k) × (k < tickets)

  -- what a seat knows, and the slots that it holds
  abbrev PartKnown : Type 0
  PartKnown = Me (Option O) (List (Part T P Q))

  -- a try at a ticket
  abbrev pub drew : Step (Option O) → PartKnown → ℕ → PartKnown → Type 0
  drew st m r m' = (p : Part T P Q) → m ≡ (p ∷ [], []) → m' ≡ (after_draw p r (r == st.first) ∷ [], [])

  -- the object came out, stands for all entries so far, and left y in the slot
  pub record TookObject (p : Part T P Q) (k : ℕ) (object : O) (y : Option O) (m' : PartKnown) : Type 0 where
    pub history : List (Entry P Q)
    pub after : m' ≡ (after_take p history k ∷ [], (0, y) ∷ [])
    pub stood : stands object history
    pub same_terms : terms_of object ≡ p.terms
    pub begins : StartsWith history p.seen
    pub own : entries_of p.number history ≡ p.mine
    pub short : length history < 2 ^ 62
    pub seat : p.number < seat_count p.terms

  -- a look takes the object where it shows the seat's own ticket, and else changes nothing
  abbrev pub looked : Step (Option O) → PartKnown → ℕ → PartKnown → Type 0
  looked st m r m' = (p : Part T P Q) (k : ℕ) → m ≡ (p ∷ [], []) → p.stage ≡ Waits k → (r ≡ k → (o : O) × TookObject p k o (Some o) m') × (r ≢ k → m' ≡ m)

  -- the object went home, and the entry came into the history
  abbrev pub passed : List P → List Q → Step (Option O) → PartKnown → ℕ → PartKnown → Type 0
  passed ops replies st m r m' = (p : Part T P Q) (op : P) (reply : Q) → m.0 ≡ p ∷ [] → ops ≡ op ∷ [] → replies ≡ reply ∷ []
      → m' ≡ (after_pass p (part_entry p op reply) ∷ [], rest m.1)

  -- h is a history of these terms, and the part knows a beginning of it
  pub record Knows (h : List (Entry P Q)) (p : Part T P Q) : Type 0 where
    pub lawful : legal p.terms h
    pub begins : StartsWith h p.seen
    pub own : entries_of p.number h ≡ p.mine

  -- each part has seen the history
  abbrev pub observed : Step (Option O) → PartKnown → ℕ → PartKnown → Type 0
  observed st m r m' = (h : List (Entry P Q)) × (m' ≡ (map (having_seen h) m.0, m.1)) × AllItems (Knows h) m.0
