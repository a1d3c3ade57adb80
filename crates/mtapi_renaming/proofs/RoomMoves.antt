-- The taken slots of a state, over its moves and over entries: a create takes one only where its kind isn't full.
use Rattle.mtapi_renaming.proofs.Names.{nat_tests, ◌≡◌, ℕ, ◌+◌, ◌≤◌, Bool, false, List, [], ◌∷◌, Option, Some, None, refl, sym, subst, ObjectKind, Listed, Action, NewTask, new_task, Terms, Op, Reply, State, Objects, objects_of, opening, actions, tasks, Move, Sort, Fields, all_of, makes_action, starts_task, makes, apply, Row, unless, creates, moves_of, after_row, row, NodeEntry, next, after_from, after, row_made, moves_keep, at_opening, OnEach, each_so, each_with, is_kind_full, made_kind, live_in, most_of, lasts_of, gone_of, arith}
use Rattle.mtapi_renaming.proofs.CountMoves.{move_same, by_none, live_is, most_is}
use Rattle.mtapi_renaming.proofs.CreateRows.{HoldsInParts, create_row}
use Rattle.mtapi_renaming.proofs.LastMoves.{once_after, terms_stay, gone_is}
use Rattle.mtapi_renaming.proofs.Room.{IsWithin, none_within, within-same, within-issue, within-told}

-- no more slots of a kind are taken than there may be
abbrev WithinIn : ObjectKind → State → Type 0
WithinIn k s = IsWithin s.terms.settings.generations ((objects_of k).max s.terms.settings) ((objects_of k).list s)

-- of each kind
abbrev WithinAll : State → Type 0
WithinAll s = (k : ObjectKind) → WithinIn k s

-- of one list and another one, by the terms
abbrev KeepsRoom : Terms → (T : Type 0) → Objects T → List (Listed T) → List (Listed T) → Type 0
KeepsRoom terms T o l m = IsWithin terms.settings.generations (o.max terms.settings) l → IsWithin terms.settings.generations (o.max terms.settings) m

within_each : (s : State) (m : Move) → OnEach (KeepsRoom s.terms) s (apply m s) → WithinAll s → WithinAll (apply m s)
within_each s m v w k = subst (λ (x : Terms). IsWithin x.settings.generations ((objects_of k).max x.settings) ((objects_of k).list (apply m s)))
    (sym (terms_stay s m)) (v k (w k))

-- a new object
action_within : (s : State) (h : ℕ) (a : Action) → is_kind_full actions s ≡ false → WithinAll s → WithinAll (apply (makes_action h a) s)
action_within s h a e = within_each s (makes_action h a)
    (each_so (KeepsRoom s.terms) (λ T o l w. w) s s.phase s.released s.stopped s.starts s.ends _ s.tasks
    (within-issue s.terms.settings.generations (actions.max s.terms.settings) h a s.actions e) (λ w. w))

task_within : (s : State) (h : ℕ) (t : NewTask) → is_kind_full tasks s ≡ false → WithinAll s → WithinAll (apply (starts_task h t) s)
task_within s h t e = within_each s (starts_task h t)
    (each_so (KeepsRoom s.terms) (λ T o l w. w) s s.phase s.released s.stopped (s.starts
    + 1) s.ends s.actions _ (λ w. w) (within-issue s.terms.settings.generations (tasks.max s.terms.settings) h (new_task t s.starts) s.tasks e))

sort_within : (s : State) (t : Sort) (h : ℕ) (v : Fields t) → is_kind_full (all_of t) s ≡ false → WithinAll s → WithinAll (apply (makes t h v) s)
sort_within s t h v e = within_each s (makes t h v)
    (each_with (KeepsRoom s.terms) (λ T o l w. w) s t _ (within-issue s.terms.settings.generations ((all_of t).max s.terms.settings) h v ((all_of t).list s) e))

-- the state after the row, whatever the reply
record KeepsWithin (s : State) (k : ObjectKind) (own : Reply → Row) : Type 0 where
  within : (r : Reply) → WithinAll s → WithinAll (after_row s (own r))

module _ {s : State} where
  unless_within : {k : ObjectKind} {a : Bool} {y : Reply} {own : Reply → Row} → KeepsWithin s k own → KeepsWithin s k (λ r. unless a y (own r))
  unless_within i = grind (arith, nat_tests)

  creates_within : {T : Type 0} {k : ObjectKind} (o : Objects T) (make : ℕ → Move)
      → ((h : ℕ) → is_kind_full o s ≡ false → WithinAll s → WithinAll (apply (make h) s))
      → KeepsWithin s k (λ r. creates o s r make)
  creates_within o make i = grind (arith, nat_tests)

create_within : (s : State) (who : ℕ) (o : Op) (k : ObjectKind) (r : Reply) → made_kind o ≡ Some k → WithinAll s → WithinAll (after_row s (row s who o r))
create_within s who o k r i = (create_row parts who k o i).within r
  where
    parts : HoldsInParts s (KeepsWithin s)
    parts = record {
      refusal = λ y p. record { within = λ x w. w };
      condition = λ p v. unless_within v;
      action = λ a. creates_within actions (λ b. makes_action b a) (λ h e w. action_within s h a e w);
      task = λ t. creates_within tasks (λ b. starts_task b t) (λ h e w. task_within s h t e w);
      sort = λ t v. creates_within (all_of t) (λ b. makes t b v) (λ h e w. sort_within s t h v e w);
    }

other_within : (s : State) (who : ℕ) (o : Op) (r : Reply) → made_kind o ≡ None → WithinAll s → WithinAll (after_row s (row s who o r))
other_within s who o r e w =
    moves_keep o WithinAll (λ t m i v. within_each t m
    (λ k. within-same t.terms.settings.generations ((objects_of k).max t.terms.settings) _ _ (move_same t o m i (by_none t o m e i) k)) v)
    (moves_of (row s who o r)) s (row_made s who o r) w

row_within : (s : State) (who : ℕ) (o : Op) (r : Reply) → WithinAll s → WithinAll (after_row s (row s who o r))
row_within s who o r w = by_kind (made_kind o) refl
  where
    by_kind : (x : Option ObjectKind) → made_kind o ≡ x → WithinAll (after_row s (row s who o r))
    by_kind None e = other_within s who o r e w
    by_kind (Some k) e = create_within s who o k r e w

within_from : (s : State) (L : List NodeEntry) → WithinAll s → WithinAll (after_from s L)
unfolding after_from
within_from s [] w = w
within_from s (e ∷ es) w = within_from (next s e) es (row_within s e.who e.op e.reply w)

pub room_kept : (terms : Terms) (L : List NodeEntry) (k : ObjectKind)
    → live_in k (after terms L) + gone_of k (after terms L) (lasts_of k (after terms L)) ≤ most_of k (after terms L)
room_kept terms L k =
    let s = after terms L in
    let within : WithinAll s = within_from (opening terms) L
    (λ j. at_opening (λ T l. IsWithin terms.settings.generations ((objects_of j).max terms.settings) l) (λ T. none_within _ _ _) terms j) in
    let told = within-told s.terms.settings.generations ((objects_of k).max s.terms.settings) ((objects_of k).list s) (once_after terms L k) (within k) in
    let live = live_is k s in
    let gone = gone_is k s (lasts_of k s) in
    let most = most_is k s in
    omega (arith, told, live, gone, most)
