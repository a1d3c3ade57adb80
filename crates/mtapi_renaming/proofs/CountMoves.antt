-- The counts of a state, over its moves and over entries.
use Rattle.mtapi_renaming.proofs.Names.{nat_tests, ◌≡◌, ℕ, ◌+◌, ◌<◌, Bool, true, List, [], None, refl, sym, ◌∙◌, ap, arith, ◌==◌, ObjectKind, Listed, live_of, issue, listed, with_fields, gone, Action, Task, NewTask, new_task, Phase, Terms, Op, Reply, State, Objects, FieldsOf, objects_of, opening, actions, tasks, Move, Fields, all_of, phase_is, makes_action, starts_task, makes, alters, removes, is_fresh, apply, moves_of, after_row, row, NodeEntry, after, IsMade, MakesAction, StartsTask, WithdrawsAction, fst_true, snd_true, row_made, moves_keep, along, own_kind, at_opening, OnEach, each_so, each_with, made_kind, live_in, is_full_of, is_fresh_of, made_in, most_of, is_next_of, MakesNone, is_live_of, live_object, is_some, length, is_full}
use Rattle.mtapi_values.specs.declared.handles.ObjectKind.TheVariants as kind
use Rattle.mtapi_renaming.proofs.Handles.{KeepsHandle, keeps-fields, keeps-gone, keeps-ended, keeps-freed, keeps-let_go, SameHandles, handles-same, handles-change, handles-change_all, handles-ends, issued_at-same, length-same}
use Rattle.mtapi_renaming.proofs.Counts.{InTurn, turn-same, turn-issue, fresh-next, full-live}

-- what the tables of a kind say, by its objects
pub live_is : (k : ObjectKind) (s : State) → live_in k s ≡ length (live_of ((objects_of k).list s))
live_is kind.Action s = refl
live_is k s = refl

pub alive_is : (k : ObjectKind) (s : State) (h : ℕ) → is_live_of k s h ≡ is_some (live_object ((objects_of k).list s) h)
alive_is kind.Action s h = refl
alive_is k s h = refl

pub most_is : (k : ObjectKind) (s : State) → most_of k s ≡ (objects_of k).max s.terms.settings
most_is kind.Action s = refl
most_is k s = refl

-- of a kind the same handles are listed, and nothing is live again
abbrev pub SameIn : ObjectKind → State → State → Type 0
SameIn k s t = SameHandles ((objects_of k).list s) ((objects_of k).list t)

-- of each kind
abbrev pub SameMade : State → State → Type 0
SameMade s t = (k : ObjectKind) → SameIn k s t

same-so : (s : State) (p : Phase) (b : Bool) (marks : List Bool) (starts ends : ℕ) (l : List (Listed Action)) (ts : List (Listed Task))
    → SameHandles s.actions l → SameHandles s.tasks ts →
    SameMade s (record s { phase = p; released = b; stopped = marks; starts = starts; ends = ends; actions = l; tasks = ts })
same-so s = each_so (λ T o l m. SameHandles l m) (λ T o l. handles-same l) s

with-tasks : (s : State) (starts ends : ℕ) (ts : List (Listed Task)) → SameHandles s.tasks ts
    → SameMade s (record s { starts = starts; ends = ends; tasks = ts })
with-tasks s starts ends ts w = same-so s s.phase s.released s.stopped starts ends s.actions ts (handles-same s.actions) w

-- an action that is withdrawn keeps its handle, and isn't live again
withdrawn : (h : ℕ) (f : Listed Action → Listed Action) (o : Op) → WithdrawsAction h f o → (r : Listed Action) → KeepsHandle r (f r)
withdrawn h f o i r = grind (arith, nat_tests)

ruleset keeping = (handles-change, handles-change_all, handles-ends, keeps-fields, keeps-gone, keeps-ended, keeps-freed, keeps-let_go, withdrawn)

-- the move makes no object
abbrev pub MakesNothing : Move → Type 0
MakesNothing (makes_action h a) = ⊥
MakesNothing (starts_task h t) = ⊥
MakesNothing (makes k h v) = ⊥
MakesNothing m = Unit {0}

pub move_same : (s : State) (o : Op) (m : Move) → IsMade s o m → MakesNothing m → SameMade s (apply m s)
move_same s o (phase_is p) i idle k = same-so s p s.released s.stopped s.starts s.ends s.actions s.tasks (handles-same s.actions) (handles-same s.tasks) k
move_same s o (alters t h f) i idle k =
    each_with (λ T o l m. SameHandles l m) (λ T o l. handles-same l) s t _ (handles-change h (with_fields f) (keeps-fields f) ((all_of t).list s)) k
move_same s o (removes t h) i idle k = each_with (λ T o l m. SameHandles l m) (λ T o l. handles-same l) s t _
    (handles-change h gone keeps-gone ((all_of t).list s)) k
move_same s o m i idle k = grind (arith, nat_tests, same-so, with-tasks, handles-same, keeping)

-- after each move, of the list of each kind: what a new object and the same handles bring
pub each_move : (P : (T : Type 0) → Objects T → List (Listed T) → List (Listed T) → Type 0) (s : State) (o : Op) (m : Move) → IsMade s o m →
    ((T : Type 0) (o : Objects T) (h : ℕ) (v : T) → is_fresh o s h ≡ true → P T o (o.list s) (issue h v (o.list s)))
    → ((T : Type 0) (o : Objects T) (l m : List (Listed T)) → SameHandles l m → P T o l m) → OnEach P s (apply m s)
each_move P s o (makes_action h a) i new old k =
    each_so P (λ T o l. old T o l l (handles-same l)) s s.phase s.released s.stopped s.starts s.ends _ s.tasks (new Action actions h a i.may)
    (old Task tasks _ _ (handles-same s.tasks)) k
each_move P s o (starts_task h t) i new old k =
    let a = fst_true _ _ i.may in
    each_so P (λ T o l. old T o l l (handles-same l)) s s.phase s.released s.stopped (s.starts
    + 1) s.ends s.actions _ (old Action actions _ _ (handles-same s.actions))
    (new Task tasks h (new_task t s.starts) (snd_true _ _ (fst_true _ _ (fst_true _ _ a)))) k
each_move P s o (makes t h v) i new old k = each_with P (λ T o l. old T o l l (handles-same l)) s t _ (new (Fields t) (all_of t) h v i.may) k
each_move P s o m i new old k = old (FieldsOf k) (objects_of k) _ _ (move_same s o m i tt k)

-- of each kind no handle is of a later generation than there were objects in its slot
abbrev InTurnAll : State → Type 0
InTurnAll s = (k : ObjectKind) → InTurn ((objects_of k).list s)

turn_kept : (o : Op) (s : State) (m : Move) → IsMade s o m → InTurnAll s → InTurnAll (apply m s)
turn_kept o s m i w k = each_move (λ T o l m. InTurn l
    → InTurn m) s o m i (λ T o h v j. turn-issue s.terms.settings.generations h v (o.list s) (snd_true _ _ j)) (λ T o l m. turn-same l m) k (w k)

no_turn : (T : Type 0) → InTurn {T = T} []
unfolding listed
no_turn T h some = absurd (omega (arith, some))

turn_after : (terms : Terms) (L : List NodeEntry) → InTurnAll (after terms L)
turn_after terms L = along InTurnAll (λ o s m i w. turn_kept o s m i w) (opening terms) L (at_opening (λ T l. InTurn l) no_turn terms)

pub fresh_next : (terms : Terms) (L : List NodeEntry) (k : ObjectKind) (h : ℕ) → is_fresh_of k (after terms L) h ≡ is_next_of k (after terms L) h
fresh_next terms L k h = grind (arith, nat_tests, own_kind, fresh-next, turn_after)

-- an op that makes nothing

no_action : (a : Action) (o : Op) → made_kind o ≡ None → MakesAction a o → ⊥
no_action a o i j = grind (arith, nat_tests)

no_task : (t : NewTask) (o : Op) → made_kind o ≡ None → StartsTask t o → ⊥
no_task t o i j = grind (arith, nat_tests)

pub by_none : (s : State) (o : Op) (m : Move) → made_kind o ≡ None → IsMade s o m → MakesNothing m
by_none s o m i j = grind (arith, nat_tests)

then_none : (s t u : State) → MakesNone s t → SameMade t u → MakesNone s u
then_none s t u v w = record { counts = λ k. length-same _ _ (w k) ∙ v.counts k; slots = λ k j. issued_at-same j _ _ (w k) ∙ v.slots k j }

pub others_make_none : (s : State) (who : ℕ) (o : Op) (r : Reply) → made_kind o ≡ None → MakesNone s (after_row s (row s who o r))
others_make_none s who o r e =
    moves_keep o (λ t. MakesNone s t) (λ t m i v. then_none s t (apply m t) v (move_same t o m i (by_none t o m e i))) (moves_of (row s who o r)) s
    (row_made s who o r) (record { counts = λ k. refl; slots = λ k j. refl })

pub full_live : (terms : Terms) (L : List NodeEntry) (k : ObjectKind) → made_in k (after terms L) < (after terms L).terms.settings.generations
    → is_full_of k (after terms L) ≡ (live_in k (after terms L) == most_of k (after terms L))
full_live terms L k less =
    let s = after terms L in
    ap (λ (m : ℕ). is_full s.terms.settings.generations m ((objects_of k).list s)) (sym (most_is k s))
    ∙ full-live s.terms.settings.generations (most_of k s) ((objects_of k).list s) (turn_after terms L k) less
    ∙ ap (λ (n : ℕ). n == most_of k s) (sym (live_is k s))
