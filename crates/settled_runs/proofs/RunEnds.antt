-- What a run of a settled workload asks for, and how its tasks end.
use Rattle.settled_runs.proofs.Names.{nat_tests, Each, ◌≡◌, ℕ, Bool, true, List, ◌∷◌, ◌++◌, refl, subst, arith, ◌==◌, ◌&&◌, map, list_any, eq-eqb, or_left, NodeSettings, Kind, is_pure, Action, kind_number, Deed, Statement, Part, Workload, Op, Reply, handle_of, NodeEntry, call_of, Line, both_true, true_false, is_quiet, all_statements, action_in, actions_in, lines_of, is_settled_deed, cond, [], Some, sym, ◌∙◌, ap, ℤ, append_assoc, ◌||◌, option_map, find, Layout, TaskEnd, entry, Listed, with_fields, with_enabled, has_job, Task, NewTask, new_task, Terms, State, opening, Move, makes_action, enables, withdraws, makes, alters, removes, apply, task_end, next, after, IsMade, end_in, by_moves, sorts_keep, accepted_end, SameTask, Under, Every, every_issue, every_change, every_at, StartedAs, started_as, task_then, cut_from, has_behind, HasObject, run_terms, AreQuiet, IsPlainEnd, none_withdrawn, quiet_tasks_end_plainly, answer_of, LegalFrom, after_from, end_at, task_at, plain_end, has_one_kind_a_job, cond-false, cond-true, cond_both, or_right, not, NoClose, MadeLines, GoOn, accepted, EndsOnce, same_kind, SettledTasksEndAsPlanned, ObjectKind, IsNext}
use Rattle.settled_runs.proofs.{Along.Step, Along.step_settled, OneFault.one_number}
use Rattle.settled_runs.proofs.Each.{PartAt, Within, any_left, is_outside, settled_whole, run_each, run_parts, within_behind, work_outside, RanSettled, map_run, seat_within}

-- one of these actions has the job and the kind
abbrev pub is_listed : List Action → ℕ → Kind → Bool
is_listed actions job kind = list_any (λ a. (a.job == job) && (kind_number a.kind == kind_number kind)) actions

-- the op is a quiet one and no last look at a whole group, and an action that it makes is one of these
abbrev pub is_planned : List Action → Op → Bool
is_planned actions (Op.ActionCreate job kind cores) = is_pure kind && is_listed actions job kind
is_planned actions (Op.AllLook g last) = not last
is_planned actions o = is_quiet o

abbrev pub IsPlanned : List Action → NodeEntry → Type 0
IsPlanned actions e = is_planned actions e.op ≡ true

abbrev pub ArePlanned : List Action → List NodeEntry → Type 0
ArePlanned actions es = Each (IsPlanned actions) es

-- Calls, and what workers and the phases ask for

deed_planned : (settings : NodeSettings) (known : List Action) (before all : List Statement) (actions : List Action) (bound : List ℕ) (d : Deed)
    (front : List Line) (r : Reply) → Within (action_in d) actions → is_settled_deed settings known before all d ≡ true → MadeLines (call_of bound d) front r
    → Each (λ l. is_planned actions l.op ≡ true) front
unfolding is_settled_deed
deed_planned settings known before all actions bound d front r e1 e2 e3 = grind (arith, nat_tests)

outside_planned : (actions : List Action) (o : Op) → is_outside o ≡ true → is_planned actions o ≡ true
outside_planned actions o e1 = grind (arith, nat_tests)

within_step : {all : List Statement} {ls : List Line} {rs : List Reply} {s : Statement} (x : Step all ls rs s) (ys : List Action) → Within (actions_in all) ys
    → Within (action_in s.deed) ys
within_step {all} {s} x ys w q i = within_behind x.before (s
    ∷ x.rest) ys (subst (λ (z : List Statement). Within (actions_in z) ys) x.parted w) q (any_left q (action_in s.deed) (actions_in x.rest) i)

module _ {layout : Layout} {load : Workload} {es : List NodeEntry} {ns : List ℕ} (u : RanSettled layout load es ns) where
  seat_planned : (w : ℕ) (p : Part) (rs : List Reply) → PartAt load es ns w p rs
      → Each (λ l. is_planned (actions_in (all_statements load)) l.op ≡ true) (lines_of w es ns)
  seat_planned w p rs x =
      seat_within x (λ o. is_planned (actions_in (all_statements load)) o ≡ true) (outside_planned (actions_in (all_statements load)))
      (λ s y. deed_planned load.settings (x.known
      ++ actions_in y.before) y.before p.statements (actions_in (all_statements load)) (map handle_of y.replies) s.deed
      y.front y.reply (within_step y (actions_in (all_statements load)) x.within) (step_settled y load.settings x.known x.settled) y.made)

  pub planned : ArePlanned (actions_in (all_statements load)) es
  planned =
      run_each u (IsPlanned (actions_in (all_statements load))) (λ w o r k. outside_planned (actions_in (all_statements load)) o (work_outside o k))
      (map_run u (PartAt load es ns) (λ w p rs. Each (λ l. is_planned (actions_in (all_statements load)) l.op ≡ true) (lines_of w es ns))
      (λ w p rs i x. seat_planned w p rs x) (run_parts u))

-- What is planned is quiet, and each action is one of those of the workload

planned_quiet : (actions : List Action) (o : Op) → is_planned actions o ≡ true → is_quiet o ≡ true
planned_quiet actions o e1 = grind (arith, nat_tests)

pub all_quiet : (actions : List Action) (es : List NodeEntry) → ArePlanned actions es → AreQuiet es
all_quiet actions [] a = tt
all_quiet actions (e ∷ es) a = (planned_quiet actions e.op a.0, all_quiet actions es a.1)

-- and so a history goes on in which nobody closes
pub go_on : (actions : List Action) (g : ℕ) (L : List NodeEntry) → ArePlanned actions L → NoClose L → GoOn g L
go_on actions g [] a c = tt
go_on actions g (e ∷ es) a c = grind (arith, nat_tests, go_on actions g es)

abbrev IsListed : List Action → Action → Type 0
IsListed actions a = is_listed actions a.job a.kind ≡ true

abbrev AreListed : List Action → State → Type 0
AreListed actions s = Every (IsListed actions) s.actions

listed_move : (actions : List Action) (o : Op) → is_planned actions o ≡ true → (s : State) (x : Move) → IsMade s o x → AreListed actions s
    → AreListed actions (apply x s)
listed_move actions o p s (makes_action h a) e v = every_issue (IsListed actions) h a s.actions (grind (arith, nat_tests, e.by, p)) v
listed_move actions o p s (enables h) e v = every_change (IsListed actions) h (with_fields (with_enabled true)) s.actions (λ r d y. y) v
listed_move actions o p s (withdraws h f c) e v = absurd (none_withdrawn h f o (planned_quiet actions o p) e.by)
listed_move actions o p s (makes k h y) e v = sorts_keep (AreListed actions) (λ t a u c d r z w. w) k _ s v
listed_move actions o p s (alters k h f) e v = sorts_keep (AreListed actions) (λ t a u c d r z w. w) k _ s v
listed_move actions o p s (removes k h) e v = sorts_keep (AreListed actions) (λ t a u c d r z w. w) k _ s v
listed_move actions o p s _ e v = v

listed_along : (actions : List Action) (s : State) (es : List NodeEntry) → ArePlanned actions es → AreListed actions s → AreListed actions (after_from s es)
unfolding after_from
listed_along actions s [] a v = v
listed_along actions s (e ∷ es) a v = listed_along actions (next s e) es a.1
    (by_moves (AreListed actions) s e (λ t x y u. listed_move actions e.op a.0 t x y u) v)

-- the first action of a job is one of them
first_of_job : (actions : List Action) (job : ℕ) (kind : Kind) → is_listed actions job kind ≡ true
    → (a : Action) × (find (has_job job) actions ≡ Some a) × (is_listed actions job a.kind ≡ true)
first_of_job [] job kind i = true_false i refl
first_of_job (a ∷ rest) job kind i = cond_both (a.job == job) (Some a) (find (has_job job) rest) (λ o. (x : Action) × (o ≡ Some x)
    × (is_listed (a ∷ rest) job x.kind ≡ true))
    (λ j. (a, refl, or_left _ _ (both_true _ _ j (eq-eqb (kind_number a.kind) (kind_number a.kind) refl))))
    (λ j. let x = first_of_job rest job kind (sym (ap (λ (b : Bool). (b && (kind_number a.kind == kind_number kind)) || is_listed rest job kind) j) ∙ i) in
    (x.0, x.1, or_right _ _ x.2))

kind_found : (actions : List Action) (job : ℕ) (kind : Kind) (args : List ℤ) → has_one_kind_a_job actions ≡ true → is_listed actions job kind ≡ true
    → option_map (λ a. task_end (answer_of a.kind args)) (find (has_job job) actions) ≡ Some (task_end (answer_of kind args))
unfolding has_one_kind_a_job
kind_found actions job kind args h i =
    let x = first_of_job actions job kind i in
    ap (option_map (λ a. task_end (answer_of a.kind args))) x.1
    ∙ ap (λ (z : Kind). Some (task_end (answer_of z args)))
    (same_kind x.0.kind kind (one_number (λ a. a.job) (λ a. kind_number a.kind) has_one_kind_a_job (λ a as1. refl) job (kind_number x.0.kind)
    (kind_number kind) actions h x.2 i))

-- The record of a task that has ended

end_task_at : (l : List (Listed Task)) (h : ℕ) (end : TaskEnd) → end_at l h ≡ Some end → (t : Task) × (task_at l h ≡ Some t) × (end_in t.state ≡ Some end)
unfolding end_at task_at
end_task_at [] h end e = absurd (cc)
end_task_at (r ∷ rs) h end e = cond_both (r.handle == h) (end_in r.fields.state) (end_at rs h) (λ o. o ≡ Some end
    → (t : Task) × (cond (r.handle == h) (Some r.fields) (task_at rs h) ≡ Some t) × (end_in t.state ≡ Some end))
    (λ j d. (r.fields, cond-true (r.handle == h) (Some r.fields) (task_at rs h) j, d)) (λ j d. let x = end_task_at rs h end d in
    (x.0, cond-false (r.handle == h) (Some r.fields) (task_at rs h) j ∙ x.1, x.2)) e

under_task : (F : Task → Type 0) (l : List (Listed Task)) (h : ℕ) (t : Task) → Under h F l → task_at l h ≡ Some t → F t
unfolding task_at
under_task F [] h t u e = absurd (cc)
under_task F (r ∷ rs) h t u e = grind (arith, nat_tests, u.0, under_task F rs h t u.1)

-- A task that was accepted as this one ends as the kind of its job answers

module _ {layout : Layout} {load : Workload} {es : List NodeEntry} {ns : List ℕ} (u : RanSettled layout load es ns) (before behind : List NodeEntry)
    (e : NodeEntry) (h : ℕ) (is : es ≡ before ++ e ∷ behind) (acc : accepted e ≡ Some h) where
  abbrev actions : List Action
  actions = actions_in (all_statements load)

  abbrev terms : Terms
  terms = run_terms layout load

  pub next_at : IsNext (after terms before) e
  next_at = cut_from (opening terms) before behind e (subst (LegalFrom (opening terms)) is u.legal.from)

  pub ended_once : EndsOnce terms es h
  ended_once =
      let last : es ≡ (u.run.ends.before ++ entry load.settings.workers Op.Close Reply.Ok ∷ u.run.ends.behind) ++ entry load.settings.workers Op.Final Reply.Ok
      ∷ [] = u.run.ends.closes ∙ sym (append_assoc u.run.ends.before (entry load.settings.workers Op.Close Reply.Ok
      ∷ u.run.ends.behind) (entry load.settings.workers Op.Final Reply.Ok ∷ [])) in
      accepted_end terms es (u.run.ends.before ++ entry load.settings.workers Op.Close Reply.Ok
      ∷ u.run.ends.behind) load.settings.workers u.legal last before behind e h is acc

  pub ends_as_asked : (n : NewTask) (k : ℕ) → HasObject ObjectKind.Task h (SameTask (new_task n k)) (next (after terms before) e)
      → end_at (after terms es).tasks h ≡ plain_end actions n
  unfolding plain_end
  ends_as_asked n k new =
      let s : State = after terms es in
      let has : HasObject ObjectKind.Task h (SameTask (new_task n k)) s =
      subst (λ (M : List NodeEntry). HasObject ObjectKind.Task h (SameTask (new_task n k)) (after terms M)) (sym is)
      (has_behind ObjectKind.Task h (SameTask (new_task n k)) (task_then (new_task n k)) (opening terms) before behind e new) in
      let record_of : (t : Task) × (task_at s.tasks h ≡ Some t) × (end_in t.state ≡ Some ended_once.end) =
      end_task_at s.tasks h ended_once.end ended_once.ended in
      let same : SameTask (new_task n k) record_of.0 = under_task (SameTask (new_task n k)) s.tasks h record_of.0 has.under record_of.1 in
      let plain : IsPlainEnd s.actions record_of.0.job record_of.0.args ended_once.end =
      quiet_tasks_end_plainly terms es h u.legal (all_quiet actions es (planned u)) record_of.0 ended_once.end record_of.1 record_of.2 in
      let listed_kind : is_listed actions n.job plain.0 ≡ true = let i : is_listed actions plain.1.action.job plain.1.action.kind ≡ true =
      every_at (IsListed actions) s.actions plain.1.handle plain.1.action (listed_along actions (opening terms) es (planned u) tt) plain.1.found in
      subst (λ (j : ℕ). is_listed actions j plain.0
      ≡ true) (plain.1.of_job ∙ same.job) (subst (λ (x : Kind). is_listed actions plain.1.action.job x ≡ true) plain.1.of_kind i) in
      ended_once.ended ∙ (ap Some (plain.2 ∙ ap (λ (z : List ℤ). task_end (answer_of plain.0 z)) same.args)
      ∙ sym (kind_found actions n.job plain.0 n.args (settled_whole load u.settled).kinds listed_kind))

pub settled_tasks_end_as_planned : SettledTasksEndAsPlanned
settled_tasks_end_as_planned layout load es ns settled legal l run before behind e h is acc =
    let u : RanSettled layout load es ns = record { settled = settled; legal = legal; same = l; run = run } in
    let s : State = after (run_terms layout load) before in
    let started : StartedAs s e.op h (next s e) = started_as s e h (next_at u before behind e h is acc) (grind (arith, nat_tests, acc)) in
    record { task = started.0; asked = started.1; ends = ends_as_asked u before behind e h is acc started.0 s.starts started.2 }
