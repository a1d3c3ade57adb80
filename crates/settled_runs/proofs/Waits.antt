-- In a quiet history a task that its own caller alone looks at stays until it has ended and told its end.
use Rattle.settled_runs.proofs.Names.{◌≡◌, ◌⊎◌, ℕ, Bool, true, false, List, [], ◌∷◌, ◌++◌, Option, Some, None, refl, sym, ap, subst, arith, ◌==◌, ◌&&◌, not, eq-eqb, nat_tests, holds, TaskEnd, Failed, entry, Listed, live_object, with_fields, gone, Task, NewTask, TaskState, Ended, new_task, with_notes, with_waiter, ended, is_member, Op, Reply, Phase, State, opening, is_open, is_up, tasks, Move, starts_task, notes, is_fresh, apply, after_moves, Row, unless, Allows, after_row, NodeEntry, IsNext, next, after, IsMade, NotesTask, TakesEnded, Legal-front, Legal-rest, AllGives, given, on_live, fst_true, by_moves, true_false, at_issue_here, FoundAs, found_changed, cut_from, cut_after, fresh_unlisted, is_quiet, AreQuiet, starts_alone, is_look_at, AreLeft, QuietLooksAreAnswered, IsCalm, calm_next, calm_along, calm_opening, none_impure, row, LegalFrom, after_from, FreesMembers, Notes, is_other, Kind, ObjectKind, MtapiStatus, looks_row, eqb-true, is_that_handle as is_given, TaskHandle, moves_of, whether}
use Rattle.settled_runs.proofs.{Stays.quiet_rest, Stays.quiet_front, Granted.before, Granted.is_up as open_now, Granted.allowed, Stays.AskedAs, Stays.on_start}
use Rattle.history_law.proofs.TaskSteps as step
use Rattle.history_law.proofs.TaskSteps.{Step, tasks_go, found_steps}

-- what is noted of a task that is neither detached nor in a group, and that no other seat waits for
pub record IsOwn (who : ℕ) (n : Notes) : Type 0 where
  pub kept : n.detached ≡ false
  pub alone : n.group ≡ None
  pub waiter : is_other who n.waiter ≡ false

abbrev Own : ℕ → ℕ → State → Type 0
Own who h s = FoundAs (λ t. IsOwn who t.notes) s.tasks h

-- The entry that starts it

new_own : (who h : ℕ) (n : NewTask) (s : State) → (n.detached ≡ false) × (n.group ≡ None) → is_fresh tasks s h ≡ true → Own who h (apply (starts_task h n) s)
new_own who h n s b e = (
  new_task n s.starts,
  at_issue_here h (new_task n s.starts) s.tasks (fresh_unlisted ObjectKind.Task s h e),
  record {
    kept = b.0;
    alone = b.1;
    waiter = refl;
  },
)

own_start : (s : State) (n : NewTask) (o : Op) → starts_alone o ≡ true → AskedAs s n o → (n.detached ≡ false) × (n.group ≡ None)
own_start s n o e1 e2 = grind (arith, nat_tests)

started_own : (who h : ℕ) (s : State) (w : ℕ) (o : Op) → IsNext s (entry w o (Reply.Handle h)) → starts_alone o ≡ true
    → Own who h (next s (entry w o (Reply.Handle h)))
started_own who h s w o n a =
    on_start (λ x ms. is_given h x ≡ true → Own who h (after_moves ms s)) s w (Reply.Handle h) (λ c i. true_false i refl) o (grind (arith, nat_tests, a))
    (λ k m b f i. subst (λ (j : ℕ). Own who j (apply (starts_task k m) s)) (eqb-true k h i) (new_own who k m s (own_start s m o a b) f)) n.allowed
    (eq-eqb h h refl)

-- The entries behind it

-- the ops that change what is noted of a task
abbrev pub notes_tasks : Op → Bool
notes_tasks (Op.TaskLook t last) = true
notes_tasks (Op.Asked t) = true
notes_tasks (Op.TallyLock t) = true
notes_tasks (Op.TallyRead t) = true
notes_tasks (Op.TallyWrite t value) = true
notes_tasks _ = false

pub noting : (j : ℕ) (o : Op) → is_quiet o ≡ true → NotesTask j o → notes_tasks o ≡ true
noting j o e1 e2 = grind (arith, nat_tests)

pub taking : (j : ℕ) (o : Op) → is_quiet o ≡ true → TakesEnded j o → notes_tasks o ≡ true
taking j o e1 e2 = grind (arith, nat_tests)

-- what is noted of a task that isn't detached stays, where the op notes nothing and doesn't free it
pub notes_stay : (N : Notes → Type 0) → ((n : Notes) → N n → n.detached ≡ false) → (h : ℕ) (o : Op) → is_quiet o ≡ true → notes_tasks o ≡ false
    → ((j : ℕ) (t : Task) → FreesMembers j o → N t.notes → is_member j t ≡ true → ⊥)
    → (s : State) (x : Move) → IsMade s o x → FoundAs (λ t. N t.notes) s.tasks h → FoundAs (λ t. N t.notes) (apply x s).tasks h
notes_stay N kept h o q n free s x e v =
    found_steps (λ t. N t.notes) h s x s.tasks _ v.0 (λ r z y a i f. by r x z y e a (subst (λ (t : Task). N t.notes) (sym f) v.2)) (tasks_go s x) v.1
  where
    over : (y : TaskEnd) (k : ℕ) (r : Listed Task) → r.live ≡ true → N r.fields.notes → ((ended y k r).live ≡ true) × N (ended y k r).fields.notes
    over y k r a own = ((λ j. a j && not (kept r.fields.notes own j)), own)

    by : (r : Listed Task) (x : Move) (z : Listed Task) → Step s r x z → IsMade s o x → r.live ≡ true → N r.fields.notes → (z.live ≡ true) × N z.fields.notes
    by r _ _ (step.ends j y b i f) e a own = over y s.ends r a own
    by r _ _ (step.waited p y k b i f) e a own = over y k r a own
    by r _ _ (step.left j f c k b i l) e a own = over (Failed c) k r a own
    by r _ _ (step.noted j f b i l) e a own = true_false (noting j o q e.by) n
    by r _ _ (step.goes j b i l) e a own = true_false (taking j o q e.by) n
    by r _ _ (step.freed_of g b d) e a own = absurd (free g r.fields e.by own (fst_true (is_member g r.fields) _ d))
    by r _ _ (step.let_go_of g b d) e a own = absurd (grind (arith, nat_tests, e.by, q))
    by r _ _ _ e a own = (a, own)

-- a look, by its reply
abbrev Looks : ℕ → ℕ → State → ℕ → ℕ → Reply → List Move → Type 0
Looks who h s w t r ms = ((t == h) ≡ true → (w ≡ who) × (r ≡ Reply.Pending)) → Own who h (after_moves ms s)

no_other : (who w : ℕ) → w ≡ who → is_other who (Some w) ≡ false
no_other who w e = subst (λ (x : ℕ). is_other who (Some x) ≡ false) (sym e) (grind (arith, nat_tests))

waits : (who h : ℕ) (s : State) (w t : ℕ) (r : Reply) (x : Option ℕ) → Own who h s → ((w ≡ who) → is_other who x ≡ false)
    → Looks who h s w t r (notes t (with_waiter x) ∷ [])
waits who h s w t r x v f k =
    found_changed (λ z. IsOwn who z.notes) t h (with_fields (with_notes (with_waiter x))) (λ r. refl) s.tasks v.0 v.1 v.2
    (λ q i a d. (
      a,
      (let u : IsOwn who q.fields.notes = subst (λ (z : Task). IsOwn who z.notes) (sym d) v.2 in
          record { kept = u.kept; alone = u.alone; waiter = f (k (eq-eqb t h i)).0 }),
    ))

on_looks : (who h : ℕ) (s : State) (w t : ℕ) (last : Bool) (x : TaskState) → Own who h s → AllGives (Looks who h s w t) (looks_row w t last x)
on_looks who h s w t last (Ended y n) v =
    λ k. found_changed (λ z. IsOwn who z.notes) t h gone (λ r. refl) s.tasks v.0 v.1 v.2 (λ r i a f. let p : Reply.Ended y ≡ Reply.Pending =
    (k (eq-eqb t h i)).1 in absurd (cc))
on_looks who h s w t true _ v = waits who h s w t (Reply.Mtapi MtapiStatus.Timeout) None v (λ e. refl)
on_looks who h s w t false _ v = waits who h s w t Reply.Pending (Some w) v (no_other who w)

-- what holds where nothing is done holds behind the ops that change what is noted of a task that watches or tallies: there is none
pub none_noted : (K : Reply → List Move → Type 0) (s : State) (w : ℕ) (o : Op) (r : Reply) → IsCalm s → notes_tasks o ≡ true
    → ((t : TaskHandle) (last : Bool) → o ≡ Op.TaskLook t last → ⊥) → ((x : Reply) → K x []) → Allows (row s w o r) r → K r (moves_of (row s w o r))
none_noted K s w (Op.TaskLook t last) r c n u z a = absurd (u t last refl)
none_noted K s w (Op.Asked t) r c n u z a = grind (arith, nat_tests, z, none_impure s w t.0 Kind.Watch)
none_noted K s w (Op.TallyLock t) r c n u z a = grind (arith, nat_tests, z, none_impure s w t.0 Kind.Tally)
none_noted K s w (Op.TallyRead t) r c n u z a = grind (arith, nat_tests, z, none_impure s w t.0 Kind.Tally)
none_noted K s w (Op.TallyWrite t value) r c n u z a = grind (arith, nat_tests, z, none_impure s w t.0 Kind.Tally)
none_noted K s w _ r c n u z a = true_false n refl

noted : (who h : ℕ) (s : State) (w : ℕ) (o : Op) (r : Reply) → IsCalm s → notes_tasks o ≡ true → (is_look_at h o ≡ true → (w ≡ who) × (r ≡ Reply.Pending))
    → Allows (row s w o r) r → Own who h s → Own who h (after_row s (row s w o r))
noted who h s w (Op.TaskLook t last) r c n k a v =
    given (Looks who h s w t.0) (row s w (Op.TaskLook t last) r) r (λ x i. v)
    (λ d. on_live (Looks who h s w t.0) (live_object s.tasks t.0) _ _ (λ i. v) (λ x e f g. on_looks who h s w t.0 last x.state v)) a k
noted who h s w o r c n k a v = none_noted (λ x ms. Own who h (after_moves ms s)) s w o r c n (λ t last e. cc) (λ x. v) a

own_next : (who h : ℕ) (s : State) (e : NodeEntry) → IsNext s e → is_quiet e.op ≡ true → IsCalm s
    → (is_look_at h e.op ≡ true → (e.who ≡ who) × (e.reply ≡ Reply.Pending)) → Own who h s → Own who h (next s e)
own_next who h s e i q c k v =
    whether (notes_tasks e.op) (λ n. noted who h s e.who e.op e.reply c n k i.allowed v)
    (λ n. by_moves (Own who h) s e (λ t x y u. notes_stay (IsOwn who) (λ m k. k.kept) h e.op q n
    (λ j m b k d. true_false d (ap (holds (λ i. i == j)) k.alone)) t x y u) v)

own_along : (who h : ℕ) (s : State) (L : List NodeEntry) → LegalFrom s L → AreQuiet L → IsCalm s → AreLeft who h L → Own who h s → Own who h (after_from s L)
unfolding LegalFrom after_from
own_along who h s [] l q c k v = v
own_along who h s (e ∷ es) l q c k v = own_along who h (next s e) es l.1 q.1 (calm_next s e l.0 q.0 c) k.1 (own_next who h s e l.0 q.0 c k.0 v)

pub legal_behind : (s : State) (A : List NodeEntry) (e : NodeEntry) (B : List NodeEntry) → LegalFrom s (A ++ e ∷ B) → LegalFrom (next (after_from s A) e) B
unfolding LegalFrom
legal_behind s A e B l = (Legal-rest s A (e ∷ B) l).1

-- The look

pub open_up : (p : Phase) → not (is_open p) ≡ false → not (is_up p) ≡ false
open_up p e1 = grind (arith, nat_tests)

pub passed : (c : Bool) (x : Reply) (w : Row) (r : Reply) → c ≡ false → Allows (unless c x w) r → Allows w r
passed c x w r e1 e2 = grind (arith, nat_tests)

looked_at : (s : State) (w : ℕ) (t : TaskHandle) (r : Reply) (x : Task) → not (is_up s.phase) ≡ false → live_object s.tasks t.0 ≡ Some x → IsOwn w x.notes
    → Allows (row s w (Op.TaskLook t false) r) r → Allows (looks_row w t.0 false x.state) r
looked_at s w t r x e1 e2 e3 e4 = grind (arith, nat_tests, e3.kept, e3.alone, e3.waiter)

told : (w h : ℕ) (x : TaskState) (r : Reply) → Allows (looks_row w h false x) r → (r ≡ Reply.Pending) ⊎ ((end : TaskEnd) × (r ≡ Reply.Ended end))
told w h x r e1 = grind (arith, nat_tests)

pub quiet_looks_are_answered : QuietLooksAreAnswered
quiet_looks_are_answered terms L who t r x y =
    let o : Op = Op.TaskLook t false in
    let s : State = after terms L in
    let L0 : LegalFrom (opening terms) (y.before ++ entry y.starter y.op (Reply.Handle t.0) ∷ y.behind) =
    subst (LegalFrom (opening terms)) y.is (before x).from in
    let first : State = after_from (opening terms) y.before in
    let quiet : AreQuiet (y.before ++ entry y.starter y.op (Reply.Handle t.0) ∷ y.behind) = subst AreQuiet y.is x.quiet in
    let behind : AreQuiet (entry y.starter y.op (Reply.Handle t.0) ∷ y.behind) =
    quiet_rest y.before (entry y.starter y.op (Reply.Handle t.0) ∷ y.behind) quiet in
    let step : IsNext first (entry y.starter y.op (Reply.Handle t.0)) =
    cut_from (opening terms) y.before y.behind (entry y.starter y.op (Reply.Handle t.0)) L0 in
    let calm : IsCalm (next first (entry y.starter y.op (Reply.Handle t.0))) =
    calm_next first (entry y.starter y.op (Reply.Handle t.0)) step behind.0
    (calm_along (opening terms) y.before (Legal-front (opening terms) y.before _ L0) (quiet_front y.before _ quiet) (calm_opening terms)) in
    let there : Own who t.0 (after_from (next first (entry y.starter y.op (Reply.Handle t.0))) y.behind) =
    own_along who t.0 _ y.behind (legal_behind (opening terms) y.before (entry y.starter y.op (Reply.Handle t.0)) y.behind L0) behind.1 calm y.left
    (started_own who t.0 first y.starter y.op step y.alone) in
    let own : Own who t.0 s = subst (λ (M : List NodeEntry). Own who t.0 (after terms M)) (sym y.is)
    (subst (Own who t.0) (sym (cut_after (opening terms) y.before y.behind (entry y.starter y.op (Reply.Handle t.0)))) there) in
    told who t.0 own.0.state r (looked_at s who t r own.0 (open_up s.phase (open_now x)) own.1 own.2 (allowed x))
