-- In a quiet history what was made stays as it was made.
use Rattle.settled_runs.proofs.Names.{Bool, arith, nat_tests, ◌≡◌, ℕ, true, List, [], ◌∷◌, ◌++◌, Some, refl, sym, ◌∙◌, ap, subst, is_some, entry, live_object, Action, new_action, Group, Queue, Op, Handle, State, opening, Move, Groups, Queues, makes_action, enables, withdraws, makes, alters, removes, apply, NodeEntry, IsNext, next, after, IsMade, EnablesAction, AltersObject, RemovesObject, by_moves, sorts_keep, live_listed, true_false, at_issue_here, at_issue_other, cut_from, cut_after, fresh_unlisted, fresh_apart, is_quiet, AreQuiet, none_withdrawn, IsThere, MadeObjectsStay, row, LegalFrom, after_from, ObjectKind, live_stays, NewTask, asked_for, asked_of, is_detached_member, false, Option, Reply, MtapiStatus, Mtapi, Row, gives, live, queues, OfEachReply, said, says_only, second_false, makes_object, tasks, is_fresh, starts_task, Allows, moves_of, handle_of}

-- The entry that makes it

pub made_there : (s : State) (o : Op) (who h : ℕ) → IsNext s (entry who o (Handle h)) → IsThere o h (next s (entry who o (Handle h)))
made_there s (Op.ActionCreate job k cores) who h n = grind (arith, nat_tests, n.allowed, at_issue_here, fresh_unlisted ObjectKind.Action s h)
made_there s (Op.QueueCreate id job priority limit ordered retain) who h n =
    grind (arith, nat_tests, n.allowed, at_issue_here, fresh_unlisted ObjectKind.Queue s h)
made_there s Op.GroupCreate who h n = grind (arith, nat_tests, n.allowed, at_issue_here, fresh_unlisted ObjectKind.Group s h)
made_there s _ who h n = tt

-- The task that an entry starts

-- this is the task that the op asks for, where the queue of an enqueue is as it is here
abbrev pub AskedAs : State → NewTask → Op → Type 0
AskedAs s n (Op.TaskStart job args priority cores detached group) =
    (asked_for job args priority cores detached group ≡ n) × (is_detached_member detached group ≡ false)
AskedAs s n (Op.TaskEnqueue q args cores detached group) =
    (x : Queue) × (live_object s.queues q.0 ≡ Some x) × (asked_of q.0 x args cores detached group ≡ n) × (is_detached_member detached group ≡ false)
AskedAs s n _ = ⊥

-- K of each reply and the moves that come with it, where it holds of each refusal and of the start of a fresh task
module _ (K : Reply → List Move → Type 0) (s : State) (who : ℕ) (r : Reply) (refused : (c : MtapiStatus) → K (Mtapi c) []) where
  says_queue : (x : Option Queue) (w : Queue → Row) → ((y : Queue) → x ≡ Some y → OfEachReply K (w y)) → OfEachReply K (live x (gives queues.invalid []) w)
  says_queue x w e1 = grind (arith, nat_tests)

  -- past a refusal
  past : {c : Bool} {x : MtapiStatus} {B : Type 0} → (c ≡ false → B) → K (Mtapi x) [] × (c ≡ false → B)
  past {x} f = (refused x, f)

  pub on_start : (o : Op) → makes_object ObjectKind.Task o ≡ true
      → ((h : ℕ) (n : NewTask) → AskedAs s n o → is_fresh tasks s h ≡ true → K (Handle h) (starts_task h n ∷ [])) → Allows (row s who o r) r
      → K r (moves_of (row s who o r))
  on_start (Op.TaskStart job args priority cores detached group) z k a =
      said K (row s who (Op.TaskStart job args priority cores detached group) r) r
      (past (λ c0. past (λ c1. past (λ c2. past (λ c3. past (λ c4. past (λ c5. past (λ c6.
      says_only K _ _ _ (k (handle_of r) (asked_for job args priority cores detached group) (refl, second_false _ _ c1)))))))))) a
  on_start (Op.TaskEnqueue q args cores detached group) z k a =
      said K (row s who (Op.TaskEnqueue q args cores detached group) r) r
      (past (λ c. past (λ d. says_queue (live_object s.queues q.0) _ (λ x e. past (λ c0. past (λ c1. past (λ c2. past (λ c3. past (λ c4. past (λ c5. past (λ c6.
      says_only K _ _ _ (k (handle_of r) (asked_of q.0 x args cores detached group) (x, e, refl, d))))))))))))) a
  on_start _ z k a = true_false z refl

-- The entries behind it

quiet_keeps : (o : Op) → is_quiet o ≡ true → ((j : ℕ) → EnablesAction j o → ⊥) × ((j : ℕ) (f : Queue → Queue) → AltersObject Queues j f o → ⊥)
    × ((j : ℕ) → RemovesObject Queues j o → ⊥) × ((j : ℕ) (f : Group → Group) → AltersObject Groups j f o → ⊥) × ((j : ℕ) → RemovesObject Groups j o → ⊥)
quiet_keeps o e1 = grind (arith, nat_tests)

abbrev Same : ℕ → Action → State → Type 0
Same h x s = live_object s.actions h ≡ Some x

action_stays : (h : ℕ) (x : Action) (o : Op) → is_quiet o ≡ true → (s : State) (m : Move) → IsMade s o m → Same h x s → Same h x (apply m s)
action_stays h x o q s (makes_action j a) e v =
    at_issue_other j h a s.actions (fresh_apart ObjectKind.Action s h j (live_listed h s.actions (ap is_some v)) e.may) ∙ v
action_stays h x o q s (enables j) e v = absurd ((quiet_keeps o q).0 j e.by)
action_stays h x o q s (withdraws j f c) e v = absurd (none_withdrawn j f o q e.by)
action_stays h x o q s (makes k j y) e v = sorts_keep (Same h x) (λ t g u n c r z p. p) k _ s v
action_stays h x o q s (alters k j f) e v = sorts_keep (Same h x) (λ t g u n c r z p. p) k _ s v
action_stays h x o q s (removes k j) e v = sorts_keep (Same h x) (λ t g u n c r z p. p) k _ s v
action_stays h x o q s _ e v = v

pub there_next : (s : State) (e : NodeEntry) (o : Op) (h : ℕ) → is_quiet e.op ≡ true → IsThere o h s → IsThere o h (next s e)
there_next s e (Op.ActionCreate job k cores) h q v =
    by_moves (Same h (new_action job k cores.0)) s e (λ t m i u. action_stays h (new_action job k cores.0) e.op q t m i u) v
there_next s e (Op.QueueCreate id job priority limit ordered retain) h q v =
    live_stays Queues s e h (quiet_keeps e.op q).1 (quiet_keeps e.op q).2 (live_listed h s.queues (ap is_some v)) ∙ v
there_next s e Op.GroupCreate h q v = live_stays Groups s e h (quiet_keeps e.op q).3 (quiet_keeps e.op q).4
    (live_listed h s.groups (ap is_some v)) ∙ v
there_next s e _ h q v = tt

there_along : (s : State) (L : List NodeEntry) (o : Op) (h : ℕ) → AreQuiet L → IsThere o h s → IsThere o h (after_from s L)
unfolding after_from
there_along s [] o h q v = v
there_along s (e ∷ es) o h q v = there_along (next s e) es o h q.1 (there_next s e o h q.0 v)

pub quiet_rest : (A B : List NodeEntry) → AreQuiet (A ++ B) → AreQuiet B
quiet_rest [] B q = q
quiet_rest (e ∷ A) B q = quiet_rest A B q.1

pub quiet_front : (A B : List NodeEntry) → AreQuiet (A ++ B) → AreQuiet A
quiet_front [] B q = tt
quiet_front (e ∷ A) B q = (q.0, quiet_front A B q.1)

pub made_objects_stay : MadeObjectsStay
made_objects_stay terms L o h legal quiet x =
    let at : LegalFrom (opening terms) (x.before ++ entry x.who o (Handle h) ∷ x.behind) = subst (LegalFrom (opening terms)) x.is legal.from in
    let here : IsThere o h (next (after_from (opening terms) x.before) (entry x.who o (Handle h))) =
    made_there (after_from (opening terms) x.before) o x.who h (cut_from (opening terms) x.before x.behind (entry x.who o (Handle h)) at) in
    let behind : AreQuiet (entry x.who o (Handle h) ∷ x.behind) = quiet_rest x.before (entry x.who o (Handle h) ∷ x.behind) (subst AreQuiet x.is quiet) in
    let there : IsThere o h (after_from (next (after_from (opening terms) x.before) (entry x.who o (Handle h))) x.behind) =
    there_along _ x.behind o h behind.1 here in
    subst (λ (M : List NodeEntry). IsThere o h (after terms M)) (sym x.is)
    (subst (IsThere o h) (sym (cut_after (opening terms) x.before x.behind (entry x.who o (Handle h)))) there)
