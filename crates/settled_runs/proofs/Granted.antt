-- In a quiet history a call isn't refused for which there is room and all that it needs.
use Rattle.settled_runs.proofs.Names.{◌≡◌, ℕ, ◌+◌, ◌≤◌, ◌<◌, Bool, true, false, cond, List, [], ◌∷◌, refl, ◌∙◌, arith, length, ◌==◌, ◌&&◌, not, nat_tests, entry, ObjectKind, how_many, Listed, live_object, Task, NewTask, new_task, Op, Reply, Handle, Mtapi, Terms, State, opening, Move, starts_task, apply, after_moves, Allows, after_row, NodeEntry, IsNext, next, after, SameTask, by_moves, objects_of, entries_that, true_false, is_any_handle, makes_one, HasObjectRoom, live_of, issue, retired, is_full, row, LegalFrom, after_from, zero, suc, ◌++◌, Option, Some, None, sym, ap, subst, ◌||◌, nat_lt, is_none, eq-eqb, holds, GroupHandle, any_listed, Action, new_action, has_job, has_enabled_job, is_eligible, some_below, Ok, Open, workers, is_open, phase_is, makes, alters, removes, is_served, Row, unless, gives, never, only, number_of, Legal, IsMade, Legal-front, sorts_keep, closes, NoClose, cut_from, cut_after, IsOpened, IsJobServed, GroupIsMade, Asks, IsGranted, has_worker, QuietCallsAreGranted, nat_le, count_listed, with_fields, gone, Queue, is_in, is_unended_in, Queues, live, new_queue, makes_of_sort, some_entry, none_first, Every, every_issue, every_change, sort_move, makes_queue, puts, makes_object, FieldsOf, AgesEach, SameFields, kind_move, terms_stay, puts_entry as puts_into, MtapiStatus, whether, IsThere, MadeBy}
use Rattle.settled_runs.proofs.Stays.{made_objects_stay, AskedAs, on_start}

-- How many objects a history made, and room for another

abbrev pub bit : Bool → ℕ
bit b = cond b 1 0

-- how many objects pass that were ever issued
module _ {T : Type 0} (p : T → Bool) where
  abbrev pub issued : List (Listed T) → ℕ
  issued l = how_many (λ r. p r.fields) l

  pub issued_more : (h : ℕ) (x : T) (l : List (Listed T)) → issued (issue h x l) ≡ issued l + bit (p x)
  unfolding issue
  issued_more h x [] = omega arith
  issued_more h x (r ∷ rs) = let k : issued (issue h x rs) ≡ issued rs + bit (p x) = issued_more h x rs in omega arith

  pub issued_ages : (K : T → T → Type 0) → ((x y : T) → K x y → p y ≡ p x) → (l m : List (Listed T)) → AgesEach K l m → issued m ≡ issued l
  issued_ages K f [] [] a = refl
  issued_ages K f (r ∷ rs) (q ∷ qs) a = let k = issued_ages K f rs qs a.1 in λ i. bit (f r.fields q.fields a.0.fields i) + k i
  issued_ages K f _ _ a = absurd a

abbrev pub any : {T : Type 0} → T → Bool
any x = true

module _ {T : Type 0} where
  length_live : (last : ℕ) (l : List (Listed T)) → length (live_of l) + retired last l ≤ issued any l
  unfolding live_of retired
  length_live last [] = omega arith
  length_live last (r ∷ rs) = grind (arith, length_live last rs)

  -- a list with fewer than its bound isn't full
  pub not_full : (last max : ℕ) (l : List (Listed T)) → issued any l < max → is_full last max l ≡ false
  unfolding is_full
  not_full last max l k = let e : length (live_of l) + retired last l ≤ issued any l = length_live last l in grind (arith, nat_tests)

-- how many objects of the kind pass
abbrev pub made_of : (k : ObjectKind) → (FieldsOf k → Bool) → State → ℕ
made_of k p s = issued p ((objects_of k).list s)

-- an entry whose op makes no object of the kind makes none that passes
pub none_made : (k : ObjectKind) (p : FieldsOf k → Bool) → ((x y : FieldsOf k) → SameFields k x y → p y ≡ p x) → (s : State) (e : NodeEntry)
    → makes_object k e.op ≡ false → made_of k p (next s e) ≡ made_of k p s
none_made k p f s e z =
    by_moves (λ t. made_of k p t ≡ made_of k p s) s e
    (λ t m i. kind_move k t e.op (λ l. issued p l ≡ made_of k p s) (λ h x b j v. true_false b z) (λ l a v. issued_ages p (SameFields k) f _ l a ∙ v) m i) refl

-- the reply makes at most one more
abbrev pub GrowsBy : ObjectKind → Type 0
GrowsBy k = (s : State) (who : ℕ) (o : Op) (r : Reply) → Allows (row s who o r) r
    → made_of k any (after_row s (row s who o r)) ≤ made_of k any s + bit (makes_object k o && is_any_handle r)

none_more : (k : ObjectKind) (s : State) (who : ℕ) (o : Op) (r : Reply) → makes_object k o ≡ false
    → made_of k any (after_row s (row s who o r)) ≤ made_of k any s + bit (makes_object k o && is_any_handle r)
none_more k s who o r z = let n : made_of k any (next s (entry who o r)) ≡ made_of k any s = none_made k any (λ x y i. refl) s (entry who o r) z in omega arith

more : {T : Type 0} (h : ℕ) (x : T) (l : List (Listed T)) → issued any (issue h x l) ≤ issued any l + 1
more h x l = let e : issued any (issue h x l) ≡ issued any l + 1 = issued_more any h x l in omega arith

-- and so it is of the tasks that pass, where the ops that start one are among these
module _ (p : Task → Bool) (same : (x y : Task) → SameTask x y → p y ≡ p x) (b : Op → Bool) (by : (s : State) (n : NewTask) (k : ℕ) (o : Op) → AskedAs s n o
    → p (new_task n k) ≡ true → b o ≡ true) where
  abbrev Gets : State → Op → Reply → List Move → Type 0
  Gets s o r ms = made_of ObjectKind.Task p (after_moves ms s) ≤ made_of ObjectKind.Task p s + bit (b o && is_any_handle r)

  one_gets : (s : State) (o : Op) (h : ℕ) (n : NewTask) → AskedAs s n o → Gets s o (Handle h) (starts_task h n ∷ [])
  one_gets s o h n i = grind (arith, nat_tests, by s n s.starts o i, issued_more p h (new_task n s.starts) s.tasks)

  pub tasks_made : (s : State) (who : ℕ) (o : Op) (r : Reply) → Allows (row s who o r) r
      → made_of ObjectKind.Task p (after_row s (row s who o r)) ≤ made_of ObjectKind.Task p s + bit (b o && is_any_handle r)
  tasks_made s who o r a = whether (makes_object ObjectKind.Task o) (λ z. on_start (Gets s o) s who r (λ c. omega arith) o z (λ h n i f. one_gets s o h n i) a)
      (λ z. let n : made_of ObjectKind.Task p (next s (entry who o r)) ≡ made_of ObjectKind.Task p s = none_made ObjectKind.Task p same s (entry who o r) z in
      omega arith)

pub tasks_grow : GrowsBy ObjectKind.Task
tasks_grow = tasks_made any (λ x y i. refl) (makes_object ObjectKind.Task) (λ s n k o e i. grind (arith, nat_tests, e))

pub actions_grow : GrowsBy ObjectKind.Action
actions_grow s who (Op.ActionCreate job k cores) r a = grind (arith, nat_tests, more {T = Action})
actions_grow s who o r a = none_more ObjectKind.Action s who o r refl

pub groups_grow : GrowsBy ObjectKind.Group
groups_grow s who Op.GroupCreate r a = grind (arith, nat_tests, more)
groups_grow s who o r a = none_more ObjectKind.Group s who o r refl

pub queues_grow : GrowsBy ObjectKind.Queue
queues_grow s who (Op.QueueCreate id job priority limit ordered retain) r a = grind (arith, nat_tests, more {T = Queue})
queues_grow s who o r a = none_more ObjectKind.Queue s who o r refl

-- what grows by an entry that passes and by no other grows by so many
pub grown_along : (f : State → ℕ) (p : NodeEntry → Bool) → ((s : State) (e : NodeEntry) → IsNext s e → f (next s e) ≤ f s + bit (p e))
    → (s : State) (L : List NodeEntry) → LegalFrom s L → f (after_from s L) ≤ f s + entries_that p L
unfolding LegalFrom after_from
grown_along f p g s [] l = omega arith
grown_along f p g s (e ∷ es) l = omega (arith, g s e l.0, grown_along f p g (next s e) es l.1)

nothing_yet : (k : ObjectKind) (terms : Terms) → made_of k any (opening terms) ≡ 0
nothing_yet ObjectKind.Action terms = refl
nothing_yet _ terms = refl

-- there is room for another where fewer were made than there may be
pub has_room : (k : ObjectKind) → GrowsBy k → (terms : Terms) (L : List NodeEntry) → LegalFrom (opening terms) L → HasObjectRoom terms k L → (last : ℕ)
    → is_full last ((objects_of k).max terms.settings) ((objects_of k).list (after terms L)) ≡ false
has_room k g terms L l r last = not_full last ((objects_of k).max terms.settings) ((objects_of k).list (after terms L))
    (omega (arith, grown_along (made_of k any) (makes_one k) (λ s e i. g s e.who e.op e.reply i.allowed) (opening terms) L l, nothing_yet k terms, r))

-- A row whose conditions aren't met

abbrev pub Passes : Row → Type 0
Passes (unless c x w) = (c ≡ false) × Passes w
Passes (gives x ms) = IsGranted x
Passes never = Unit {0}

pub passes : (w : Row) (r : Reply) → Passes w → Allows w r → IsGranted r
passes (unless true x w) r p a = true_false refl p.0
passes (unless false x w) r p a = passes w r p.1 a
passes (gives x ms) r p a = (p.0, a ∙ p.1)
passes never r p a = absurd a

pub passes_only : (b : Bool) (h : ℕ) (ms : List Move) → Passes (only b (gives (Handle h) ms))
passes_only b h ms = grind (arith, nat_tests)

-- The phase

pub open_move : (o : Op) → closes o ≡ false → (s : State) (x : Move) → IsMade s o x → is_open s.phase ≡ true → is_open (apply x s).phase ≡ true
open_move o c s (phase_is p) e v = grind (arith, nat_tests, e.by)
open_move o c s (makes k h x) e v = sorts_keep (λ t. is_open t.phase ≡ true) (λ t g q n d r z p. p) k _ s v
open_move o c s (alters k h f) e v = sorts_keep (λ t. is_open t.phase ≡ true) (λ t g q n d r z p. p) k _ s v
open_move o c s (removes k h) e v = sorts_keep (λ t. is_open t.phase ≡ true) (λ t g q n d r z p. p) k _ s v
open_move o c s _ e v = v

open_along : (s : State) (L : List NodeEntry) → NoClose L → is_open s.phase ≡ true → is_open (after_from s L).phase ≡ true
unfolding after_from
open_along s [] c v = v
open_along s (e ∷ es) c v = open_along (next s e) es c.1 (by_moves (λ t. is_open t.phase ≡ true) s e (λ t x i u. open_move e.op c.0 t x i u) v)

opens : (s : State) (b : Bool) → Allows (unless b (Mtapi MtapiStatus.ErrNodeInitialized) (gives Ok (phase_is Open ∷ []))) Ok
    → is_open (after_row s (unless b (Mtapi MtapiStatus.ErrNodeInitialized) (gives Ok (phase_is Open ∷ [])))).phase ≡ true
opens s b e1 = grind (arith, nat_tests)

pub opened : (terms : Terms) (L : List NodeEntry) → LegalFrom (opening terms) L → IsOpened L → is_open (after terms L).phase ≡ true
opened terms L l x =
    let at : LegalFrom (opening terms) (x.before ++ entry x.who Op.Initialize Ok ∷ x.behind) = subst (LegalFrom (opening terms)) x.is l in
    let n : IsNext (after_from (opening terms) x.before) (entry x.who Op.Initialize Ok) =
    cut_from (opening terms) x.before x.behind (entry x.who Op.Initialize Ok) at in
    let o : is_open (next (after_from (opening terms) x.before) (entry x.who Op.Initialize Ok)).phase ≡ true =
    opens (after_from (opening terms) x.before) _ n.allowed in
    subst (λ (M : List NodeEntry). is_open (after terms M).phase ≡ true) (sym x.is)
    (subst (λ (t : State). is_open t.phase ≡ true) (sym (cut_after (opening terms) x.before x.behind (entry x.who Op.Initialize Ok)))
    (open_along _ x.behind x.unclosed o))

-- Actions that serve

pub any_found : {T : Type 0} (p : T → Bool) (l : List (Listed T)) (h : ℕ) (x : T) → live_object l h ≡ Some x → p x ≡ true → any_listed p l ≡ true
unfolding live_of
any_found p [] h x e i = absurd (cc)
any_found p (r ∷ rs) h x e i = grind (arith, any_found p rs h x)

pub below_found : (n w : ℕ) (p : ℕ → Bool) → w < n → p w ≡ true → some_below n p ≡ true
below_found zero w p l e = absurd (omega arith)
below_found (suc n) w p l e = grind (arith, nat_tests, below_found n w p)

pub record Serves (s : State) (job cores : ℕ) : Type 0 where
  pub listed : any_listed (has_job job) s.actions ≡ true
  pub enabled : any_listed (has_enabled_job job) s.actions ≡ true
  pub served : is_served s job cores ≡ true

-- The calls

module _ {terms : Terms} {L : List NodeEntry} {who : ℕ} {o : Op} {r : Reply} (x : Asks terms L who o r) where
  pub before : Legal terms L
  before = record { fits = x.legal.fits; from = Legal-front (opening terms) L (entry who o r ∷ []) x.legal.from }

  pub is_up : not (is_open (after terms L).phase) ≡ false
  is_up = ap not (opened terms L before.from x.opened)

  same_terms : (after terms L).terms ≡ terms
  same_terms = terms_stay (opening terms) L before.from

  pub allowed : Allows (row (after terms L) who o r) r
  allowed = (cut_from (opening terms) L [] (entry who o r) x.legal.from).allowed

  granted : Passes (row (after terms L) who o r) → IsGranted r
  granted p = passes (row (after terms L) who o r) r p allowed

  room : (k : ObjectKind) → GrowsBy k → HasObjectRoom terms k L
      → is_full (after terms L).terms.settings.generations ((objects_of k).max (after terms L).terms.settings) ((objects_of k).list (after terms L)) ≡ false
  room k g h =
      subst (λ (t : Terms). is_full t.settings.generations ((objects_of k).max t.settings) ((objects_of k).list (after terms L)) ≡ false) (sym same_terms)
      (has_room k g terms L before.from h terms.settings.generations)

  low : (priority : ℕ) → priority < terms.settings.priorities → nat_lt priority (after terms L).terms.settings.priorities ≡ true
  low priority p = let k : priority < (after terms L).terms.settings.priorities = subst (λ (t : Terms). priority < t.settings.priorities) (sym same_terms) p in
      grind (arith, nat_tests, k)

  there : (m : Op) (h : ℕ) → MadeBy m h L → IsThere m h (after terms L)
  there m h y = made_objects_stay terms L m h before x.quiet y

  served : (job cores : ℕ) → IsJobServed terms L job cores → Serves (after terms L) job cores
  unfolding has_worker
  served job cores y =
      let s : State = after terms L in
      let a : Action = new_action job y.kind y.mask.0 in
      let here : live_object s.actions y.handle ≡ Some a = there (Op.ActionCreate job y.kind y.mask) y.handle y.made in
      let is_worker : y.worker < workers s = subst (λ (t : Terms). y.worker < t.settings.workers) (sym same_terms) y.is_worker in
      let eligible : is_eligible (workers s) y.worker job cores a ≡ true = let i : nat_lt y.worker (workers s) ≡ true = grind (arith, nat_tests, is_worker) in
      λ j. eq-eqb job job refl j && i j && y.in_action j && y.in_task j in
      record {
        listed = any_found (has_job job) s.actions y.handle a here (eq-eqb job job refl);
        enabled = any_found (has_enabled_job job) s.actions y.handle a here (eq-eqb job job refl);
        served = below_found (workers s) y.worker (λ w. any_listed (is_eligible (workers s) w job cores) s.actions) is_worker
            (any_found (is_eligible (workers s) y.worker job cores) s.actions y.handle a here eligible);
      }

  -- the group of a new task
  group_there : (group : Option GroupHandle) → GroupIsMade group L → holds (λ g. is_none (live_object (after terms L).groups g)) (number_of group) ≡ false
  group_there None y = refl
  group_there (Some g) y = ap is_none (there Op.GroupCreate g.0 y)

-- No queue has an id for which none was made

abbrev Differs : ℕ → Queue → Type 0
Differs id q = (q.id == id) ≡ false

abbrev Differ : ℕ → State → Type 0
Differ id s = Every (Differs id) s.queues

differ_move : (id : ℕ) (o : Op) → makes_of_sort Queues o ≡ false → (s : State) (x : Move) → IsMade s o x → Differ id s → Differ id (apply x s)
differ_move id o z s x e v =
    sort_move Queues s o (Every (Differs id)) (λ j y i w. true_false i.by z)
    (λ j f b w. every_change (Differs id) j (with_fields f) _ (λ r c d. grind (arith, nat_tests, b, d)) w)
    (λ j b w. every_change (Differs id) j gone _ (λ r c d. d) w) x e v

differ_next : (id : ℕ) (s : State) (who : ℕ) (o : Op) (r : Reply) → makes_queue id o ≡ false → Allows (row s who o r) r → Differ id s
    → Differ id (after_row s (row s who o r))
differ_next id s who (Op.QueueCreate other job priority limit ordered retain) r n a v = grind (arith, nat_tests, every_issue (Differs id))
differ_next id s who o r n a v = by_moves (Differ id) s (entry who o r) (λ t x i u. differ_move id o refl t x i u) v

differ_along : (id : ℕ) (s : State) (L : List NodeEntry) → LegalFrom s L → some_entry (λ e. makes_queue id e.op) L ≡ false → Differ id s
    → Differ id (after_from s L)
unfolding LegalFrom after_from
differ_along id s [] l n v = v
differ_along id s (e ∷ es) l n v =
    let both : (makes_queue id e.op ≡ false) × (some_entry (λ x. makes_queue id x.op) es ≡ false) = none_first (makes_queue id e.op) _ n in
    differ_along id (next s e) es l.1 both.1 (differ_next id s e.who e.op e.reply both.0 l.0.allowed v)

none_found : {T : Type 0} (p : T → Bool) (l : List (Listed T)) → Every (λ x. p x ≡ false) l → any_listed p l ≡ false
unfolding live_of
none_found p [] v = refl
none_found p (r ∷ rs) v = grind (arith, nat_tests, v.0, none_found p rs v.1)

-- How many tasks a queue was given

-- how many tasks that were ever issued name the queue
abbrev pub given_to : ℕ → State → ℕ
given_to q s = made_of ObjectKind.Task (is_in q) s

in_same : (q : ℕ) (x y : Task) → SameTask x y → is_in q y ≡ is_in q x
in_same q x y i = ap (holds (λ h. h == q)) i.queue

gets_along : (q : ℕ) (s : State) (L : List NodeEntry) → LegalFrom s L → given_to q (after_from s L) ≤ given_to q s + entries_that (puts_into q) L
gets_along q = grown_along (given_to q) (puts_into q)
    (λ s e i. tasks_made (is_in q) (in_same q) (puts q) (λ s n k o e i. grind (arith, nat_tests, e, i)) s e.who e.op e.reply i.allowed)

unended_given : (q : ℕ) (l : List (Listed Task)) → count_listed (is_unended_in q) l ≤ issued (is_in q) l
unended_given q [] = omega arith
unended_given q (r ∷ rs) = grind (arith, unended_given q rs)

passes_live : (o : Option Queue) (x : Queue) (v : Row) (w : Queue → Row) → o ≡ Some x → Passes (w x) → Passes (live o v w)
passes_live o x v w e p = subst (λ (y : Option Queue). Passes (live y v w)) (sym e) p

met : {A B : Type 0} → A → B → A × B
met a b = (a, b)

pub quiet_calls_are_granted : QuietCallsAreGranted
quiet_calls_are_granted terms L who r = record {
  action = λ job kind cores x j h. granted x (met (is_up x) (met (ap not j) (met (room x ObjectKind.Action actions_grow h) (passes_only _ _ _))));
  group = λ x h. granted x (met (is_up x) (met (room x ObjectKind.Group groups_grow h) (passes_only _ _ _)));
  start = λ job args priority cores group x p h v g.
      let y : Serves (after terms L) job cores.0 = served x job cores.0 v in
      granted x (met (is_up x) (met (λ j. not (low x priority p j) || false) (met (ap not y.listed) (met (group_there x group g) (met (ap not y.enabled)
      (met (ap not y.served) (met (room x ObjectKind.Task tasks_grow h) (passes_only _ _ _))))))));
  queue = λ id job priority limit ordered retain x p range h v n.
      let has : any_listed (has_job job) (after terms L).actions ≡ true =
      any_found (has_job job) (after terms L).actions v.handle (new_action job v.kind v.mask.0) (there x (Op.ActionCreate job v.kind v.mask) v.handle v.made)
      (eq-eqb job job refl) in
      let in_range : (not (nat_lt priority (after terms L).terms.settings.priorities) || not (nat_le 1 limit && nat_le limit 65536)) ≡ false =
      let a : 1 ≤ limit = range.0 in let b : limit ≤ 65536 = range.1 in let c : nat_le 1 limit ≡ true = grind (arith, nat_tests) in
      let d : nat_le limit 65536 ≡ true = grind (arith, nat_tests) in λ j. not (low x priority p j) || not (c j && d j) in
      granted x (met (is_up x) (met in_range (met (ap not has)
      (met (none_found (λ y. y.id == id) (after terms L).queues (differ_along id (opening terms) L (before x).from n tt))
      (met (room x ObjectKind.Queue queues_grow h) (passes_only _ _ _))))));
  enqueue = λ q job priority args cores group x k h v g.
      let s : State = after terms L in
      let y : Serves s job cores.0 = served x job cores.0 v in
      let not_many : (count_listed (is_unended_in q.0) s.tasks == k.limit) ≡ false =
      let a : count_listed (is_unended_in q.0) s.tasks ≤ given_to q.0 s = unended_given q.0 s.tasks in
      let b : given_to q.0 s ≤ 0 + entries_that (puts_into q.0) L = gets_along q.0 (opening terms) L (before x).from in
      let c : entries_that (puts_into q.0) L < k.limit = k.few in grind (arith, nat_tests) in
      granted x (met (is_up x) (met refl (passes_live (live_object s.queues q.0) (new_queue k.id job priority k.limit k.ordered k.retain) _ _
      (there x (Op.QueueCreate k.id job priority k.limit k.ordered k.retain) q.0 k.made) (met refl (met (ap not y.listed) (met (group_there x group g)
      (met (ap not y.enabled) (met (ap not y.served) (met not_many (met (room x ObjectKind.Task tasks_grow h) (passes_only _ _ _)))))))))));
}
