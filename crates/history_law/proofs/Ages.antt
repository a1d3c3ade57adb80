-- What each move does to the objects of one kind: they stay listed, none comes back to life, and a new one has a new handle.
use Rattle.history_law.proofs.Names.{nat_tests, ◌≡◌, ℕ, ◌≤◌, Bool, true, false, List, [], ◌∷◌, Some, refl, sym, ◌∙◌, ap, arith, ◌==◌, ◌&&◌, is_some, cond_both, ObjectKind, Op, Listed, live_of, live_object, listed, change, issue, with_fields, gone, Action, with_enabled, Queue, Task, new_task, NewTask, State, FieldsOf, objects_of, is_open, Sort, Fields, all_of, Move, Groups, Queues, Mutexes, Sems, Rwls, Segments, makes_action, enables, withdraws, starts_task, is_fresh, apply, IsMade, WithdrawsAction, AltersObject, MakesAction, StartsTask, makes_of_sort, snd_true, rest_keeps, some_same}
use Rattle.mtapi_values.specs.declared.handles.ObjectKind.TheVariants as kind
use Rattle.history_law.specs.Words.{makes_object}
use Rattle.history_law.proofs.Moves.{opens_fresh}
use Rattle.history_law.proofs.TaskSteps as step
use Rattle.history_law.proofs.TaskSteps.{Step, Steps, tasks_go, step_handle, step_dead}
use Rattle.history_law.proofs.Sorts.{sort_move}
use Rattle.history_law.proofs.Answered.{true_false}
use Rattle.history_law.proofs.lists.Found.{at_head, at_here, at_past}

-- What no move changes of an object

pub record SameAction (x y : Action) : Type 0 where
  pub job : y.job ≡ x.job
  pub kind : y.kind ≡ x.kind
  pub cores : y.cores ≡ x.cores

pub record SameTask (x y : Task) : Type 0 where
  pub job : y.job ≡ x.job
  pub args : y.args ≡ x.args
  pub priority : y.priority ≡ x.priority
  pub cores : y.cores ≡ x.cores
  pub queue : y.queue ≡ x.queue
  pub start : y.start ≡ x.start

pub record SameQueue (x y : Queue) : Type 0 where
  pub job : y.job ≡ x.job
  pub priority : y.priority ≡ x.priority
  pub ordered : y.ordered ≡ x.ordered

abbrev pub SameFields : (k : ObjectKind) → FieldsOf k → FieldsOf k → Type 0
SameFields kind.Action x y = SameAction x y
SameFields kind.Task x y = SameTask x y
SameFields kind.Queue x y = SameQueue x y
SameFields kind.Group x y = Unit {0}
SameFields kind.Mutex x y = Unit {0}
SameFields kind.Sem x y = Unit {0}
SameFields kind.Rwl x y = Unit {0}
SameFields kind.Shmem x y = Unit {0}

same_action : (x : Action) → SameAction x x
same_action x = record { job = refl; kind = refl; cores = refl }

pub same_task : (x : Task) → SameTask x x
same_task x = record { job = refl; args = refl; priority = refl; cores = refl; queue = refl; start = refl }

same_queue : (x : Queue) → SameQueue x x
same_queue x = record { job = refl; priority = refl; ordered = refl }

nothing_same : {T : Type 0} (x : T) → Unit {0}
nothing_same x = tt

-- the object has its handle and what no move changes, and doesn't come back to life
pub record Ages {T : Type 0} (K : T → T → Type 0) (r q : Listed T) : Type 0 where
  pub handle : q.handle ≡ r.handle
  pub dead : r.live ≡ false → q.live ≡ false
  pub fields : K r.fields q.fields

module _ {T : Type 0} (K : T → T → Type 0) where
  abbrev pub AgesEach : List (Listed T) → List (Listed T) → Type 0
  AgesEach [] [] = Unit {0}
  AgesEach [] (q ∷ qs) = ⊥
  AgesEach (r ∷ rs) [] = ⊥
  AgesEach (r ∷ rs) (q ∷ qs) = Ages K r q × AgesEach rs qs

  module _ (same : (x : T) → K x x) where
    ages_same : (r : Listed T) → Ages K r r
    ages_same r = record { handle = refl; dead = λ d. d; fields = same r.fields }

    each_same : (l : List (Listed T)) → AgesEach l l
    each_same [] = tt
    each_same (r ∷ rs) = (ages_same r, each_same rs)

    each_change : (h : ℕ) (f : Listed T → Listed T) (l : List (Listed T)) → ((r : Listed T) → Ages K r (f r)) → AgesEach l (change h f l)
    unfolding change
    each_change h f [] k = tt
    each_change h f (r ∷ rs) k = cond_both (r.live && (r.handle == h)) (f r ∷ rs) (r
        ∷ change h f rs) (AgesEach (r ∷ rs)) (λ e. (k r, each_same rs)) (λ e. (ages_same r, each_change h f rs k))

    gone_ages : (r : Listed T) → Ages K r (gone r)
    gone_ages r = record { handle = refl; dead = λ d. refl; fields = same r.fields }

  fields_age : (f : T → T) → ((x : T) → K x (f x)) → (r : Listed T) → Ages K r (with_fields f r)
  fields_age f k r = record { handle = refl; dead = λ d. d; fields = k r.fields }

step_same : (s : State) (r : Listed Task) (m : Move) (q : Listed Task) → Step s r m q → SameTask r.fields q.fields
step_same s r m q x = grind arith

steps_age : (s : State) (m : Move) (l k : List (Listed Task)) → ((h : ℕ) (t : NewTask) → m ≡ starts_task h t → ⊥) → Steps s m l k → AgesEach SameTask l k
steps_age s _ _ _ n (step.none m) = tt
steps_age s _ _ _ n (step.new h t) = absurd (n h t refl)
steps_age s _ _ _ n (step.next m r q rs qs x k) =
    (record { handle = step_handle s r m q x; dead = step_dead s r m q x; fields = step_same s r m q x }, steps_age s m rs qs n k)

enabled_same : (b : Bool) (x : Action) → SameAction x (with_enabled b x)
enabled_same b x = record { job = refl; kind = refl; cores = refl }

withdrawn_ages : (h : ℕ) (f : Listed Action → Listed Action) (o : Op) → WithdrawsAction h f o → (r : Listed Action) → Ages SameAction r (f r)
withdrawn_ages h f o e1 r = grind (arith, nat_tests)

altered_same : (h : ℕ) (f : Queue → Queue) (o : Op) → AltersObject Queues h f o → (x : Queue) → SameQueue x (f x)
altered_same h f o e1 x = grind (arith, nat_tests)

-- so it is of the kinds that no rule of tasks speaks of
sort_ages : (k : Sort) (K : Fields k → Fields k → Type 0) → ((x : Fields k) → K x x) → (s : State) (o : Op)
    → ((j : ℕ) (f : Fields k → Fields k) → AltersObject k j f o → (x : Fields k) → K x (f x)) → (Q : List (Listed (Fields k)) → Type 0)
    → ((h : ℕ) (x : Fields k) → makes_of_sort k o ≡ true → is_fresh (all_of k) s h ≡ true → Q ((all_of k).list s) → Q (issue h x ((all_of k).list s)))
    → ((m : List (Listed (Fields k))) → AgesEach K ((all_of k).list s) m → Q ((all_of k).list s) → Q m)
    → (m : Move) → IsMade s o m → Q ((all_of k).list s) → Q ((all_of k).list (apply m s))
sort_ages k K same s o alter Q new old m e v = grind (arith, nat_tests, sort_move k s o Q, each_change K same, fields_age K, gone_ages K same)

-- an op whose move makes an object is one that makes it

makes_task : (t : NewTask) (o : Op) → StartsTask t o → makes_object kind.Task o ≡ true
makes_task t o e1 = grind (arith, nat_tests)

makes_this : (a : Action) (o : Op) → MakesAction a o → makes_object kind.Action o ≡ true
makes_this a o e1 = grind (arith, nat_tests)

abbrev kind_of : Sort → ObjectKind
kind_of Groups = kind.Group
kind_of Queues = kind.Queue
kind_of Mutexes = kind.Mutex
kind_of Sems = kind.Sem
kind_of Rwls = kind.Rwl
kind_of Segments = kind.Shmem

makes_sort : (k : Sort) (o : Op) → makes_of_sort k o ≡ true → makes_object (kind_of k) o ≡ true
makes_sort k o e1 = grind (arith, nat_tests)

-- what a new object, by an op that makes it, and ageing keep, each move keeps
pub kind_move : (k : ObjectKind) (s : State) (o : Op) (Q : List (Listed (FieldsOf k)) → Type 0)
    → ((h : ℕ) (x : FieldsOf k) → makes_object k o ≡ true → is_fresh (objects_of k) s h ≡ true → Q ((objects_of k).list s)
    → Q (issue h x ((objects_of k).list s)))
    → ((m : List (Listed (FieldsOf k))) → AgesEach (SameFields k) ((objects_of k).list s) m → Q ((objects_of k).list s) → Q m)
    → (m : Move) → IsMade s o m → Q ((objects_of k).list s) → Q ((objects_of k).list (apply m s))
kind_move kind.Action s o Q new old (makes_action h a) e v = new h a (makes_this a o e.by) e.may v
kind_move kind.Action s o Q new old (enables h) e v =
    old _ (each_change SameAction same_action h _ s.actions (fields_age SameAction (with_enabled true) (enabled_same true))) v
kind_move kind.Action s o Q new old (withdraws h f c) e v = old _ (each_change SameAction same_action h f s.actions (withdrawn_ages h f o e.by)) v
kind_move kind.Action s o Q new old x e v = rest_keeps (λ t. Q t.actions) (λ t g q m c r y p. p) x s v
kind_move kind.Task s o Q new old (starts_task h t) e v =
    new h (new_task t s.starts) (makes_task t o e.by) (snd_true (is_open s.phase) _ (opens_fresh s h t e.may)) v
kind_move kind.Task s o Q new old x e v = old _ (steps_age s x s.tasks _ (λ h t i. cc) (tasks_go s x)) v
kind_move kind.Group s o Q new old m e v =
    sort_ages Groups (SameFields kind.Group) nothing_same s o (λ j f w x. tt) Q (λ h x b i. new h x (makes_sort Groups o b) i) old m e v
kind_move kind.Queue s o Q new old m e v =
    sort_ages Queues SameQueue same_queue s o (λ j f w x. altered_same j f o w x) Q (λ h x b i. new h x (makes_sort Queues o b) i) old m e v
kind_move kind.Mutex s o Q new old m e v =
    sort_ages Mutexes (SameFields kind.Mutex) nothing_same s o (λ j f w x. tt) Q (λ h x b i. new h x (makes_sort Mutexes o b) i) old m e v
kind_move kind.Sem s o Q new old m e v =
    sort_ages Sems (SameFields kind.Sem) nothing_same s o (λ j f w x. tt) Q (λ h x b i. new h x (makes_sort Sems o b) i) old m e v
kind_move kind.Rwl s o Q new old m e v =
    sort_ages Rwls (SameFields kind.Rwl) nothing_same s o (λ j f w x. tt) Q (λ h x b i. new h x (makes_sort Rwls o b) i) old m e v
kind_move kind.Shmem s o Q new old m e v =
    sort_ages Segments (SameFields kind.Shmem) nothing_same s o (λ j f w x. tt) Q (λ h x b i. new h x (makes_sort Segments o b) i) old m e v

-- How often a handle is listed, and whether it is live

module _ {T : Type 0} where
  -- nothing live has this handle
  abbrev pub Dead : ℕ → List (Listed T) → Type 0
  Dead h [] = Unit {0}
  Dead h (r ∷ rs) = ((r.handle == h) ≡ true → r.live ≡ false) × Dead h rs

module _ {T : Type 0} (K : T → T → Type 0) where
  pub listed_ages : (h : ℕ) (l m : List (Listed T)) → AgesEach K l m → listed h m ≡ listed h l
  unfolding listed
  listed_ages h (r ∷ rs) (q ∷ qs) a = grind (arith, nat_tests, listed_ages h rs qs a.1)
  listed_ages h _ _ a = grind (arith, nat_tests)

  pub dead_ages : (h : ℕ) (l m : List (Listed T)) → AgesEach K l m → Dead h l → Dead h m
  dead_ages h (r ∷ rs) (q ∷ qs) a d = ((λ e. a.0.dead (d.0 (ap (λ (n : ℕ). n == h) (sym a.0.handle) ∙ e))), dead_ages h rs qs a.1 d.1)
  dead_ages h _ _ a d = grind (arith, nat_tests)

module _ {T : Type 0} where
  pub dead_issue : (h j : ℕ) (x : T) (l : List (Listed T)) → (j == h) ≡ false → Dead h l → Dead h (issue j x l)
  unfolding issue
  dead_issue h j x [] n d = grind (arith, nat_tests)
  dead_issue h j x (r ∷ rs) n d = (d.0, dead_issue h j x rs n d.1)

  pub dead_none : (h : ℕ) (l : List (Listed T)) → Dead h l → is_some (live_object l h) ≡ false
  unfolding live_of
  dead_none h [] d = refl
  dead_none h (r ∷ rs) d = at_head r h (λ a b. true_false a (d.0 b)) (λ n. ap is_some (at_past r rs h n) ∙ dead_none h rs d.1)

  pub none_dead : (h : ℕ) (l : List (Listed T)) → is_some (live_object l h) ≡ false → Dead h l
  none_dead h [] e = tt
  none_dead h (r ∷ rs) e = grind (arith, nat_tests, none_dead h rs, at_head, true_false, at_here, at_past)

  -- what is live is listed
  pub live_listed : (h : ℕ) (l : List (Listed T)) → is_some (live_object l h) ≡ true → 1 ≤ listed h l
  unfolding live_of listed
  live_listed h [] e = absurd (cc)
  live_listed h (r ∷ rs) e = grind (arith, nat_tests, live_listed h rs)

-- What holds of each object that was issued under a handle

module _ {T : Type 0} where
  abbrev pub Under : ℕ → (T → Type 0) → List (Listed T) → Type 0
  Under h F [] = Unit {0}
  Under h F (r ∷ rs) = ((r.handle == h) ≡ true → F r.fields) × Under h F rs

  pub under_issue : (h : ℕ) (F : T → Type 0) (j : ℕ) (x : T) (l : List (Listed T)) → ((j == h) ≡ true → F x) → Under h F l → Under h F (issue j x l)
  unfolding issue
  under_issue h F j x [] f u = (f, tt)
  under_issue h F j x (r ∷ rs) f u = (u.0, under_issue h F j x rs f u.1)

  pub under_none : (h : ℕ) (F : T → Type 0) (l : List (Listed T)) → listed h l ≡ 0 → Under h F l
  unfolding listed
  under_none h F [] e = tt
  under_none h F (r ∷ rs) e = (λ j. grind (arith, nat_tests), under_none h F rs (grind (arith, nat_tests)))

  pub under_at : (h : ℕ) (F : T → Type 0) (l : List (Listed T)) (x : T) → Under h F l → live_object l h ≡ Some x → F x
  unfolding live_of
  under_at h F [] x u e = absurd (cc)
  under_at h F (r ∷ rs) x u e = grind (arith, nat_tests, under_at h F rs x u.1, u.0, some_same)

  pub under_ages : (K : T → T → Type 0) (h : ℕ) (F : T → Type 0) → ((x y : T) → K x y → F x → F y) → (l m : List (Listed T)) → AgesEach K l m → Under h F l
      → Under h F m
  under_ages K h F g (r ∷ rs) (q ∷ qs) a u = grind (arith, nat_tests, g r.fields q.fields a.0.fields, under_ages K h F g rs qs a.1 u.1)
  under_ages K h F g _ _ a u = grind (arith, nat_tests)
