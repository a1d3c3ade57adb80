-- What an entry says of a new object, its record keeps.
use Rattle.history_law.proofs.Names.{◌≡◌, ℕ, ◌≤◌, true, List, [], ◌∷◌, ◌++◌, refl, sym, ◌∙◌, subst, ObjectKind, Op, Handle, Listed, listed, issue, Action, new_action, Task, NewTask, new_task, State, FieldsOf, objects_of, Move, starts_task, is_fresh, apply, after_moves, new_queue, NodeEntry, IsNext, next, LegalFrom, after_from, IsMade, StartsTask, Legal-rest, after-append, along, issues, ◌+◌, Answers, answered, nat_tests, arith}
use Rattle.mtapi_values.specs.declared.handles.ObjectKind.TheVariants as kind
use Rattle.mtapi_machine.specs.declared.ops.Op.TheVariants as op
use Rattle.history_law.specs.Words.{makes_object}
use Rattle.mtapi_machine.specs.Answers as is
use Rattle.history_law.proofs.Ages.{SameFields, SameAction, SameTask, SameQueue, kind_move, listed_ages, Under, under_issue, under_none, under_ages, same_task}
use Rattle.history_law.proofs.Reuse.{fresh_unlisted, fresh_apart, listed_issue_some, issued_as}
use Rattle.history_law.proofs.Answered.{true_false}
use Rattle.history_law.proofs.lists.Handles.{some_issued}

-- an object was issued under the handle, and F holds of each that was
pub record Has {T : Type 0} (h : ℕ) (F : T → Type 0) (l : List (Listed T)) : Type 0 where
  pub some : 1 ≤ listed h l
  pub under : Under h F l

abbrev pub HasObject : (k : ObjectKind) → ℕ → (FieldsOf k → Type 0) → State → Type 0
HasObject k h F s = Has h F ((objects_of k).list s)

pub has_move : (k : ObjectKind) (h : ℕ) (F : FieldsOf k → Type 0) → ((x y : FieldsOf k) → SameFields k x y → F x → F y) → (s : State) (o : Op) (m : Move)
    → IsMade s o m → HasObject k h F s → HasObject k h F (apply m s)
has_move k h F c s o m e v =
    kind_move k s o (Has h F)
    (λ j x b i w. record { some = listed_issue_some h j x _ w.some; under = under_issue h F j x _ (λ d. true_false d (fresh_apart k s h j w.some i)) w.under })
    (λ l a w. record {
      some = subst (λ (n : ℕ). 1 ≤ n) (sym (listed_ages (SameFields k) h _ l a)) w.some;
      under = under_ages (SameFields k) h F c _ l a w.under;
    }) m e v

pub has_along : (k : ObjectKind) (h : ℕ) (F : FieldsOf k → Type 0) → ((x y : FieldsOf k) → SameFields k x y → F x → F y) → (s : State) (L : List NodeEntry)
    → HasObject k h F s → HasObject k h F (after_from s L)
has_along k h F c s L v = along (HasObject k h F) (λ o t m e. has_move k h F c t o m e) s L v

-- a new object, under a handle that was fresh
pub has_new : {T : Type 0} (h : ℕ) (F : T → Type 0) (x : T) (l : List (Listed T)) → listed h l ≡ 0 → F x → Has h F (issue h x l)
has_new h F x l n f = record { some = some_issued h x l; under = under_issue h F h x l (λ e. f) (under_none h F l n) }

-- Tasks, and the number of the next start

pub task_then : (a : Task) (x y : Task) → SameTask x y → SameTask a x → SameTask a y
task_then a x y s t = grind (arith, nat_tests)

-- a task that an entry started is listed as it was asked for, with the next number of a start
abbrev pub StartedAs : State → Op → ℕ → State → Type 0
StartedAs s o h t = (n : NewTask) × StartsTask n o × HasObject kind.Task h (SameTask (new_task n s.starts)) t × (t.starts ≡ s.starts + 1)

new_start : (s : State) (o : Op) (h : ℕ) (n : NewTask) → StartsTask n o → is_fresh (objects_of kind.Task) s h ≡ true
    → StartedAs s o h (after_moves (starts_task h n ∷ []) s)
new_start s o h n b e = (
  n,
  b,
  has_new h (SameTask (new_task n s.starts)) (new_task n s.starts) s.tasks (fresh_unlisted kind.Task s h e)
      (same_task (new_task n s.starts)),
  refl,
)

start_by : (s : State) (who : ℕ) (o : Op) (h : ℕ) (ms : List Move) → makes_object kind.Task o ≡ true → Answers s who o (Handle h) ms
    → StartedAs s o h (after_moves ms s)
start_by s who o _ _ e (is.starts job args priority cores detached group h f) = new_start s o h _ refl f.fresh
start_by s who o _ _ e (is.enqueues q args cores detached group h x d p f n) = new_start s o h _ (x, refl) f.fresh
start_by s who _ _ _ e _ = true_false e refl

pub started_as : (s : State) (e : NodeEntry) (h : ℕ) → IsNext s e → issues kind.Task h e ≡ true → StartedAs s e.op h (next s e)
started_as s e h n i = issued_as kind.Task h s (λ o t. StartedAs s o h t) (λ who o k a. start_by s who o h _ k (answered s who o (Handle h) a)) e n i

-- Actions

pub action_then : (a : Action) (x y : Action) → SameAction x y → SameAction a x → SameAction a y
action_then a x y s t = record { job = s.job ∙ t.job; kind = s.kind ∙ t.kind; cores = s.cores ∙ t.cores }

abbrev pub MadeAs : Op → ℕ → State → Type 0
MadeAs (op.ActionCreate job k cores) h t = HasObject kind.Action h (SameAction (new_action job k cores.0)) t
MadeAs _ h t = ⊥

make_by : (s : State) (who : ℕ) (o : Op) (h : ℕ) (ms : List Move) → makes_object kind.Action o ≡ true → Answers s who o (Handle h) ms
    → MadeAs o h (after_moves ms s)
make_by s who _ _ _ e (is.creates_action job k cores h f) =
    has_new h (SameAction (new_action job k cores.0)) (new_action job k cores.0) s.actions (fresh_unlisted kind.Action s h f)
    (record { job = refl; kind = refl; cores = refl })
make_by s who _ _ _ e _ = true_false e refl

pub made_as : (s : State) (e : NodeEntry) (h : ℕ) → IsNext s e → issues kind.Action h e ≡ true → MadeAs e.op h (next s e)
made_as s e h n i = issued_as kind.Action h s (λ o t. MadeAs o h t) (λ who o k a. make_by s who o h _ k (answered s who o (Handle h) a)) e n i

-- Queues

abbrev pub QueueAs : Op → ℕ → State → Type 0
QueueAs (op.QueueCreate id job priority limit ordered retain) h t = HasObject kind.Queue h (SameQueue (new_queue id job priority limit ordered retain)) t
QueueAs _ h t = ⊥

queue_by : (s : State) (who : ℕ) (o : Op) (h : ℕ) (ms : List Move) → makes_object kind.Queue o ≡ true → Answers s who o (Handle h) ms
    → QueueAs o h (after_moves ms s)
queue_by s who _ _ _ e (is.creates_queue id job priority limit ordered retain h n f) =
    has_new h (SameQueue (new_queue id job priority limit ordered retain)) (new_queue id job priority limit ordered retain) s.queues
    (fresh_unlisted kind.Queue s h f) (record { job = refl; priority = refl; ordered = refl })
queue_by s who _ _ _ e _ = true_false e refl

pub queued_as : (s : State) (e : NodeEntry) (h : ℕ) → IsNext s e → issues kind.Queue h e ≡ true → QueueAs e.op h (next s e)
queued_as s e h n i = issued_as kind.Queue h s (λ o t. QueueAs o h t) (λ who o k a. queue_by s who o h _ k (answered s who o (Handle h) a)) e n i

-- After a prefix that has the entry

pub cut_from : (s : State) (A B : List NodeEntry) (e : NodeEntry) → LegalFrom s (A ++ e ∷ B) → IsNext (after_from s A) e
unfolding LegalFrom
cut_from s A B e l = (Legal-rest s A (e ∷ B) l).0

pub cut_after : (s : State) (A B : List NodeEntry) (e : NodeEntry) → after_from s (A ++ e ∷ B) ≡ after_from (next (after_from s A) e) B
unfolding after_from
cut_after s A B e = after-append s A (e ∷ B)

pub has_behind : (k : ObjectKind) (h : ℕ) (F : FieldsOf k → Type 0) → ((x y : FieldsOf k) → SameFields k x y → F x → F y)
    → (s : State) (A B : List NodeEntry) (e : NodeEntry) → HasObject k h F (next (after_from s A) e) → HasObject k h F (after_from s (A ++ e ∷ B))
has_behind k h F c s A B e v = subst (HasObject k h F) (sym (cut_after s A B e)) (has_along k h F c (next (after_from s A) e) B v)
