-- No task fails with ErrTaskLimit: no action, watch or tally ends so, and nothing that takes a task's queue or action.
use Rattle.history_law.proofs.Names.{nat_tests, arith, ◌≡◌, ℕ, Bool, true, false, List, [], ◌∷◌, Some, ◌⊎◌, inl, inr, refl, ◌∙◌, ap, cond_both, not, Kind, TaskEnd, Failed, MtapiStatus, answer_of, Answered, IsAnswered, Reply, Op, Listed, live_of, live_object, Task, Notes, TaskState, Scheduled, Running, Ended, end_of, asked_once, watch_end, tally_verdict, Ending, insert_ended, endings, State, Move, withdraws, ends_task, ends_waiting, notes, apply, after_moves, moves_of, task_end, NodeEntry, IsNext, IsHonest, row_of, next, LegalFrom, after_from, Answers, gives_up_with, is_member, some_same}
use Rattle.mtapi_values.specs.declared.statuses.MtapiStatus.TheVariants as m
use Rattle.mtapi_objects.specs.Groups.{first_fault}
use Rattle.history_law.proofs.SeatMoves.{answer, kept_along}
use Rattle.history_law.proofs.TaskSteps as step
use Rattle.history_law.proofs.TaskSteps.{Step, tasks_go, every_steps}
use Rattle.history_law.proofs.lists.Every.{Each, Every}
use Rattle.history_law.proofs.lists.Members.{all_insert}
use Rattle.mtapi_machine.specs.Answers as is

abbrev pub is_limit : TaskEnd → Bool
is_limit (Failed m.ErrTaskLimit) = true
is_limit _ = false

abbrev pub ends_otherwise : TaskState → Bool
ends_otherwise (Ended e n) = not (is_limit e)
ends_otherwise _ = true

-- the task hasn't ended so, and neither is it how its tally would end
pub record IsOther (t : Task) : Type 0 where
  pub state : ends_otherwise t.state ≡ true
  pub verdict : is_limit t.notes.tally.verdict ≡ false

-- what each move brings to a task
abbrev Brings : State → Move → Type 0
Brings s (withdraws h f c) = is_limit (Failed c) ≡ false
Brings s (ends_task h e) = (is_limit e ≡ false) ⊎ ((t : Task) × (live_object s.tasks h ≡ Some t) × (e ≡ t.notes.tally.verdict))
Brings s (ends_waiting p e) = is_limit e ≡ false
Brings s (notes h f) = (n : Notes) → is_limit n.tally.verdict ≡ false → is_limit (f n).tally.verdict ≡ false
Brings s _ = Unit {0}

abbrev AllBring : State → List Move → Type 0
AllBring s [] = Unit {0}
AllBring s (x ∷ xs) = Brings s x × AllBring (apply x s) xs

answer_otherwise : (k : Kind) (args : List _) → is_limit (task_end (answer_of k args)) ≡ false
unfolding answer_of
answer_otherwise k args = grind (arith, nat_tests)

done_otherwise : (f : Answered) → IsAnswered f → is_limit (task_end f.end) ≡ false
done_otherwise f a = ap (λ e. is_limit (task_end e)) a.answer ∙ answer_otherwise f.kind f.args

watch_otherwise : (t : Task) → is_limit (watch_end t) ≡ false
watch_otherwise t = grind (arith, nat_tests)

status_otherwise : (c : MtapiStatus) → gives_up_with c ≡ true → is_limit (Failed c) ≡ false
status_otherwise c e1 = grind (arith, nat_tests)

verdict_otherwise : (t : Task) → is_limit (tally_verdict t) ≡ false
verdict_otherwise t = grind (arith, nat_tests)

asked_otherwise : (n : Notes) → is_limit n.tally.verdict ≡ false → is_limit (asked_once n).tally.verdict ≡ false
asked_otherwise n e1 = grind (arith, nat_tests)

brings : (s : State) (who : ℕ) (o : Op) (r : Reply) (ms : List Move) → IsHonest o → Answers s who o r ms → AllBring s ms
brings s who _ _ _ i (is.finishes t f x k u) = (inl (done_otherwise f i), tt)
brings s who _ _ _ i (is.asks t x k u) = (asked_otherwise, tt)
brings s who _ _ _ i (is.ends_watch t x k u) = (inl (watch_otherwise x), tt)
brings s who _ _ _ i (is.lock_fails t x c k z v) = ((λ n e. status_otherwise c v), tt)
brings s who _ _ _ i (is.tally_ends_failed t x k z) = (inr (x, k.found, refl), tt)
brings s who _ _ _ i (is.tally_ends t x y z k e d f g) = (tt, (tt, (inl (verdict_otherwise x), tt)))
brings s who _ _ _ i _ = grind (arith, nat_tests)

step_otherwise : (s : State) (r : Listed Task) (x : Move) (q : Listed Task) → Step s r x q → Brings s x → IsOther r.fields → IsOther q.fields
step_otherwise s r _ _ (step.ends j x a i e) k v = grind (arith, nat_tests, some_same)
step_otherwise s r _ _ (step.noted j f a i e) k v = record { state = v.state; verdict = k r.fields.notes v.verdict }
step_otherwise s r _ _ _ k v = grind (arith, nat_tests)

moved : (s : State) (x : Move) → Brings s x → Every IsOther s.tasks → Every IsOther (apply x s).tasks
moved s x k v =
    every_steps IsOther s x s.tasks (apply x s).tasks (λ h t e. record { state = refl; verdict = refl }) (λ r q y. step_otherwise s r x q y k) (tasks_go s x) v

all_moved : (ms : List Move) (s : State) → AllBring s ms → Every IsOther s.tasks → Every IsOther (after_moves ms s).tasks
all_moved [] s k v = v
all_moved (x ∷ xs) s k v = all_moved xs (apply x s) k.1 (moved s x k.0 v)

then_otherwise : (s : State) (e : NodeEntry) → IsNext s e → Every IsOther s.tasks → Every IsOther (next s e).tasks
then_otherwise s e i v = all_moved (moves_of (row_of s e)) s (brings s e.who e.op e.reply _ i.honest (answer s e i)) v

pub all_otherwise : (s : State) (L : List NodeEntry) → LegalFrom s L → Every IsOther s.tasks → Every IsOther (after_from s L).tasks
all_otherwise s L l v = kept_along (λ t. Every IsOther t.tasks) then_otherwise s L l v

-- so no group tells it as its first fault

abbrev OtherEnd : Ending → Type 0
OtherEnd e = is_limit e.end ≡ false

of_ended : (h : ℕ) (x : TaskState) (es : List Ending) → ends_otherwise x ≡ true → Each OtherEnd es → Each OtherEnd (insert_ended h (end_of x) es)
of_ended h Scheduled es e k = k
of_ended h (Running w y) es e k = k
of_ended h (Ended x n) es e k = all_insert OtherEnd (record { task = h; end = x; number = n }) es (grind (arith, nat_tests)) k

of_endings : (g : ℕ) (l : List (Listed Task)) → Every IsOther l → Each OtherEnd (endings g (live_of l))
unfolding endings live_of
of_endings g [] v = tt
of_endings g (r ∷ rs) v =
    let rest = of_endings g rs v.1 in
    cond_both r.live ((r.handle, r.fields) ∷ live_of rs) (live_of rs) (λ q. Each OtherEnd (endings g q))
    (λ a. cond_both (is_member g r.fields) (insert_ended r.handle (end_of r.fields.state) (endings g (live_of rs))) (endings g (live_of rs)) (Each OtherEnd)
    (λ b. of_ended r.handle r.fields.state _ v.0.state rest) (λ b. rest)) (λ a. rest)

fault_otherwise : (es : List Ending) → Each OtherEnd es → first_fault es ≡ Some m.ErrTaskLimit → ⊥
fault_otherwise [] k e = absurd (cc)
fault_otherwise (x ∷ xs) k e = grind (arith, nat_tests, fault_otherwise xs k.1, k.0)

pub no_limit_told : (g : ℕ) (l : List (Listed Task)) → Every IsOther l → first_fault (endings g (live_of l)) ≡ Some m.ErrTaskLimit → ⊥
no_limit_told g l v e = fault_otherwise _ (of_endings g l v) e
