-- A group gives its members in the order of their ends.
use Rattle.history_law.proofs.Names.{◌≡◌, ℕ, ◌≤◌, true, List, [], ◌∷◌, ◌++◌, Option, Some, None, refl, sym, ◌∙◌, ap, subst, arith, nat_lt, is_some, eqb-true, cond_both, nat_tests, TaskEnd, Failed, Listed, live_of, live_object, listed, change, with_fields, gone, Task, Notes, TaskState, Scheduled, Running, Ended, end_of, with_notes, ended, is_member, Ending, insert, insert_ended, endings, in_no_group, Terms, Op, Reply, State, opening, Move, ends_task, ends_waiting, withdraws, notes, leaves, apply, after_moves, moves_of, row, NodeEntry, IsNext, next, LegalFrom, Legal, after_from, after, Grows, Legal-front, Legal-rest, after-append, fst_true, snd_true, rest_keeps, after_grows, looks_for_any, is_given, number_at, EndedBefore, GivenInOrder, some_same, Answers, answered}
use Rattle.history_law.proofs.lists.Every.{Each}
use Rattle.mtapi_values.specs.declared.handles.ObjectKind.TheVariants as kind
use Rattle.history_law.specs.Order.{gives_task, number_of_end}
use Rattle.history_law.proofs.Moves.{once_from}
use Rattle.history_law.proofs.lists.Handles.{OnceIn, once_same, listed_change}
use Rattle.history_law.proofs.lists.Records.{read_found}
use Rattle.history_law.proofs.lists.Members.{IsEnding, all_endings, all_insert}
use Rattle.history_law.proofs.Numbers.{is_number, bit, has_number, Numbered, numbered_after}
use Rattle.history_law.proofs.SeatMoves.{Noted, May, by_moves, kept_along}
use Rattle.history_law.proofs.Ages.{dead_none, none_dead, live_listed}
use Rattle.history_law.proofs.lists.AtHandles.{at_retired}
use Rattle.history_law.proofs.Reuse.{Gone, stays_gone}
use Rattle.history_law.proofs.Answered.{true_false, none_some}
use Rattle.mtapi_machine.specs.Answers as is
use Rattle.history_law.proofs.TaskSteps as step
use Rattle.history_law.proofs.TaskSteps.{Step, Steps, tasks_go, each_steps}
use Rattle.history_law.proofs.lists.Found.{at_head, at_here}

-- Sorted endings

abbrev FromNumber : ℕ → Ending → Type 0
FromNumber n e = n ≤ e.number

abbrev Sorted : List Ending → Type 0
Sorted [] = Unit {0}
Sorted (e ∷ es) = Each (FromNumber e.number) es × Sorted es

from_lower : (m n : ℕ) (es : List Ending) → m ≤ n → Each (FromNumber n) es → Each (FromNumber m) es
from_lower m n [] l a = tt
from_lower m n (e ∷ es) l a = (let k : n ≤ e.number = a.0 in omega arith, from_lower m n es l a.1)

sorted_insert : (e : Ending) (es : List Ending) → Sorted es → Sorted (insert e es)
sorted_insert e [] s = (tt, tt)
sorted_insert e (f ∷ fs) s = grind (arith, nat_tests, sorted_insert e fs s.1, cond_both, nat_lt, from_lower, all_insert)

sorted_endings : (g : ℕ) (l : List (ℕ × Task)) → Sorted (endings g l)
unfolding endings
sorted_endings g [] = tt
sorted_endings g (t ∷ ts) = grind (arith, nat_tests, sorted_endings g ts, is_member, end_of, insert_ended, sorted_insert)

all_inserted : (P : Ending → Type 0) (e : Ending) (es : List Ending) → Each P (insert e es) → P e × Each P es
all_inserted P e [] a = (a.0, tt)
all_inserted P e (f ∷ fs) a = grind (arith, nat_tests, all_inserted P e fs, nat_lt)

-- What a Given had to find

-- the task had ended, with the least number among the ended members, and it leaves
pub record Gave (s : State) (g h : ℕ) (ms : List Move) : Type 0 where
  pub task : Task
  pub end : TaskEnd
  pub number : ℕ
  pub found : live_object s.tasks h ≡ Some task
  pub over : task.state ≡ Ended end number
  pub member : is_member g task ≡ true
  pub least : Each (FromNumber number) (endings g (live_of s.tasks))
  pub moves : ms ≡ notes h in_no_group ∷ leaves h ∷ []

number_told : ℕ → Option (TaskEnd × ℕ) → ℕ
number_told k None = k
number_told k (Some p) = p.1

same_number : (x : TaskState) (e z : TaskEnd) (k n : ℕ) → end_of x ≡ Some (e, k) → x ≡ Ended z n → k ≡ n
unfolding number_told
same_number x e z k n i o = ap (number_told k) (sym i ∙ ap end_of o)

gave_by : (s : State) (who g h : ℕ) (o : Op) (r : Reply) (ms : List Move) → looks_for_any g o ≡ true → is_given h r ≡ true → OnceIn s.tasks
    → Answers s who o r ms → Gave s g h ms
gave_by s who g h _ _ _ i j o (is.any_given x last v y ys t e n a b f d) =
    let all : Each (IsEnding x.0 s.tasks) (y ∷ ys) = subst (Each (IsEnding x.0 s.tasks)) b (all_endings x.0 s.tasks o) in
    let sorted : Sorted (y ∷ ys) = subst Sorted b (sorted_endings x.0 (live_of s.tasks)) in
    let here : y.number ≤ y.number = omega arith in
    let k : y.number ≡ n = same_number t.state y.end e y.number n (all.0.ended t f) d in
    let least : Each (FromNumber n) (endings x.0 (live_of s.tasks)) =
    subst (λ (z : ℕ). Each (FromNumber z) (endings x.0 (live_of s.tasks))) k (subst (Each (FromNumber y.number)) (sym b) (here, sorted.0)) in
    subst (λ (z : ℕ). Gave s z h (notes y.task in_no_group ∷ leaves y.task ∷ [])) (eqb-true x.0 g i)
    (subst (λ (z : ℕ). Gave s x.0 z (notes y.task in_no_group ∷ leaves y.task ∷ [])) (eqb-true y.task h j)
    (record { task = t; end = e; number = n; found = f; over = d; member = all.0.member t f; least = least; moves = refl }))
gave_by s who g h _ _ _ i j o _ = true_false j refl

gave : (s : State) (e : NodeEntry) (g h : ℕ) → OnceIn s.tasks → IsNext s e → gives_task g h e ≡ true → Gave s g h (moves_of (row s e.who e.op e.reply))
gave s e g h o n i = gave_by s e.who g h e.op e.reply _ (fst_true (looks_for_any g e.op) _ i) (snd_true (looks_for_any g e.op) _ i) o
    (answered s e.who e.op e.reply n.allowed)

-- The members that are left have numbers from this one on

abbrev From : ℕ → ℕ → Listed Task → Type 0
From g n r = r.live ≡ true → is_member g r.fields ≡ true → (p : TaskEnd × ℕ) → end_of r.fields.state ≡ Some p → n ≤ p.1

abbrev AllFrom : ℕ → ℕ → List (Listed Task) → Type 0
AllFrom g n l = Each (From g n) l

over_from : (g n k : ℕ) (e : TaskEnd) (r : Listed Task) → n ≤ k → From g n (ended e k r)
unfolding number_told
over_from g n k e r l = λ i j p q. let s : k ≡ p.1 = ap (number_told k) q in omega arith

-- the next number, and the members
record Left (g n : ℕ) (s : State) : Type 0 where
  next : n ≤ s.ends
  all : AllFrom g n s.tasks

noted_from : (g n who : ℕ) (f : Notes → Notes) (r : Listed Task) → Noted who f r.fields → From g n r → From g n (with_fields (with_notes f) r)
noted_from g n who f r x k = grind (arith, nat_tests, with_fields, with_notes, true_false)

from_step : (g n who : ℕ) (o : Op) (s : State) (r : Listed Task) (m : Move) (q : Listed Task) → Step s r m q → May s who o m → n ≤ s.ends → From g n r
    → From g n q
from_step g n who o s r _ _ (step.stays m) k l v = v
from_step g n who o s r _ _ (step.runs h w z a i e) k l v = λ i j p q. none_some q
from_step g n who o s r _ _ (step.ends h x a i e) k l v = over_from g n s.ends x r l
from_step g n who o s r _ _ (step.waited p x m a u i) k l v = over_from g n m x r (omega arith)
from_step g n who o s r _ _ (step.left h f c m a u i) k l v = over_from g n m (Failed c) r (omega arith)
from_step g n who o s r _ _ (step.noted h f a i e) k l v = noted_from g n who f r (subst (Noted who f) (some_same (sym k.1 ∙ e)) k.2) v
from_step g n who o s r _ _ (step.let_go_of z a u) k l v = λ i j p q. true_false j refl
from_step g n who o s r _ _ _ k l v = λ i j p q. true_false i refl

ends_rise : (n : ℕ) (s : State) (m : Move) → n ≤ s.ends → n ≤ (apply m s).ends
ends_rise n s (ends_task h e) l = omega arith
ends_rise n s (ends_waiting p e) l = omega arith
ends_rise n s (withdraws h f c) l = omega arith
ends_rise n s m l = rest_keeps (λ t. n ≤ t.ends) (λ t g q y c r z p. p) m s l

left_move : (g n who : ℕ) (o : Op) (s : State) (x : Move) → May s who o x → Left g n s → Left g n (apply x s)
left_move g n who o s x k v = record {
  next = ends_rise n s x v.next;
  all = each_steps (From g n) s x s.tasks _ (λ h t i a b p q. none_some q) (λ r q y. from_step g n who o s r x q y k v.next) (tasks_go s x) v.all;
}

left_along : (g n : ℕ) (s : State) (L : List NodeEntry) → LegalFrom s L → Left g n s → Left g n (after_from s L)
left_along g n s L l v = kept_along (Left g n) (λ t e i. by_moves (Left g n) t e i (left_move g n e.who e.op)) s L l v

-- the endings of a list, seen at its records
from_endings : (g n : ℕ) (l : List (Listed Task)) → Each (FromNumber n) (endings g (live_of l)) → AllFrom g n l
unfolding endings live_of
from_endings g n [] a = tt
from_endings g n (r ∷ rs) a = grind (arith, nat_tests, from_endings g n rs, all_inserted (FromNumber n))

from_at : (g n : ℕ) (l : List (Listed Task)) (h : ℕ) (t : Task) → AllFrom g n l → live_object l h ≡ Some t → is_member g t ≡ true → (p : TaskEnd × ℕ)
    → end_of t.state ≡ Some p → n ≤ p.1
unfolding live_of
from_at g n [] h t a e m p q = absurd (cc)
from_at g n (r ∷ rs) h t a e m p q = grind (arith, nat_tests, from_at g n rs h t a.1, at_head, some_same, at_here, is_member, end_of)

-- The numbers in the records

number_found : (l : List (Listed Task)) (h : ℕ) (t : Task) → OnceIn l → live_object l h ≡ Some t → number_at l h ≡ number_of_end t.state
unfolding number_at
number_found l h t o e = read_found h (λ m. number_at m h) (λ (x : Task). number_of_end x.state) (λ r rs. refl) l t o e

number_stays : (x y : TaskState) (n : ℕ) → ((e : TaskEnd) (k : ℕ) → end_of x ≡ Some (e, k) → end_of y ≡ Some (e, k)) → number_of_end x ≡ Some n
    → number_of_end y ≡ Some n
unfolding number_told
number_stays Scheduled y n k i = absurd (cc)
number_stays (Running w j) y n k i = absurd (cc)
number_stays (Ended z a) y n k i = grind (arith, nat_tests, k z a refl)

grows_number : (h n : ℕ) (l k : List (Listed Task)) → Grows l k → number_at l h ≡ Some n → number_at k h ≡ Some n
unfolding number_at
grows_number h n (r ∷ rs) (q ∷ qs) g i = grind (arith, nat_tests, grows_number h n rs qs g.1, number_at, number_of_end, number_stays)
grows_number h n _ _ g i = grind (arith, nat_tests)

own_bit : (n : ℕ) (x : TaskState) → number_of_end x ≡ Some n → bit (is_number n x) ≡ 1
own_bit n x e1 = grind (arith, nat_tests)

number_counts : (l : List (Listed Task)) (h n : ℕ) → number_at l h ≡ Some n → 1 ≤ has_number n l
unfolding number_at
number_counts [] h n e = absurd (cc)
number_counts (r ∷ rs) h n e = grind (arith, nat_tests, number_counts rs h n)

-- two tasks of one number are one
same_task : (l : List (Listed Task)) (a b n : ℕ) → has_number n l ≤ 1 → number_at l a ≡ Some n → number_at l b ≡ Some n → a ≡ b
unfolding number_at
same_task [] a b n o i j = absurd (cc)
same_task (r ∷ rs) a b n o i j = grind (arith, nat_tests, same_task rs a b n, number_counts rs a n, number_counts rs b n, own_bit n r.fields.state, eqb-true)

-- The law

-- what gave a task left it dead
gave_gone : (s : State) (g h : ℕ) (ms : List Move) → OnceIn s.tasks → Gave s g h ms → Gone kind.Task h (after_moves ms s).tasks
gave_gone s g h ms o v =
    let changed : OnceIn (change h (with_fields (with_notes in_no_group)) s.tasks) =
    once_same s.tasks _ (λ j. listed_change j h (with_fields (with_notes in_no_group)) s.tasks (λ r. refl)) o in
    let some : 1 ≤ listed h s.tasks = live_listed h s.tasks (ap is_some v.found) in
    subst (λ (ns : List Move). Gone kind.Task h (after_moves ns s).tasks) (sym v.moves)
    (record {
      some = subst (λ (n : ℕ). 1 ≤ n) (sym (listed_change h h gone _ (λ r. refl)
          ∙ listed_change h h (with_fields (with_notes in_no_group)) s.tasks (λ r. refl))) some;
      dead = none_dead h _ (ap is_some (at_retired h (change h (with_fields (with_notes in_no_group)) s.tasks) changed));
    })

-- the record's number, at the entry that gives and at the end
gave_number : (s : State) (g h : ℕ) (ms : List Move) (L : List NodeEntry) → OnceIn s.tasks → (v : Gave s g h ms)
    → number_at (after_from s L).tasks h ≡ Some v.number
gave_number s g h ms L o v = grows_number h v.number s.tasks (after_from s L).tasks (after_grows s L) (number_found s.tasks h v.task o v.found
    ∙ ap number_of_end v.over)

gave_below : (s : State) (g h : ℕ) (ms : List Move) → OnceIn s.tasks → Numbered s → (v : Gave s g h ms) → v.number ≤ s.ends
gave_below s g h ms o u v =
    grind (arith, nat_tests, u.above v.number, number_counts s.tasks h v.number (number_found s.tasks h v.task o v.found ∙ ap number_of_end v.over))

-- a task that is given later ended later
later : (s u : State) (g a b : ℕ) (ms ns : List Move) → (v : Gave s g a ms) → (w : Gave u g b ns) → Left g v.number u → v.number ≤ w.number
later s u g a b ms ns v w l = from_at g v.number u.tasks b w.task l.all w.found w.member (w.end, w.number) (ap end_of w.over)

in_order : (s u t : State) (g a b : ℕ) (ms ns : List Move) → (v : Gave s g a ms) → (w : Gave u g b ns) → Left g v.number u → Gone kind.Task a u.tasks
    → Numbered t → number_at t.tasks a ≡ Some v.number → number_at t.tasks b ≡ Some w.number → EndedBefore t a b
in_order s u t g a b ms ns v w l d m x y =
    grind (arith, nat_tests, later s u g a b ms ns v w l, same_task t.tasks a b v.number, m.once v.number, dead_none a u.tasks d.dead, true_false)

pub given_in_order : (terms : Terms) (es : List NodeEntry) (g : ℕ) → Legal terms es → GivenInOrder terms es g
unfolding LegalFrom after_from
given_in_order terms es g legal A B C x y a b cut i j =
    let whole : LegalFrom (opening terms) (A ++ x ∷ (B ++ y ∷ C)) = subst (λ (L : List NodeEntry). LegalFrom (opening terms) L) cut legal.from in
    let rest : LegalFrom (after terms A) (x ∷ (B ++ y ∷ C)) = Legal-rest (opening terms) A (x ∷ (B ++ y ∷ C)) whole in
    let prefix : LegalFrom (after terms A) (x ∷ B) = Legal-front (after terms A) (x ∷ B) (y ∷ C) rest in
    let behind : LegalFrom (after_from (after terms A) (x ∷ B)) (y ∷ C) = Legal-rest (after terms A) (x ∷ B) (y ∷ C) rest in
    let v = gave (after terms A) x g a (once_from terms A) rest.0 i in
    let once : OnceIn (after_from (after terms A) (x ∷ B)).tasks =
    subst (λ (t : State). OnceIn t.tasks) (after-append (opening terms) A (x ∷ B)) (once_from terms (A ++ x ∷ B)) in
    let w = gave (after_from (after terms A) (x ∷ B)) y g b once behind.0 j in
    let left : Left g v.number (after_from (after terms A) (x ∷ B)) =
    left_along g v.number (after terms A) (x
    ∷ B) prefix (record {
      next = gave_below _ g a _ (once_from terms A) (numbered_after terms A) v;
      all = from_endings g v.number (after terms A).tasks v.least;
    }) in
    let gone : Gone kind.Task a (after_from (after terms A) (x ∷ B)).tasks =
    (stays_gone kind.Task a (next (after terms A) x) B prefix.1 (gave_gone (after terms A) g a _ (once_from terms A) v)).0 in
    let whole_is : after terms es ≡ after_from (after terms A) (x ∷ (B ++ y ∷ C)) = ap (after terms) cut ∙ after-append (opening terms) A (x ∷ (B ++ y ∷ C)) in
    let rest_is : after_from (after terms A) (x ∷ (B ++ y ∷ C)) ≡ after_from (after_from (after terms A) (x ∷ B)) (y ∷ C) =
    after-append (after terms A) (x ∷ B) (y ∷ C) in
    in_order _ _ (after terms es) g a b _ _ v w left gone (numbered_after terms es)
    (ap (λ (t : State). number_at t.tasks a) whole_is ∙ gave_number (after terms A) g a _ (x ∷ (B ++ y ∷ C)) (once_from terms A) v)
    (ap (λ (t : State). number_at t.tasks b) (whole_is ∙ rest_is) ∙ gave_number (after_from (after terms A) (x ∷ B)) g b _ (y ∷ C) once w)
