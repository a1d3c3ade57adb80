-- The worked history of two tallies, by computing.
use Rattle.history_law.proofs.Names.{nat_tests, ◌≡◌, false, List, [], ◌∷◌, ◌++◌, Some, refl, arith, ℤ, pos, append_assoc, no_marks, fits, answer_of, Listed, Task, live_of, issue, change, change_all, listed, issued_at, retired, is_full, may_issue, has_worker, NewTask, tally_args, end_each, Segment, Op, is_ready, can_take, has_better, State, opening, Move, apply, NodeEntry, next, Legal, after_from, after, replay, IsMade, StartsTask, h1, fits_of, by_moves, legal_if, some_entry, tally_got, record_of, mutex_in, sum_of, number_added, writes_to, NamesOneMutex, two_workers, two_tallies, TalliesAddUp}
use Rattle.mtapi_machine.specs.declared.ops.Op.TheVariants as op
use Rattle.history_law.proofs.lists.Every.{Every, every_at}
use Rattle.history_law.proofs.TaskSteps.{Step, tasks_go, every_steps}

module _ (R : List ℤ → Type 0) where
  -- what holds of the arguments of each task that is started holds of those of every task

  StartsWith : Op → Type 0
  StartsWith (op.TaskStart job args priority cores detached group) = R args
  StartsWith (op.TaskEnqueue q args cores detached group) = R args
  StartsWith _ = Unit {0}

  started : (o : Op) (t : NewTask) → StartsWith o → StartsTask t o → R t.args
  unfolding StartsWith
  started o t e1 e2 = grind (arith, nat_tests)

  step_args : (s : State) (r : Listed Task) (m : Move) (q : Listed Task) → Step s r m q → R r.fields.args → R q.fields.args
  step_args s r m q e1 e2 = grind (arith, nat_tests)

  args_move : (o : Op) → StartsWith o → (s : State) (x : Move) → IsMade s o x → Every (λ u. R u.args) s.tasks → Every (λ u. R u.args) (apply x s).tasks
  args_move o k s x e v = grind (arith, nat_tests, started o, step_args s, tasks_go s x, every_steps)

  AllStart : List NodeEntry → Type 0
  AllStart [] = Unit {0}
  AllStart (e ∷ es) = StartsWith e.op × AllStart es

  front_starts : (A B : List NodeEntry) → AllStart (A ++ B) → AllStart A
  unfolding AllStart
  front_starts [] B k = tt
  front_starts (e ∷ A) B k = (k.0, front_starts A B k.1)

  args_along : (s : State) (L : List NodeEntry) → AllStart L → Every (λ u. R u.args) s.tasks → Every (λ u. R u.args) (after_from s L).tasks
  unfolding AllStart after_from
  args_along s [] k v = v
  args_along s (e ∷ es) k v = args_along (next s e) es k.1 (by_moves (λ t. Every (λ u. R u.args) t.tasks) s e (args_move e.op k.0) v)

abbrev names_one : List ℤ → Type 0
names_one args = mutex_in (tally_args args) ≡ 1

all_name : AllStart names_one two_tallies
unfolding two_tallies AllStart StartsWith
all_name = (tt, (tt, (tt, (tt, (refl, (refl, (tt, (tt, (tt, (tt, (tt, (tt, (tt, (tt, (tt, (tt, (tt, (tt, (tt, (tt, (tt, tt)))))))))))))))))))))

one_mutex : NamesOneMutex two_workers two_tallies h1 0 1
one_mutex A B w t x cut e a =
    grind (arith, nat_tests, append_assoc A (tally_got w t ∷ []) B, args_along names_one (opening two_workers), front_starts names_one, all_name, every_at)

two_legal : Legal two_workers two_tallies
unfolding two_tallies replay live_of issue change change_all listed issued_at retired is_full may_issue fits answer_of has_worker end_each is_ready can_take
    has_better
two_legal = record { fits = fits_of 2 4 2 (omega arith) (omega arith) (omega arith) (omega arith) (omega arith) (omega arith); from = legal_if _ _ refl }

no_write : some_entry (writes_to h1 0) two_tallies ≡ false
unfolding two_tallies
no_write = refl

abbrev twelve : Segment
twelve = record { id = 2; cells = pos 12 ∷ []; attached = no_marks }

holds_twelve : record_of (after two_workers two_tallies).segments h1 ≡ Some twelve
unfolding two_tallies record_of after_from live_of issue change change_all listed issued_at retired is_full may_issue fits answer_of has_worker end_each
    is_ready can_take has_better
holds_twelve = refl

sum_twelve : sum_of (number_added h1 0) (after two_workers two_tallies).tasks ≡ pos 12
unfolding two_tallies after_from live_of issue change change_all listed issued_at retired is_full may_issue fits answer_of has_worker end_each is_ready can_take
    has_better
sum_twelve = refl

pub tallies_add_up : TalliesAddUp
tallies_add_up = grind (arith, nat_tests, two_legal, one_mutex, no_write, holds_twelve, sum_twelve)
