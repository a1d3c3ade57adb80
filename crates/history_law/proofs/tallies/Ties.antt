-- A running tally that has its mutex owns it, and at most one task runs on a worker.
use Rattle.history_law.proofs.Names.{nat_tests, ◌≡◌, ℕ, ◌+◌, ◌<◌, ◌≤◌, Bool, true, false, cond, List, [], ◌∷◌, Option, Some, None, refl, sym, ◌∙◌, ap, subst, arith, ◌==◌, ◌&&◌, not, eqb-true, holds, Op, Listed, live_of, live_object, any_listed, count_listed, with_fields, Mutex, tally_args, Task, TallyNotes, TaskState, Running, runner, runs_on, runs_as, kind_number, is_unstarted, with_state, ended, State, Move, runs_task, ends_task, apply, is_tally_end, mutex_in, and-false, IsAttached, Segment}
use Rattle.mtapi_values.specs.declared.kinds.Kind.TheVariants as kind
use Rattle.history_law.proofs.Answered.{whether}
use Rattle.history_law.proofs.lists.Every.{Every}
use Rattle.history_law.proofs.lists.Found.{FoundAs, count_changed}
use Rattle.history_law.proofs.Held.{DeadEnded}
use Rattle.history_law.proofs.SeatMoves.{May, is_tally_lock}
use Rattle.history_law.proofs.Others.{other_count, runs_over}
use Rattle.history_law.proofs.TaskMoves.{IsKept, StaysLive}

-- the tally has its mutex and its segment: it has begun and hasn't failed
abbrev pub has_both : TallyNotes → Bool
has_both x = not (x.stage == 0) && not (x.stage == 4)

-- the mutex is there with this id, and this seat owns it once
abbrev pub Owns : ℕ → ℕ → Option Mutex → Type 0
Owns w id None = ⊥
Owns w id (Some m) = (m.owner ≡ Some w) × (m.depth ≡ 1) × (m.id ≡ id)

-- the id of the mutex that a tally's arguments name
abbrev pub id_in : Task → ℕ
id_in t = mutex_in (tally_args t.args)

-- a task that hasn't begun has nothing; a running one that has its mutex is a tally, and runs on a worker that owns it and is attached to
-- its segment
pub record Tied (n : ℕ) (ms : List (Listed Mutex)) (ss : List (Listed Segment)) (t : Task) : Type 0 where
  pub early : is_unstarted t ≡ true → has_both t.notes.tally ≡ false
  pub tied : (w : ℕ) → runs_on w t ≡ true → has_both t.notes.tally ≡ true → (w < n) × Owns w (id_in t) (live_object ms t.notes.tally.mutex)
  pub attends : (w : ℕ) → runs_on w t ≡ true → has_both t.notes.tally ≡ true → IsAttached w (live_object ss t.notes.tally.segment)
  pub kind : (w : ℕ) → runs_on w t ≡ true → has_both t.notes.tally ≡ true → runs_as w kind.Tally t ≡ true

module _ (n : ℕ) (ms : List (Listed Mutex)) (ss : List (Listed Segment)) where
  abbrev pub Ties : State → Type 0
  Ties s = Every (Tied n ms ss) s.tasks

  pub ties_kept : (who : ℕ) (o : Op) → is_tally_lock o ≡ false → IsKept (Tied n ms ss) who o
  ties_kept who o e1 = grind (arith, nat_tests)

-- At most one task runs on a worker

pub none_count : {T : Type 0} (p : T → Bool) (l : List (Listed T)) → any_listed p l ≡ false → count_listed p l ≡ 0
unfolding live_of
none_count p [] e = refl
none_count p (r ∷ rs) e = grind (arith, nat_tests, none_count p rs)

abbrev pub AtMostOne : ℕ → State → Type 0
AtMostOne w s = count_listed (runs_on w) s.tasks ≤ 1

pub one_move : (w who : ℕ) (o : Op) (s : State) (x : Move) → May s who o x → AtMostOne w s → AtMostOne w (apply x s)
one_move w who o s (runs_task j y z) k v = whether (y == w)
    (λ e.
    let same : who ≡ w = sym k.3 ∙ eqb-true y w e in
    let none : count_listed (runs_on w) s.tasks ≡ 0 = none_count (runs_on w) s.tasks (subst (λ (x : ℕ). any_listed (runs_on x) s.tasks ≡ false) same k.4) in
    let n = as_runs true e in
    omega arith)
    (λ e. let n = as_runs false e in let m : count_listed (runs_on w) s.tasks ≤ 1 = v in omega arith)
  where
    as_runs : (b : Bool) → (y == w) ≡ b → count_listed (runs_on w) (apply (runs_task j y z) s).tasks + cond (runs_on w k.0) 1 0
        ≡ count_listed (runs_on w) s.tasks + cond b 1 0
    as_runs b e = count_changed (runs_on w) j (with_fields (with_state (Running y z))) b s.tasks k.0 k.1 (λ r a f. ap (λ (c : Bool). c && (y == w)) a ∙ e)
one_move w who o s (ends_task j e) k v = grind (arith, nat_tests, count_changed (runs_on w) j (ended e s.ends) false s.tasks k.0 k.1, and-false)
one_move w who o s x k v = subst (λ (n : ℕ). n ≤ 1) (sym (other_count w who o s x refl k)) v

-- where one task runs on a worker, after its end none of those that were listed does
pub none_runs : (w : ℕ) (l : List (Listed Task)) → DeadEnded l → count_listed (runs_on w) l ≡ 0 → Every (λ t. runs_on w t ≡ false) l
none_runs w [] d c = tt
none_runs w (r ∷ rs) d c = (grind (arith, nat_tests, d.0, runs_over w r.fields), none_runs w rs d.1 (grind (arith, nat_tests)))

-- A tally that has its mutex, until its `tally_end`

pub record On (w h : ℕ) (t : Task) : Type 0 where
  pub runs : runs_as w kind.Tally t ≡ true
  pub both : has_both t.notes.tally ≡ true
  pub mutex : t.notes.tally.mutex ≡ h

pub as_on : (w : ℕ) (x : TaskState) → holds (λ r. (r.0 == w) && (kind_number r.1 == 10)) (runner x) ≡ true → holds (λ r. r.0 == w) (runner x) ≡ true
as_on w x e1 = grind (arith, nat_tests)

pub on_runs : (w h : ℕ) (t : Task) → On w h t → runs_on w t ≡ true
on_runs w h t i = as_on w t.state i.runs

abbrev pub OnAt : ℕ → ℕ → ℕ → State → Type 0
OnAt w h j s = FoundAs (On w h) s.tasks j

pub on_stays : (w h i who : ℕ) (o : Op) → is_tally_end i o ≡ false → StaysLive (On w h) who i o
on_stays w h i who o e1 = grind (arith, nat_tests)
