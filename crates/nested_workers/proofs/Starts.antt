-- A start by a worker's own seat leaves the task that runs on it as it is: the row of a start doesn't ask who asks.
use Rattle.workload_runners.proofs.Names.{[], ◌++◌, ◌<◌, ◌∙◌, ◌∷◌, ◌≡◌, ◌≤◌, AtWork, HoldsTask, JournaledTerms, Legal, Legal-prefix, LegalFrom, List, MtapiStatus, NodeEntry, Op, Reply, Result, Seat, State, Terms, NodeTurned, NodeUnturned, Work, WorkerKeeps, after, after_from, ap, append-nil, append_assoc, arith, entry, inl, inr, nat_tests, next, opening, refl, subst, sym, terms_stay, true, work_stays, workers, ℕ, entries_of, IsNext}
use Rattle.mtapi_machine.specs.State.{seats}
use Rattle.mtapi_machine.specs.declared.ops.Op.TheVariants as op
use Rattle.workload_runners.proofs.OwnEntries.{state_at, turned_next}
use Rattle.workload_runners.proofs.Adds.{same_seat, same_then}
use Rattle.workload_runners.proofs.SeatSteps.{holds_at, worker_at, works_then}
use Rattle.workload_runners.specs.Replies.{handle_told, mtapi_standard}
use Rattle.sched_workers.specs.Answers.{Called}
use Rattle.nested_workers.specs.Starts.{AddsStarts, AreStarts, Since, is_start}

-- an entry by another seat is none of this one's
none_of : (w v : ℕ) (o : Op) (r : Reply) → w < v → entries_of w (entry v o r ∷ []) ≡ []
none_of w v o r e1 = grind (arith, nat_tests)

-- a start by this worker changes what one by the first caller would, which leaves the worker's task
pub start_keeps : (s : State) (w : ℕ) (o : Op) (r : Reply) → is_start o ≡ true → w < workers s → workers s < seats s → IsNext s (entry w o r)
    → WorkerKeeps s (next s (entry w o r)) w
unfolding LegalFrom after_from
start_keeps s w (op.TaskStart job args priority cores detached group) r e l m n =
    let o = op.TaskStart job args priority cores detached group in
    work_stays s (entry (workers s) o r ∷ []) w (record { seat = m; honest = n.honest; allowed = n.allowed }, tt) (none_of w (workers s) o r l)
start_keeps s w _ r e l m n = absurd cc

module _ (old new : Seat) (o : Op) (r : Reply) (t : NodeTurned old o r new) where
  before : Legal new.terms.node (old.seen ++ t.between)
  before = Legal-prefix new.terms.node (old.seen ++ t.between) (entry old.number o r ∷ []) (subst (Legal new.terms.node) t.seen t.legal)

  -- there is a caller's seat behind the workers'
  a_caller : workers (state_at old new o r t) < seats (state_at old new o r t)
  a_caller =
      let same = terms_stay (opening new.terms.node) (old.seen ++ t.between) before.from in
      let some = before.fits.some_caller in
      let callers : 1 ≤ (state_at old new o r t).terms.callers = subst (λ (x : Terms). 1 ≤ x.callers) (sym same) some in
      omega (arith, callers)

  pub turn_keeps : is_start o ≡ true → (h : ℕ) (x : Work) → AtWork old h x → AtWork new h x
  turn_keeps is h x a =
      let k = start_keeps (state_at old new o r t) old.number o r is (worker_at old new o r t a.worker) a_caller (turned_next old new o r t) in
      (works_then old new o r t h x a.worker (k.holds h x (holds_at old new o r t h x a))).work

-- where nothing was added the task is as it was
unturned_keeps : (old new : Seat) → NodeUnturned old new → (h : ℕ) (x : Work) → AtWork old h x → AtWork new h x
unturned_keeps old new u h x a = record {
  worker =
      subst (λ (n : ℕ). n < new.terms.node.settings.workers) (sym u.same.number)
      (subst (λ (y : JournaledTerms). old.number < y.node.settings.workers) (sym u.same.terms) a.worker);
  holds =
      subst (λ (n : ℕ). HoldsTask (after new.terms.node new.seen) n h x) (sym u.same.number)
      (subst (λ (y : JournaledTerms). HoldsTask (after y.node new.seen) old.number h x) (sym u.same.terms)
      (subst (λ (l : List NodeEntry). HoldsTask (after old.terms.node l) old.number h x) (sym u.seen) a.holds));
}

-- a call for a start adds a start, or nothing
pub called_starts : (old new : Seat) (o : Op) (x : Result ℕ MtapiStatus) → is_start o ≡ true → Called mtapi_standard handle_told o old new x
    → AddsStarts old new
called_starts old new o x is (inl c) = record {
  same = c.1.same;
  own = entry old.number o c.0 ∷ [];
  mine = c.1.mine;
  starts = (refl, is, tt);
  keeps = turn_keeps old new o c.0 c.1 is;
}
called_starts old new o x is (inr c) = record {
  same = c.0.same;
  own = [];
  mine = c.0.mine ∙ sym (append-nil old.mine);
  starts = tt;
  keeps = unturned_keeps old new c.0;
}

starts_append : (w : ℕ) (xs ys : List NodeEntry) → AreStarts w xs → AreStarts w ys → AreStarts w (xs ++ ys)
starts_append w [] ys a b = b
starts_append w (x ∷ xs) ys a b = (a.0, a.1, starts_append w xs ys a.2 b)

pub starts_none : (a : Seat) → AddsStarts a a
starts_none a = record { same = same_seat a; own = []; mine = sym (append-nil a.mine); starts = tt; keeps = λ h x w. w }

pub starts_then : (a b c : Seat) → AddsStarts a b → AddsStarts b c → AddsStarts a c
starts_then a b c x y = record {
  same = same_then a b c x.same y.same;
  own = x.own ++ y.own;
  mine = y.mine ∙ (ap (λ (m : List NodeEntry). m ++ y.own) x.mine ∙ append_assoc a.mine x.own y.own);
  starts = starts_append a.number x.own y.own x.starts (subst (λ (n : ℕ). AreStarts n y.own) x.same.number y.starts);
  keeps = λ h q w. y.keeps h q (x.keeps h q w);
}

-- further starts
pub since_then : (ss : List Seat) (b c : Seat) → Since ss b → AddsStarts b c → Since ss c
since_then [] b c s x = tt
since_then (a ∷ ss) b c s x = (starts_then a b c s.0 x, since_then ss b c s.1 x)

-- a seat on which a task begins has asked for nothing since
pub since_new : (ss : List Seat) (a : Seat) → ss ≡ a ∷ [] → Since ss a
since_new ss a is = subst (λ (l : List Seat). Since l a) (sym is) (starts_none a, tt)

pub since_alone : (ss : List Seat) (a b : Seat) → ss ≡ a ∷ [] → Since ss b → AddsStarts a b
since_alone ss a b is s = (subst (λ (l : List Seat). Since l b) is s).0
