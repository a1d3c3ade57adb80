-- A worker's turn, from what its seat has seen to what it has seen then.
use Rattle.workload_runners.proofs.Names.{[], ◌++◌, ◌+◌, ◌<◌, ◌==◌, ◌∙◌, ◌∷◌, ◌≡◌, ActionHandle, Acts, Added, AddsOwn, Answered, AtRest, AtWork, Bool, WorkerEnds, Finishes, Free, HoldsTask, JournaledTerms, Kind, Legal, Legal-prefix, Legal-rest, List, LookedOut, MayEnd, NodeEntry, Op, PickEnds, PickedAs, Ran, Reply, Round, Rounded, SameNodeSeat, Seat, Some, State, Tallied, Tallies, TaskHandle, Terms, NodeTurned, Untouched, Watched, Watches, Work, WorkerAs, WorkerKeeps, WorkerWorks, after, after-append, after-one, all_in, ap, append-nil, append_assoc, arith, watch_asks, entries_in, entry, false, finished_as, inl, inr, map-append, nat_tests, next, opening, picked_as, refl, watch_reported, subst, sym, tally_entries, terms_stay, true, unstarted_untouched, watch_work, work_of, work_stays, workers, ℕ, ℤ}
use Rattle.mtapi_objects.specs.Tasks.{watch_looks}
use Rattle.mtapi_machine.specs.declared.ops.Op.TheVariants as op
use Rattle.mtapi_machine.specs.declared.replies.Reply.TheVariants as reply
use Rattle.workload_runners.specs.Steps.{Asked}
use Rattle.workload_runners.proofs.OwnEntries.{state_at, turned_next}
use Rattle.workload_runners.proofs.Adds.{same_seat, same_then, mine_then}
use Rattle.workload_runners.proofs.WorkLemmas.{asked_as, watched_as}

module _ (old new : Seat) (o : Op) (r : Reply) (t : NodeTurned old o r new) where
  at : State
  at = state_at old new o r t

  before : Legal new.terms.node (old.seen ++ t.between)
  before = Legal-prefix new.terms.node (old.seen ++ t.between) (entry old.number o r ∷ []) (subst (Legal new.terms.node) t.seen t.legal)

  pub next_is : after new.terms.node new.seen ≡ next (state_at old new o r t) (entry old.number o r)
  next_is = ap (λ (l : List NodeEntry). after new.terms.node l) t.seen ∙ after-one (opening new.terms.node) (old.seen ++ t.between) (entry old.number o r)

  pub worker_at : old.number < old.terms.node.settings.workers → old.number < workers (state_at old new o r t)
  unfolding before
  worker_at l =
      subst (λ (x : Terms). old.number < x.settings.workers) (sym (terms_stay (opening new.terms.node) (old.seen ++ t.between) before.from))
      (subst (λ (x : JournaledTerms). old.number < x.node.settings.workers) (sym t.same.terms) l)

  pub untouched_at : Untouched (state_at old new o r t)
  untouched_at h x a u = unstarted_untouched new.terms.node (old.seen ++ t.between) h x before a u

  keeps_at : WorkerKeeps (after old.terms.node old.seen) (state_at old new o r t) old.number
  keeps_at =
      subst (λ (x : JournaledTerms). WorkerKeeps (after x.node old.seen) (state_at old new o r t) old.number) t.same.terms
      (subst (λ (s : State). WorkerKeeps (after new.terms.node old.seen) s old.number) (sym (after-append (opening new.terms.node) old.seen t.between))
      (work_stays (after new.terms.node old.seen) t.between old.number (Legal-rest (opening new.terms.node) old.seen t.between before.from) t.others))

  pub free_at : AtRest old → Free (state_at old new o r t) old.number
  free_at a = keeps_at.free a.free

  pub holds_at : (h : ℕ) (x : Work) → AtWork old h x → HoldsTask (state_at old new o r t) old.number h x
  holds_at h x a = keeps_at.holds h x a.holds

  worker_then : old.number < old.terms.node.settings.workers → new.number < new.terms.node.settings.workers
  worker_then l = subst (λ (n : ℕ). n < new.terms.node.settings.workers) (sym t.same.number)
      (subst (λ (x : JournaledTerms). old.number < x.node.settings.workers) (sym t.same.terms) l)

  pub rest_then : old.number < old.terms.node.settings.workers → Free (next (state_at old new o r t) (entry old.number o r)) old.number
      → Added old (entry old.number o r ∷ []) new
  rest_then l f = record {
    same = t.same;
    mine = t.mine;
    rest = record {
      worker = worker_then l;
      free = subst (λ (n : ℕ). Free (after new.terms.node new.seen) n) (sym t.same.number) (subst (λ (s : State). Free s old.number) (sym next_is) f);
    };
  }

  pub works_then : (h : ℕ) (x : Work) → old.number < old.terms.node.settings.workers
      → HoldsTask (next (state_at old new o r t) (entry old.number o r)) old.number h x → WorkerWorks old o r h x new
  works_then h x l f = record {
    same = t.same;
    mine = t.mine;
    work = record {
      worker = worker_then l;
      holds = subst (λ (n : ℕ). HoldsTask (after new.terms.node new.seen) n h x) (sym t.same.number)
          (subst (λ (s : State). HoldsTask s old.number h x) (sym next_is) f);
    };
  }

pub picks_end : (old new : Seat) (r : Reply) → AtRest old → NodeTurned old op.Pick r new → PickEnds old r new
picks_end old new r a t = by_reply r t (picked_as _ old.number r (worker_at old new op.Pick r t a.worker) (untouched_at old new op.Pick r t)
    (free_at old new op.Pick r t a) (turned_next old new op.Pick r t))
  where
    by_reply : (r : Reply) (t : NodeTurned old op.Pick r new)
        → PickedAs (state_at old new op.Pick r t) old.number r (next (state_at old new op.Pick r t) (entry old.number op.Pick r)) → PickEnds old r new
    by_reply (reply.Picked h b k args) t p = works_then old new op.Pick (reply.Picked h b k args) t h.0 (work_of k args) a.worker p
    by_reply reply.Idle t p = rest_then old new op.Pick reply.Idle t a.worker
        (subst (λ (s : State). Free s old.number) (sym p) (free_at old new op.Pick reply.Idle t a))
    by_reply reply.Stop t p = (t.same, t.mine)
    by_reply _ t p = absurd p

pub finishes : (old new : Seat) (r : Reply) (h : TaskHandle) (done : Answered) → AtWork old h.0 (work_of done.kind done.args)
    → NodeTurned old (op.Finish h done) r new → Finishes old h done new
finishes old new r h done a t =
    let o = op.Finish h done in
    let p = finished_as (state_at old new o r t) old.number h.0 (work_of done.kind done.args)
    (holds_at old new o r t h.0 (work_of done.kind done.args) a) done r (worker_at old new o r t a.worker) refl refl (turned_next old new o r t) in
    let x = rest_then old new o r t a.worker p.free in
    subst (λ (q : Reply). Added old (entry old.number o q ∷ []) new) p.reply x

-- a watch that may look once more
may_look : (args : List ℤ) (looks most : ℕ) → watch_looks args ≡ Some most → looks < most → (looks == most) ≡ false
may_look args looks most e l = grind (arith, nat_tests)

pub asked : (old new : Seat) (r : Reply) (h : TaskHandle) (args : List ℤ) (looks most : ℕ) → watch_looks args ≡ Some most → looks < most
    → AtWork old h.0 (watch_work args looks false) → NodeTurned old (op.Asked h) r new → (b : Bool) × (r ≡ reply.Asked b) × Asked old h args looks b new
asked old new r h args looks most e l a t =
    let o = op.Asked h in
    let x = watch_work args looks false in
    let p = asked_as (state_at old new o r t) old.number h.0 x (holds_at old new o r t h.0 x a) most r (worker_at old new o r t a.worker) refl refl e
    (may_look args looks most e l) (turned_next old new o r t) in (
      p.requested,
      p.reply,
      subst (λ (q : Reply). WorkerWorks old o q h.0 (watch_reported looks p.requested args) new) p.reply
          (by_told p.requested (λ y. works_then old new o r t h.0 y a.worker) p.holds),
    )
  where
    by_told : (b : Bool) → ((y : Work) → HoldsTask (next (state_at old new (op.Asked h) r t) (entry old.number (op.Asked h) r)) old.number h.0 y
        → WorkerWorks old (op.Asked h) r h.0 y new) → HoldsTask (next (state_at old new (op.Asked h) r t) (entry old.number (op.Asked h) r)) old.number h.0
        (Rattle.workload_runners.proofs.WorkLemmas.reported b (watch_work args looks false))
        → WorkerWorks old (op.Asked h) r h.0 (watch_reported looks b args) new
    by_told true f k = f _ k
    by_told false f k = f _ k

pub ends : (old new : Seat) (r : Reply) (h : TaskHandle) (args : List ℤ) → MayEnd old h args → NodeTurned old (op.WatchEnd h) r new → WorkerEnds old h new
ends old new r h args a t =
    let o = op.WatchEnd h in
    let x = watch_work args a.looks a.seen in
    let p = watched_as (state_at old new o r t) old.number h.0 x (holds_at old new o r t h.0 x a.work) r (worker_at old new o r t a.work.worker) refl a.over
    (turned_next old new o r t) in
    (p.end, subst (λ (q : Reply). Added old (entry old.number o q ∷ []) new) p.reply (rest_then old new o r t a.work.worker p.free))

-- the reply says whether the watch was told to stop
told_same : {b d : Bool} → reply.Asked b ≡ reply.Asked d → b ≡ d
told_same e = cc

pub asked_is : (old new : Seat) (r : Reply) (h : TaskHandle) (args : List ℤ) (looks most : ℕ) (b : Bool) → watch_looks args ≡ Some most → looks < most
    → AtWork old h.0 (watch_work args looks false) → NodeTurned old (op.Asked h) r new → r ≡ reply.Asked b → Asked old h args looks b new
asked_is old new r h args looks most b e l a t is =
    let x = asked old new r h args looks most e l a t in
    subst (λ (d : Bool). Asked old h args looks d new) (told_same (sym x.1 ∙ is)) x.2

-- The questions of a watch, one after the other

pub record Heard (old : Seat) (h : TaskHandle) (args : List ℤ) (n : ℕ) (new : Seat) : Type 0 where
  pub heard : List Bool
  pub same : SameNodeSeat old new
  pub mine : new.mine ≡ old.mine ++ watch_asks old.number h heard
  pub work : AtWork new h.0 (watch_work args n false)

heard_mine : (a b c : Seat) (h : TaskHandle) (x : List Bool) (d : Bool) → SameNodeSeat a b → b.mine ≡ a.mine ++ watch_asks a.number h x
    → c.mine ≡ b.mine ++ entry b.number (op.Asked h) (reply.Asked d) ∷ [] → c.mine ≡ a.mine ++ watch_asks a.number h (x ++ d ∷ [])
heard_mine a b c h x d s p q =
    mine_then a b c (λ w. watch_asks w h x) (λ w. entry w (op.Asked h) (reply.Asked d) ∷ []) s p q
    ∙ ap (λ (m : List NodeEntry). a.mine ++ m) (sym (map-append (λ (y : Bool). entry a.number (op.Asked h) (reply.Asked y)) x (d ∷ [])))

pub heard_more : (a b c : Seat) (h : TaskHandle) (args : List ℤ) (n : ℕ) (d : Bool) → d ≡ false → Heard a h args n b → Asked b h args n d c
    → Heard a h args (n + 1) c
heard_more a b c h args n true e p q = absurd (cc)
heard_more a b c h args n false e p q =
    record { heard = p.heard ++ false ∷ []; same = same_then a b c p.same q.same; mine = heard_mine a b c h p.heard false p.same p.mine q.mine; work = q.work }

pub heard_stop : (a b c : Seat) (h : TaskHandle) (args : List ℤ) (n most : ℕ) (d : Bool) → d ≡ true → Heard a h args n b → Asked b h args n d c
    → LookedOut a h args most c
heard_stop a b c h args n most true e p q =
    record {
      heard = p.heard ++ true ∷ [];
      same = same_then a b c p.same q.same;
      mine = heard_mine a b c h p.heard true p.same p.mine q.mine;
      looks = n;
      seen = true;
      work = q.work;
      over = refl;
    }
heard_stop a b c h args n most false e p q = absurd (cc)

pub watches_at_once : (a c : Seat) (h : TaskHandle) → WorkerEnds a h c → Watches a h c
watches_at_once a c h y = ([], y.0, y.1)

-- Rounds

pub ran : (a b c : Seat) (h : TaskHandle) (k : _) (args : List ℤ) (done : Answered) (x : ActionHandle)
    → WorkerWorks a op.Pick (reply.Picked h x k args) h.0 (work_of k args) b → Finishes b h done c → Added a (entries_in a.number (Ran h x k args done)) c
ran a b c h k args done x p q = record {
  same = same_then a b c p.same q.same;
  mine = mine_then a b c (λ w. entry w op.Pick (reply.Picked h x k args) ∷ []) (λ w. entry w (op.Finish h done) reply.Ok ∷ []) p.same p.mine q.mine;
  rest = q.rest;
}

pub watched : (a b c : Seat) (h : TaskHandle) (k : _) (args : List ℤ) (x : ActionHandle)
    → WorkerWorks a op.Pick (reply.Picked h x k args) h.0 (work_of k args) b
    → (y : Watches b h c) → Added a (entries_in a.number (Watched h x k args y.0 y.1)) c
watched a b c h k args x p y = record {
  same = same_then a b c p.same y.2.same;
  mine = mine_then a b c (λ w. entry w op.Pick (reply.Picked h x k args) ∷ []) (λ w. watch_asks w h y.0 ++ entry w (op.WatchEnd h) (reply.Ended y.1)
      ∷ []) p.same p.mine y.2.mine;
  rest = y.2.rest;
}

pub tallied : (a b c : Seat) (h : TaskHandle) (k : _) (args : List ℤ) (x : ActionHandle)
    → WorkerWorks a op.Pick (reply.Picked h x k args) h.0 (work_of k args) b
    → (y : Tallies b h c) → Added a (entries_in a.number (Tallied h x k args y.0 y.1 y.2)) c
tallied a b c h k args x p y = record {
  same = same_then a b c p.same y.3.same;
  mine = mine_then a b c (λ w. entry w op.Pick (reply.Picked h x k args) ∷ []) (λ w. tally_entries w h y.0 y.1 y.2) p.same p.mine y.3.mine;
  rest = y.3.rest;
}

-- what was taken and run is a round
pub acted : (a b c : Seat) (h : TaskHandle) (k : Kind) (args : List ℤ) (x : ActionHandle)
    → WorkerWorks a op.Pick (reply.Picked h x k args) h.0 (work_of k args) b
    → Acts b h c → Rounded a true c
acted a b c h k args x p (inl q) = (Ran h x k args q.0, ran a b c h k args q.0 x p q.1)
acted a b c h k args x p (inr (inl q)) = (Watched h x k args q.0 q.1, watched a b c h k args x p q)
acted a b c h k args x p (inr (inr q)) = (Tallied h x k args q.0 q.1 q.2, tallied a b c h k args x p q)

-- rounds so far
pub record Rounds (old new : Seat) : Type 0 where
  pub rounds : List Round
  pub added : Added old (all_in old.number rounds) new

pub rounds_none : (a : Seat) → AtRest a → Rounds a a
unfolding all_in
rounds_none a r = record { rounds = []; added = record { same = same_seat a; mine = sym (append-nil a.mine); rest = r } }

all_in-push : (w : ℕ) (rs : List Round) (r : Round) → all_in w (rs ++ r ∷ []) ≡ all_in w rs ++ entries_in w r
unfolding all_in
all_in-push w [] r = append-nil (entries_in w r)
all_in-push w (x ∷ xs) r = ap (λ (m : List NodeEntry). entries_in w x ++ m) (all_in-push w xs r)
    ∙ sym (append_assoc (entries_in w x) (all_in w xs) (entries_in w r))

pub rounds_more : (a b c : Seat) → Rounds a b → Rounded b true c → Rounds a c
rounds_more a b c p q = record {
  rounds = p.rounds ++ q.0 ∷ [];
  added = record {
    same = same_then a b c p.added.same q.1.same;
    mine = mine_then a b c (λ w. all_in w p.rounds) (λ w. entries_in w q.0) p.added.same p.added.mine q.1.mine
        ∙ ap (λ (m : List NodeEntry). a.mine ++ m) (sym (all_in-push a.number p.rounds q.0));
    rest = q.1.rest;
  };
}
