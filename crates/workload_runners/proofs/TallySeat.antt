-- The turns of a worker that executes a tally, from what its seat has seen to what it has seen then.
use Rattle.std.proofs.lemmas.Bool.Decides.{nat_tests}
use Rattle.std.proofs.Common.{arith}
use Rattle.workload_runners.proofs.Names.{[], ◌++◌, ◌∙◌, ◌∷◌, ◌≡◌, Added, AddsToCell, AtWork, Bool, EndsTally, IsTallyAnswer, List, LocksOnce, MayEndTally, MayRead, MayWrite, NodeEntry, None, Option, Reads, ReadsCell, Reply, SameNodeSeat, Seat, Some, TakesBoth, TaskHandle, NodeTurned, WorkerWorks, Writes, WritesCell, answer_in, ap, append-nil, entry, false, fits, fitting, next, no_tally, refl, replicate, retries, subst, suc, sum_with, sym, tally_failed, tally_has, tally_read, tally_written, tallying, true, zero, ℕ, ℤ}
use Rattle.mtapi_machine.specs.declared.ops.Op.TheVariants as op
use Rattle.mtapi_machine.specs.declared.replies.Reply.TheVariants as reply
use Rattle.workload_runners.proofs.OwnEntries.{state_at, turned_next}
use Rattle.workload_runners.proofs.Adds.{same_seat, same_then, mine_then}
use Rattle.workload_runners.proofs.TallyWork.{LockedAs, locked_as, read_as, written_as, tallied_as}
use Rattle.workload_runners.proofs.SeatSteps.{worker_at, holds_at, rest_then, works_then}

-- Asking for both

pub locks_once : (old new : Seat) (r : Reply) (t : TaskHandle) (args : List ℤ) → AtWork old t.0 (tallying args no_tally) → NodeTurned old (op.TallyLock t) r new
    → IsTallyAnswer r × LocksOnce old t args (answer_in r) new
locks_once old new r t args a u = by_reply r u
    (locked_as _ old.number t.0 (tallying args no_tally) (holds_at old new (op.TallyLock t) r u t.0 (tallying args no_tally) a) r
    (worker_at old new (op.TallyLock t) r u a.worker) refl refl (turned_next old new (op.TallyLock t) r u))
  where
    by_reply : (r : Reply) (u : NodeTurned old (op.TallyLock t) r new)
        → LockedAs r old.number t.0 (tallying args no_tally) (next (state_at old new (op.TallyLock t) r u) (entry old.number (op.TallyLock t) r))
        → IsTallyAnswer r × LocksOnce old t args (answer_in r) new
    by_reply reply.Pending u p = (tt, works_then old new (op.TallyLock t) reply.Pending u t.0 (tallying args no_tally) a.worker p)
    by_reply (reply.Asked false) u p = (
      tt,
      (p.0, works_then old new (op.TallyLock t) (reply.Asked false) u t.0 (tallying args (tally_failed p.0 no_tally)) a.worker p.1),
    )
    by_reply (reply.Asked true) u p = (
      tt,
      (
        p.0,
        p.1,
        works_then old new (op.TallyLock t) (reply.Asked true) u t.0
            (tallying args (tally_has p.0 p.1 no_tally)) a.worker p.2,
      ),
    )
    by_reply _ u p = absurd p

-- the questions so far, each to be asked again
pub record Retried (old : Seat) (t : TaskHandle) (args : List ℤ) (new : Seat) : Type 0 where
  pub pending : ℕ
  pub same : SameNodeSeat old new
  pub mine : new.mine ≡ old.mine ++ retries old.number t pending
  pub work : AtWork new t.0 (tallying args no_tally)

pub retried_none : (a : Seat) (t : TaskHandle) (args : List ℤ) → AtWork a t.0 (tallying args no_tally) → Retried a t args a
retried_none a t args w = record { pending = 0; same = same_seat a; mine = sym (append-nil a.mine); work = w }

one_more : (n : ℕ) (e : NodeEntry) → replicate n e ++ e ∷ [] ≡ replicate (suc n) e
one_more zero e = refl
one_more (suc n) e = ap (λ (l : List NodeEntry). e ∷ l) (one_more n e)

-- another turn behind the questions so far
behind : (a b c : Seat) (t : TaskHandle) (n : ℕ) (o : _) (r : Reply) → SameNodeSeat a b → b.mine ≡ a.mine ++ retries a.number t n
    → c.mine ≡ b.mine ++ entry b.number o r ∷ [] → c.mine ≡ a.mine ++ (retries a.number t n ++ entry a.number o r ∷ [])
behind a b c t n o r s p q = mine_then a b c (λ w. retries w t n) (λ w. entry w o r ∷ []) s p q

pub retried_more : (a b c : Seat) (t : TaskHandle) (args : List ℤ) (g : Option Bool) → g ≡ None → Retried a t args b → LocksOnce b t args g c
    → Retried a t args c
retried_more a b c t args None e p q = record {
  pending = suc p.pending;
  same = same_then a b c p.same q.same;
  mine =
      behind a b c t p.pending (op.TallyLock t) reply.Pending p.same p.mine q.mine
      ∙ ap (λ (m : List NodeEntry). a.mine ++ m) (one_more p.pending (entry a.number (op.TallyLock t) reply.Pending));
  work = q.work;
}
retried_more a b c t args (Some g) e p q = absurd (cc)

pub takes_both : (a b c : Seat) (t : TaskHandle) (args : List ℤ) (g : Option Bool) (got : Bool) → g ≡ Some got → Retried a t args b → LocksOnce b t args g c
    → TakesBoth a t args got c
takes_both a b c t args None got e p q = absurd (cc)
takes_both a b c t args (Some false) got e p q =
    subst (λ (x : Bool). TakesBoth a t args x c) (cc)
    (record {
      pending = p.pending;
      notes = tally_failed q.0 no_tally;
      locked = (q.0, refl);
      does = record {
        same = same_then a b c p.same q.1.same;
        mine = behind a b c t p.pending (op.TallyLock t) (reply.Asked false) p.same p.mine q.1.mine;
        work = q.1.work;
      };
    })
takes_both a b c t args (Some true) got e p q =
    subst (λ (x : Bool). TakesBoth a t args x c) (cc)
    (record {
      pending = p.pending;
      notes = tally_has q.0 q.1 no_tally;
      locked = (q.0, q.1, refl);
      does = record {
        same = same_then a b c p.same q.2.same;
        mine = behind a b c t p.pending (op.TallyLock t) (reply.Asked true) p.same p.mine q.2.mine;
        work = q.2.work;
      };
    })

-- Reading and writing

pub reads_cell : (old new : Seat) (r : Reply) (t : TaskHandle) (args : List ℤ) → MayRead old t args → NodeTurned old (op.TallyRead t) r new
    → (z : ℤ) × (r ≡ reply.Number z) × ReadsCell old t args z new
reads_cell old new r t args a u =
    let x = tallying args (tally_has a.0 a.1 no_tally) in
    let p = read_as _ old.number t.0 x (holds_at old new (op.TallyRead t) r u t.0 x a.2) r (worker_at old new (op.TallyRead t) r u a.2.worker) refl refl
    (turned_next old new (op.TallyRead t) r u) in (
      p.number,
      p.reply,
      (
        a.0,
        a.1,
        subst (λ (q : Reply). WorkerWorks old (op.TallyRead t) q t.0
            (tallying args (tally_read p.number (tally_has a.0 a.1 no_tally))) new) p.reply
            (works_then old new (op.TallyRead t) r u t.0 (tallying args (tally_read p.number (tally_has a.0 a.1 no_tally))) a.2.worker p.holds),
      ),
    )

number_same : {y z : ℤ} → reply.Number y ≡ reply.Number z → y ≡ z
number_same e = cc

pub reads_cell_is : (old new : Seat) (r : Reply) (t : TaskHandle) (args : List ℤ) (z : ℤ) → MayRead old t args → NodeTurned old (op.TallyRead t) r new
    → r ≡ reply.Number z → ReadsCell old t args z new
reads_cell_is old new r t args z a u e = let x = reads_cell old new r t args a u in
    subst (λ (y : ℤ). ReadsCell old t args y new) (number_same (sym x.1 ∙ e)) x.2

pub writes_cell : (old new : Seat) (r : Reply) (t : TaskHandle) (args : List ℤ) (z value : ℤ) → MayWrite old t args z → value ≡ sum_with args z
    → NodeTurned old (op.TallyWrite t value) r new → WritesCell old t args z value new
writes_cell old new r t args z value a e u =
    let o = op.TallyWrite t value in
    let x = tallying args (tally_read z (tally_has a.0 a.1 no_tally)) in
    let p = written_as _ old.number t.0 x (holds_at old new o r u t.0 x a.2) value r (worker_at old new o r u a.2.worker) refl refl e
    (turned_next old new o r u) in (
      a.0,
      a.1,
      subst (λ (q : Reply). WorkerWorks old o q t.0 (tallying args (tally_written (tally_read z (tally_has a.0 a.1 no_tally)))) new) p.reply
          (works_then old new o r u t.0 (tallying args (tally_written (tally_read z (tally_has a.0 a.1 no_tally)))) a.2.worker p.holds),
    )

-- a sum that doesn't fit
unfit : (z : ℤ) → None ≡ fitting z → fits z ≡ false
unfit z e1 = grind (arith, nat_tests)

pub adds_nothing : (a b : Seat) (t : TaskHandle) (args : List ℤ) (z : ℤ) → ReadsCell a t args z b → None ≡ fitting (sum_with args z) → AddsToCell a t args b
adds_nothing a b t args z x e = record {
  steps = entry a.number (op.TallyRead t) (reply.Number z) ∷ [];
  same = x.2.same;
  mine = x.2.mine;
  like = record { steps = Reads z; is = refl };
  may = (tally_read z (tally_has x.0 x.1 no_tally), x.2.work, unfit (sum_with args z) e);
}

pub adds_sum : (a b c : Seat) (t : TaskHandle) (args : List ℤ) (z kept value : ℤ) → ReadsCell a t args z b → WritesCell b t args kept value c
    → AddsToCell a t args c
adds_sum a b c t args z kept value x y = record {
  steps = entry a.number (op.TallyRead t) (reply.Number z) ∷ entry a.number (op.TallyWrite t value) reply.Ok ∷ [];
  same = same_then a b c x.2.same y.2.same;
  mine = mine_then a b c (λ w. entry w (op.TallyRead t) (reply.Number z) ∷ []) (λ w. entry w (op.TallyWrite t value) reply.Ok ∷ []) x.2.same x.2.mine y.2.mine;
  like = record { steps = Writes z value; is = refl };
  may = (tally_written (tally_read kept (tally_has y.0 y.1 no_tally)), y.2.work, refl);
}

-- Ending

pub ends_tally : (old new : Seat) (r : Reply) (t : TaskHandle) (args : List ℤ) → MayEndTally old t args → NodeTurned old (op.TallyEnd t) r new
    → EndsTally old t new
ends_tally old new r t args a u =
    let o = op.TallyEnd t in
    let x = tallying args a.0 in
    let p = tallied_as _ old.number t.0 x (holds_at old new o r u t.0 x a.1) r (worker_at old new o r u a.1.worker) refl a.2 (turned_next old new o r u) in
    (p.end, subst (λ (q : Reply). Added old (entry old.number o q ∷ []) new) p.reply (rest_then old new o r u a.1.worker p.free))
