-- Looks until a moment has come: some number of them.
use Rattle.std.proofs.Common.{◌≡◌, ℕ, ◌+◌, Bool, true, false, Option, Some, Result, Ok, Err, refl, sym, subst, ◌∙◌, arith}
use Rattle.std.proofs.lemmas.Bool.Decides.{nat_tests}
use Rattle.std.specs.Prelude.{IfOk, OnErr, ◌==◌}
use Rattle.mtapi_machine.specs.Kept.{is_pending}
use Rattle.mtapi_machine.specs.declared.ops.Op.{Op}
use Rattle.mtapi_machine.specs.declared.replies.Reply.{Reply}
use Rattle.mtapi_machine.specs.declared.replies.Reply.TheVariants.{Pending}
use Rattle.node_core.specs.Logs.{journal_legal}
use Rattle.workload_runs.specs.Wants.{op_of_look, IsTimed}
use Rattle.workload_runs.specs.declared.calls.Wanted.{Wanted}
use Rattle.turn_looks.specs.Looks as looks
use Rattle.turn_looks.proofs.LookLemmas as loop
use Rattle.turn_looks.proofs.OwnEntries.{self_is}
use Rattle.workload_runners.specs.Looks.{NodeLooked, NodeStillLooking}
use Rattle.workload_runners.specs.Replies.{Standard, is_answer_found}
use Rattle.workload_runners.specs.Turns.{Seat, NodeTurned, NodeUnturned}
use Rattle.workload_runners.proofs.LookLemmas.{looked}
use Rattle.sched_workers.specs.Answers.{AnsweredBy, Waited, WaitedUntil}
use Rattle.sched_workers.proofs.CallAnswers.{timed_found, waited}

-- the seat made so many looks that found the thing not ready
abbrev pub Pended : Wanted → Seat → ℕ → Seat → Type 0
Pended w old n new = looks.Pended journal_legal (op_of_look w) Pending old n new

abbrev pub SomeLooked : Wanted → Seat → Seat → Reply → Type 0
SomeLooked w old new r = (n : ℕ) × NodeLooked w (Some n) old new r

abbrev pub SomeStill : Wanted → Seat → Seat → Type 0
SomeStill w old new = (n : ℕ) × NodeStillLooking w (Some n) old new

is_so : (r : Reply) → is_pending r ≡ true → r ≡ Pending
is_so r e1 = grind (arith, nat_tests)

pended_is : (r : Reply) → r ≡ Pending → is_pending r ≡ true
pended_is r e1 = grind (arith, nat_tests)

more : (n : ℕ) → (n + 1 == n + 2) ≡ false
more n = grind (arith, nat_tests)

-- the look behind the moment
pub last_told : (w : Wanted) (n : ℕ) (a b c : Seat) (last : Bool) (o : Op) (r : Reply) → last ≡ true → o ≡ op_of_look w last → Pended w a n b
    → NodeTurned b o r c
    → SomeLooked w a c r
last_told w n a b c last o r is asks p t = (
  n + 1,
  looked w (Some (n + 1)) a c r (loop.looked journal_legal (op_of_look w) Pending (Some (n + 1)) n a b c last o r asks p t
      (omega arith, is ∙ sym (self_is (n + 1))) (λ e. absurd (cc))),
)

-- a look before it that had an answer
pub early_told : (w : Wanted) (n : ℕ) (a b c : Seat) (last : Bool) (o : Op) (r : Reply) → last ≡ false → is_pending r ≡ false → o ≡ op_of_look w last
    → Pended w a n b → NodeTurned b o r c → SomeLooked w a c r
early_told w n a b c last o r is had asks p t = (
  n + 2,
  looked w (Some (n + 2)) a c r (loop.looked journal_legal (op_of_look w) Pending (Some (n + 2)) n a b c last o r asks p t
      (omega arith, is ∙ sym (more n)) (λ e at. let so = pended_is r at in absurd (cc))),
)

-- one more that had none
pub pended_more : (w : Wanted) (n : ℕ) (a b c : Seat) (last : Bool) (o : Op) (r : Reply) → last ≡ false → is_pending r ≡ true → o ≡ op_of_look w last
    → Pended w a n b → NodeTurned b o r c → Pended w a (n + 1) c
pended_more w n a b c last o r is had asks p t =
    loop.pended_more journal_legal (op_of_look w) Pending n a b c o r (subst (λ (x : Bool). o ≡ op_of_look w x) is asks) (is_so r had) p t

pub still : (w : Wanted) (n : ℕ) (a b c : Seat) → Pended w a n b → NodeUnturned b c → SomeStill w a c
still w n a b c p u = (n + 1, loop.still journal_legal (op_of_look w) Pending (Some (n + 1)) n a b c p u (omega arith))

-- What a call comes to

pub some_found : (w : Wanted) (old new : Seat) (x : Result Reply ℕ) → IsTimed w → IfOk x (λ r. SomeLooked w old new r)
    → IfOk x (λ r. is_answer_found w r ≡ true)
some_found w old new (Ok r) timed l = timed_found w (Some l.0) old new (Ok r) timed l.1
some_found w old new (Err s) timed l = tt

pub waited_until : {S A : Type 0} (standard : Standard S) (read : Reply → Option A) (w : Wanted) (old new : Seat) (y : Result Reply ℕ) (x : Result A S)
    → IfOk y (λ r. SomeLooked w old new r) → OnErr y (SomeStill w old new) → AnsweredBy standard read y x → WaitedUntil standard read w old new x
waited_until standard read w old new (Ok r) x l s a = (l.0, waited standard read w (Some l.0) old new (Ok r) x l.1 s a)
waited_until standard read w old new (Err e) x l s a = (s.0, waited standard read w (Some s.0) old new (Err e) x l s.1 a)
