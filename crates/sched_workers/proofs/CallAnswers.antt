-- What the calls of a caller answer follows from the rows of their ops.
use Rattle.std.proofs.lemmas.Bool.Decides.{nat_tests}
use Rattle.std.proofs.Common.{◌≡◌, Bool, List, None, Option, Result, Some, ap, arith, cond, refl, true, ℕ}
use Rattle.std.specs.Prelude.{IfOk, OnErr, is_some}
use Rattle.std.proofs.lemmas.Result.{IfOk-weaker}
use Rattle.mtapi_machine.specs.State.{State}
use Rattle.mtapi_machine.specs.declared.ops.Op.{Op}
use Rattle.mtapi_machine.specs.declared.replies.Reply.{Reply}
use Rattle.workload_runs.specs.Wants.{IsTimed}
use Rattle.workload_runs.specs.declared.calls.Wanted.{Wanted}
use Rattle.turn_looks.proofs.OwnEntries.{self_is}
use Rattle.mtapi_values.specs.declared.statuses.MtapiStatus.TheVariants as m
use Rattle.mtapi_machine.specs.declared.ops.Op.TheVariants as op
use Rattle.mtapi_machine.specs.declared.replies.Reply.TheVariants as reply
use Rattle.workload_runs.specs.declared.calls.Wanted.TheVariants as want
use Rattle.workload_runners.specs.Looks.{NodeLooked, NodeStillLooking}
use Rattle.workload_runners.specs.Replies.{Standard, fits_op, is_answer_found}
use Rattle.workload_runners.specs.Turns.{Seat, NodeTurned, NodeUnturned}
use Rattle.sched_workers.specs.Answers.{AnsweredBy, Called, Waited}
use Rattle.workload_runners.proofs.OwnEntries.{turned_next, state_at}
use Rattle.mtapi_machine.specs.Answers.{Answers, refuses_with}
use Rattle.mtapi_machine.specs.Answers as is
use Rattle.mtapi_machine.proofs.Answered.{answered}
use Rattle.mtapi_machine.specs.Moves.{Move}
use Rattle.mtapi_values.specs.declared.statuses.MtapiStatus.{MtapiStatus}
use Rattle.mtapi_values.specs.declared.statuses.MrapiStatus.{MrapiStatus}

-- One turn

-- the reply to the op has an answer
abbrev Fits : Op → Reply → Type 0
Fits o r = fits_op o r ≡ true

-- a refusal has an answer, in the op's standard
refused_fits : (o : Op) (x : MtapiStatus) → refuses_with o (reply.Mtapi x) ≡ true → Fits o (reply.Mtapi x)
refused_fits o x e1 = grind (arith, nat_tests)

caller_fits : (o : Op) (x : MrapiStatus) → refuses_with o (reply.Mrapi x) ≡ true → Fits o (reply.Mrapi x)
caller_fits o x e1 = grind (arith, nat_tests)

pub fits_by : (s : State) (who : ℕ) (o : Op) (r : Reply) (ms : List Move) → Answers s who o r ms → Fits o r
fits_by s who _ _ _ (is.refuses o x e) = refused_fits o x e
fits_by s who _ _ _ (is.refuses_caller o x e) = caller_fits o x e
fits_by s who _ _ _ (is.finds_job job e) = ap (λ (b : Bool). is_some (cond b (Some job) None)) (self_is job)
fits_by s who _ _ _ _ = refl

-- the reply of a turn has an answer
pub turn_fits : (old new : Seat) (o : Op) (x : Result Reply ℕ) → IfOk x (λ r. NodeTurned old o r new) → IfOk x (λ r. fits_op o r ≡ true)
turn_fits old new o x k =
    IfOk-weaker x (λ r. NodeTurned old o r new) (Fits o)
    (λ r t. fits_by (state_at old new o r t) old.number o r _ (answered (state_at old new o r t) old.number o r (turned_next old new o r t).allowed)) k

-- Looks

-- a look with a limit, and one at the entrance without, that came to an answer
pub timed_found : (w : Wanted) (limit : Option ℕ) (old new : Seat) (x : Result Reply ℕ) → IsTimed w → IfOk x (λ r. NodeLooked w limit old new r)
    → IfOk x (λ r. is_answer_found w r ≡ true)
timed_found w limit old new x e1 e2 = grind (arith, nat_tests)

pub entrance_found : (old new : Seat) (x : Result Reply ℕ) → IfOk x (λ r. NodeLooked want.Entrance None old new r)
    → IfOk x (λ r. is_answer_found want.Entrance r ≡ true)
entrance_found old new x k = IfOk-weaker x (λ r. NodeLooked want.Entrance None old new r) (λ r. is_answer_found want.Entrance r
    ≡ true) (λ r l. l.found (l.decides l.bound)) k

-- What a call comes to

pub called : {S A : Type 0} (standard : Standard S) (read : Reply → Option A) (o : Op) (old new : Seat) (y : Result Reply ℕ) (x : Result A S)
    → IfOk y (λ r. NodeTurned old o r new) → OnErr y (NodeUnturned old new) → AnsweredBy standard read y x → Called standard read o old new x
called standard read o old new y x e1 e2 e3 = grind (arith, nat_tests)

pub waited : {S A : Type 0} (standard : Standard S) (read : Reply
    → Option A) (w : Wanted) (limit : Option ℕ) (old new : Seat) (y : Result Reply ℕ) (x : Result A S) → IfOk y (λ r. NodeLooked w limit old new r)
    → OnErr y (NodeStillLooking w limit old new) → AnsweredBy standard read y x → Waited standard read w limit old new x
waited standard read w limit old new y x e1 e2 e3 = grind (arith, nat_tests)
