-- What the rows of looks say: when a look decides, when it tells that the time is over, and that what it decides has an answer.
use Rattle.std.proofs.lemmas.Bool.Decides.{nat_tests}
use Rattle.workload_runners.proofs.Names.{[], ◌+◌, ◌^◌, ◌∷◌, ◌≡◌, ◌≤◌, Allows, Bool, Ended, Ending, Every, InTime, IsTimed, List, Listed, MrapiStatus, MtapiStatus, None, Option, Reply, Running, Scheduled, Some, State, Task, TaskEnd, TaskState, Wanted, ap, arith, cond, done, drops, end_of, endings, every_at, false, fault_of, first_fault, is_answer_found, in_time, insert, insert_ended, is_late_end, is_member, is_pending, is_some, is_timeout, key, live, live_of, lt-ltb, mrapi_standard, mtapi_standard, nat_lt, not, op_of_look, option_or, pos, refl, row, subst, true, verdict, ℕ}
use Rattle.mtapi_values.specs.declared.statuses.MtapiStatus.TheVariants as m
use Rattle.mtapi_machine.specs.declared.replies.Reply.TheVariants as reply
use Rattle.workload_runs.specs.declared.calls.Wanted.TheVariants as want
use Rattle.workload_runners.specs.Replies.{says_something, end_in_reply, given}
use Rattle.workload_runners.proofs.Depths.{Shallow}
use Rattle.mtapi_machine.specs.Answers.{Answers, is_refusal, is_caller_refusal}
use Rattle.mtapi_machine.specs.Answers as is
use Rattle.mtapi_machine.proofs.Answered.{answered}
use Rattle.mtapi_machine.specs.Moves.{Move}
use Rattle.mtapi_values.specs.declared.statuses.MrapiStatus.TheVariants as caller

-- what a reply to a look says, where no task of the state has failed late and no mutex is too deep
pub record AnswersLook (w : Wanted) (s : State) (last : Bool) (r : Reply) : Type 0 where
  -- the last look isn't answered Pending, and what isn't Pending is kept by every journal
  pub pending : IsTimed w → last ≡ true → is_pending r ≡ false
  pub stays : is_pending r ≡ false → (alike : Bool) → drops alike r ≡ false
  -- a look that isn't the last tells no end of the time
  pub early : Every InTime s.tasks → last ≡ false → is_timeout r ≡ false
  -- what isn't Pending has an answer
  pub found : Every InTime s.tasks → Every Shallow s.mutexes → is_pending r ≡ false → is_answer_found w r ≡ true

-- a refusal is neither the end of the time nor the status for turns that are used up
not_timeout : (c : MtapiStatus) → is_refusal c ≡ true → is_timeout (reply.Mtapi c) ≡ false
not_timeout c e1 = grind (arith, nat_tests)

not_caller_timeout : (c : MrapiStatus) → is_caller_refusal c ≡ true → is_timeout (reply.Mrapi c) ≡ false
not_caller_timeout c e1 = grind (arith, nat_tests)

pub not_spent : {A : Type 0} (read : Reply → Option A) (c : MtapiStatus) → is_refusal c ≡ true → says_something mtapi_standard read (reply.Mtapi c) ≡ true
not_spent read c e1 = grind (arith, nat_tests)

pub not_spent_caller : {A : Type 0} (read : Reply → Option A) (c : MrapiStatus) → is_caller_refusal c ≡ true
    → says_something mrapi_standard read (reply.Mrapi c) ≡ true
not_spent_caller read c e1 = grind (arith, nat_tests)

module _ {w : Wanted} {s : State} where
  -- statuses other than that for the end of the time, and that an op was done

  code : {last : Bool} (c : MtapiStatus) → is_timeout (reply.Mtapi c) ≡ false → is_answer_found w (reply.Mtapi c) ≡ true → AnswersLook w s last (reply.Mtapi c)
  code c t f = record { pending = λ i e. refl; stays = λ e b. refl; early = λ v e. t; found = λ v d e. f }

  mcode : {last : Bool} (c : MrapiStatus) → is_timeout (reply.Mrapi c) ≡ false → is_answer_found w (reply.Mrapi c) ≡ true → AnswersLook w s last (reply.Mrapi c)
  mcode c t f = record { pending = λ i e. refl; stays = λ e b. refl; early = λ v e. t; found = λ v d e. f }

  ok : {last : Bool} → is_answer_found w reply.Ok ≡ true → AnswersLook w s last reply.Ok
  ok f = record { pending = λ i e. refl; stays = λ e b. refl; early = λ v e. refl; found = λ v d e. f }

  -- too early, and at the last look too late

  waits : AnswersLook w s false reply.Pending
  waits = record { pending = λ i e. absurd (cc); stays = λ e b. absurd (cc); early = λ v e. refl; found = λ v d e. absurd (cc) }

  late : (r : Reply) → is_pending r ≡ false → ((alike : Bool) → drops alike r ≡ false) → is_answer_found w r ≡ true → AnswersLook w s true r
  late r p d f = record { pending = λ i e. p; stays = λ e b. d b; early = λ v e. absurd (cc); found = λ v i e. f }

-- no end of these is late
abbrev pub AllEarly : List Ending → Type 0
AllEarly [] = Unit {0}
AllEarly (e ∷ es) = (is_late_end e.end ≡ false) × AllEarly es

insert_early : (e : Ending) (es : List Ending) → is_late_end e.end ≡ false → AllEarly es → AllEarly (insert e es)
insert_early e [] l a = (l, tt)
insert_early e (f ∷ fs) l a = by (nat_lt e.number f.number) (insert_early e fs l a.1)
  where
    by : (b : Bool) → AllEarly (insert e fs) → AllEarly (cond b (e ∷ f ∷ fs) (f ∷ insert e fs))
    by true more = (l, a)
    by false more = (a.0, more)

not_true : (b : Bool) → not b ≡ true → b ≡ false
not_true b e1 = grind (arith, nat_tests)

ended_early : (h : ℕ) (x : TaskState) (es : List Ending) → in_time x ≡ true → AllEarly es → AllEarly (insert_ended h (end_of x) es)
ended_early h Scheduled es i a = a
ended_early h (Running w k) es i a = a
ended_early h (Ended e n) es i a = insert_early (record { task = h; end = e; number = n }) es (not_true (is_late_end e) i) a

pub endings_early : (g : ℕ) (l : List (Listed Task)) → Every InTime l → AllEarly (endings g (live_of l))
unfolding endings live_of
endings_early g [] a = tt
endings_early g (r ∷ rs) a = by r.live (endings_early g rs a.1)
  where
    by : (b : Bool) → AllEarly (endings g (live_of rs)) → AllEarly (endings g (cond b ((r.handle, r.fields) ∷ live_of rs) (live_of rs)))
    by true more = member (is_member g r.fields)
      where
        member : (d : Bool) → AllEarly (cond d (insert_ended r.handle (end_of r.fields.state) (endings g (live_of rs))) (endings g (live_of rs)))
        member true = ended_early r.handle r.fields.state (endings g (live_of rs)) a.0.state more
        member false = more
    by false more = more

-- what all members of a group say: neither the end of the time nor the status for turns that are used up
abbrev IsPlain : Option MtapiStatus → Type 0
IsPlain o = (is_timeout (verdict o) ≡ false) × (says_something mtapi_standard done (verdict o) ≡ true)

first_plain : (y : TaskEnd) (o : Option MtapiStatus) → is_late_end y ≡ false → IsPlain o → IsPlain (option_or (fault_of y) o)
first_plain y o e1 e2 = grind (arith, nat_tests)

faults_plain : (es : List Ending) → AllEarly es → IsPlain (first_fault es)
faults_plain [] a = (refl, refl)
faults_plain (x ∷ es) a = first_plain x.end (first_fault es) a.0 (faults_plain es a.1)

key_found : (n : ℕ) → n ≤ 64 → says_something mrapi_standard key (reply.Number (pos (n + 1))) ≡ true
key_found n l = ap (λ (b : Bool). is_some (cond b (Some (n + 1)) None)) (lt-ltb (n + 1) (2 ^ 32) (omega arith))

says_by : (w : Wanted) (s : State) (who : ℕ) (last : Bool) (r : Reply) (ms : List Move) → Answers s who (op_of_look w last) r ms → AnswersLook w s last r
says_by (want.Task t) s who _ _ _ (is.refuses o c e) = code c (not_timeout c e) (not_spent end_in_reply c e)
says_by (want.Task t) s who _ _ _ (is.looks_early _ x f u d) = waits
says_by (want.Task t) s who _ _ _ (is.looks_last _ x f u d) = late _ refl (λ b. refl) refl
says_by (want.Task t) s who _ _ _ (is.looks_over _ last x e n f u d) =
    record { pending = λ i e. refl; stays = λ e b. refl; early = λ v e. refl; found = λ v d e. refl }
says_by (want.Task t) s who _ _ _ (is.refuses_caller o c e) = absurd (cc)
says_by want.Entrance s who _ _ _ (is.refuses o c e) = code c (not_timeout c e) (not_spent done c e)
says_by want.Entrance s who _ _ _ (is.enters_early a b) =
    record { pending = λ i e. absurd i; stays = λ e b. absurd (cc); early = λ v e. refl; found = λ v d e. absurd (cc) }
says_by want.Entrance s who _ _ _ (is.enters_node a b) = ok refl
says_by want.Entrance s who _ _ _ (is.refuses_caller o c e) = absurd (cc)
says_by (want.AllMembers g) s who _ _ _ (is.refuses o c e) = code c (not_timeout c e) (not_spent done c e)
says_by (want.AllMembers g) s who _ _ _ (is.all_early _ x e b) = waits
says_by (want.AllMembers g) s who _ _ _ (is.all_late _) = late _ refl (λ b. refl) refl
says_by (want.AllMembers g) s who _ _ _ (is.all_well _ last x e b n) = ok refl
says_by (want.AllMembers g) s who _ _ _ (is.all_faulty _ last x c e b n) =
    let p : Every InTime s.tasks → IsPlain (Some c) = λ v. subst IsPlain n (faults_plain _ (endings_early g.0 s.tasks v)) in
    record { pending = λ i e. refl; stays = λ e b. refl; early = λ v e. (p v).0; found = λ v d e. (p v).1 }
says_by (want.AllMembers g) s who _ _ _ (is.refuses_caller o c e) = absurd (cc)
says_by (want.FirstMember g) s who _ _ _ (is.refuses o c e) = code c (not_timeout c e) (not_spent given c e)
says_by (want.FirstMember g) s who _ _ _ (is.any_early _ x e b) = waits
says_by (want.FirstMember g) s who _ _ _ (is.any_late _) = late _ refl (λ b. refl) refl
says_by (want.FirstMember g) s who _ _ _ (is.any_given _ last x y ys t e n a b f d) =
    record { pending = λ i e. refl; stays = λ e b. refl; early = λ v e. refl; found = λ v d e. refl }
says_by (want.FirstMember g) s who _ _ _ (is.refuses_caller o c e) = absurd (cc)
says_by (want.Mutex h) s who _ _ _ (is.refuses_caller o c e) = mcode c (not_caller_timeout c e) (not_spent_caller key c e)
says_by (want.Mutex h) s who _ _ _ (is.mutex_early _ x k b) = waits
says_by (want.Mutex h) s who _ _ _ (is.mutex_late _) = late _ refl (λ b. refl) refl
says_by (want.Mutex h) s who _ _ _ (is.locks_mutex _ last x k b) =
    record {
      pending = λ i e. refl;
      stays = λ e b. refl;
      early = λ v e. refl;
      found = λ v d e. key_found x.depth (every_at Shallow s.mutexes h.0 x d k.found).deep;
    }
says_by (want.Mutex h) s who _ _ _ (is.refuses o c e) = absurd (cc)
says_by (want.Sem h) s who _ _ _ (is.refuses_caller o c e) = mcode c (not_caller_timeout c e) (not_spent_caller done c e)
says_by (want.Sem h) s who _ _ _ (is.sem_early _ x k b) = waits
says_by (want.Sem h) s who _ _ _ (is.sem_late _) = late _ refl (λ b. refl) refl
says_by (want.Sem h) s who _ _ _ (is.takes_sem _ last x k b) = ok refl
says_by (want.Sem h) s who _ _ _ (is.refuses o c e) = absurd (cc)
says_by (want.Rwl h writer) s who _ _ _ (is.refuses_caller o c e) = mcode c (not_caller_timeout c e) (not_spent_caller done c e)
says_by (want.Rwl h writer) s who _ _ _ (is.rwl_early _ _ x k b) = waits
says_by (want.Rwl h writer) s who _ _ _ (is.rwl_late _ _) = late _ refl (λ b. refl) refl
says_by (want.Rwl h writer) s who _ _ _ (is.takes_rwl _ _ last x k b) = ok refl
says_by (want.Rwl h writer) s who _ _ _ (is.refuses o c e) = absurd (cc)

pub wanted_says : (w : Wanted) (s : State) (who : ℕ) (last : Bool) (r : Reply) → Allows (row s who (op_of_look w last) r) r → AnswersLook w s last r
wanted_says w s who last r a = says_by w s who last r _ (answered s who (op_of_look w last) r a)
