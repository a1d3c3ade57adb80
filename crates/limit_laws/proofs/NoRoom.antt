-- The row of each op, walked over once: what an op has found that is answered ErrTaskLimit.
use Rattle.history_law.proofs.Names.{nat_tests, arith, ◌≡◌, ℕ, Bool, true, false, cond, List, [], ◌∷◌, Option, Some, None, refl, sym, subst, ap, live_object, live_of, Op, Reply, State, TaskState, Scheduled, Running, Ended, Move, Row, unless, gives, never, Allows, only, live, row, Ending, endings, ℤ, Adds}
use Rattle.std.specs.Bool.{MatchBool}
use Rattle.mtapi_values.specs.declared.statuses.MtapiStatus.{MtapiStatus}
use Rattle.mtapi_values.specs.declared.statuses.MtapiStatus.TheVariants as m
use Rattle.mtapi_machine.specs.declared.ops.Op.TheVariants as op
use Rattle.mtapi_machine.specs.declared.replies.Reply.TheVariants as reply
use Rattle.mtapi_machine.specs.GroupRows.{gives_end, gives_first, verdict}
use Rattle.mtapi_machine.specs.TallyRows.{locks}
use Rattle.mtapi_machine.specs.WorkRows.{picks}
use Rattle.handle_pool.specs.Issued.{is_full}
use Rattle.mtapi_objects.specs.Groups.{first_fault}

-- the list of tasks is full, for a start and an enqueue; or this is the first fault in the group, for a look at all members
abbrev pub Finds : State → Op → Type 0
Finds s (op.TaskStart job args priority cores detached group) = is_full s.terms.settings.generations s.terms.settings.tasks s.tasks ≡ true
Finds s (op.TaskEnqueue q args cores detached group) = is_full s.terms.settings.generations s.terms.settings.tasks s.tasks ≡ true
Finds s (op.AllLook g last) = first_fault (endings g.0 (live_of s.tasks)) ≡ Some m.ErrTaskLimit
Finds s _ = ⊥

abbrev is_limit_reply : Reply → Bool
is_limit_reply (reply.Mtapi m.ErrTaskLimit) = true
is_limit_reply _ = false

-- F, where the row may give this reply
abbrev Leads : Type 0 → Row → Type 0
Leads F (unless b x w) = MatchBool (is_limit_reply x) ((b ≡ true → F) × Leads F w) (Leads F w)
Leads F (gives x ms) = MatchBool (is_limit_reply x) F (Unit {0})
Leads F never = Unit {0}

passed : (F W : Type 0) (c b : Bool) → MatchBool c ((b ≡ true → F) × W) W → W
passed F W true b g = g.1
passed F W false b g = g

met : (F : Type 0) (x : Reply) → reply.Mtapi m.ErrTaskLimit ≡ x → MatchBool (is_limit_reply x) F (Unit {0}) → F
met F x is g = subst (λ (c : Bool). MatchBool c F (Unit {0})) (sym (ap is_limit_reply is)) g

met_first : (F W : Type 0) (x : Reply) → reply.Mtapi m.ErrTaskLimit ≡ x → MatchBool (is_limit_reply x) ((true ≡ true → F) × W) W → F
met_first F W x is g = (subst (λ (c : Bool). MatchBool c ((true ≡ true → F) × W) W) (sym (ap is_limit_reply is)) g).0 refl

led : (F : Type 0) (w : Row) → Leads F w → Allows w (reply.Mtapi m.ErrTaskLimit) → F
led F (unless true x w) g a = met_first F (Leads F w) x a g
led F (unless false x w) g a = led F w (passed F (Leads F w) (is_limit_reply x) false g) a
led F (gives x ms) g a = met F x a g
led F never g a = absurd a

module _ (F : Type 0) where
  on_only : (b : Bool) (x : Reply) (ms : List Move) → is_limit_reply x ≡ false → Leads F (only b (gives x ms))
  on_only b x ms e1 = grind (arith, nat_tests)

  on_live : {T : Type 0} (x : Option T) (v : Row) (w : T → Row) → Leads F v → ((t : T) → Leads F (w t)) → Leads F (live x v w)
  on_live x v w e1 e2 = grind (arith, nat_tests)

  on_cond : (b : Bool) (v w : Row) → Leads F v → Leads F w → Leads F (cond b v w)
  on_cond true v w e1 e2 = e1
  on_cond false v w e1 e2 = e2

  on_verdict : (x : Option MtapiStatus) (ms : List Move) → (x ≡ Some m.ErrTaskLimit → F) → Leads F (gives (verdict x) ms)
  on_verdict None ms f = tt
  on_verdict (Some m.ErrTaskLimit) ms f = f refl
  on_verdict (Some c) ms f = grind (arith, nat_tests)

  on_end : (h : ℕ) (x : TaskState) → Leads F (gives_end h x)
  on_end h Scheduled = tt
  on_end h (Running w k) = tt
  on_end h (Ended e n) = tt

  on_first : (s : State) (last : Bool) (es : List Ending) → Leads F (gives_first s last es)
  on_first s true [] = tt
  on_first s false [] = tt
  on_first s last (y ∷ ys) = on_live (live_object s.tasks y.task) never _ tt (λ t. on_end y.task t.state)

  on_locks : (s : State) (who h : ℕ) (args : List ℤ) (x : Option Adds) → Leads F (locks s who h args x)
  on_locks s who h args x = grind (arith, nat_tests, on_live, on_cond)

  on_picks : (s : State) (who : ℕ) (r : Reply) → Leads F (picks s who r)
  on_picks s who r = grind (arith, nat_tests, on_live, on_cond, on_only)

  ruleset walks = (on_only, on_live, on_cond, on_verdict, on_first, on_locks, on_picks)

module _ (s : State) (who : ℕ) where
  walk : (o : Op) (r : Reply) → Leads (Finds s o) (row s who o r)
  walk op.Initialize r = grind (arith, nat_tests, walks)
  walk op.Release r = grind (arith, nat_tests, walks)
  walk op.Enter r = grind (arith, nat_tests, walks)
  walk op.Close r = grind (arith, nat_tests, walks)
  walk op.Final r = grind (arith, nat_tests, walks)
  walk (op.JobGet job) r = grind (arith, nat_tests, walks)
  walk (op.ActionCreate job kind cores) r = grind (arith, nat_tests, walks)
  walk (op.ActionDelete a) r = grind (arith, nat_tests, walks)
  walk (op.ActionDisable a) r = grind (arith, nat_tests, walks)
  walk (op.ActionEnable a) r = grind (arith, nat_tests, walks)
  walk (op.TaskStart job args priority cores detached group) r = grind (arith, nat_tests, walks)
  walk (op.TaskEnqueue q args cores detached group) r = grind (arith, nat_tests, walks)
  walk (op.TaskLook t last) r = grind (arith, nat_tests, walks)
  walk (op.TaskCancel t) r = grind (arith, nat_tests, walks)
  walk op.GroupCreate r = grind (arith, nat_tests, walks)
  walk (op.GroupDelete g) r = grind (arith, nat_tests, walks)
  walk (op.AllLook g last) r = grind (arith, nat_tests, walks)
  walk (op.AnyLook g last) r = grind (arith, nat_tests, walks)
  walk (op.QueueCreate id job priority limit ordered retain) r = grind (arith, nat_tests, walks)
  walk (op.QueueGet id) r = grind (arith, nat_tests, walks)
  walk (op.QueueEnable q) r = grind (arith, nat_tests, walks)
  walk (op.QueueDisable q) r = grind (arith, nat_tests, walks)
  walk (op.QueueDelete q) r = grind (arith, nat_tests, walks)
  walk op.Pick r = grind (arith, nat_tests, walks)
  walk (op.Finish t done) r = grind (arith, nat_tests, walks)
  walk (op.Asked t) r = grind (arith, nat_tests, walks)
  walk (op.WatchEnd t) r = grind (arith, nat_tests, walks)
  walk (op.TallyLock t) r = grind (arith, nat_tests, walks)
  walk (op.TallyRead t) r = grind (arith, nat_tests, walks)
  walk (op.TallyWrite t value) r = grind (arith, nat_tests, walks)
  walk (op.TallyEnd t) r = grind (arith, nat_tests, walks)
  walk (op.MutexCreate id recursive) r = grind (arith, nat_tests, walks)
  walk (op.MutexGet id) r = grind (arith, nat_tests, walks)
  walk (op.MutexDelete x) r = grind (arith, nat_tests, walks)
  walk (op.MutexLook x last) r = grind (arith, nat_tests, walks)
  walk (op.MutexUnlock x key) r = grind (arith, nat_tests, walks)
  walk (op.SemCreate id limit) r = grind (arith, nat_tests, walks)
  walk (op.SemGet id) r = grind (arith, nat_tests, walks)
  walk (op.SemDelete x) r = grind (arith, nat_tests, walks)
  walk (op.SemLook x last) r = grind (arith, nat_tests, walks)
  walk (op.SemUnlock x) r = grind (arith, nat_tests, walks)
  walk (op.RwlCreate id limit) r = grind (arith, nat_tests, walks)
  walk (op.RwlGet id) r = grind (arith, nat_tests, walks)
  walk (op.RwlDelete x) r = grind (arith, nat_tests, walks)
  walk (op.RwlLook x writer last) r = grind (arith, nat_tests, walks)
  walk (op.RwlUnlock x writer) r = grind (arith, nat_tests, walks)
  walk (op.ShmemCreate id cells) r = grind (arith, nat_tests, walks)
  walk (op.ShmemGet id) r = grind (arith, nat_tests, walks)
  walk (op.ShmemDelete x) r = grind (arith, nat_tests, walks)
  walk (op.ShmemAttach x) r = grind (arith, nat_tests, walks)
  walk (op.ShmemDetach x) r = grind (arith, nat_tests, walks)
  walk (op.ShmemRead x cell) r = grind (arith, nat_tests, walks)
  walk (op.ShmemWrite x cell value) r = grind (arith, nat_tests, walks)

  pub found_full : (o : Op) → Allows (row s who o (reply.Mtapi m.ErrTaskLimit)) (reply.Mtapi m.ErrTaskLimit) → Finds s o
  found_full o a = led (Finds s o) (row s who o _) (walk o _) a
