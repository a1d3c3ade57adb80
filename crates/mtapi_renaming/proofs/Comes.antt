-- Every reply that the renamed state allows to an op that makes nothing is the renamed one of a reply; and which rows read the reply.
use Rattle.mtapi_renaming.proofs.Names.{arith, nat_tests, ◌≡◌, ℕ, Bool, true, false, cond, List, [], ◌∷◌, Option, Some, None, refl, ap, subst, is_some, not, nat_lt, TaskHandle, ActionHandle, Kind, live_object, any_listed, runs_on, Op, Reply, Ok, Picked, Idle, Stop, Mtapi, State, workers, is_new, is_stop, Move, stops, Row, unless, gives, never, says, only, live, Allows, can_take, picks, row, answer_of_row, answer-allowed, Renaming, Room, renamed_task, renamed, HasTaskNames, NoHandle, FitsState, answered_kind, renamed_op, renamed_reply, made_kind, takes_task}
use Rattle.mtapi_values.specs.declared.handles.ObjectKind.TheVariants as kind
use Rattle.mtapi_values.specs.declared.statuses.MtapiStatus.TheVariants as m
use Rattle.mtapi_machine.specs.declared.ops.Op.TheVariants as op
use Rattle.mtapi_renaming.proofs.Lists.{IsOther, found-other}
use Rattle.mtapi_renaming.proofs.Rows.{is_plain, IsRenamed}
use Rattle.mtapi_renaming.proofs.Table.{row_alike}

-- the op may be answered by several replies
abbrev chooses : Op → Bool
chooses op.Pick = true
chooses o = is_some (made_kind o)

-- the row of an op whose reply isn't chosen reads nothing of it
pub not_read : (s : State) (who : ℕ) (o : Op) (q r : Reply) → chooses o ≡ false → row s who o q ≡ row s who o r
not_read s who o q r i = grind (arith, nat_tests)

-- a row allows one reply
pub allowed_one : (w : Row) (q r : Reply) → Allows w q → Allows w r → r ≡ q
allowed_one w q r a b = let e : answer_of_row w ≡ Some q = answer-allowed w q a in let d : answer_of_row w ≡ Some r = answer-allowed w r b in cc

-- a renamed op chooses where the op does
pub still : (g : Renaming) (o : Op) → chooses o ≡ false → chooses (renamed_op g o) ≡ false
still g o i = grind (arith, nat_tests)

-- a pick that takes nothing reads nothing of its reply
idles : (s : State) (w : ℕ) (r : Reply) → takes_task op.Pick r ≡ false → picks s w r ≡ only (not (any_listed (can_take s w) s.tasks)) (says Idle)
idles s w r i = grind (arith, nat_tests)

pub pick_not_read : (s : State) (who : ℕ) (q r : Reply) → takes_task op.Pick q ≡ false → takes_task op.Pick r ≡ false
    → row s who op.Pick q ≡ row s who op.Pick r
pick_not_read s who q r i j = grind (arith, nat_tests)

pub takes_still : (g : Renaming) (r : Reply) → takes_task op.Pick r ≡ false → takes_task op.Pick (renamed_reply g op.Pick r) ≡ false
takes_still g r i = grind (arith, nat_tests)

-- what a worker takes

past : (b : Bool) (y q : Reply) (w : Row) → is_plain y ≡ true → is_plain q ≡ false → Allows (unless b y w) q → Allows w q
past b y q w i j l = grind (arith, nat_tests)

past_gives : (b : Bool) (y q : Reply) (ms : List Move) (w : Row) → is_plain y ≡ true → is_plain q ≡ false → Allows (cond b (gives y ms) w) q → Allows w q
past_gives b y q ms w i j l = grind (arith, nat_tests)

pub if_there : {T C : Type 0} (o : Option T) (v : T → Row) (q : Reply) → ((y : T) → o ≡ Some y → Allows (v y) q → C) → Allows (live o never v) q → C
if_there o v q i j = grind (arith, nat_tests)

module _ {g : Renaming} {s : State} (n : FitsState g s) (x : Room) (who : ℕ) where
  picked_comes : (t : TaskHandle) (a : ActionHandle) (y : Kind) (args : List _) → Allows (picks (renamed g x s) who (Picked t a y args)) (Picked t a y args)
      → IsRenamed g None (Picked t a y args)
  picked_comes t a y args i =
      if_there (live_object (renamed g x s).tasks t.0) _ (Picked t a y args)
      (λ z there j. if_there (live_object (renamed g x s).actions a.0) _ (Picked t a y args) (λ w here k.
      let task : IsOther g kind.Task t.0 = found-other g kind.Task (HasTaskNames g) (renamed_task g) t.0 z s.tasks n.tasks there in
      let action : IsOther g kind.Action a.0 = found-other g kind.Action NoHandle (λ u. u) a.0 w s.actions n.actions here in
      record {
        own = Picked (record { 0 = task.own }) (record { 0 = action.own }) y args;
        has = (task.has, action.has);
        is = λ l. Picked (record { 0 = task.is l }) (record { 0 = action.is l }) y args;
      }) j) i

  pick_comes : (q : Reply) → Allows (row (renamed g x s) who op.Pick q) q → IsRenamed g None q
  pick_comes (Picked t a y args) i =
      let q : Reply = Picked t a y args in
      let u : State = renamed g x s in
      let takes : Row = picks u who q in
      let stop : Row = cond (is_stop u) (gives Stop (stops who ∷ [])) takes in
      let idle : Row = unless (is_new u.phase) Idle stop in
      let runs : Row = unless (any_listed (runs_on who) u.tasks) (Mtapi m.ErrParameter) idle in
      let b = past (not (nat_lt who (workers u))) (Mtapi m.ErrParameter) q runs refl refl i in
      let c = past (any_listed (runs_on who) u.tasks) (Mtapi m.ErrParameter) q idle refl refl b in
      let d = past (is_new u.phase) Idle q stop refl refl c in
      picked_comes t a y args (past_gives (is_stop u) Stop q (stops who ∷ []) takes refl refl d)
  pick_comes q i = (row_alike n x who op.Pick Ok refl).comes q (subst (λ (w : Row). Allows w q) (pick_not_read (renamed g x s) who q Ok refl refl) i)

  pub reply_comes : (o : Op) (q : Reply) → made_kind o ≡ None → Allows (row (renamed g x s) who (renamed_op g o) q) q → IsRenamed g (answered_kind o) q
  reply_comes op.Pick q i a = pick_comes q a
  reply_comes o q i a = (row_alike n x who o Ok i).comes q
      (subst (λ (w : Row). Allows w q) (not_read (renamed g x s) who (renamed_op g o) q (renamed_reply g o Ok) (still g o (ap is_some i))) a)
