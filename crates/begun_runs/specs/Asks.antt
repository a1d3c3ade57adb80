-- What a seat asks next, told by the replies to which its calls came so far.
use Rattle.std.specs.Prelude.{◌≡◌, ℕ, ◌+◌, ◌<◌, Bool, List, [], ◌∷◌, ◌++◌, length, if◌then◌else◌, ◌⊎◌, true, false, None}
use Rattle.history.specs.Histories.{entry}
use Rattle.mtapi_values.specs.Timeouts.{looks_of}
use Rattle.workload_file.specs.declared.workload.Statement.{Statement}
use Rattle.workload_file.specs.declared.workload.Part.{Part}
use Rattle.workload_file.specs.declared.workload.Workload.{Workload}
use Rattle.mtapi_machine.specs.declared.ops.Op.{Op}
use Rattle.mtapi_machine.specs.declared.ops.Op.TheVariants as op
use Rattle.mtapi_machine.specs.declared.replies.Reply.{Reply}
use Rattle.mtapi_machine.specs.declared.replies.Reply.TheVariants as reply
use Rattle.mtapi_machine.specs.Legal.{NodeEntry}
use Rattle.mtapi_machine.specs.Row.{handle_of}
use Rattle.workload_runs.specs.Calls.{Call, Once, Looking, call_of}
use Rattle.workload_runs.specs.Parts.{has_begin}
use Rattle.workload_runs.specs.RunOf.{is_work}
use Rattle.run_report.specs.Replies.{decided}
use Rattle.begun_runs.specs.Begun.{Begun}

-- a call asks this op: its own one, or a look, the last one or not; where it has no bound, no look is the last
abbrev pub AskedBy : Call → Op → Type 0
AskedBy (Once o) p = p ≡ o
AskedBy (Looking waits o timeout) p = (last : Bool) × (p ≡ o last) × (looks_of timeout ≡ None → last ≡ false)

-- of these ops, one for each call, the one behind these replies
unfoldable pub AsksOp : List Op → List Reply → Op → Type 0
AsksOp [] rs p = ⊥
AsksOp (o ∷ os) [] p = p ≡ o
AsksOp (o ∷ os) (r ∷ rs) p = AsksOp os rs p

-- of these statements, and the ops behind them, the one behind these replies, where the earlier statements bound these handles
unfoldable pub AsksNext : List ℕ → List Statement → List Op → List Reply → Op → Type 0
AsksNext bound [] tail rs p = AsksOp tail rs p
AsksNext bound (s ∷ ss) tail [] p = AskedBy (call_of bound s.deed) p
AsksNext bound (s ∷ ss) tail (r ∷ rs) p = AsksNext (bound ++ handle_of r ∷ []) ss tail rs p

-- and with ops before the statements
unfoldable pub AsksPart : List Op → List Statement → List Op → List Reply → Op → Type 0
AsksPart [] ss tail rs p = AsksNext [] ss tail rs p
AsksPart (o ∷ os) ss tail [] p = p ≡ o
AsksPart (o ∷ os) ss tail (r ∷ rs) p = AsksPart os ss tail rs p

-- what main asks before its statements, where one of them is `begin` or none
abbrev pub main_head : Bool → List Op
main_head begin = op.Initialize ∷ (if begin then [] else op.Release ∷ [])

-- main asks this, where its calls so far came to these replies
abbrev pub MainAsks : List Statement → List Reply → Op → Type 0
MainAsks ss rs p = AsksPart (main_head (has_begin ss)) ss (op.Close ∷ op.Final ∷ []) rs p

-- a further caller does
abbrev pub CallerAsks : List Statement → List Reply → Op → Type 0
CallerAsks ss rs p = AsksPart (op.Enter ∷ []) ss [] rs p

-- the seats of a workload: which entries its worker, main or further caller may make behind these
pub data MayMake (load : Workload) (es : List NodeEntry) : NodeEntry → Type 0 where
  -- a worker works, or is told to stop
  worker : (e : NodeEntry) → e.who < load.settings.workers → (is_work e.op e.reply ≡ true) ⊎ (e ≡ entry e.who op.Pick reply.Stop) → MayMake load es e
  -- main asks by its part
  main : (e : NodeEntry) (p : Part) (ps : List Part) → load.parts ≡ p ∷ ps → e.who ≡ load.settings.workers → MainAsks p.statements (decided e.who es) e.op
      → MayMake load es e
  -- a further caller by its own
  caller : (e : NodeEntry) (q : Part) (qs ps : List Part) (p : Part) → load.parts ≡ q ∷ (qs ++ p ∷ ps) → e.who ≡ load.settings.workers + (1 + length qs)
      → CallerAsks p.statements (decided e.who es) e.op → MayMake load es e

-- each entry of a journal of a run that has begun is one that its seat may make behind the earlier ones
abbrev pub EachIsAsked : Type 0
EachIsAsked = (load : Workload) (es more : List NodeEntry) (e : NodeEntry) (ns : List ℕ) → e.who < load.settings.workers + length load.parts
    → Begun load (es ++ e ∷ more) ns → MayMake load es e
