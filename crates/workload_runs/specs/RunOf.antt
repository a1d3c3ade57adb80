-- What a run of a workload is.
use Rattle.std.specs.Prelude.{◌≡◌, ℕ, ◌<◌, Bool, true, false, ◌&&◌, List, [], ◌∷◌, ◌++◌}
use Rattle.history.specs.Histories.{entry, entries_of}
use Rattle.workload_file.specs.declared.workload.Workload.{Workload}
use Rattle.mtapi_machine.specs.declared.ops.Op.{Op}
use Rattle.mtapi_machine.specs.declared.ops.Op.TheVariants as op
use Rattle.mtapi_machine.specs.declared.replies.Reply.{Reply}
use Rattle.mtapi_machine.specs.declared.replies.Reply.TheVariants as reply
use Rattle.mtapi_machine.specs.Legal.{NodeEntry}
use Rattle.workload_runs.specs.Lines.{Line, line_with, lines_of, in_lines}
use Rattle.workload_runs.specs.Parts.{PartsRan}

-- what a worker does before it stops: it takes tasks and ends them, and no reply is a status
abbrev pub is_work : Op → Reply → Bool
is_work op.Pick (reply.Picked t a k args) = true
is_work op.Pick reply.Idle = true
is_work (op.Finish t done) reply.Ok = true
is_work (op.Asked t) (reply.Asked requested) = true
is_work (op.WatchEnd t) (reply.Ended end) = true
is_work (op.TallyLock t) (reply.Asked got) = true
is_work (op.TallyLock t) reply.Pending = true
is_work (op.TallyRead t) (reply.Number z) = true
is_work (op.TallyWrite t value) reply.Ok = true
is_work (op.TallyEnd t) (reply.Ended end) = true
is_work _ _ = false

unfoldable pub all_work : List Line → Bool
all_work [] = true
all_work (l ∷ ls) = is_work l.op l.reply && all_work ls

-- a worker's lines: work, and then a pick that answers Stop
pub record WorkerRan (lines : List Line) : Type 0 where
  pub work : List Line
  pub beside : ℕ
  pub is : lines ≡ work ++ line_with op.Pick reply.Stop beside ∷ []
  pub works : all_work work ≡ true

-- main closes once, and no further caller has an entry behind that; the last entry is main's `final`
pub record ClosesAtEnd (main : ℕ) (es : List NodeEntry) : Type 0 where
  pub before : List NodeEntry
  pub behind : List NodeEntry
  pub closes : es ≡ before ++ entry main op.Close reply.Ok ∷ (behind ++ entry main op.Final reply.Ok ∷ [])
  pub callers_ended : (who : ℕ) → main < who → entries_of who behind ≡ []

-- the journal with these entries, and these numbers beside them, is a run of the workload
pub record RunOf (load : Workload) (es : List NodeEntry) (ns : List ℕ) : Type 0 where
  -- the replies to the statements of each part
  pub replies : List (List Reply)
  pub parts : PartsRan in_lines (λ who. lines_of who es ns) load.settings.workers load.parts replies
  pub workers : (w : ℕ) → w < load.settings.workers → WorkerRan (lines_of w es ns)
  pub ends : ClosesAtEnd load.settings.workers es
