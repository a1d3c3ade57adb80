-- The turns of one seat in a whole history, and what a journal keeps of them.
use Rattle.std.specs.Prelude.{ℕ, ◌+◌, Bool, true, not, ◌==◌, List, [], ◌∷◌, if◌then◌else◌}
use Rattle.mtapi_machine.specs.declared.ops.Op.{Op}
use Rattle.mtapi_machine.specs.declared.replies.Reply.{Reply}
use Rattle.mtapi_machine.specs.State.{State}
use Rattle.mtapi_machine.specs.Legal.{NodeEntry, next}
use Rattle.mtapi_machine.specs.Kept.{is_dropped, is_pending}
use Rattle.workload_runs.specs.Lines.{Line, line_with}

-- what a seat asked, the reply, and whether a journal keeps the entry
pub record Turn : Type 0 where
  pub op : Op
  pub reply : Reply
  pub stays : Bool

-- a turn that a journal keeps
abbrev pub stayed : Op → Reply → Turn
stayed o r = record { op = o; reply = r; stays = true }

abbrev pub turn_of : State → NodeEntry → Turn
turn_of s e = record { op = e.op; reply = e.reply; stays = not (is_dropped s e) }

-- the turns of a seat, in order, from a state on
unfoldable pub turns_of : ℕ → State → List NodeEntry → List Turn
turns_of who s [] = []
turns_of who s (e ∷ es) = if e.who == who then turn_of s e ∷ turns_of who (next s e) es else turns_of who (next s e) es

-- the lines that are left of them, where so many Pending ones were left out before
unfoldable pub lines_left : ℕ → List Turn → List Line
lines_left n [] = []
lines_left n (t ∷ ts) = if t.stays then line_with t.op t.reply n ∷ lines_left 0 ts else lines_left (if is_pending t.reply then n + 1 else n) ts
