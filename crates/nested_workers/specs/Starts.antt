-- The starts of tasks by a worker's seat.
use Rattle.std.specs.Prelude.{◌≡◌, ℕ, Bool, true, false, List, [], ◌∷◌, ◌++◌}
use Rattle.history_law.specs.Seats.{Work}
use Rattle.mtapi_machine.specs.Legal.{NodeEntry}
use Rattle.mtapi_machine.specs.declared.ops.Op.{Op}
use Rattle.mtapi_machine.specs.declared.ops.Op.TheVariants.{TaskStart}
use Rattle.workload_runners.specs.Turns.{Seat, SameNodeSeat}
use Rattle.workload_runners.specs.Rounds.{AtWork}

-- the op starts a task
abbrev pub is_start : Op → Bool
is_start (TaskStart job args priority cores detached group) = true
is_start _ = false

-- these entries are starts of tasks that this seat asked for
abbrev pub AreStarts : ℕ → List NodeEntry → Type 0
AreStarts w [] = Unit {0}
AreStarts w (e ∷ es) = (e.who ≡ w) × (is_start e.op ≡ true) × AreStarts w es

-- the seat asked for starts of tasks, and for nothing else; the task that runs on it still does
pub record AddsStarts (old new : Seat) : Type 0 where
  pub same : SameNodeSeat old new
  pub own : List NodeEntry
  pub mine : new.mine ≡ old.mine ++ own
  pub starts : AreStarts old.number own
  pub keeps : (h : ℕ) (x : Work) → AtWork old h x → AtWork new h x

-- so it is since each of these
abbrev pub Since : List Seat → Seat → Type 0
Since [] now = Unit {0}
Since (began ∷ others) now = AddsStarts began now × Since others now
