-- What an op on resources does, in the machine's words.
use Rattle.std.specs.Prelude.{◌≡◌, ℕ, Bool, not, nat_lt, List, [], ◌∷◌}
use Rattle.mtapi_values.specs.declared.handles.Layout.TheVariants.{One}
use Rattle.mtapi_values.specs.declared.statuses.MrapiStatus.{MrapiStatus}
use Rattle.mtapi_values.specs.declared.statuses.MrapiStatus.TheVariants.{ErrNodeNotinit, ErrParameter}
use Rattle.mtapi_machine.specs.declared.ops.Op.{Op}
use Rattle.mtapi_machine.specs.declared.replies.Reply.{Reply}
use Rattle.mtapi_machine.specs.State.{State, workers}
use Rattle.mtapi_machine.specs.Row.{Allows, after_row}
use Rattle.mtapi_machine.specs.Rows.{row}
use Rattle.node_resources.specs.declared.gate.Gate.{Gate}
use Rattle.node_resources.specs.Holds.{ResourceTable, ResourcesStand}

-- handles have layout one, and the gate has the phase of the state and its number of workers
pub record IsAt (s : State) (g : Gate) : Type 0 where
  pub layout : s.terms.layout ≡ One
  pub phase : s.phase ≡ g.phase
  pub workers : workers s ≡ g.workers

-- what every op on resources is refused for first
abbrev pub gate_refusals : Bool → ℕ → ℕ → List (Bool × MrapiStatus)
gate_refusals carried_out who workers = (not carried_out, ErrNodeNotinit) ∷ (nat_lt who workers, ErrParameter) ∷ []

-- the state with the four lists of another
abbrev pub with_lists_of : State → State → State
with_lists_of t s = record s { mutexes = t.mutexes; sems = t.sems; rwls = t.rwls; segments = t.segments }

-- the row of the op allows the reply, changes nothing but the four lists, and these are what the resources stand for then
pub record Does (s : State) (who : ℕ) (op : Op) (r : Reply) (new : ResourceTable) : Type 0 where
  pub allowed : Allows (row s who op r) r
  pub others : after_row s (row s who op r) ≡ with_lists_of (after_row s (row s who op r)) s
  pub stands : ResourcesStand (after_row s (row s who op r)) new

-- so from every state that the gate is at and for whose lists the resources stand
abbrev pub ResourceSteps : ResourceTable → Gate → ℕ → Op → Reply → ResourceTable → Type 0
ResourceSteps old g who op r new = (s : State) → IsAt s g → ResourcesStand s old → Does s who op r new
