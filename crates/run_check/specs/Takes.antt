-- What the lines of a seat show from the front.
use Rattle.std.specs.Prelude.{◌≡◌, ℕ, ◌+◌, Bool, true, false, List, [], ◌∷◌, ◌++◌}
use Rattle.mtapi_values.specs.declared.timeouts.Timeout.{Timeout}
use Rattle.mtapi_values.specs.Timeouts.{looks_of}
use Rattle.workload_file.specs.declared.workload.Statement.{Statement}
use Rattle.mtapi_machine.specs.declared.replies.Reply.{Reply}
use Rattle.mtapi_machine.specs.Row.{handle_of}
use Rattle.mtapi_machine.specs.Kept.{is_pending}
use Rattle.workload_runs.specs.declared.calls.Wanted.{Wanted}
use Rattle.workload_runs.specs.Calls.{Call, call_of}
use Rattle.workload_runs.specs.Wants.{op_of_look}
use Rattle.workload_runs.specs.Lines.{Line, MadeLines, KeepsTimeout, is_timeout}

-- the front of the lines is made by this call, which comes to this reply, and these are left behind it
pub record Takes (c : Call) (lines rest : List Line) (r : Reply) : Type 0 where
  pub front : List Line
  pub is : lines ≡ front ++ rest
  pub made : MadeLines c front r

-- a look with this reply decides, where it is look number `looks`: it is the last one exactly where the timeout says so
pub record DecidesAs (timeout : Timeout) (last : Bool) (looks : ℕ) (r : Reply) : Type 0 where
  pub decides : is_pending r ≡ false
  pub within : KeepsTimeout (looks_of timeout) last looks
  pub late : is_timeout r ≡ true → last ≡ true

-- the look of a line decides, where so many looks came before it
pub record Decides (w : Wanted) (timeout : Timeout) (before : ℕ) (l : Line) : Type 0 where
  pub last : Bool
  pub is : l.op ≡ op_of_look w last
  pub shows : DecidesAs timeout last (before + (l.beside + 1)) l.reply

-- the front of the lines is made by these statements in order, and these are left behind it
unfoldable pub CarriedTo : List ℕ → List Statement → List Line → List Line → Type 0
CarriedTo bound [] lines rest = lines ≡ rest
CarriedTo bound (s ∷ ss) lines rest = (mid : List Line) × (r : Reply) × Takes (call_of bound s.deed) lines mid r
    × CarriedTo (bound ++ handle_of r ∷ []) ss mid rest
