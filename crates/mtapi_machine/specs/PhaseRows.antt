-- The rows of the ops on the phase of a node.
use Rattle.std.specs.Prelude.{not, ◌&&◌, [], ◌∷◌}
use Rattle.mtapi_values.specs.declared.statuses.MtapiStatus.TheVariants as m
use Rattle.mtapi_machine.specs.Names.{Cancelled, all_marked, is_shut_in}
use Rattle.mtapi_machine.specs.declared.terms.Phase.TheVariants.{Open, Closing, Closed}
use Rattle.mtapi_machine.specs.declared.replies.Reply.TheVariants.{Ok, Pending, Mtapi}
use Rattle.mtapi_machine.specs.State.{State, workers, is_new, is_past_open}
use Rattle.mtapi_machine.specs.Moves.{phase_is, released, ends_waiting}
use Rattle.mtapi_machine.specs.Row.{Row, unless, says, gives, mtapi, mtapi_open}

-- a new node is opened
abbrev pub initialize : State → Row
initialize s = unless (not (is_new s.phase)) (Mtapi m.ErrNodeInitialized) (gives Ok (phase_is Open ∷ []))

-- main lets the further callers enter
abbrev pub release : State → Row
release s = mtapi_open s (gives Ok (released ∷ []))

-- a further caller enters, once main has released
abbrev pub enter : State → Row
enter s = unless (is_past_open s.phase) (Mtapi m.ErrNodeNotinit) (unless (not s.released) Pending (says Ok))

-- the node takes no new objects any more, and the tasks that haven't begun of disabled queues end cancelled
abbrev pub close : State → Row
close s = unless (is_past_open s.phase) (Mtapi m.ErrNodeNotinit) (gives Ok (phase_is Closing ∷ ends_waiting (is_shut_in s.queues) Cancelled ∷ []))

-- the node is finalized, in Closing and once every worker has stopped
abbrev pub final : State → Row
final s = mtapi s (unless (not (is_past_open s.phase && all_marked (workers s) s.stopped)) (Mtapi m.ErrNodeInitialized) (gives Ok (phase_is Closed ∷ [])))
