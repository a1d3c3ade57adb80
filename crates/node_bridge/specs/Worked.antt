-- Worked histories of a served node with one worker, two clients and room for one task: their images, and which are legal.
use Rattle.std.specs.Prelude.{◌≡◌, ℕ, false, List, [], ◌∷◌, ◌++◌, None, ℤ, pos}
use Rattle.node_bridge.specs.Names.{entry, Completed, ActionHandle, TaskHandle, Answered, NodeEntry}
use Rattle.mtapi_values.specs.declared.kinds.Kind.TheVariants as kind
use Rattle.mtapi_values.specs.declared.statuses.MtapiStatus.TheVariants as status
use Rattle.mtapi_values.specs.declared.handles.Layout.TheVariants.{Two}
use Rattle.action_fn.specs.declared.finished.ActEnd.TheVariants as act
use Rattle.mtapi_machine.specs.declared.ops.Op.TheVariants as op
use Rattle.mtapi_machine.specs.declared.replies.Reply.TheVariants as reply
use Rattle.node_bridge.specs.declared.ops.BridgeOp.TheVariants.{Start, Look, Pick, Finish, Close}
use Rattle.node_bridge.specs.declared.ops.BridgeReply.TheVariants.{Ok, Handle, Done, Pending, Picked, Stop, Refused}
use Rattle.node_bridge.specs.declared.terms.ServedTerms.{ServedTerms}
use Rattle.node_bridge.specs.Jobs.{mask_of_all}
use Rattle.node_bridge.specs.Made.{settings_with}
use Rattle.node_bridge.specs.Image.{BridgeEntry, image}
use Rattle.node_bridge.specs.Legal.{BridgeLegal}

abbrev pub bridge_action : ℕ → ActionHandle
bridge_action h = record { 0 = h }

-- the handles of the node's first eight actions and of its first task, in layout two
abbrev pub eight : List ActionHandle
eight =
    bridge_action 4311744512 ∷ bridge_action 4311744513 ∷ bridge_action 4311744514 ∷ bridge_action 4311744515 ∷ bridge_action 4311744516
    ∷ bridge_action 4311744517 ∷ bridge_action 4311744518
    ∷ bridge_action 4311744519
    ∷ []

abbrev pub task_of_sum : TaskHandle
task_of_sum = record { 0 = 4328521728 }

abbrev pub small_served : ServedTerms
small_served = record { node = record { layout = Two; settings = settings_with 1 1; callers = 2 }; opened = eight }

-- three numbers, their sum, and other numbers
abbrev pub numbers : List ℤ
numbers = pos 1 ∷ pos 2 ∷ pos 3 ∷ []

abbrev pub other_numbers : List ℤ
other_numbers = pos 6 ∷ []

abbrev pub summed : Answered
summed = record { kind = kind.Add; args = numbers; end = act.Done (pos 6 ∷ []) }

-- the first client starts a sum; a watch of the second one and a further start are refused; the worker takes the sum
abbrev pub taken_entries : List BridgeEntry
taken_entries =
    entry 1 (Start kind.Add numbers) (Handle task_of_sum)
    ∷ entry 2 (Start kind.Watch []) (Refused status.ErrParameter)
    ∷ entry 2 (Start kind.Mul numbers) (Refused status.ErrTaskLimit)
    ∷ entry 1 (Look task_of_sum) Pending
    ∷ entry 0 Pick (Picked task_of_sum kind.Add numbers)
    ∷ entry 0 (Finish task_of_sum summed) Ok
    ∷ []

-- the first client is told the end, the second one closes the node, and the worker stops
abbrev pub told_entries : List BridgeEntry
told_entries = taken_entries ++ (entry 1 (Look task_of_sum) (Done summed) ∷ entry 2 Close Ok ∷ entry 0 Pick Stop ∷ [])

-- the node's history: it is opened with its eight actions by the first client, and the start of the watch isn't there
abbrev pub told_inside : List NodeEntry
told_inside =
    entry 1 op.Initialize reply.Ok
    ∷ entry 1 (op.ActionCreate 1 kind.Add mask_of_all) (reply.Handle 4311744512)
    ∷ entry 1 (op.ActionCreate 2 kind.Mul mask_of_all) (reply.Handle 4311744513)
    ∷ entry 1 (op.ActionCreate 3 kind.Max mask_of_all) (reply.Handle 4311744514)
    ∷ entry 1 (op.ActionCreate 4 kind.Div mask_of_all) (reply.Handle 4311744515)
    ∷ entry 1 (op.ActionCreate 5 kind.Gcd mask_of_all) (reply.Handle 4311744516)
    ∷ entry 1 (op.ActionCreate 6 kind.Echo mask_of_all) (reply.Handle 4311744517)
    ∷ entry 1 (op.ActionCreate 7 kind.Triangle mask_of_all) (reply.Handle 4311744518)
    ∷ entry 1 (op.ActionCreate 8 kind.Fail mask_of_all) (reply.Handle 4311744519)
    ∷ entry 1 (op.TaskStart 1 numbers 0 mask_of_all false None) (reply.Handle 4328521728)
    ∷ entry 2 (op.TaskStart 2 numbers 0 mask_of_all false None) (reply.Mtapi status.ErrTaskLimit)
    ∷ entry 1 (op.TaskLook task_of_sum false) reply.Pending
    ∷ entry 0 op.Pick (reply.Picked task_of_sum (bridge_action 4311744512) kind.Add numbers)
    ∷ entry 0 (op.Finish task_of_sum summed) reply.Ok
    ∷ entry 1 (op.TaskLook task_of_sum false) (reply.Ended (Completed (pos 6 ∷ [])))
    ∷ entry 2 op.Close reply.Ok
    ∷ entry 0 op.Pick reply.Stop
    ∷ []

-- an end with other arguments, or of another kind, than the task was started with; and one of a task that hasn't ended
abbrev pub other_arguments : List BridgeEntry
other_arguments = taken_entries ++ entry 1 (Look task_of_sum) (Done (record { kind = kind.Add; args = other_numbers; end = act.Done (pos 6 ∷ []) })) ∷ []

abbrev pub other_kind : List BridgeEntry
other_kind = taken_entries ++ entry 1 (Look task_of_sum) (Done (record { kind = kind.Echo; args = numbers; end = act.Done (pos 6 ∷ []) })) ∷ []

abbrev pub too_early_entries : List BridgeEntry
too_early_entries = entry 1 (Start kind.Add numbers) (Handle task_of_sum) ∷ entry 1 (Look task_of_sum) (Done summed) ∷ []

-- a watch that is started; one that is refused to nobody; and a sum that is started by nobody: the seats are 0, 1 and 2
abbrev pub watch_started : List BridgeEntry
watch_started = entry 1 (Start kind.Watch []) (Handle task_of_sum) ∷ []

abbrev pub refused_to_nobody : List BridgeEntry
refused_to_nobody = entry 3 (Start kind.Watch []) (Refused status.ErrParameter) ∷ []

abbrev pub started_by_nobody : List BridgeEntry
started_by_nobody = entry 3 (Start kind.Add numbers) (Handle task_of_sum) ∷ []

-- a second task beside the one for which there is room
abbrev pub one_too_many : List BridgeEntry
one_too_many = entry 1 (Start kind.Add numbers) (Handle task_of_sum) ∷ entry 2 (Start kind.Mul numbers) (Handle (record { 0 = 4328521729 })) ∷ []

-- a list is legal, with this image; and the others are not
pub record WorkedBridgeHistories : Type 0 where
  pub image_told : image small_served told_entries ≡ told_inside
  pub legal_told : BridgeLegal small_served told_entries
  pub other_arguments_illegal : BridgeLegal small_served other_arguments → ⊥
  pub other_kind_illegal : BridgeLegal small_served other_kind → ⊥
  pub too_early_illegal : BridgeLegal small_served too_early_entries → ⊥
  pub watch_started_illegal : BridgeLegal small_served watch_started → ⊥
  pub refused_to_nobody_illegal : BridgeLegal small_served refused_to_nobody → ⊥
  pub started_by_nobody_illegal : BridgeLegal small_served started_by_nobody → ⊥
  pub one_too_many_illegal : BridgeLegal small_served one_too_many → ⊥
