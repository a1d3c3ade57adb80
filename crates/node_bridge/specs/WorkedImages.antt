-- Worked rows of a served node: what each op asks of the node inside, what each reply tells, and which entries a bridge and a worker add, with
-- values that all differ. Each is decided by computing.
use Rattle.std.specs.Prelude.{◌≡◌, true, false, [], ◌∷◌, map, pos, Some, None, Ok as right, Err as wrong}
use Rattle.node_bridge.specs.Names.{entry, ErrTaskLimit, ErrActionFailed, Completed, Failed, TaskHandle, Answered}
use Rattle.mtapi_values.specs.declared.kinds.Kind.TheVariants as kind
use Rattle.action_fn.specs.declared.finished.ActEnd.TheVariants as act
use Rattle.mtapi_machine.specs.declared.ops.Op.TheVariants as op
use Rattle.mtapi_machine.specs.declared.replies.Reply.TheVariants as reply
use Rattle.node_bridge.specs.declared.ops.BridgeOp.TheVariants.{Start, Look, Pick, Finish, Close}
use Rattle.node_bridge.specs.declared.ops.BridgeReply.TheVariants.{Ok, Handle, Done, Pending, Picked, Idle, Stop, Refused}
use Rattle.node_bridge.specs.Jobs.{job_of_kind, pure_kinds, mask_of_all, action_for}
use Rattle.node_bridge.specs.Made.{settings_with}
use Rattle.node_bridge.specs.Image.{asks_node, op_asked_inside, inside_reply}
use Rattle.node_bridge.specs.Legal.{begun_start}
use Rattle.node_bridge.specs.Answers.{Unasked, NotBegun, LeftBehind, LostSight, Told, start_entries_in, told_in, is_cut_off, reply_of_start, look_in}
use Rattle.node_bridge.specs.Rounds.{Rested, Ran, bridge_entries_in as round_in, all_bridge}
use Rattle.node_bridge.specs.Worked.{bridge_action, eight, task_of_sum, numbers, summed, taken_entries}

-- a further task, and what a worker says of one that failed
abbrev pub further_task : TaskHandle
further_task = record { 0 = 4328521729 }

abbrev pub divided_answer : Answered
divided_answer = record { kind = kind.Div; args = pos 4 ∷ pos 0 ∷ []; end = act.Fails ErrActionFailed }

pub record WorkedAsked : Type 0 where
  pub jobs : map job_of_kind pure_kinds ≡ (1 ∷ 2 ∷ 3 ∷ 4 ∷ 5 ∷ 6 ∷ 7 ∷ 8 ∷ [])
  pub actions : map (action_for eight) (kind.Add ∷ kind.Mul ∷ kind.Max ∷ kind.Div ∷ kind.Gcd ∷ kind.Echo ∷ kind.Triangle ∷ kind.Fail ∷ []) ≡ eight
  pub no_action : action_for eight kind.Watch ≡ bridge_action 0
  pub of_pure : map (λ k. asks_node (Start k [])) pure_kinds ≡ (true ∷ true ∷ true ∷ true ∷ true ∷ true ∷ true ∷ true ∷ [])
  pub of_others : map (λ k. asks_node (Start k [])) (kind.Watch ∷ kind.Tally ∷ []) ≡ (false ∷ false ∷ [])
  pub ops : map asks_node (Look task_of_sum ∷ Pick ∷ Finish task_of_sum summed ∷ Close ∷ []) ≡ (true ∷ true ∷ true ∷ true ∷ [])
  pub start : op_asked_inside (Start kind.Gcd numbers) ≡ op.TaskStart 5 numbers 0 mask_of_all false None
  pub inwards : map op_asked_inside (Look further_task ∷ Pick ∷ Finish task_of_sum divided_answer ∷ Close ∷ [])
      ≡ (op.TaskLook further_task false ∷ op.Pick ∷ op.Finish task_of_sum divided_answer ∷ op.Close ∷ [])
  pub settings : settings_with 3 40
      ≡ record { workers = 3; tasks = 40; actions = 64; groups = 128; queues = 16; objects = 16; priorities = 1; generations = 4294967295 }
  -- what a task was started with; a start that was refused begins none
  pub begun_so : begun_start taken_entries task_of_sum.0 ≡ Some (record { kind = kind.Add; args = numbers })
  pub not_begun : begun_start taken_entries further_task.0 ≡ None
  pub begun_last : begun_start (entry 1 (Start kind.Mul numbers) (Handle task_of_sum) ∷ entry 2 (Start kind.Echo (pos 9 ∷ [])) (Handle task_of_sum)
      ∷ []) task_of_sum.0
      ≡ Some (record { kind = kind.Echo; args = pos 9 ∷ [] })

pub record WorkedInside : Type 0 where
  pub ok : inside_reply eight Ok ≡ reply.Ok
  pub handle : inside_reply eight (Handle further_task) ≡ reply.Handle 4328521729
  pub completed : inside_reply eight (Done summed) ≡ reply.Ended (Completed (pos 6 ∷ []))
  pub failed : inside_reply eight (Done divided_answer) ≡ reply.Ended (Failed ErrActionFailed)
  pub pending : inside_reply eight Pending ≡ reply.Pending
  pub picked : inside_reply eight (Picked further_task kind.Max numbers) ≡ reply.Picked further_task (bridge_action 4311744514) kind.Max numbers
  pub idle : inside_reply eight Idle ≡ reply.Idle
  pub stop : inside_reply eight Stop ≡ reply.Stop
  pub refused : inside_reply eight (Refused ErrTaskLimit) ≡ reply.Mtapi ErrTaskLimit
  pub started : reply_of_start (right 5) ≡ reply.Handle 5
  pub not_started : reply_of_start (wrong ErrTaskLimit) ≡ reply.Mtapi ErrTaskLimit
  pub looked : look_in (right (Some (Completed (pos 6 ∷ [])))) ≡ reply.Ended (Completed (pos 6 ∷ []))
  pub not_yet : look_in (right None) ≡ reply.Pending
  pub not_looked : look_in (wrong ErrTaskLimit) ≡ reply.Mtapi ErrTaskLimit

pub record WorkedCourses : Type 0 where
  pub unasked : start_entries_in 2 kind.Add numbers Unasked ≡ []
  pub refused : start_entries_in 2 kind.Add numbers (NotBegun ErrTaskLimit) ≡ entry 2 (Start kind.Add numbers) (Refused ErrTaskLimit) ∷ []
  pub left : start_entries_in 2 kind.Add numbers (LeftBehind further_task 2)
      ≡ entry 2 (Start kind.Add numbers) (Handle further_task) ∷ entry 2 (Look further_task) Pending ∷ entry 2 (Look further_task) Pending ∷ []
  pub lost : start_entries_in 2 kind.Add numbers (LostSight further_task 1 ErrTaskLimit)
      ≡ entry 2 (Start kind.Add numbers) (Handle further_task) ∷ entry 2 (Look further_task) Pending ∷ entry 2 (Look further_task) (Refused ErrTaskLimit) ∷ []
  pub told : start_entries_in 2 kind.Add numbers (Told further_task 1 summed)
      ≡ entry 2 (Start kind.Add numbers) (Handle further_task) ∷ entry 2 (Look further_task) Pending ∷ entry 2 (Look further_task) (Done summed) ∷ []
  pub ends : map told_in (Unasked ∷ NotBegun ErrTaskLimit ∷ LeftBehind further_task 2 ∷ LostSight further_task 1 ErrTaskLimit ∷ Told further_task 1 summed ∷ [])
      ≡ (None ∷ None ∷ None ∷ None ∷ Some summed ∷ [])
  pub cut_off : map is_cut_off (Unasked ∷ NotBegun ErrTaskLimit ∷ LeftBehind further_task 2 ∷ LostSight further_task 1 ErrTaskLimit ∷ Told further_task 1 summed
      ∷ [])
      ≡ (true ∷ false ∷ true ∷ false ∷ false ∷ [])
  pub rested : round_in 3 Rested ≡ entry 3 Pick Idle ∷ []
  pub ran : round_in 3 (Ran further_task kind.Add numbers summed)
      ≡ entry 3 Pick (Picked further_task kind.Add numbers) ∷ entry 3 (Finish further_task summed) Ok ∷ []
  pub rounds : all_bridge 3 (Ran further_task kind.Add numbers summed ∷ Rested ∷ [])
      ≡ entry 3 Pick (Picked further_task kind.Add numbers) ∷ entry 3 (Finish further_task summed) Ok ∷ entry 3 Pick Idle ∷ []

pub record WorkedImages : Type 0 where
  pub asked : WorkedAsked
  pub told : WorkedInside
  pub courses : WorkedCourses
