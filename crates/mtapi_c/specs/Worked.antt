-- Worked rows: what C is told of replies whose values all differ, the settings that are out of range, and numbers in memory.
-- Each is decided by computing.
use Rattle.std.specs.Prelude.{◌≡◌, ℤ, pos, negsuc, true, false, List, [], ◌∷◌, map, replicate, Some, None}
use Rattle.action_fn.specs.declared.finished.ActEnd.TheVariants.{Done}
use Rattle.mtapi_values.specs.declared.ends.TaskEnd.TheVariants.{Completed, Cancelled, Failed}
use Rattle.mtapi_values.specs.declared.kinds.Kind.TheVariants as k
use Rattle.mtapi_values.specs.declared.statuses.MtapiStatus.TheVariants as t
use Rattle.mtapi_values.specs.declared.statuses.MrapiStatus.TheVariants as r
use Rattle.mtapi_machine.specs.declared.ops.Op.TheVariants as op
use Rattle.mtapi_machine.specs.declared.replies.Reply.{Reply}
use Rattle.mtapi_machine.specs.declared.replies.Reply.TheVariants as said
use Rattle.node_handle.specs.declared.journals.JournalEnd.TheVariants as ended
use Rattle.node_handle.specs.Texts.{piece}
use Rattle.mtapi_c.specs.declared.settings.Settings.{Settings}
use Rattle.mtapi_c.specs.Kinds.{kind_with_number}
use Rattle.mtapi_c.specs.Replies.{status_of_reply, handle_in, reply_number, asked_in, member_in, numbers_in, picked_in}
use Rattle.mtapi_c.specs.Asks.{group_by_handle, op_with_numbers, action_op, finish_op}
use Rattle.mtapi_c.specs.Settings.{wrong_of}
use Rattle.mtapi_c.specs.Answers.{written, end_number, length_in}

-- two results, and a reply of each kind
abbrev pub results : List ℤ
results = pos 71 ∷ negsuc 4 ∷ []

abbrev pub worked_replies : List Reply
worked_replies =
    said.Ok ∷ said.Handle 41 ∷ said.Number (pos 42) ∷ said.Ended (Completed results) ∷ said.Ended Cancelled
    ∷ said.Ended (Failed t.ErrQueueDeleted) ∷ said.Given (record { 0 = 43 }) (Completed results)
    ∷ said.Given (record { 0 = 44 }) (Failed t.ErrActionFailed) ∷ said.Pending
    ∷ said.Picked (record { 0 = 45 }) (record { 0 = 46 }) k.Gcd (pos 47 ∷ pos 48 ∷ []) ∷ said.Idle ∷ said.Stop
    ∷ said.Asked true ∷ said.Mtapi t.ErrNoCore ∷ said.Mrapi r.ErrSemLimit ∷ []

-- settings, each in its range
abbrev pub fitting_settings : Settings
fitting_settings = record { workers = 16; tasks = 65536; actions = 1024; groups = 1023; queues = 256; objects = 255; priorities = 8; generations = 1 }

pub record WorkedExports : Type 0 where
  pub statuses : map status_of_reply worked_replies ≡ 0 ∷ 0 ∷ 0 ∷ 0 ∷ 17 ∷ 22 ∷ 0 ∷ 8 ∷ 100 ∷ 0 ∷ 101 ∷ 102 ∷ 0 ∷ 13 ∷ 230 ∷ []
  pub handles : map handle_in worked_replies ≡ 0 ∷ 41 ∷ 0 ∷ 0 ∷ 0 ∷ 0 ∷ 0 ∷ 0 ∷ 0 ∷ 0 ∷ 0 ∷ 0 ∷ 0 ∷ 0 ∷ 0 ∷ []
  pub members : map member_in worked_replies ≡ 0 ∷ 0 ∷ 0 ∷ 0 ∷ 0 ∷ 0 ∷ 43 ∷ 44 ∷ 0 ∷ 0 ∷ 0 ∷ 0 ∷ 0 ∷ 0 ∷ 0 ∷ []
  pub numbers : map numbers_in worked_replies
      ≡ [] ∷ [] ∷ [] ∷ results ∷ [] ∷ [] ∷ results ∷ [] ∷ [] ∷ (pos 47 ∷ pos 48 ∷ []) ∷ [] ∷ [] ∷ [] ∷ [] ∷ [] ∷ []
  pub number : reply_number (said.Number (negsuc 6)) ≡ negsuc 6
  pub flags : map asked_in (said.Ok ∷ said.Asked true ∷ said.Asked false ∷ []) ≡ false ∷ true ∷ false ∷ []
  pub picked : picked_in (said.Picked (record { 0 = 45 }) (record { 0 = 46 }) k.Gcd results) ≡ record { task = 45; action = 46; count = 2; kind = 5 }
  pub not_picked : picked_in said.Idle ≡ record { task = 0; action = 0; count = 0; kind = 0 }
  pub kinds : map kind_with_number (0 ∷ 1 ∷ 5 ∷ 6 ∷ 10 ∷ 11 ∷ []) ≡ None ∷ Some k.Add ∷ Some k.Gcd ∷ Some k.Echo ∷ Some k.Tally ∷ None ∷ []
  pub groups : map group_by_handle (0 ∷ 49 ∷ []) ≡ None ∷ Some (record { 0 = 49 }) ∷ []
  pub action : action_op 51 (kind_with_number 4) 52 ≡ Some (op.ActionCreate 51 k.Div (record { 0 = 52 }))
  pub no_kind : action_op 51 (kind_with_number 0) 52 ≡ None
  pub finish : finish_op 53 (kind_with_number 6) results ≡ Some (op.Finish (record { 0 = 53 }) (record { kind = k.Echo; args = results; end = Done results }))
  pub no_finish : finish_op 53 (kind_with_number 9) results ≡ None
  pub all_fit : map (wrong_of fitting_settings) (0 ∷ 1 ∷ 9 ∷ 10 ∷ []) ≡ 9 ∷ 0 ∷ 0 ∷ 9 ∷ []
  pub wrong : map (λ s. wrong_of s 10) (
      record fitting_settings { workers = 17; tasks = 0 } ∷ record fitting_settings { tasks = 65537; actions = 0 }
      ∷ record fitting_settings { actions = 1025; groups = 0 }
      ∷ record fitting_settings { groups = 1025; queues = 0 } ∷ record fitting_settings { queues = 257; objects = 0 }
      ∷ record fitting_settings { objects = 257; priorities = 0 }
      ∷ record fitting_settings { priorities = 9; generations = 0 } ∷ record fitting_settings { generations = 0 } ∷ []) ≡ 1 ∷ 2 ∷ 3 ∷ 4 ∷ 5 ∷ 6 ∷ 7 ∷ 8 ∷ []
  pub sixteen : op_with_numbers (replicate 16 (pos 1)) (λ args. op.JobGet 54) ≡ Some (op.JobGet 54)
  pub seventeen : op_with_numbers (replicate 17 (pos 1)) (λ args. op.JobGet 54) ≡ None
  pub ends : map end_number (ended.Text 55 ∷ ended.NoJournal ∷ ended.Memory ∷ []) ≡ 0 ∷ 103 ∷ 99 ∷ []
  pub lengths : map length_in (ended.Text 55 ∷ ended.NoJournal ∷ ended.Memory ∷ []) ≡ 55 ∷ 0 ∷ 0 ∷ []
  pub middle : piece (61 ∷ 62 ∷ 63 ∷ 64 ∷ 65 ∷ []) 1 3 ≡ 62 ∷ 63 ∷ 64 ∷ []
  pub rest : piece (61 ∷ 62 ∷ 63 ∷ 64 ∷ 65 ∷ []) 4 3 ≡ 65 ∷ []
  pub room : written results (pos 1 ∷ pos 2 ∷ pos 3 ∷ []) ≡ pos 71 ∷ negsuc 4 ∷ pos 3 ∷ []
  pub no_room : written results (pos 1 ∷ []) ≡ pos 71 ∷ []
