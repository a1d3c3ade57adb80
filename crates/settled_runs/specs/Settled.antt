-- Settled workloads: those whose report their statements alone decide. Each test computes.
use Rattle.std.specs.Prelude.{ℕ, ◌+◌, ◌==◌, ◌&&◌, ◌||◌, not, nat_lt, nat_le, Bool, true, false, List, [], ◌∷◌, ◌++◌, Option, Some, None, is_some, is_none, slice_get, option_and_then, if◌then◌else◌}
use Rattle.std.specs.List.{list_any, list_all, flat_map}
use Rattle.mtapi_values.specs.declared.timeouts.Timeout.{Timeout}
use Rattle.mtapi_values.specs.declared.timeouts.Timeout.TheVariants as timeout
use Rattle.settled_runs.specs.Names.{MtapiStatus, mtapi_number, NodeSettings, holds, is_pure, how_many, Action, has_job, is_eligible, some_below, NewTask, kind_number, Queue, Deed, Statement, Part, Workload}
use Rattle.workload_file.specs.declared.workload.Deed.TheVariants as deed
use Rattle.workload_file.specs.Deeds.{is_begin}
use Rattle.settled_runs.specs.Plain.{all_statements, actions_in, queue_in, task_in, plain_fault}

-- One statement

-- some worker may take a task of this job and these cores by one of these actions
abbrev pub serves : ℕ → List Action → ℕ → ℕ → Bool
serves workers actions job cores = some_below workers (λ w. list_any (is_eligible workers w job cores) actions)

-- there is a task, which isn't detached, its priority is one of the node, and one of these actions serves it
abbrev pub is_startable : NodeSettings → List Action → Option NewTask → Bool
is_startable settings actions t = holds (λ x. not x.detached && nat_lt x.priority settings.priorities && serves settings.workers actions x.job x.cores) t

abbrev pub is_infinite : Timeout → Bool
is_infinite timeout.Infinite = true
is_infinite _ = false

-- there is a task, and it is in no group
abbrev pub is_alone : Option NewTask → Bool
is_alone t = holds (λ x. is_none x.group) t

-- the statement waits for the task of this place
abbrev pub waits_for : ℕ → Deed → Bool
waits_for place (deed.Wait other timeout) = other == place
waits_for place _ = false

-- the statement is one that a settled workload may have, where these actions stand before it, and it has these statements before it
-- among those of its part
unfoldable pub is_settled_deed : NodeSettings → List Action → List Statement → List Statement → Deed → Bool
is_settled_deed settings actions before all deed.Begin = true
is_settled_deed settings actions before all (deed.Action job kind cores) = is_pure kind
is_settled_deed settings actions before all deed.Group = true
is_settled_deed settings actions before all (deed.Queue id job priority limit ordered retain) =
    nat_lt priority settings.priorities && list_any (has_job job) actions
is_settled_deed settings actions before all (deed.Start job args priority cores detached group) =
    is_startable settings actions (task_in all (deed.Start job args priority cores detached group))
is_settled_deed settings actions before all (deed.Enqueue queue args cores detached group) =
    is_startable settings actions (task_in all (deed.Enqueue queue args cores detached group))
is_settled_deed settings actions before all (deed.Wait place timeout) =
    is_infinite timeout && is_alone (option_and_then (λ s. task_in all s.deed) (slice_get all place)) && not (list_any (λ s. waits_for place s.deed) before)
is_settled_deed settings actions before all (deed.WaitAll group timeout) = is_infinite timeout
is_settled_deed settings actions before all _ = false

-- One part

-- each of these statements is one, behind those before it, where these actions stand before the part
unfoldable pub are_settled : NodeSettings → List Action → List Statement → List Statement → List Statement → Bool
are_settled settings actions all before [] = true
are_settled settings actions all before (s ∷ ss) =
    is_settled_deed settings (actions ++ actions_in before) before all s.deed && are_settled settings actions all (before ++ s ∷ []) ss

abbrev pub is_settled_part : NodeSettings → List Action → Part → Bool
is_settled_part settings actions p = are_settled settings actions p.statements [] p.statements

-- the statement makes an action or a queue
abbrev pub sets_up : Deed → Bool
sets_up (deed.Action job kind cores) = true
sets_up (deed.Queue id job priority limit ordered retain) = true
sets_up _ = false

abbrev pub set_up : List Statement → Bool
set_up ss = list_any (λ s. sets_up s.deed) ss

-- one of these statements is `begin`, and behind it stands none that makes an action or a queue
unfoldable pub sets_up_first : List Statement → Bool
sets_up_first [] = false
sets_up_first (s ∷ ss) = if is_begin s.deed then not (set_up ss) else sets_up_first ss

-- a part of a further caller makes neither, and begins behind all of main's actions
abbrev pub is_settled_further : NodeSettings → List Action → Part → Bool
is_settled_further settings actions p = not (set_up p.statements) && is_settled_part settings actions p

-- the first part is main's; where there are others, it sets all up before it lets them begin
abbrev pub are_settled_parts : NodeSettings → List Part → Bool
are_settled_parts settings [] = false
are_settled_parts settings (p ∷ []) = is_settled_part settings [] p
are_settled_parts settings (p ∷ ps) = sets_up_first p.statements && is_settled_part settings [] p
    && list_all (is_settled_further settings (actions_in p.statements)) ps

-- The whole workload

-- two actions of one job have one kind
abbrev pub are_alike : Action → Action → Bool
are_alike a b = not (a.job == b.job) || (kind_number a.kind == kind_number b.kind)

unfoldable pub has_one_kind_a_job : List Action → Bool
has_one_kind_a_job [] = true
has_one_kind_a_job (a ∷ rest) = list_all (are_alike a) rest && has_one_kind_a_job rest

-- the queue that a statement makes, if any, has another id than those of these statements
abbrev pub has_new_id : Option Queue → List Statement → Bool
has_new_id q ss = not (holds (λ x. list_any (λ s. holds (λ y. y.id == x.id) (queue_in s.deed)) ss) q)

-- the ids of queues differ
unfoldable pub has_different_ids : List Statement → Bool
has_different_ids [] = true
has_different_ids (s ∷ ss) = has_new_id (queue_in s.deed) ss && has_different_ids ss

-- the statement makes an action; a group; a queue; a task
abbrev pub is_action_deed : Deed → Bool
is_action_deed (deed.Action job kind cores) = true
is_action_deed _ = false

abbrev pub makes_group : Deed → Bool
makes_group deed.Group = true
makes_group _ = false

abbrev pub makes_task : Deed → Bool
makes_task (deed.Start job args priority cores detached group) = true
makes_task (deed.Enqueue queue args cores detached group) = true
makes_task _ = false

-- there are no more of each than the settings allow
abbrev pub has_room : NodeSettings → List Statement → Bool
has_room settings ss =
    nat_le (how_many (λ s. is_action_deed s.deed) ss) settings.actions
    && nat_le (how_many (λ s. makes_group s.deed) ss) settings.groups
    && nat_le (how_many (λ s. is_some (queue_in s.deed)) ss) settings.queues
    && nat_le (how_many (λ s. makes_task s.deed) ss) settings.tasks

-- the statement puts a task into the queue of this place
abbrev pub deed_puts_into : ℕ → Deed → Bool
deed_puts_into place (deed.Enqueue queue args cores detached group) = queue == place
deed_puts_into place _ = false

-- of these statements of a part, the first at this place, no queue gets more tasks than its limit
unfoldable pub keep_limits : List Statement → ℕ → List Statement → Bool
keep_limits all place [] = true
keep_limits all place (s ∷ ss) = not (holds (λ q. nat_lt q.limit (how_many (λ e. deed_puts_into place e.deed) all)) (queue_in s.deed))
    && keep_limits all (place + 1) ss

-- a group and a fault, where there are both
abbrev pub both : Option ℕ → Option MtapiStatus → List (ℕ × MtapiStatus)
both (Some group) (Some fault) = (group, fault) ∷ []
both _ _ = []

-- the group of a statement's task and its fault
abbrev pub fault_in : List Action → Option NewTask → List (ℕ × MtapiStatus)
fault_in actions None = []
fault_in actions (Some t) = both t.group (plain_fault actions t)

-- the faults of a group have one status
unfoldable pub have_one_fault_a_group : List (ℕ × MtapiStatus) → Bool
have_one_fault_a_group [] = true
have_one_fault_a_group (x ∷ xs) = list_all (λ y. not (x.0 == y.0) || (mtapi_number x.1 == mtapi_number y.1)) xs && have_one_fault_a_group xs

abbrev pub has_one_fault_a_group : List Action → Part → Bool
has_one_fault_a_group actions p = have_one_fault_a_group (flat_map (λ s. fault_in actions (task_in p.statements s.deed)) p.statements)

-- a settled workload
unfoldable pub is_settled : Workload → Bool
is_settled load =
    are_settled_parts load.settings load.parts
    && has_one_kind_a_job (actions_in (all_statements load))
    && has_different_ids (all_statements load)
    && has_room load.settings (all_statements load)
    && list_all (λ p. keep_limits p.statements 0 p.statements) load.parts
    && list_all (has_one_fault_a_group (actions_in (all_statements load))) load.parts
