-- What a statement makes, of which there is room for so many.
use Rattle.std.specs.Prelude.{Bool, is_some}
use Rattle.workload_file.specs.declared.workload.Deed.{Deed}
use Rattle.settled_runs.specs.Plain.{queue_in}
use Rattle.settled_runs.specs.Settled.{is_action_deed, makes_group, makes_task}
use Rattle.settled_workloads.specs.declared.whole.Made.{Made}
use Rattle.settled_workloads.specs.declared.whole.Made.TheVariants.{Action, Group, Queue, Task}

abbrev pub makes_made : Made → Deed → Bool
makes_made Action d = is_action_deed d
makes_made Group d = makes_group d
makes_made Queue d = is_some (queue_in d)
makes_made Task d = makes_task d
