-- Worked ops: what a caller asks for with attributes that all differ from one another and from the usual ones. Each is found by computing.
use Rattle.std.specs.Prelude.{◌≡◌, true, false, [], ◌∷◌, pos, negsuc, Some, None}
use Rattle.mtapi_values.specs.Attributes.{TaskAttributes, QueueAttributes}
use Rattle.mtapi_machine.specs.declared.ops.Op.TheVariants as op
use Rattle.sched_workers.specs.Answers.{start_of, enqueue_of, queue_of}

abbrev pub for_tasks : TaskAttributes
for_tasks = record { detached = true; instances = 1; priority = 3; affinity = 12 }

-- a queue that is ordered, and one that retains its tasks
abbrev pub for_ordered : QueueAttributes
for_ordered = record { global = false; priority = 2; limit = 5; ordered = true; retain = false; domain_shared = false }

abbrev pub for_retaining : QueueAttributes
for_retaining = record { global = false; priority = 4; limit = 6; ordered = false; retain = true; domain_shared = false }

pub record WorkedAttributes : Type 0 where
  pub start : start_of 21 (pos 7 ∷ negsuc 8 ∷ []) for_tasks None ≡ op.TaskStart 21 (pos 7 ∷ negsuc 8 ∷ []) 3 (record { 0 = 12 }) true None
  pub start_grouped : start_of 22 [] (record for_tasks { detached = false }) (Some (record { 0 = 91 }))
      ≡ op.TaskStart 22 [] 3 (record { 0 = 12 }) false (Some (record { 0 = 91 }))
  pub enqueue : enqueue_of (record { 0 = 92 }) (pos 9 ∷ []) for_tasks None ≡ op.TaskEnqueue (record { 0 = 92 }) (pos 9 ∷ []) (record { 0 = 12 }) true None
  pub enqueue_grouped : enqueue_of (record { 0 = 93 }) [] (record for_tasks { detached = false }) (Some (record { 0 = 94 }))
      ≡ op.TaskEnqueue (record { 0 = 93 }) [] (record { 0 = 12 }) false (Some (record { 0 = 94 }))
  pub queue : queue_of 31 23 for_ordered ≡ op.QueueCreate 31 23 2 5 true false
  pub queue_retains : queue_of 32 24 for_retaining ≡ op.QueueCreate 32 24 4 6 false true
