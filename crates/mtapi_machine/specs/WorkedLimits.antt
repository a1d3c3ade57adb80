-- Worked: how many objects of each kind a node may have, where its settings all differ, each limit met exactly; and the ranges of the
-- settings.
use Rattle.std.specs.Prelude.{ℕ, zero, suc, ◌+◌, false, true, List, [], ◌∷◌, ◌++◌, None}
use Rattle.mtapi_values.specs.declared.kinds.Kind.TheVariants as kind
use Rattle.mtapi_values.specs.declared.statuses.MtapiStatus.TheVariants as status
use Rattle.mtapi_values.specs.declared.statuses.MrapiStatus.TheVariants as code
use Rattle.mtapi_machine.specs.Names.{One, NodeSettings}
use Rattle.mtapi_machine.specs.declared.terms.Terms.{Terms}
use Rattle.mtapi_machine.specs.declared.ops.Op.{Op}
use Rattle.mtapi_machine.specs.declared.ops.Op.TheVariants as op
use Rattle.mtapi_machine.specs.declared.replies.Reply.{Reply}
use Rattle.mtapi_machine.specs.declared.replies.Reply.TheVariants as reply
use Rattle.mtapi_machine.specs.Legal.{Fits}
use Rattle.mtapi_machine.specs.Tables.{TableLine, IsWorkedTable, main, main_not, refused, h1, every_core, action_of}

-- settings of which no two are alike
abbrev pub unlike : Terms
unlike = record {
  layout = One;
  settings = record { workers = 1; tasks = 2; actions = 3; groups = 4; queues = 5; objects = 6; priorities = 7; generations = 8 };
  callers = 2;
}

-- main makes so many objects, which get the handles of the first places; `o n` makes the one behind n others
abbrev pub so_many : (ℕ → Op) → ℕ → List TableLine
so_many o zero = []
so_many o (suc n) = so_many o n ++ main (o n) (reply.Handle (h1 + n)) ∷ []

-- and no further one, which is refused with this reply
abbrev pub at_most : (ℕ → Op) → ℕ → Reply → List TableLine
at_most o n limit = so_many o n ++ main_not (o n) limit (reply.Handle (h1 + n)) ∷ []

-- a task of the last priority, and one of none
abbrev pub task_of_id : ℕ → Op
task_of_id priority = op.TaskStart 1 [] priority every_core false None

-- queues and resources with the ids from 1 on
abbrev pub queue_of_id : ℕ → Op
queue_of_id n = op.QueueCreate (n + 1) 1 6 2 true false

unfoldable pub each_kind : List TableLine
each_kind =
    main op.Initialize reply.Ok
    ∷ at_most (λ n. action_of kind.Add) 3 (reply.Mtapi status.ErrActionLimit)
    ++ refused (task_of_id 7) status.ErrParameter (reply.Handle h1)
    ∷ at_most (λ n. task_of_id 6) 2 (reply.Mtapi status.ErrTaskLimit)
    ++ at_most (λ n. op.GroupCreate) 4 (reply.Mtapi status.ErrGroupLimit)
    ++ at_most queue_of_id 5 (reply.Mtapi status.ErrQueueLimit)

unfoldable pub each_resource : List TableLine
each_resource =
    main op.Initialize reply.Ok
    ∷ at_most (λ n. op.MutexCreate (n + 1) true) 6 (reply.Mrapi code.ErrMutexLimit)
    ++ at_most (λ n. op.SemCreate (n + 1) 2) 6 (reply.Mrapi code.ErrSemLimit)
    ++ at_most (λ n. op.RwlCreate (n + 1) 2) 6 (reply.Mrapi code.ErrRwlLimit)
    ++ at_most (λ n. op.ShmemCreate (n + 1) 2) 6 (reply.Mrapi code.ErrShmLimit)

-- the least and the greatest terms
abbrev pub least_terms : Terms
least_terms = record {
  layout = One;
  settings = record { workers = 1; tasks = 1; actions = 1; groups = 1; queues = 1; objects = 1; priorities = 1; generations = 1 };
  callers = 1;
}

abbrev pub most_terms : Terms
most_terms = record {
  layout = One;
  settings = record { workers = 16; tasks = 65536; actions = 1024; groups = 1024; queues = 256; objects = 256; priorities = 8; generations = 4294967295 };
  callers = 9;
}

-- the greatest terms with other settings, and with so many callers
abbrev pub set : (NodeSettings → NodeSettings) → Terms
set f = record most_terms { settings = f most_terms.settings }

abbrev pub called : ℕ → Terms
called n = record most_terms { callers = n }

-- each range ends where it does
pub record WorkedRanges : Type 0 where
  pub least_fits : Fits least_terms
  pub most_fits : Fits most_terms
  pub no_workers : Fits (set (λ s. record s { workers = 0 })) → ⊥
  pub more_workers : Fits (set (λ s. record s { workers = 17 })) → ⊥
  pub no_tasks : Fits (set (λ s. record s { tasks = 0 })) → ⊥
  pub more_tasks : Fits (set (λ s. record s { tasks = 65537 })) → ⊥
  pub no_actions : Fits (set (λ s. record s { actions = 0 })) → ⊥
  pub more_actions : Fits (set (λ s. record s { actions = 1025 })) → ⊥
  pub no_groups : Fits (set (λ s. record s { groups = 0 })) → ⊥
  pub more_groups : Fits (set (λ s. record s { groups = 1025 })) → ⊥
  pub no_queues : Fits (set (λ s. record s { queues = 0 })) → ⊥
  pub more_queues : Fits (set (λ s. record s { queues = 257 })) → ⊥
  pub no_objects : Fits (set (λ s. record s { objects = 0 })) → ⊥
  pub more_objects : Fits (set (λ s. record s { objects = 257 })) → ⊥
  pub no_priorities : Fits (set (λ s. record s { priorities = 0 })) → ⊥
  pub more_priorities : Fits (set (λ s. record s { priorities = 9 })) → ⊥
  pub no_generations : Fits (set (λ s. record s { generations = 0 })) → ⊥
  pub more_generations : Fits (set (λ s. record s { generations = 4294967296 })) → ⊥
  pub no_callers : Fits (called 0) → ⊥
  pub more_callers : Fits (called 10) → ⊥

pub record WorkedLimits : Type 0 where
  pub each_kind : IsWorkedTable unlike each_kind
  pub each_resource : IsWorkedTable unlike each_resource
  pub ranges : WorkedRanges
