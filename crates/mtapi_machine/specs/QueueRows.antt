-- The rows of the ops on queues.
use Rattle.std.specs.Prelude.{ℕ, Bool, true, false, not, ◌&&◌, ◌||◌, nat_lt, nat_le, [], ◌∷◌, if◌then◌else◌}
use Rattle.mtapi_values.specs.declared.statuses.MtapiStatus.TheVariants as m
use Rattle.mtapi_machine.specs.Names.{Cancelled, Failed, any_listed, has_job, Queue, opened, is_in}
use Rattle.mtapi_machine.specs.declared.replies.Reply.{Reply}
use Rattle.mtapi_machine.specs.declared.replies.Reply.TheVariants.{Ok}
use Rattle.mtapi_machine.specs.State.{State, queues}
use Rattle.mtapi_machine.specs.Moves.{Queues, ends_waiting, alters, removes}
use Rattle.mtapi_machine.specs.Row.{Row, gives, mtapi_unless, mtapi, mtapi_open, on}
use Rattle.mtapi_machine.specs.KeyedRows.{keyed_queues, creates_keyed, gets}

-- a new queue is enabled
abbrev pub new_queue : ℕ → ℕ → ℕ → ℕ → Bool → Bool → Queue
new_queue id job priority limit ordered retain =
    record { id = id; job = job; priority = priority; limit = limit; ordered = ordered; retain = retain; enabled = true }

abbrev pub queue_create : State → Reply → Queue → Row
queue_create s r q =
    mtapi_open s (mtapi_unless
    ((not (nat_lt q.priority s.terms.settings.priorities) || not (nat_le 1 q.limit && nat_le q.limit 65536), m.ErrParameter)
    ∷ (not (any_listed (has_job q.job) s.actions), m.ErrJobInvalid) ∷ [])
    (creates_keyed keyed_queues s r q))

-- the live queue of an id
abbrev pub queue_get : State → ℕ → Row
queue_get s id = mtapi s (gets keyed_queues s id)

-- its tasks may begin again
abbrev pub queue_enable : State → ℕ → Row
queue_enable s q = mtapi_open s (on queues s q (λ x. gives Ok (alters Queues q (opened true) ∷ [])))

-- its tasks don't begin any more; where it doesn't retain them, those that haven't begun end cancelled
abbrev pub queue_disable : State → ℕ → Row
queue_disable s q =
    mtapi_open s (on queues s q (λ x. gives Ok (alters Queues q (opened false) ∷ (if x.retain then [] else ends_waiting (is_in q) Cancelled ∷ []))))

-- it stops being live, and its tasks that haven't begun fail
abbrev pub queue_delete : State → ℕ → Row
queue_delete s q = mtapi_open s (on queues s q (λ x. gives Ok (ends_waiting (is_in q) (Failed m.ErrQueueDeleted) ∷ removes Queues q ∷ [])))
