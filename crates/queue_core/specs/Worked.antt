-- Worked rows of a queue's tasks, each decided by computing.
use Rattle.std.specs.Prelude.{◌≡◌, ℕ, Bool, true, false, [], Some, None, Ok, Err}
use Rattle.mtapi_values.specs.declared.statuses.MtapiStatus.TheVariants.{ErrQueueDisabled, ErrQueueLimit}
use Rattle.queue_core.specs.Held.{HeldQueue, held, with_opened, with_task, without_task, put_reply, first_task}

-- two tasks, by their handles: the one that is put first has the higher slot
abbrev pub earlier : ℕ
earlier = 4294967297

abbrev pub later : ℕ
later = 4294967296

-- a queue of at most two unended tasks that retains them or doesn't
abbrev pub new_of_two : Bool → HeldQueue
new_of_two retain = held (record { id = 1; job = 1; priority = 0; limit = 2; ordered = true; retain = retain; enabled = true }) []

-- the same, disabled
abbrev pub disabled : Bool → HeldQueue
disabled retain = with_opened false (new_of_two retain)

-- the disabled queue that retains, with two tasks
abbrev pub full_queue : HeldQueue
full_queue = with_task later (with_task earlier (disabled true))

-- A disabled queue takes tasks exactly where it retains, a full one takes none, and the head is the task that was put first.
pub record WorkedPuts : Type 0 where
  pub enabled_takes : put_reply (Some (new_of_two false)) ≡ Ok tt
  pub disabled_refuses : put_reply (Some (disabled false)) ≡ Err ErrQueueDisabled
  pub retaining_takes : put_reply (Some (with_task earlier (disabled true))) ≡ Ok tt
  pub third_is_refused : put_reply (Some full_queue) ≡ Err ErrQueueLimit
  pub none_is_head : first_task (Some (disabled true)) ≡ None
  pub put_first : first_task (Some full_queue) ≡ Some earlier
  pub next_after_an_end : first_task (Some (without_task earlier full_queue)) ≡ Some later
  pub room_after_an_end : put_reply (Some (without_task later full_queue)) ≡ Ok tt
