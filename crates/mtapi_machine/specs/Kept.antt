-- What a journal keeps of a history, and the numbers beside its entries.
use Rattle.std.specs.Prelude.{ℕ, ◌+◌, Bool, true, false, List, [], ◌∷◌, replicate, slice_index, slice_set, if◌then◌else◌}
use Rattle.mtapi_machine.specs.Names.{holds, is_seat, live_object}
use Rattle.mtapi_machine.specs.declared.ops.Op.{Op}
use Rattle.mtapi_machine.specs.declared.ops.Op.TheVariants.{TaskLook}
use Rattle.mtapi_machine.specs.declared.replies.Reply.{Reply}
use Rattle.mtapi_machine.specs.declared.replies.Reply.TheVariants.{Pending, Idle}
use Rattle.mtapi_machine.specs.State.{State}
use Rattle.mtapi_machine.specs.Legal.{NodeEntry, next}

-- where the reply to this op is Pending, the state stays as it was: it is no look at a task that changes the waiter
abbrev pub pends_alike : State → ℕ → Op → Bool
pends_alike s who (TaskLook task last) = holds (λ t. is_seat who t.notes.waiter) (live_object s.tasks task.0)
pends_alike s who _ = true

-- the reply is Idle, or it is Pending and the state stays
abbrev pub drops : Bool → Reply → Bool
drops alike Idle = true
drops alike Pending = alike
drops alike _ = false

-- the entry is left out
abbrev pub is_dropped : State → NodeEntry → Bool
is_dropped s e = drops (pends_alike s e.who e.op) e.reply

-- the entries that aren't left out
unfoldable pub kept : State → List NodeEntry → List NodeEntry
kept s [] = []
kept s (e ∷ es) = if is_dropped s e then kept (next s e) es else e ∷ kept (next s e) es

-- the reply is Pending
abbrev pub is_pending : Reply → Bool
is_pending Pending = true
is_pending _ = false

-- for each seat, how many of its Pending entries were left out since its last kept one
abbrev pub counted : Bool → Bool → List ℕ → ℕ → List ℕ
counted true true counts who = slice_set counts who (slice_index counts who + 1)
counted true false counts who = counts
counted false pending counts who = slice_set counts who 0

abbrev pub counts_next : State → List ℕ → NodeEntry → List ℕ
counts_next s counts e = counted (is_dropped s e) (is_pending e.reply) counts e.who

unfoldable pub counts_after : State → List ℕ → List NodeEntry → List ℕ
counts_after s counts [] = counts
counts_after s counts (e ∷ es) = counts_after (next s e) (counts_next s counts e) es

-- the number beside each kept entry
unfoldable pub skipped : State → List ℕ → List NodeEntry → List ℕ
skipped s counts [] = []
skipped s counts (e ∷ es) =
    let others = skipped (next s e) (counts_next s counts e) es in
    if is_dropped s e then others else slice_index counts e.who ∷ others

-- before the first entry, none was left out of any of the 25 seats
abbrev pub no_counts : List ℕ
no_counts = replicate 25 0
