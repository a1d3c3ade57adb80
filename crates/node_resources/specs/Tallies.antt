-- What a tally asks of mutexes and segments, in the machine's words.
use Rattle.std.specs.Prelude.{◌≡◌, ℕ, ◌==◌, true, [], ◌∷◌}
use Rattle.mtapi_values.specs.declared.statuses.MtapiStatus.TheVariants as m
use Rattle.handle_pool.specs.Issued.{live_of, first_handle}
use Rattle.mtapi_objects.specs.Tasks.{with_tally, tally_has}
use Rattle.mtapi_objects.specs.Mutexes.{locked_by}
use Rattle.mtapi_objects.specs.Segments.{with_attached}
use Rattle.mtapi_machine.specs.declared.replies.Reply.TheVariants.{Pending, Asked}
use Rattle.mtapi_machine.specs.State.{State}
use Rattle.mtapi_machine.specs.Moves.{Mutexes, Segments, alters, notes, after_moves}
use Rattle.mtapi_machine.specs.Row.{Row, says, gives}
use Rattle.mtapi_machine.specs.TallyRows.{gives_up, takes_both}
use Rattle.node_resources.specs.declared.tally_ops.TallyLock.{TallyLock}
use Rattle.node_resources.specs.declared.tally_ops.TallyLock.TheVariants.{Both, Owned, Absent}
use Rattle.node_resources.specs.Holds.{ResourceTable, ResourcesStand}

-- the row of a tally that wants the mutex and the segment of these ids
abbrev pub both_row : State → ℕ → ℕ → ℕ → ℕ → ℕ → Row
both_row s who t mutex segment cell = takes_both s who t cell (first_handle (λ y. y.id == mutex) (live_of s.mutexes))
    (first_handle (λ y. y.id == segment) (live_of s.segments))

-- what an answer says of the row
abbrev pub lock_row : ℕ → ℕ → TallyLock → Row
lock_row who t (Both mutex segment) =
    gives (Asked true) (alters Mutexes mutex.0 (locked_by who) ∷ alters Segments segment.0 (with_attached who true)
    ∷ notes t (with_tally (tally_has mutex.0 segment.0)) ∷ [])
lock_row who t Owned = says Pending
lock_row who t Absent = gives_up t m.ErrActionFailed

-- the state whose mutexes and segments are as the answer leaves them
abbrev pub after_lock : ℕ → TallyLock → State → State
after_lock who (Both mutex segment) s = after_moves (alters Mutexes mutex.0 (locked_by who) ∷ alters Segments segment.0 (with_attached who true) ∷ []) s
after_lock who Owned s = s
after_lock who Absent s = s

-- the row of every task is the answer's, and the resources stand for what it leaves
pub record Locks (s : State) (who mutex segment cell : ℕ) (answer : TallyLock) (new : ResourceTable) : Type 0 where
  pub row : (t : ℕ) → both_row s who t mutex segment cell ≡ lock_row who t answer
  pub stands : ResourcesStand (after_lock who answer s) new
