-- What a worker's rounds add to its seat's own entries.
use Rattle.std.specs.Prelude.{◌≡◌, ℕ, ◌≤◌, ◌<◌, ◌^◌, Bool, true, false, List, [], ◌∷◌, ◌++◌, map, replicate, ℤ}
use Rattle.workload_runners.specs.Names.{entry, Kind, TaskEnd, TaskHandle, Answered, NodeEntry, after, Work, HoldsTask, Free}
use Rattle.mtapi_values.specs.declared.handles.ActionHandle.{ActionHandle}
use Rattle.mtapi_machine.specs.declared.ops.Op.TheVariants as op
use Rattle.mtapi_machine.specs.declared.replies.Reply.TheVariants as reply
use Rattle.workload_runners.specs.Turns.{Seat, SameNodeSeat}

-- what a tally does between its last question for both and its end: it was told to give up; or it has both and reads this number,
-- and the sum doesn't fit; or it reads a number and writes one
pub data Tallying : Type 0 where
  GivesUp : Tallying
  Reads : ℤ → Tallying
  Writes : ℤ → ℤ → Tallying

-- a worker's round: it found nothing; or it took a task and finished it; or it took a watch, asked so often, and ended it; or it took
-- a tally, was told so often to ask again, and ended it
pub data Round : Type 0 where
  Rested : Round
  Ran : TaskHandle → ActionHandle → Kind → List ℤ → Answered → Round
  Watched : TaskHandle → ActionHandle → Kind → List ℤ → List Bool → TaskEnd → Round
  Tallied : TaskHandle → ActionHandle → Kind → List ℤ → ℕ → Tallying → TaskEnd → Round

-- the questions of a watch, and what it was told
abbrev pub watch_asks : ℕ → TaskHandle → List Bool → List NodeEntry
watch_asks w t reported = map (λ b. entry w (op.Asked t) (reply.Asked b)) reported

-- the questions of a tally that has to ask again, what it does then, and all of it with its end
abbrev pub retries : ℕ → TaskHandle → ℕ → List NodeEntry
retries w t pending = replicate pending (entry w (op.TallyLock t) reply.Pending)

abbrev pub tally_steps : ℕ → TaskHandle → Tallying → List NodeEntry
tally_steps w t GivesUp = entry w (op.TallyLock t) (reply.Asked false) ∷ []
tally_steps w t (Reads z) = entry w (op.TallyLock t) (reply.Asked true) ∷ entry w (op.TallyRead t) (reply.Number z) ∷ []
tally_steps w t (Writes z value) = entry w (op.TallyLock t) (reply.Asked true) ∷ entry w (op.TallyRead t) (reply.Number z)
    ∷ entry w (op.TallyWrite t value) reply.Ok ∷ []

abbrev pub tally_entries : ℕ → TaskHandle → ℕ → Tallying → TaskEnd → List NodeEntry
tally_entries w t pending steps end = (retries w t pending ++ tally_steps w t steps) ++ entry w (op.TallyEnd t) (reply.Ended end) ∷ []

-- the entries of a round: each task that was taken is ended in it, and no reply is a status
abbrev pub entries_in : ℕ → Round → List NodeEntry
entries_in w Rested = entry w op.Pick reply.Idle ∷ []
entries_in w (Ran t a k args done) = entry w op.Pick (reply.Picked t a k args) ∷ entry w (op.Finish t done) reply.Ok ∷ []
entries_in w (Watched t a k args reported end) =
    entry w op.Pick (reply.Picked t a k args) ∷ (watch_asks w t reported ++ entry w (op.WatchEnd t) (reply.Ended end) ∷ [])
entries_in w (Tallied t a k args pending steps end) = entry w op.Pick (reply.Picked t a k args) ∷ tally_entries w t pending steps end

unfoldable pub all_in : ℕ → List Round → List NodeEntry
all_in w [] = []
all_in w (r ∷ rs) = entries_in w r ++ all_in w rs

-- the worker's seat has no task
pub record AtRest (s : Seat) : Type 0 where
  pub worker : s.number < s.terms.node.settings.workers
  pub free : Free (after s.terms.node s.seen) s.number

-- it has this task, with this work
pub record AtWork (s : Seat) (h : ℕ) (x : Work) : Type 0 where
  pub worker : s.number < s.terms.node.settings.workers
  pub holds : HoldsTask (after s.terms.node s.seen) s.number h x

-- the turns are used up
pub record Stranded (old new : Seat) : Type 0 where
  pub same : SameNodeSeat old new
  pub shown : 2 ^ 62 ≤ new.shown

-- the worker added these entries, and has no task
pub record Added (old : Seat) (es : List NodeEntry) (new : Seat) : Type 0 where
  pub same : SameNodeSeat old new
  pub mine : new.mine ≡ old.mine ++ es
  pub rest : AtRest new

-- a round that went on, or one pick that was answered Stop
abbrev pub Rounded : Seat → Bool → Seat → Type 0
Rounded old true new = (r : Round) × Added old (entries_in old.number r) new
Rounded old false new = SameNodeSeat old new × (new.mine ≡ old.mine ++ entry old.number op.Pick reply.Stop ∷ [])

-- a worker's entries: rounds, and at the end a pick that was answered Stop
pub record WorkerAs (w : ℕ) (es : List NodeEntry) : Type 0 where
  pub rounds : List Round
  pub is : es ≡ all_in w rounds ++ entry w op.Pick reply.Stop ∷ []
