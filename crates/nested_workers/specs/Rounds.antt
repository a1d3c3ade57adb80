-- What the rounds of a worker whose tasks start tasks add to its seat's own entries.
use Rattle.std.specs.Prelude.{◌≡◌, false, ℕ, List, [], ◌∷◌, ◌++◌, ℤ, Option, Some, None}
use Rattle.history.specs.Histories.{entry}
use Rattle.action_fn.specs.Answers.{Answered, is_pure}
use Rattle.mtapi_values.specs.declared.handles.ActionHandle.{ActionHandle}
use Rattle.mtapi_values.specs.declared.handles.TaskHandle.{TaskHandle}
use Rattle.mtapi_values.specs.declared.kinds.Kind.{Kind}
use Rattle.mtapi_machine.specs.Legal.{NodeEntry}
use Rattle.mtapi_machine.specs.declared.ops.Op.TheVariants as op
use Rattle.mtapi_machine.specs.declared.replies.Reply.{Reply}
use Rattle.mtapi_machine.specs.declared.replies.Reply.TheVariants as reply
use Rattle.workload_runners.specs.Turns.{Seat, SameNodeSeat, AddsOwn}
use Rattle.workload_runners.specs.Rounds.{Added}
use Rattle.nested_workers.specs.Starts.{AreStarts}
use Rattle.turn_looks.specs.declared.services.ServeEnd.{ServeEnd}
use Rattle.turn_looks.specs.declared.services.ServeEnd.TheVariants as end

-- a worker's round: it found nothing; or it took a task, asked for these starts, and finished it
pub data NestedRound : Type 0 where
  Rested : NestedRound
  Worked : TaskHandle → ActionHandle → Kind → List ℤ → List NodeEntry → Answered → NestedRound

-- the entries of a round: each task that was taken is ended in it, and between stand the starts that it asked for
abbrev pub nested_entries_in : ℕ → NestedRound → List NodeEntry
nested_entries_in w Rested = entry w op.Pick reply.Idle ∷ []
nested_entries_in w (Worked t a k args starts done) =
    entry w op.Pick (reply.Picked t a k args) ∷ (starts ++ entry w (op.Finish t done) reply.Ok ∷ [])

-- what stands between is starts
abbrev pub StartsIn : ℕ → NestedRound → Type 0
StartsIn w Rested = Unit {0}
StartsIn w (Worked t a k args starts done) = AreStarts w starts

unfoldable pub all_nested : ℕ → List NestedRound → List NodeEntry
all_nested w [] = []
all_nested w (r ∷ rs) = nested_entries_in w r ++ all_nested w rs

abbrev pub AllStart : ℕ → List NestedRound → Type 0
AllStart w [] = Unit {0}
AllStart w (r ∷ rs) = StartsIn w r × AllStart w rs

-- what a worker does with the task that it took: it asks for starts, and finishes it
pub record RanTask (old : Seat) (t : TaskHandle) (new : Seat) : Type 0 where
  pub starts : List NodeEntry
  pub are : AreStarts old.number starts
  pub done : Answered
  pub added : Added old (starts ++ entry old.number (op.Finish t done) reply.Ok ∷ []) new

-- what its last pick is answered: it is told to stop, or it is given a task whose kind isn't answered by its arguments alone, and leaves it
abbrev pub IsLastPick : Reply → Type 0
IsLastPick reply.Stop = Unit {0}
IsLastPick (reply.Picked t a k args) = is_pure k ≡ false
IsLastPick _ = ⊥

-- the worker made its last pick
pub record PicksLast (old new : Seat) : Type 0 where
  pub same : SameNodeSeat old new
  pub last : Reply
  pub is : IsLastPick last
  pub mine : new.mine ≡ old.mine ++ entry old.number op.Pick last ∷ []

-- a round that went on, the last pick, or one after which the turns were used up
abbrev pub NestedRounded : Seat → Option ServeEnd → Seat → Type 0
NestedRounded old None new = (r : NestedRound) × StartsIn old.number r × Added old (nested_entries_in old.number r) new
NestedRounded old (Some end.Stopped) new = PicksLast old new
NestedRounded old (Some (end.Spent s)) new = SameNodeSeat old new

-- a worker's entries: rounds, and at the end its last pick
pub record NestsAs (w : ℕ) (es : List NodeEntry) : Type 0 where
  pub rounds : List NestedRound
  pub start : AllStart w rounds
  pub last : Reply
  pub stops : IsLastPick last
  pub is : es ≡ all_nested w rounds ++ entry w op.Pick last ∷ []

-- how a worker's service ended
abbrev pub NestsTo : Seat → ServeEnd → Seat → Type 0
NestsTo old end.Stopped new = AddsOwn NestsAs old new
NestsTo old (end.Spent s) new = SameNodeSeat old new
