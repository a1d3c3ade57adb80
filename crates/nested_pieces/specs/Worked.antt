-- Worked rows of work that has run, and of the rounds of a worker whose tasks start tasks, with values that all differ.
use Rattle.std.specs.Prelude.{◌≡◌, ℕ, ℤ, List, [], ◌∷◌}
use Rattle.history.specs.Histories.{entry}
use Rattle.action_fn.specs.Answers.{Answered}
use Rattle.mtapi_values.specs.declared.handles.ActionHandle.{ActionHandle}
use Rattle.mtapi_values.specs.declared.handles.TaskHandle.{TaskHandle}
use Rattle.mtapi_values.specs.declared.kinds.Kind.{Kind}
use Rattle.mtapi_values.specs.declared.kinds.Kind.TheVariants.{Echo, Watch}
use Rattle.mtapi_machine.specs.Legal.{NodeEntry}
use Rattle.mtapi_machine.specs.declared.ops.Op.TheVariants as op
use Rattle.mtapi_machine.specs.declared.replies.Reply.TheVariants as reply
use Rattle.nested_workers.specs.Rounds.{IsLastPick, all_nested}
use Rattle.nested_workers.specs.Rounds.NestedRound.{Rested, Worked}
use Rattle.nested_workers.specs.Starts.{AreStarts}
use Rattle.nested_pieces.specs.Works.{Works, how_many_pieces, pieces_in, results_in}
use Rattle.nested_pieces.specs.Works.Works.{NoneRan, Gave, Joined}

-- Piece 1 has split into 20 and 30, and 30 into 5, and beside it piece 8 has run.
abbrev pub five : Works ℕ ℕ ℕ
five = Joined 1 100 77 (Gave 20 2 (Joined 30 40 46 (Gave 5 6 NoneRan) NoneRan)) (Gave 8 9 NoneRan)

-- its pieces, their results, and how many there are with the parts
pub record WorkedWorks : Type 0 where
  pub pieces : pieces_in five ≡ (1 ∷ 8 ∷ [])
  pub results : results_in five ≡ (77 ∷ 9 ∷ [])
  pub counts : how_many_pieces five ≡ 5
  pub none : how_many_pieces {P = ℕ} {D = ℕ} {J = ℕ} NoneRan ≡ 0

-- A round without a task, and one whose task asked for a start; what a last pick may be answered; and whose starts are a worker's own.
pub record WorkedRounds : Type 0 where
  pub entries : (t : TaskHandle) (a : ActionHandle) (k : Kind) (args : List ℤ) (done : Answered) (s : NodeEntry)
      → all_nested 3 (Rested ∷ Worked t a k args (s ∷ []) done ∷ [])
      ≡ (entry 3 op.Pick reply.Idle ∷ entry 3 op.Pick (reply.Picked t a k args) ∷ s ∷ entry 3 (op.Finish t done) reply.Ok ∷ [])
  pub stops : IsLastPick reply.Stop
  pub leaves : (t : TaskHandle) (a : ActionHandle) (args : List ℤ) → IsLastPick (reply.Picked t a Watch args)
  pub runs : (t : TaskHandle) (a : ActionHandle) (args : List ℤ) → IsLastPick (reply.Picked t a Echo args) → ⊥
  pub goes_on : IsLastPick reply.Idle → ⊥
  pub other_seat : AreStarts 3 (entry 4 op.Pick reply.Idle ∷ []) → ⊥
  pub other_op : AreStarts 3 (entry 3 op.GroupCreate reply.Ok ∷ []) → ⊥
