-- Which replies end a call of one entry.
use Rattle.workload_runs.proofs.Names.{◌≡◌, ℕ, Bool, false, List, refl, Reply, Op, State, Allows, is_pending, drops, IsOnce}
use Rattle.mtapi_machine.specs.declared.replies.Reply.TheVariants as reply
use Rattle.mtapi_machine.specs.Moves.{Move}
use Rattle.mtapi_machine.specs.Rows.{row}
use Rattle.mtapi_machine.specs.Answers.{Answers}
use Rattle.mtapi_machine.specs.Answers as is
use Rattle.mtapi_machine.proofs.Answered.{answered}

-- the reply is kept by every journal, and decides
pub record Settles (r : Reply) : Type 0 where
  pub decides : is_pending r ≡ false
  pub stays : (alike : Bool) → drops alike r ≡ false

by_answer : (s : State) (who : ℕ) (o : Op) (r : Reply) (ms : List Move) → Answers s who o r ms → IsOnce o → Settles r
by_answer s who _ reply.Pending _ (is.enters_early a b) i = absurd i
by_answer s who _ reply.Pending _ _ i = absurd i
by_answer s who _ reply.Idle _ (is.idles b) i = absurd i
by_answer s who _ reply.Idle _ _ i = absurd i
by_answer s who o r ms g i = record { decides = refl; stays = λ b. refl }

pub once_settles : (s : State) (who : ℕ) (o : Op) (r : Reply) → IsOnce o → Allows (row s who o r) r → Settles r
once_settles s who o r i a = by_answer s who o r _ (answered s who o r a) i
