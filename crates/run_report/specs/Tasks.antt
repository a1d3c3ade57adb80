-- What the report says of a task.
use Rattle.std.specs.Prelude.{ℕ, ℤ, List, [], ◌∷◌, ◌++◌, codes, Option, Some, None}
use Rattle.number_text.specs.Lists.{list_text}
use Rattle.run_report.specs.Names.{mtapi_name, TaskEnd, Completed, Cancelled, Failed, Reply}
use Rattle.mtapi_machine.specs.declared.replies.Reply.TheVariants as reply

-- numbers behind a space, with commas between them; nothing, where there is none
unfoldable pub numbers_text : List ℤ → List ℕ
numbers_text [] = []
numbers_text (z ∷ zs) = 32 ∷ list_text (z ∷ zs)

-- how a task ended
unfoldable pub end_text : TaskEnd → List ℕ
end_text (Completed zs) = codes "completed" ++ numbers_text zs
end_text Cancelled = codes "cancelled"
end_text (Failed status) = codes "error " ++ mtapi_name status

-- nothing, where it hasn't ended
abbrev pub ended_text : Option TaskEnd → List ℕ
ended_text None = []
ended_text (Some e) = end_text e

-- what became of a task, by the reply to its statement: a refused one is known by its status, another by the end of its handle
abbrev pub task_text : (ℕ → Option TaskEnd) → Reply → List ℕ
task_text ends (reply.Handle h) = ended_text (ends h)
task_text ends (reply.Mtapi status) = codes "refused " ++ mtapi_name status
task_text ends _ = []
