-- What the report says of a statement, by the reply to it.
use Rattle.std.specs.Prelude.{ℕ, ◌==◌, ◌&&◌, List, [], ◌∷◌, ◌++◌, Bool, true, false, Option, Some, None, if◌then◌else◌}
use Rattle.std.specs.Fmt.{decimal, signed_decimal}
use Rattle.run_report.specs.Names.{mtapi_name, mrapi_name, TaskEnd, Deed, Statement, name_text, Reply}
use Rattle.workload_file.specs.declared.workload.Deed.TheVariants as deed
use Rattle.mtapi_machine.specs.declared.replies.Reply.TheVariants as reply
use Rattle.run_report.specs.declared.sorts.Shown.{Shown}
use Rattle.run_report.specs.declared.sorts.Shown.TheVariants as shows
use Rattle.run_report.specs.Replies.{Told}
use Rattle.run_report.specs.Tasks.{task_text}

-- a start and an enqueue show their task, a lock its key, a read its value, a wait for any task of a group the task that it was
-- given, and each but `begin` its status
unfoldable pub shown_of : Deed → Shown
shown_of deed.Begin = shows.Nothing
shown_of (deed.Start job args priority cores detached group) = shows.Task
shown_of (deed.Enqueue queue args cores detached group) = shows.Task
shown_of (deed.Lock place timeout) = shows.Number
shown_of (deed.Read place cell) = shows.Number
shown_of (deed.WaitAny place timeout) = shows.Given
shown_of _ = shows.Status

-- it shows its task
abbrev pub is_task : Shown → Bool
is_task shows.Task = true
is_task _ = false

-- it shows the status that it answered
abbrev pub has_status : Shown → Bool
has_status shows.Task = false
has_status shows.Nothing = false
has_status _ = true

-- Tasks

-- the line of a task: its part, a dot, its name, a space, and what became of it
abbrev pub task_line : List ℕ → (ℕ → Option TaskEnd) → Statement → Reply → List ℕ
task_line part ends s r = part ++ (46 ∷ (name_text s.name ++ (32 ∷ (task_text ends r ++ 10 ∷ []))))

-- the lines of the tasks among these statements
unfoldable pub task_lines_of : List ℕ → (ℕ → Option TaskEnd) → List Statement → List Reply → List ℕ
task_lines_of part ends [] rs = []
task_lines_of part ends (s ∷ ss) [] = []
task_lines_of part ends (s ∷ ss) (r ∷ rs) = (if is_task (shown_of s.deed) then task_line part ends s r else []) ++ task_lines_of part ends ss rs

abbrev pub task_lines : (ℕ → Option TaskEnd) → Told → List ℕ
task_lines ends t = task_lines_of t.name ends t.statements t.replies

-- Calls

-- the reply is this handle
abbrev pub is_task_handle : ℕ → Reply → Bool
is_task_handle h (reply.Handle k) = k == h
is_task_handle h _ = false

-- the statement made the task of this handle
abbrev pub made_task : ℕ → Statement → Reply → Bool
made_task h s r = is_task (shown_of s.deed) && is_task_handle h r

-- the name of the task of this handle, where one of these statements made it
unfoldable pub task_name : List Statement → List Reply → ℕ → List ℕ
task_name [] rs h = []
task_name (s ∷ ss) [] h = []
task_name (s ∷ ss) (r ∷ rs) h = if made_task h s r then name_text s.name else task_name ss rs h

-- the status that a reply is
abbrev pub status_shown : Reply → Option (List ℕ)
status_shown (reply.Mtapi status) = Some (mtapi_name status)
status_shown (reply.Mrapi status) = Some (mrapi_name status)
status_shown _ = None

-- the number that it is, in decimal
abbrev pub number_shown : Reply → Option (List ℕ)
number_shown (reply.Number n) = Some (signed_decimal n)
number_shown _ = None

-- the name of the task that it gives
abbrev pub given_in : (ℕ → List ℕ) → Reply → Option (List ℕ)
given_in name (reply.Given t e) = Some (name t.0)
given_in name _ = None

-- what an Ok call shows: the key, the value, or the task's name
abbrev pub answer_shown : (ℕ → List ℕ) → Shown → Reply → Option (List ℕ)
answer_shown name shows.Number r = number_shown r
answer_shown name shows.Given r = given_in name r
answer_shown name _ r = None

-- a line, where there is a text: its mark, the part, the statement's line and the text, with spaces between them
abbrev pub marked_line : ℕ → List ℕ → ℕ → Option (List ℕ) → List ℕ
marked_line mark part line None = []
marked_line mark part line (Some text) = mark ∷ (32 ∷ (part ++ (32 ∷ (decimal line ++ (32 ∷ (text ++ 10 ∷ []))))))

-- the line of a call, if it has one: a status stands behind `!`, and what an Ok call shows behind `=`
abbrev pub call_line : List ℕ → (ℕ → List ℕ) → ℕ → Shown → Reply → List ℕ
call_line part name line sort r = marked_line 33 part line (if has_status sort then status_shown r else None)
    ++ marked_line 61 part line (answer_shown name sort r)

-- the lines of the calls of these statements
unfoldable pub call_lines_of : List ℕ → (ℕ → List ℕ) → List Statement → List Reply → List ℕ
call_lines_of part name [] rs = []
call_lines_of part name (s ∷ ss) [] = []
call_lines_of part name (s ∷ ss) (r ∷ rs) = call_line part name s.line (shown_of s.deed) r ++ call_lines_of part name ss rs

abbrev pub call_lines : Told → List ℕ
call_lines t = call_lines_of t.name (task_name t.statements t.replies) t.statements t.replies
