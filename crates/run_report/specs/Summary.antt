-- The summary of a run: its tasks counted by how they ended, and the sum of the numbers of those that completed.
use Rattle.std.specs.Prelude.{ℕ, ℤ, pos, neg_ℤ, ◌+◌, ◌*◌, ◌+ℤ◌, ◌≤◌, ◌≤ℤ◌, List, [], ◌∷◌, ◌++◌, length, codes, Option, Some, None, if◌then◌else◌}
use Rattle.std.specs.List.{fold}
use Rattle.std.specs.Fmt.{decimal, signed_decimal}
use Rattle.run_report.specs.Names.{TaskEnd, Completed, Cancelled, Failed, Layout, Statement, Part, Workload, Reply, end_at, NodeEntry, after}
use Rattle.mtapi_machine.specs.declared.replies.Reply.TheVariants as reply
use Rattle.run_report.specs.declared.totals.Totals.{Totals}
use Rattle.run_report.specs.Replies.{Told}
use Rattle.run_report.specs.Report.{run_terms, parts_told}
use Rattle.run_report.specs.Calls.{shown_of, is_task}

-- before the first task
abbrev pub no_totals : Totals
no_totals = record { tasks = 0; completed = 0; cancelled = 0; failed = 0; refused = 0; sum = pos 0 }

-- with a number added to the sum
abbrev pub with_summand : Totals → ℤ → Totals
with_summand t z = record t { sum = t.sum +ℤ z }

-- and with numbers
abbrev pub with_numbers : Totals → List ℤ → Totals
with_numbers t zs = fold with_summand t zs

-- with a task that ended so
abbrev pub with_end : Totals → Option TaskEnd → Totals
with_end t None = t
with_end t (Some (Completed zs)) = record (with_numbers t zs) { completed = t.completed + 1 }
with_end t (Some Cancelled) = record t { cancelled = t.cancelled + 1 }
with_end t (Some (Failed status)) = record t { failed = t.failed + 1 }

-- with what became of a task, by the reply to its statement: a refused one is known by its status, another by the end of its handle
abbrev pub with_fate : (ℕ → Option TaskEnd) → Totals → Reply → Totals
with_fate ends t (reply.Handle h) = with_end t (ends h)
with_fate ends t (reply.Mtapi status) = record t { refused = t.refused + 1 }
with_fate ends t _ = t

-- with a task
abbrev pub with_task_total : (ℕ → Option TaskEnd) → Totals → Reply → Totals
with_task_total ends t r = record (with_fate ends t r) { tasks = t.tasks + 1 }

-- with the tasks among these statements
unfoldable pub with_tasks : (ℕ → Option TaskEnd) → Totals → List Statement → List Reply → Totals
with_tasks ends t [] rs = t
with_tasks ends t (s ∷ ss) [] = t
with_tasks ends t (s ∷ ss) (r ∷ rs) = with_tasks ends (if is_task (shown_of s.deed) then with_task_total ends t r else t) ss rs

-- with the tasks of these parts
unfoldable pub with_parts : (ℕ → Option TaskEnd) → Totals → List Told → Totals
with_parts ends t [] = t
with_parts ends t (p ∷ ps) = with_parts ends (with_tasks ends t p.statements p.replies) ps

-- a count behind its word
abbrev pub counted_line : List ℕ → ℕ → List ℕ
counted_line word n = word ++ decimal n

-- the line of a summary
unfoldable pub totals_text : Totals → List ℕ
totals_text t =
    counted_line (codes "tasks ") t.tasks
    ++ (counted_line (codes " completed ") t.completed
    ++ (counted_line (codes " cancelled ") t.cancelled
    ++ (counted_line (codes " error ") t.failed
    ++ (counted_line (codes " refused ") t.refused
    ++ (codes " sum " ++ (signed_decimal t.sum ++ 10 ∷ []))))))

-- the totals of a run with this journal: a task's end is the one in its record in the journal's last state
unfoldable pub totals : Layout → Workload → List NodeEntry → Totals
totals layout load es = with_parts (end_at (after (run_terms layout load) es).tasks) no_totals (parts_told load es)

-- the summary of a run with this journal
abbrev pub summary : Layout → Workload → List NodeEntry → List ℕ
summary layout load es = totals_text (totals layout load es)

-- ---- ranges

-- how many statements these parts have
abbrev pub statements_in : List Part → ℕ
statements_in [] = 0
statements_in (p ∷ ps) = length p.statements + statements_in ps

-- the one sum is the other with so many numbers of 64 bits at most
pub record IsNear (numbers : ℕ) (before after : ℤ) : Type 0 where
  pub low : (before +ℤ neg_ℤ (pos (numbers * 9223372036854775808))) ≤ℤ after
  pub high : after ≤ℤ (before +ℤ pos (numbers * 9223372036854775808))

-- no count is greater than n, and the sum is one of 16 n numbers of 64 bits
pub record AreTotals (n : ℕ) (t : Totals) : Type 0 where
  pub completed : t.completed ≤ n
  pub cancelled : t.cancelled ≤ n
  pub failed : t.failed ≤ n
  pub refused : t.refused ≤ n
  pub low : neg_ℤ (pos (n * 147573952589676412928)) ≤ℤ t.sum
  pub high : t.sum ≤ℤ pos (n * 147573952589676412928)
