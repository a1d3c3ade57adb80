-- The summary of plain replies is the plain summary.
use Rattle.settled_runs.proofs.Names.{arith, nat_tests, ◌≡◌, ℕ, cond, List, [], ◌∷◌, Option, refl, ◌∙◌, ap, TaskEnd, Action, Reply, after, Deed, Statement, Part, is_task, Told, run_terms, parts_told, no_totals, all_statements, actions_in, Faults, no_faults, with_plain_task, SettledSummariesArePlain, end_at, shown_of, with_tasks, with_parts, totals, totals_text, task_in, faults_behind, IsPlainReply, ArePlain, PartsArePlain, with_plain_tasks, with_plain_parts, plain_summary, Totals, with_counted as with_task}
use Rattle.settled_runs.proofs.RunReport.{told_plainly, settled_reports_are_plain, settled_reports_are_alike}

module _ (actions : List Action) (ends : ℕ → Option TaskEnd) where
  task_counted : (all : List Statement) (faults : Faults) (t : Totals) (d : Deed) (r : Reply) → IsPlainReply actions all ends faults d r
      → cond (is_task (shown_of d)) (with_task ends t r) t ≡ with_plain_task actions t (task_in all d)
  unfolding IsPlainReply shown_of task_in
  task_counted all faults t d r e1 = grind (arith, nat_tests)

  tasks_counted : (all : List Statement) (faults : Faults) (t : Totals) (ss : List Statement) (rs : List Reply) → ArePlain actions all ends faults ss rs
      → with_tasks ends t ss rs ≡ with_plain_tasks actions all t ss
  unfolding ArePlain with_tasks with_plain_tasks
  tasks_counted all faults t [] rs p = refl
  tasks_counted all faults t (s ∷ ss) [] p = absurd p
  tasks_counted all faults t (s ∷ ss) (r ∷ rs) p =
      ap (λ (x : Totals). with_tasks ends x ss rs) (task_counted all faults t s.deed r p.0)
      ∙ tasks_counted all (faults_behind actions all faults s.deed) (with_plain_task actions t (task_in all s.deed)) ss rs p.1

  parts_counted : (t : Totals) (ps : List Part) (ts : List Told) → PartsArePlain actions ends ps ts → with_parts ends t ts ≡ with_plain_parts actions t ps
  unfolding PartsArePlain with_parts with_plain_parts
  parts_counted t [] [] a = refl
  parts_counted t (p ∷ ps) (x ∷ ts) a =
      ap (λ (y : Totals). with_parts ends y ts) (ap (λ (ss : List Statement). with_tasks ends t ss x.replies) a.1
      ∙ tasks_counted p.statements no_faults t p.statements x.replies a.2)
      ∙ parts_counted (with_plain_tasks actions p.statements t p.statements) ps ts a.3
  parts_counted t _ _ a = absurd a

pub settled_summaries_are_plain : SettledSummariesArePlain
unfolding totals plain_summary
settled_summaries_are_plain layout load es ns u =
    ap totals_text (parts_counted (actions_in (all_statements load)) (end_at (after (run_terms layout load) es).tasks) no_totals load.parts (parts_told load es)
    (told_plainly layout load es ns u))

pub ruleset settled_law = (settled_reports_are_plain, settled_summaries_are_plain, settled_reports_are_alike)
