-- The report of a run of a settled workload is the plain one.
use Rattle.settled_runs.proofs.Names.{◌≡◌, ℕ, ◌+◌, List, [], ◌∷◌, ◌++◌, Option, refl, sym, ◌∙◌, ap, subst, map, flat_map, TaskEnd, Action, Layout, Part, Workload, NodeEntry, after, all_told, run_terms, parts_told, all_statements, actions_in, plain_task_lines, plain_call_lines, SettledRun, PartsReplyPlainly, end_at, further_told, report, plain_report, PartsArePlain, reads_the_run, SettledReportsArePlain, SettledReportsAreAlike}
use Rattle.settled_runs.proofs.{PlainReplies.plain_replies, ReplyWalk.settled_replies_are_plain}

module _ (actions : List Action) (ends : ℕ → Option TaskEnd) (es : List NodeEntry) where
  further_plain : (who : ℕ) (ps : List Part) → PartsReplyPlainly actions ends ps (map (λ t. t.replies) (further_told who es ps))
      → PartsArePlain actions ends ps (further_told who es ps)
  unfolding further_told PartsArePlain
  further_plain who [] a = tt
  further_plain who (p ∷ ps) a = (refl, refl, a.0, further_plain (who + 1) ps a.1)

  all_plain : (main : ℕ) (ps : List Part) → PartsReplyPlainly actions ends ps (map (λ t. t.replies) (all_told main es ps))
      → PartsArePlain actions ends ps (all_told main es ps)
  unfolding PartsArePlain
  all_plain main [] a = tt
  all_plain main (p ∷ ps) a = (refl, refl, a.0, further_plain (main + 1) ps a.1)

-- the parts are told with plain replies
pub told_plainly : (layout : Layout) (load : Workload) (es : List NodeEntry) (ns : List ℕ) (u : SettledRun layout load es ns)
    → PartsArePlain (actions_in (all_statements load)) (end_at (after (run_terms layout load) es).tasks) load.parts (parts_told load es)
told_plainly layout load es ns u =
    all_plain (actions_in (all_statements load)) (end_at (after (run_terms layout load) es).tasks) es load.settings.workers load.parts
    (subst (PartsReplyPlainly (actions_in (all_statements load)) (end_at (after (run_terms layout load) es).tasks) load.parts)
    (sym (reads_the_run load es ns u.same u.run)) (settled_replies_are_plain layout load es ns u))

pub settled_reports_are_plain : SettledReportsArePlain
unfolding report
settled_reports_are_plain layout load es ns u =
    plain_replies load (end_at (after (run_terms layout load) es).tasks) (parts_told load es) (told_plainly layout load es ns u)

-- the plain report reads the parts alone
one_plain_report : (a b : Workload) → a.parts ≡ b.parts → plain_report a ≡ plain_report b
unfolding plain_report
one_plain_report a b e = ap (λ (ps : List Part). flat_map (plain_task_lines (actions_in (flat_map (λ p. p.statements) ps))) ps
    ++ flat_map (plain_call_lines (actions_in (flat_map (λ p. p.statements) ps))) ps) e

pub settled_reports_are_alike : SettledReportsAreAlike
settled_reports_are_alike layout other a b es fs ns ms e u v =
    settled_reports_are_plain layout a es ns u ∙ one_plain_report a b e ∙ sym (settled_reports_are_plain other b fs ms v)
