-- The replies of a run of a settled workload: they are the plain ones.
use Rattle.std.specs.Prelude.{ℕ, List, [], ◌∷◌, Option}
use Rattle.settled_runs.specs.Names.{TaskEnd, Layout, Action, Part, Workload, Reply, NodeEntry, after, end_at, run_terms}
use Rattle.settled_runs.specs.Plain.{all_statements, actions_in, no_faults}
use Rattle.settled_runs.specs.PlainReplies.{ArePlain}
use Rattle.settled_runs.specs.RunGranted.{SettledRun}

-- each part's statements get plain replies
abbrev pub PartsReplyPlainly : List Action → (ℕ → Option TaskEnd) → List Part → List (List Reply) → Type 0
PartsReplyPlainly actions ends [] rss = Unit {0}
PartsReplyPlainly actions ends (p ∷ ps) [] = ⊥
PartsReplyPlainly actions ends (p ∷ ps) (rs ∷ rss) = ArePlain actions p.statements ends no_faults p.statements rs × PartsReplyPlainly actions ends ps rss

-- in a run of a settled workload each statement gets its plain reply, where the ends of tasks are those that the run shows at its end
abbrev pub SettledRepliesArePlain : Type 0
SettledRepliesArePlain =
    (layout : Layout) (load : Workload) (es : List NodeEntry) (ns : List ℕ) → (u : SettledRun layout load es ns)
    → PartsReplyPlainly (actions_in (all_statements load)) (end_at (after (run_terms layout load) es).tasks) load.parts u.run.replies
