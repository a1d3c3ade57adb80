-- What is listed at the end of a list.
use Rattle.std.proofs.Common.{List, [], ◌∷◌, ◌++◌}
use Rattle.workload_file.specs.declared.workload.Workload.{Workload}
use Rattle.workload_orders.specs.declared.listed.Report.{Report}
use Rattle.workload_orders.specs.declared.listed.Deadlock.{Deadlock}
use Rattle.begun_runs.specs.Begun.{Stuck}
use Rattle.workload_orders.specs.Shown.{Shows, AllShow, HasHistory, AllHaveHistories, AllAreStuck}

pub shown_push : (load : Workload) (rs : List Report) (r : Report) → AllShow load rs → Shows load r → AllShow load (rs ++ r ∷ [])
shown_push load [] r h s = (s, tt)
shown_push load (x ∷ rs) r h s = (h.0, shown_push load rs r h.1 s)

pub histories_push : (load : Workload) (ds : List Deadlock) (d : Deadlock) → AllHaveHistories load ds → HasHistory load d
    → AllHaveHistories load (ds ++ d ∷ [])
histories_push load [] d h s = (s, tt)
histories_push load (x ∷ ds) d h s = (h.0, histories_push load ds d h.1 s)

pub stuck_push : (load : Workload) (ds : List Deadlock) (d : Deadlock) → AllAreStuck load ds
    → Stuck load d.journal.layout d.journal.entries.entries d.journal.entries.skipped → AllAreStuck load (ds ++ d ∷ [])
stuck_push load [] d h s = (s, tt)
stuck_push load (x ∷ rs) d h s = (h.0, stuck_push load rs d h.1 s)
