-- What the journal of a run is.
use Rattle.std.specs.Prelude.{◌≡◌, List, length}
use Rattle.workload_runners.specs.Names.{terms_with, opening, NodeEntry, Legal, KeptAs, RunBy}
use Rattle.workload_file.specs.declared.workload.Workload.{Workload}
use Rattle.mtapi_values.specs.declared.handles.Layout.TheVariants.{Two}
use Rattle.mtapi_machine.specs.declared.terms.Terms.{Terms}
use Rattle.node_journals.specs.declared.entries.Journal.{Journal}
use Rattle.workload_runs.specs.RunOf.{RunOf}
use Rattle.history_law.specs.Accepted.{TasksEndOnce}

-- the terms of a run: the workload's settings, and one caller for each part
abbrev pub terms_for : Workload → Terms
terms_for load = terms_with Two load.settings (length load.parts)

-- The journal is that of a run of the workload.
pub record IsRun (load : Workload) (j : Journal) : Type 0 where
  -- it was made with the workload's settings, one caller for each part, and handles of layout two
  pub settings : j.settings ≡ load.settings
  pub callers : j.callers ≡ length load.parts
  pub layout : j.layout ≡ Two
  -- it has a number beside each entry
  pub beside : length j.entries.entries ≡ length j.entries.skipped
  -- all calls made one history, and each was answered as the one-thread machine allows
  pub history : List NodeEntry
  pub answered : Legal (terms_for load) history
  -- they are each caller's calls once, in that caller's order, and the workers' rounds
  pub made : RunBy load (opening (terms_for load)) history
  -- the journal is what is kept of that history
  pub kept : KeptAs (terms_for load) j history
  -- it is by itself a legal history of the one-thread machine
  pub legal : Legal (terms_for load) j.entries.entries
  -- it holds each caller's calls once, in that caller's order
  pub run : RunOf load j.entries.entries j.entries.skipped
  -- every accepted task stands in exactly one of completed, cancelled and error, for good
  pub tasks : TasksEndOnce (terms_for load) j.entries.entries
