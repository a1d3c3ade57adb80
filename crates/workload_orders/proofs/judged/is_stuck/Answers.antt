use Rattle.std.proofs.Common.{rules, List, refl, subst}
use Rattle.std.proofs.lemmas.Result.{IfOk-weaker}
use Rattle.mtapi_machine.specs.Legal.{NodeEntry}
use Rattle.node_journals.specs.declared.entries.Journal.{Journal}
use Rattle.begun_runs.specs.Halts.{Halts}
use Rattle.workload_orders.proofs.Stuck.{stuck_if}
use Rattle.workload_orders.proofs.judged.is_stuck.Goals as goal

pub returns : goal.returns
returns c =
    let looks = c.in_ok-probes.probes.looks.items in
    let refused = c.in_ok-probes.probes.refused.items in
    let longer : Journal = record {
      layout = c.args.stop.now.journal.layout;
      settings = c.args.stop.now.journal.settings;
      callers = c.args.stop.now.journal.callers;
      entries = c.in_ok-with_probes.field-0;
    } in
    let halts : Halts c.args.load.now c.args.stop.now.journal.entries.entries looks refused =
    subst (λ (es : List NodeEntry). Halts c.args.load.now es looks refused) (search rules) (c.in_ok-halts.ensures (search rules)) in
    IfOk-weaker c.is_legal.result _ _ (λ b legal yes.
    stuck_if c.args.load.now c.args.stop.now longer looks refused c.requires.history refl refl refl (search rules) (legal yes) halts) c.is_legal.ensures
