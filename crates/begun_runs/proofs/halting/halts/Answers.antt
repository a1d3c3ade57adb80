use Rattle.std.proofs.Common.{rules, ◌≡◌, ◌∷◌, List, sym, subst}
use Rattle.std.specs.Prelude.{drop}
use Rattle.std.proofs.lemmas.Result.{IfOk-weaker}
use Rattle.mtapi_machine.specs.Legal.{NodeEntry}
use Rattle.begun_runs.specs.Halts.{WorkerHalts}
use Rattle.begun_runs.proofs.Tests.{all_but_first, callers_at, halts_all, main_at}
use Rattle.begun_runs.proofs.halting.halts.Goals as goal

pub returns : goal.returns
returns c = IfOk-weaker c.callers_halt.result _ _ (λ b calls yes.
    halts_all c.args.load.now c.args.entries.now c.args.probes.now.looks.items c.args.probes.now.refused.items c.first-item.result
    (drop 1 c.as_slice.result.now)
    (search rules)
    (search rules)
    (search rules)
    (λ w l. subst (λ (looks : List NodeEntry). WorkerHalts looks w) (search rules) (c.workers_halt.ensures (search rules) w (search rules)))
    (main_at _ _ _ _ _ _ _ _ _ c.workers-main.ensures.value c.as_slice-2.ensures (all_but_first c.as_slice.result.now)
    (c.in_ok-main_halts.ensures (search rules)))
    (callers_at _ _ _ _ _ _ _ c.deref-2.ensures.value c.workers-main.ensures.value (all_but_first c.as_slice.result.now) (calls yes))) c.callers_halt.ensures
