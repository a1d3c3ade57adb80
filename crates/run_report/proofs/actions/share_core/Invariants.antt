use Rattle.run_report.proofs.Names.{◌≡◌, false, ◌&&◌, in_mask, some_below}
use Rattle.run_report.proofs.actions.share_core.Given as goal

abbrev pub invariant-loop-core : goal.invariant-loop-core
invariant-loop-core l = some_below l.core (λ w. in_mask w l.a.0 && in_mask w l.b.0) ≡ false
