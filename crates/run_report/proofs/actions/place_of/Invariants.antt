use Rattle.run_report.proofs.Names.{◌≡◌, drop, place_of_action}
use Rattle.run_report.proofs.LiveActions.{further}
use Rattle.run_report.proofs.actions.place_of.Given as goal

abbrev pub invariant-loop-i : goal.invariant-loop-i
invariant-loop-i l = further l.i (place_of_action l.handle (drop l.i l.actions)) ≡ place_of_action l.handle l.actions
