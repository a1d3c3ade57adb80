use Rattle.typed_pieces.proofs.Names.{◌-◌, [], ◌∷◌, AreOpen, AreLevelsCounted}
use Rattle.typed_pieces.proofs.SplitRuns.{Ran}
use Rattle.typed_pieces.proofs.split_run.run_down.Given as goal

abbrev pub invariant-down : goal.invariant-down
invariant-down g l =
    AreOpen g.P.Split.promise g.P.Split.joined (l.fn.root ∷ []) l.opened.items l.pieces.items
    × Ran l.fn.settings l.fn.most l.before l.levels.items
    × AreLevelsCounted l.levels.items l.opened.items

abbrev pub decreases-down : goal.decreases-down
decreases-down g l = l.fn.most - l.before
