use Rattle.typed_pieces.proofs.Names.{List, [], vec_len, AllKept, AreOpen}
use Rattle.typed_pieces.proofs.level.results_up.Given as goal

abbrev pub invariant-loop-level : goal.invariant-loop-level
invariant-loop-level g l =
    (pieces : List _) → AreOpen g.P.Split.promise g.P.Split.joined pieces l.fn.levels.items []
    → (own : List _) × AreOpen g.P.Split.promise g.P.Split.joined pieces l.levels.items own × AllKept g.P.Split.promise own l.results.items

abbrev pub decreases-loop-level : goal.decreases-loop-level
decreases-loop-level g l = vec_len l.levels
