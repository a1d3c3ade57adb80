use Rattle.typed_pieces.proofs.Names.{rules}
use Rattle.typed_pieces.proofs.Levels.{rises, risen}
use Rattle.typed_pieces.proofs.level.results_up.Goals as goal

pub loop-level-init : goal.loop-level-init
loop-level-init g c = λ pieces opened. (_, opened, search rules)

pub loop-level-preserved : goal.loop-level-preserved
loop-level-preserved g c =
    λ pieces opened. rises _ _ _ _ _ c.in-Some.level _ _ (search rules) c.in_ok-results.ensures (c.loop-level.invariant pieces opened)

pub returns : goal.returns
returns g c = λ pieces opened. risen _ _ _ _ _ (search rules) (c.loop-level.invariant pieces opened)
