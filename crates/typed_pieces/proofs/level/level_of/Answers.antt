use Rattle.typed_pieces.proofs.Names.{rules}
use Rattle.typed_pieces.proofs.Levels.{running_all, running_more, running_none}
use Rattle.typed_pieces.proofs.level.level_of.Goals as goal

pub loop-outcome-init : goal.loop-outcome-init
loop-outcome-init g c = λ pieces kept. running_none _ _ _ _ _ _ _ (search rules) (search rules) (search rules) kept

pub loop-outcome-preserved : goal.loop-outcome-preserved
loop-outcome-preserved g c =
    λ pieces kept. running_more _ _ _ _ _ _ _ _ _ _ c.in_ok-add.ensures.pending c.in_ok-add.ensures.parts (search rules) (c.loop-outcome.invariant pieces kept)

pub returns : goal.returns
returns g c = λ pieces kept. running_all _ _ _ _ _ _ (search (rules, c.loop-outcome.outcome-iterator.rest.ok.0)) (c.loop-outcome.invariant pieces kept)
