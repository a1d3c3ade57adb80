use Rattle.typed_pieces.proofs.Names.{arith}
use Rattle.typed_pieces.proofs.Levels.{moved_more}
use Rattle.typed_pieces.proofs.level.first_of.Goals as goal

pub loop-preserved : goal.loop-preserved
loop-preserved g c =
    moved_more _ _ _ _ _ c.loop.counter _ (omega arith) c.loop.invariant.0 c.loop.invariant.1 c.in_ok-move_first.ensures.to c.in_ok-move_first.ensures.from
