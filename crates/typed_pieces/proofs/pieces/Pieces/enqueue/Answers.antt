use Rattle.typed_pieces.proofs.Told.{called_named}
use Rattle.typed_pieces.proofs.pieces.Pieces.enqueue.Goals as goal

pub returns-clause-called : goal.returns-clause-called
returns-clause-called g c = called_named _ _ _ _ _ _ c.enqueue_place-enqueued.ensures c.named.ensures.same
