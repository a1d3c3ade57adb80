use Rattle.typed_pieces.proofs.Told.{called_named}
use Rattle.typed_pieces.proofs.pieces.Pieces.start.Goals as goal

pub returns-clause-called : goal.returns-clause-called
returns-clause-called g c = called_named _ _ _ _ _ _ c.start_place-started.ensures c.named.ensures.same
