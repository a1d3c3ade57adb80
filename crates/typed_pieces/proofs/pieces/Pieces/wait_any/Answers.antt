use Rattle.typed_pieces.proofs.Told.{waited, waited_named}
use Rattle.typed_pieces.proofs.pieces.Pieces.wait_any.Goals as goal

pub returns-clause-called : goal.returns-clause-called
returns-clause-called g c =
    waited_named _ _ _ _ _ _ _ (waited _ _ _ _ _ _ c.group_wait_any.ensures c.place_alone-place.ensures) c.named.ensures.same
