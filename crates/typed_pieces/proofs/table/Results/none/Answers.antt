use Rattle.typed_pieces.proofs.Places.{kept_none}
use Rattle.typed_pieces.proofs.table.Results.none.Goals as goal

pub invariant_of-result-clause-kept : goal.invariant_of-result-clause-kept
invariant_of-result-clause-kept g c = kept_none g.J.Piece.promise _ _ _ c.in_ok-done.ensures
