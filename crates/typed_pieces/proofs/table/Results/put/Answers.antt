use Rattle.typed_pieces.proofs.Names.{◌∙◌, length-set}
use Rattle.typed_pieces.proofs.Places.{merely_kept_set}
use Rattle.typed_pieces.proofs.table.Results.put.Goals as goal

pub invariant_of-self-clause-kept : goal.invariant_of-self-clause-kept
invariant_of-self-clause-kept g c =
    merely_kept_set g.J.Piece.promise g.L.Handed.pieces _ _ _ c.requires c.args.self.now.kept

pub invariant_of-self-clause-places : goal.invariant_of-self-clause-places
invariant_of-self-clause-places g c = length-set _ _ _ ∙ c.args.self.now.places
