use Rattle.typed_pieces.proofs.Places.{all_ready, from_all}
use Rattle.typed_pieces.proofs.table.Table.new.Goals as goal

pub invariant_of-result : goal.invariant_of-result
invariant_of-result g c = record {
  from = from_all _ _ _ c.requires.named c.in_ok-waiting.ensures;
  ready = all_ready g.J.Piece.ready _ _ c.requires.named c.requires.ready;
}
