use Rattle.typed_pieces.proofs.Names.{◌≡◌, ◌++◌, map}
use Rattle.typed_pieces.proofs.split_run.as_pieces.Given as goal

abbrev pub invariant-loop-piece : goal.invariant-loop-piece
invariant-loop-piece g l = map (λ s. s.piece) l.pieces.items ++ l.piece-iterator.rest.items ≡ l.fn.parts.items
