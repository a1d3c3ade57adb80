use Rattle.typed_pieces.proofs.node.with_pieces_callers.Given as goal

abbrev pub ghosts-with_handed : goal.ghosts-with_handed
ghosts-with_handed g a = record { pieces = a.pieces.items }
