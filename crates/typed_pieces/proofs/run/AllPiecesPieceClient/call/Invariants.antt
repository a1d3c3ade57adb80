use Rattle.typed_pieces.proofs.Names.{SameNodeSeat, SeatGoesOn, HasStarted}
use Rattle.typed_pieces.proofs.run.AllPiecesPieceClient.call.Given as goal

abbrev pub invariant-loop-place : goal.invariant-loop-place
invariant-loop-place g l = SameNodeSeat l.fn.caller l.caller × SeatGoesOn l.fn.caller l.caller × HasStarted l.group l.place l.fn.caller l.caller
