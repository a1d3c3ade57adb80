use Rattle.turn_cell.proofs.Names.{◌≡◌, List, [], ◌++◌, vec_len, AllItems, SeatView, Gathers}
use Rattle.turn_cell.proofs.cell.TurnCell.gather.Given as goal

abbrev pub invariant-loop-next : goal.invariant-loop-next
invariant-loop-next g l = record {
  own : l.token.table_id ≡ l.fn.self.id;
  free : l.token.me.1 ≡ [];
  cells : AllItems (λ f. f.cell ≡ l.fn.self.id) l.seats.items;
  parts : (popped : List (SeatView g.row.O-Terms.Denot g.row.O-Op.Denot g.row.O-Reply.Denot)) × (l.fn.seats.items ≡ l.seats.items ++ popped)
      × Gathers popped l.token.me.0;
}

abbrev pub decreases-loop-next : goal.decreases-loop-next
decreases-loop-next g l = vec_len l.seats
