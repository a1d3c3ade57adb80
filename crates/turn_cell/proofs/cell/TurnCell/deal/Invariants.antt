use Rattle.turn_cell.proofs.Names.{◌≡◌, ◌-◌, ◌<◌, [], fresh_seats, fresh_parts}
use Rattle.turn_cell.proofs.cell.TurnCell.deal.Given as goal

abbrev pub invariant-loop-number : goal.invariant-loop-number
invariant-loop-number g l = record {
  own : l.token.table_id ≡ l.fn.self.id;
  parts : l.token.me ≡ (fresh_parts l.fn.self.terms l.number (l.fn.count - l.number), []);
  seats : l.seats.items ≡ fresh_seats l.fn.self.terms l.fn.self.id 0 l.number;
  few : l.number < l.fn.count;
}
