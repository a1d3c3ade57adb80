use Rattle.turn_cell.proofs.Names.{◌≡◌, false, [], ◌∷◌, Part, after_draw}
use Rattle.turn_cell.proofs.cell.TurnCell.draw.Given as goal

-- the seat is as a draw that was shown the word `shown` left it
abbrev pub invariant-loop : goal.invariant-loop
invariant-loop g l = record {
  own : l.token.table_id ≡ l.initial.token.table_id;
  shown : (p : Part g.row.O-Terms.Denot g.row.O-Op.Denot g.row.O-Reply.Denot) → l.initial.token.me ≡ (p ∷ [], [])
      → l.token.me ≡ (after_draw p l.shown false ∷ [], []);
}
