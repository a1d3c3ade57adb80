use Rattle.std.proofs.Common.{Some, ap, sym, ◌∙◌}
use Rattle.turn_cell.proofs.OnePart.{one_slot}
use Rattle.turn_cell.proofs.cell.TurnCell.take.Goals as goal

pub exchange-requires : goal.exchange-requires
exchange-requires g c = let t = c.requires.took in
    (c.requires.own ∙ sym (ap (λ w. w.id) c.self.view_is), (Some t.1, one_slot c.args.token.now.me.1 0 (Some t.1) (λ i. (t.2.after i).1)))
