use Rattle.turn_cell.proofs.Names.{◌≡◌, entries_of}
use Rattle.turn_cell.proofs.OnePart.{carried}
use Rattle.turn_cell.proofs.seats.TurnSeat.known.Goals as goal

pub returns : goal.returns
returns g c = let v = c.self.invariant in
    let r = carried (λ a b. g.O.Object.legal a.terms a.seen
    × (entries_of a.number a.seen ≡ a.mine)) g.O.Object.blank _ c.self.inside.token.table_id _ _ _ v.part v.part v.me_is c.self.view_is v.me_is
    (v.lawful, v.own) in
    record { legal = r.0; own = r.1 }
