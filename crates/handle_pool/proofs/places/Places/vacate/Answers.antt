use Rattle.handle_pool.proofs.Names.{sym, ◌-◌, set-append_left}
use Rattle.handle_pool.proofs.FreshLemmas.{value_below}
use Rattle.handle_pool.proofs.places.Places.vacate.Goals as goal

pub exchange-requires : goal.exchange-requires
exchange-requires g c =
    let p = c.self.inside in
    rw c.items_mut.ensures.items (value_below p.row.items p.made (p.count - p.made) c.args.place (rw (← c.self.view_is) at c.requires))

pub returns-clause-now : goal.returns-clause-now
returns-clause-now g c =
    let p = c.self.inside in
    let within = value_below p.row.items p.made (p.count - p.made) c.args.place (rw (← c.self.view_is) at c.requires) in
    rw (← c.self.view_is, c.exchange.ensures.now, c.items_mut.ensures.items) (sym (set-append_left p.row.items _ c.args.place _ within))
