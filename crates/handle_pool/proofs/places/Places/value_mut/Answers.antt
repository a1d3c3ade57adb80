use Rattle.std.proofs.Common.{refl, ◌-◌}
use Rattle.handle_pool.proofs.FreshLemmas.{value_below, write-made, live-made}
use Rattle.handle_pool.proofs.places.Places.value_mut.Goals as goal

pub item_mut-requires : goal.item_mut-requires
item_mut-requires g c =
    let p = c.self.inside in
    value_below p.row.items p.made (p.count - p.made) c.args.place (rw (← c.self.view_is) at c.requires)

pub returns : goal.returns
returns g c =
    let es = c.self.inside.row.items in (
      (refl, λ w. rw (← c.self.view_is) (write-made es _ c.args.place _ w c.item_mut.ensures.item)),
      record { writes_back = tt; value = rw (← c.self.view_is) (live-made es _ c.args.place _ _ c.item_mut.ensures.item c.value_mut.ensures.value) },
    )
