use Rattle.handle_pool.proofs.Names.{refl, ◌∙◌, ◌%◌, ◌/◌, map-set}
use Rattle.handle_pool.proofs.PlaceLemmas.{live_in, get-live, IsSound-rewrite, with_value-same, same_value}
use Rattle.handle_pool.proofs.Pool.value_mut.Goals as goal

pub invariant_of-self-lent : goal.invariant_of-self-lent
invariant_of-self-lent g c w =
    let found = live_in _ _ c.args.handle _ c.self.view_is c.requires in
    rw found.1 (IsSound-rewrite _ _ _ _ _ _ _ _ w c.self.invariant found.1)

pub returns : goal.returns
returns g c =
    let found = live_in _ _ c.args.handle _ c.self.view_is c.requires in
    let value = same_value c.self.inside.places (c.args.handle % 4294967296) _ _ found.0 c.value_mut.result.now found.1 c.value_mut.ensures.value.1 in (
      (refl, λ w. rw (← c.self.view_is, found.1, map-set)),
      record {
        writes_back = tt;
        same = rw (← c.self.view_is)
            (with_value-same c.self.inside.places c.self.inside.generations c.args.handle found.0 c.value_mut.result.now found.1 value);
        value =
            rw (← c.self.view_is) (get-live c.self.inside.places c.self.inside.generations (c.args.handle % 4294967296)
            (c.args.handle / 4294967296) found.0 found.1 ∙ value);
      },
    )
