use Rattle.std.proofs.Common.{ap, ◌%◌, ◌/◌, arith}
use Rattle.handle_pool.proofs.PlaceLemmas.{live_in, get-taken, live-positive, HasValue-live, IsSound-retire, IsSound-vacate, without-retire, without-vacate}
use Rattle.handle_pool.proofs.Pool.take.Goals as goal

pub overflow_sub-self : goal.overflow_sub-self
overflow_sub-self g c =
    let found = live_in _ _ c.args.handle _ c.self.view_is c.requires in
    live-positive _ _ _ _ _ _ _ _ c.self.invariant found.1

pub invariant_of-self : goal.invariant_of-self
invariant_of-self g c =
    let found = live_in _ _ c.args.handle _ c.self.view_is c.requires in
    rw c.vacate-value.ensures.now (IsSound-retire _ _ _ _ _ _ _ _ c.self.invariant found.1)

pub returns-then-generation-self-clause-value : goal.returns-then-generation-self-clause-value
returns-then-generation-self-clause-value g c =
    let found = live_in _ _ c.args.handle _ c.self.view_is c.requires in
    rw (← c.self.view_is) (get-taken c.self.inside.places c.self.inside.generations (c.args.handle % 4294967296)
    (c.args.handle / 4294967296) _ _ _ found.1 c.vacate-value.ensures.was.1)

pub returns-then-generation-self-clause-removed : goal.returns-then-generation-self-clause-removed
returns-then-generation-self-clause-removed g c =
    rw (← c.self.view_is, c.vacate-value.ensures.now)
    (ap (λ slots. record { generations = c.self.inside.generations; slots = slots }) (without-retire c.self.inside.places _ _ _ c.if-generation-self.true))

pub overflow_add-freed : goal.overflow_add-freed
overflow_add-freed g c =
    let found = live_in _ _ c.args.handle _ c.self.view_is c.requires in
    omega (arith, c.self.invariant.generated _ _ found.1, c.self.invariant.top)

pub vacate-value-requires-2 : goal.vacate-value-requires-2
vacate-value-requires-2 g c =
    let found = live_in _ _ c.args.handle _ c.self.view_is c.requires in
    HasValue-live c.self.inside.places (c.args.handle % 4294967296) (c.args.handle / 4294967296) found.0 found.1

pub overflow_sub-self-2 : goal.overflow_sub-self-2
overflow_sub-self-2 g c =
    let found = live_in _ _ c.args.handle _ c.self.view_is c.requires in
    live-positive _ _ _ _ _ _ _ _ c.self.invariant found.1

pub invariant_of-self-2 : goal.invariant_of-self-2
invariant_of-self-2 g c =
    let found = live_in _ _ c.args.handle _ c.self.view_is c.requires in
    rw c.vacate-value-2.ensures.now (IsSound-vacate _ _ _ _ _ _ _ _ c.self.invariant found.1 (omega (arith, c.self.invariant.generated _ _ found.1)))

pub returns-clause-value : goal.returns-clause-value
returns-clause-value g c =
    let found = live_in _ _ c.args.handle _ c.self.view_is c.requires in
    rw (← c.self.view_is) (get-taken c.self.inside.places c.self.inside.generations (c.args.handle % 4294967296)
    (c.args.handle / 4294967296) _ _ _ found.1 c.vacate-value-2.ensures.was.1)

pub returns-clause-removed : goal.returns-clause-removed
returns-clause-removed g c =
    rw (← c.self.view_is, c.vacate-value-2.ensures.now)
    (ap (λ slots. record { generations = c.self.inside.generations; slots = slots })
    (without-vacate c.self.inside.places _ _ _ c.self.inside.next c.if-generation-self.false))
