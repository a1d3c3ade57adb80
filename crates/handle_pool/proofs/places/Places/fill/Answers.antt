use Rattle.handle_pool.proofs.Names.{sym, ap, length, ◌∙◌, ◌<◌, arith, set-append_left, length_push, Live}
use Rattle.handle_pool.proofs.FreshLemmas.{free_below, get-fresh, set-fresh, length-made}
use Rattle.handle_pool.proofs.places.Places.fill.Goals as goal

pub returns-then-place-self-clause-now : goal.returns-then-place-self-clause-now
returns-then-place-self-clause-now g c =
    let within : c.args.place < length c.self.inside.row.items = omega (arith, c.if-place-self.true, c.self.invariant.0) in
    rw (← c.self.view_is, c.refill.ensures.now, c.items_mut.ensures.items) (sym (set-append_left _ _ _ _ within))

pub make-requires : goal.make-requires
make-requires g c =
    let p = c.self.inside in
    let below = free_below p.row.items p.made p.count c.args.place c.self.invariant.0 c.self.invariant.1 (rw (← c.self.view_is) at c.requires) in
    (c.self.invariant.0, c.if-place-self.false, omega (arith, below, c.self.invariant.2), omega (arith, below, c.self.invariant.4))

pub push-requires : goal.push-requires
push-requires g c =
    let p = c.self.inside in
    let below = free_below p.row.items p.made p.count c.args.place c.self.invariant.0 c.self.invariant.1 (rw (← c.self.view_is) at c.requires) in (
      sym (ap length c.make.ensures.0 ∙ length-made p.row.items p.made c.args.place c.self.invariant.0 c.if-place-self.false),
      omega
          (arith, below, c.make.ensures.1, c.self.invariant.2),
    )

pub overflow_add-self : goal.overflow_add-self
overflow_add-self g c =
    omega (arith, free_below _ _ _ _ c.self.invariant.0 c.self.invariant.1 (rw (← c.self.view_is) at c.requires), c.self.invariant.4)

pub overflow_cast-result : goal.overflow_cast-result
overflow_cast-result g c =
    omega (arith, free_below _ _ _ _ c.self.invariant.0 c.self.invariant.1 (rw (← c.self.view_is) at c.requires), c.self.invariant.4)

pub overflow_add-result : goal.overflow_add-result
overflow_add-result g c =
    omega (arith, free_below _ _ _ _ c.self.invariant.0 c.self.invariant.1 (rw (← c.self.view_is) at c.requires), c.self.invariant.4)

pub invariant_of-self-2 : goal.invariant_of-self-2
invariant_of-self-2 g c =
    let p = c.self.inside in
    let below = free_below p.row.items p.made p.count c.args.place c.self.invariant.0 c.self.invariant.1 (rw (← c.self.view_is) at c.requires) in
    let made = ap length c.make.ensures.0 ∙ length-made p.row.items p.made c.args.place c.self.invariant.0 c.if-place-self.false in
    let count = ap length c.push.ensures.0 ∙ length_push c.make.new.row.items _ in
    (omega (arith, made, count), omega (arith, below), c.self.invariant.2 ∙ sym (c.push.ensures.1 ∙ c.make.ensures.1), c.self.invariant.3, c.self.invariant.4)

pub returns-clause-was : goal.returns-clause-was
returns-clause-was g c =
    let p = c.self.inside in
    let below = free_below p.row.items p.made p.count c.args.place c.self.invariant.0 c.self.invariant.1 (rw (← c.self.view_is) at c.requires) in
    rw (← c.self.view_is) (get-fresh p.row.items p.made p.count c.args.place c.self.invariant.0 c.if-place-self.false below)

pub returns-clause-now : goal.returns-clause-now
returns-clause-now g c =
    let p = c.self.inside in
    let below = free_below p.row.items p.made p.count c.args.place c.self.invariant.0 c.self.invariant.1 (rw (← c.self.view_is) at c.requires) in
    rw (← c.self.view_is, c.push.ensures.0, c.make.ensures.0)
    (set-fresh p.row.items p.made p.count c.args.place (Live 1 c.args.value) c.self.invariant.0 c.if-place-self.false below)
