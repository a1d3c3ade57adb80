use Rattle.group_core.proofs.Names.{◌≡◌, ℕ, List, None, Some, slice_get, refl, sym, subst, ◌∙◌, slot_of, slot_value, with_value, list_at, without_handle, with_list, without_first_unended, members_in, has-first, stands-without}
use Rattle.group_core.proofs.GroupLemmas.{live_tells, dead_tells, get-live, get-dead, within_unended, view_changed, unended-changed, without-first, AreGroups-fewer}
use Rattle.group_core.proofs.Groups.leave.Goals as goal

pub returns-then-not-is_live-clause-task : goal.returns-then-not-is_live-clause-task
returns-then-not-is_live-clause-task c =
    let dead = dead_tells c.is_live.result (slot_value c.self.inside.pool c.args.g.0) c.is_live.ensures c.if-not-is_live.true in
    rw (get-dead c.self.inside.pool c.self.inside.unended c.self.inside.ended c.args.g.0 c.args.self.now c.self.view_is dead) refl

pub returns-in_default-clause-task : goal.returns-in_default-clause-task
returns-in_default-clause-task c =
    let live = live_tells c.is_live.result (slot_value c.self.inside.pool c.args.g.0) c.is_live.ensures c.if-not-is_live.false in
    let none : slice_get (list_at c.self.inside.unended.lists (slot_of c.args.g.0)) 0 ≡ None =
    rw (← c.slot_of-slot.ensures) (sym c.first.ensures ∙ c.in_default.is) in
    rw (get-live c.self.inside.pool c.self.inside.unended c.self.inside.ended c.args.g.0 c.args.self.now c.self.view_is live, none) refl

pub returns-clause-task : goal.returns-clause-task
returns-clause-task c =
    let live = live_tells c.is_live.result (slot_value c.self.inside.pool c.args.g.0) c.is_live.ensures c.if-not-is_live.false in
    let first : slice_get (list_at c.self.inside.unended.lists (slot_of c.args.g.0)) 0 ≡ Some c.in-Some.entered =
    rw (← c.slot_of-slot.ensures) (sym c.first.ensures ∙ c.in-Some.is) in
    rw (get-live c.self.inside.pool c.self.inside.unended c.self.inside.ended c.args.g.0 c.args.self.now c.self.view_is live, first) refl

pub returns-clause-some : goal.returns-clause-some
returns-clause-some c =
    let live = live_tells c.is_live.result (slot_value c.self.inside.pool c.args.g.0) c.is_live.ensures c.if-not-is_live.false in
    let list = without_handle c.in-Some.entered (list_at c.self.inside.unended.lists (slot_of c.args.g.0)) in
    let first : slice_get (list_at c.self.inside.unended.lists (slot_of c.args.g.0)) 0 ≡ Some c.in-Some.entered =
    rw (← c.slot_of-slot.ensures) (sym c.first.ensures ∙ c.in-Some.is) in
    let P : List ℕ → Type 0 = λ l. members_in c.self.inside.pool (with_list c.self.inside.unended (slot_of c.args.g.0) list) c.self.inside.ended
    ≡ with_value (members_in c.self.inside.pool c.self.inside.unended c.self.inside.ended) c.args.g.0
    (record { unended = l; ended = list_at c.self.inside.ended.lists (slot_of c.args.g.0) }) in
    let taken = subst P (without-first c.in-Some.entered (list_at c.self.inside.unended.lists (slot_of c.args.g.0)) first)
    (unended-changed c.self.inside.pool c.self.inside.unended c.self.inside.ended c.args.g.0 c.self.invariant live list) in
    rw (c.remove.ensures.new, c.slot_of-slot.ensures)
    (view_changed c.self.inside.pool c.self.inside.unended c.self.inside.ended c.args.g.0 c.self.invariant live c.args.self.now
    (with_list c.self.inside.unended (slot_of c.args.g.0) list) c.self.inside.ended without_first_unended c.self.view_is taken refl)

pub first-requires : goal.first-requires
first-requires c =
    let live = live_tells c.is_live.result (slot_value c.self.inside.pool c.args.g.0) c.is_live.ensures c.if-not-is_live.false in
    rw c.slot_of-slot.ensures (within_unended c.self.inside.pool c.self.inside.unended c.self.inside.ended c.args.g.0 c.self.invariant live)

pub remove-requires : goal.remove-requires
remove-requires c =
    let first : slice_get (list_at c.self.inside.unended.lists (slot_of c.args.g.0)) 0 ≡ Some c.in-Some.entered =
    rw (← c.slot_of-slot.ensures) (sym c.first.ensures ∙ c.in-Some.is) in
    rw c.slot_of-slot.ensures (has-first c.in-Some.entered (list_at c.self.inside.unended.lists (slot_of c.args.g.0)) first)

pub invariant_of-self : goal.invariant_of-self
invariant_of-self c =
    let live = live_tells c.is_live.result (slot_value c.self.inside.pool c.args.g.0) c.is_live.ensures c.if-not-is_live.false in
    rw (c.remove.ensures.new, c.slot_of-slot.ensures)
    (AreGroups-fewer c.self.inside.pool c.self.inside.unended c.self.inside.ended c.args.g.0 c.self.invariant live
    (without_handle c.in-Some.entered (list_at c.self.inside.unended.lists (slot_of c.args.g.0)))
    (λ q. stands-without q c.in-Some.entered (list_at c.self.inside.unended.lists (slot_of c.args.g.0))))
