use Rattle.group_core.proofs.Names.{◌≡◌, refl, sym, ap, subst, false≢true, Slots, IsFull, Inserts, GroupTable, AreGroups, members_in, no_members, group_table_of}
use Rattle.group_core.proofs.GroupLemmas.{AreGroups-create, Inserts-members, IsFull-members}
use Rattle.group_core.proofs.Groups.create.Goals as goal

pub invariant_of-self : goal.invariant_of-self
invariant_of-self c =
    let P : Slots (Unit {0}) → Type 0 = λ p. AreGroups p c.self.inside.unended c.self.inside.ended in
    subst P (sym c.in_default.ensures.unchanged) c.self.invariant

pub returns-in_default : goal.returns-in_default
returns-in_default c =
    let P : Slots (Unit {0}) → Type 0 = λ p. group_table_of p c.self.inside.unended c.self.inside.ended ≡ c.args.self.now in
    let Q : GroupTable → Type 0 = λ o. IsFull o.pool in (
      subst Q c.self.view_is ((IsFull-members c.self.inside.pool c.self.inside.unended c.self.inside.ended).1 (c.in_default.ensures.full.0 refl)),
      subst P
          (sym c.in_default.ensures.unchanged) c.self.view_is,
    )

pub invariant_of-self-2 : goal.invariant_of-self-2
invariant_of-self-2 c = AreGroups-create c.self.inside.pool c.self.inside.unended c.self.inside.ended c.insert.new.self c.in-Ok.handle c.in-Ok.ensures.inserts
    c.self.invariant

pub returns : goal.returns
returns c =
    let new = members_in c.insert.new.self c.self.inside.unended c.self.inside.ended in
    let P : GroupTable → Type 0 = λ o. Inserts o.pool new c.in-Ok.handle no_members in
    let inserted = Inserts-members c.self.inside.pool c.self.inside.unended c.self.inside.ended c.insert.new.self c.in-Ok.handle c.in-Ok.ensures.inserts
    c.self.invariant in
    let Q : GroupTable → Type 0 = λ o. IsFull o.pool in
    let room : IsFull c.args.self.now.pool → ⊥ =
    λ full. false≢true (c.in-Ok.ensures.full.1
    ((IsFull-members c.self.inside.pool c.self.inside.unended c.self.inside.ended).0 (subst Q (sym c.self.view_is) full))) in
    (room, subst P c.self.view_is inserted, ap (λ (t : GroupTable). t.tasks) c.self.view_is)
