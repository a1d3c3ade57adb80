use Rattle.std.proofs.Common.{refl, sym, ap, ◌∙◌, vec_len, vec_capacity}
use Rattle.std.specs.Fn.{FnOnceReturnsAtMut}
use Rattle.std.specs.Option.{option_copied_mut}
use Rattle.keyed_pool.proofs.IndexLemmas.{IsIndexed-with_value}
use Rattle.keyed_pool.proofs.KeyedPool.update.Goals as goal
use Rattle.keyed_pool.proofs.KeyedPool.update.Goals.{in-Some, in-None}

pub invariant_of-self : goal.invariant_of-self
invariant_of-self g c = elim c.match-get_mut.branch [
  | in-None w ↦ rw w.self-inside-is c.self.invariant
  | in-Some w ↦
      let p = c.self.inside.pool in
      let entries = c.self.inside.entries in
      let found = sym c.get_mut.ensures.value ∙ ap option_copied_mut w.in-Some.is in
      let gave : FnOnceReturnsAtMut g.F.FnOnce c.args.change w.in-Some.value.now w.change.result w.change.new.arg2 =
      record { shown = _; shows = refl; left = _; met = w.change.ensures; leaves = refl } in
      rw w.self-inside-is (IsIndexed-with_value g.T.HasId.id_of p entries.items (vec_len entries)
      (vec_capacity entries) c.self.invariant c.args.handle w.in-Some.value.now w.change.new.arg2 found
      (c.requires.keeps_id _ _ _ (rw (← c.self.view_is) found) gave))
]

pub returns : goal.returns
returns g c = elim c.match-get_mut.branch [
  | in-None w ↦
      let dead = sym c.get_mut.ensures.value ∙ ap option_copied_mut w.in-None.is in
      rw (w.result-is, w.self-inside-is, ← c.self.view_is) (dead, refl)
  | in-Some w ↦
      let found = sym c.get_mut.ensures.value ∙ ap option_copied_mut w.in-Some.is in
      let gave : FnOnceReturnsAtMut g.F.FnOnce c.args.change w.in-Some.value.now w.change.result w.change.new.arg2 =
      record { shown = _; shows = refl; left = _; met = w.change.ensures; leaves = refl } in
      rw (w.result-is, w.self-inside-is, ← c.self.view_is) (w.in-Some.value.now, w.change.new.arg2, found, w.in-Some.ensures.same, gave, refl)
]
