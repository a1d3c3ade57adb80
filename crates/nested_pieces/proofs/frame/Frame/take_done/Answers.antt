use Rattle.typed_pieces.proofs.Names.{◌≡◌, ◌∙◌, Some, ap, sym, length, rules, length-set, slice_get_read}
use Rattle.typed_pieces.proofs.Places.{merely_kept_clear, taken_kept}
use Rattle.nested_pieces.specs.Works.{Came}
use Rattle.nested_pieces.proofs.frame.Frame.take_done.Goals as goal

pub invariant_of-self-clause-kept : goal.invariant_of-self-clause-kept
invariant_of-self-clause-kept g c = merely_kept_clear (Came g.P.Split.promise g.P.Split.joined) _ _ _ _ c.take.ensures.after c.args.self.now.kept

pub invariant_of-self-clause-places : goal.invariant_of-self-clause-places
invariant_of-self-clause-places g c = length-set _ _ _ ∙ c.args.self.now.places

pub returns-then-index-len : goal.returns-then-index-len
returns-then-index-len g c =
    let long : c.len.result ≡ length c.args.self.now.done.items = search rules in
    taken_kept (Came g.P.Split.promise g.P.Split.joined) _ _ _ _
    (slice_get_read _ c.len.result _ _ long c.if-index-len.true c.index_mut.ensures.value ∙ ap Some (sym c.take.ensures.value))
    c.args.self.now.kept
