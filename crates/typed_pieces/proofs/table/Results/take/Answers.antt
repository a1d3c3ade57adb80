use Rattle.typed_pieces.proofs.Names.{◌≡◌, ◌∙◌, Some, ap, sym, length, rules, length-set, slice_get_read}
use Rattle.typed_pieces.proofs.Places.{merely_kept_clear, taken_kept}
use Rattle.typed_pieces.proofs.table.Results.take.Goals as goal

pub invariant_of-self-clause-kept : goal.invariant_of-self-clause-kept
invariant_of-self-clause-kept g c =
    merely_kept_clear g.J.Piece.promise g.L.Handed.pieces _ _ _ c.take.ensures.after c.args.self.now.kept

pub invariant_of-self-clause-places : goal.invariant_of-self-clause-places
invariant_of-self-clause-places g c = length-set _ _ _ ∙ c.args.self.now.places

pub returns-then-place-len : goal.returns-then-place-len
returns-then-place-len g c =
    let long : c.len.result ≡ length c.args.self.now.done.items = search rules in
    taken_kept g.J.Piece.promise g.L.Handed.pieces _ _ _
    (slice_get_read _ c.len.result _ _ long c.if-place-len.true c.index_mut.ensures.value ∙ ap Some (sym c.take.ensures.value))
    c.args.self.now.kept
