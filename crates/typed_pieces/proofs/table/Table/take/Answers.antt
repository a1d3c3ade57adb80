use Rattle.typed_pieces.proofs.Names.{◌≡◌, ◌∙◌, Some, ap, sym, length, rules, slice_get_read}
use Rattle.typed_pieces.proofs.Places.{taken_ready}
use Rattle.typed_pieces.proofs.table.Table.take.Goals as goal

pub returns-then-place-len-clause-ready : goal.returns-then-place-len-clause-ready
returns-then-place-len-clause-ready g c =
    let long : c.len.result ≡ length c.args.self.now.waiting.items = search rules in
    taken_ready g.J.Piece.ready g.L.Handed.pieces _ _ _ c.args.self.now.from
    (slice_get_read _ c.len.result _ _ long c.if-place-len.true c.index_mut.ensures.value ∙ ap Some (sym c.take.ensures.value))
    c.args.self.now.ready
