use Rattle.typed_pieces.proofs.Names.{Some, ap, length, length-map, sym, ◌∙◌}
use Rattle.nested_pieces.proofs.Works.{came_joined}
use Rattle.nested_pieces.proofs.frame.Frame.joined.Goals as goal

pub invariant_of-result : goal.invariant_of-result
invariant_of-result g c = record {
  kept =
      came_joined g.P.Split.promise g.P.Split.joined c.in-Some.field-0.place.parts.value.value.items c.in-Some.field-0.place.index _ _ _ _ _ _ _
      (c.args.self.joins _ c.in-Some.is) c.args.self.kept c.args.self.places
      c.in-Ok.ensures.there (sym (length-map c.in-Ok.all.items Some)
      ∙ ap length c.in-Ok.ensures.there) c.in_ok-results.ensures.results c.in_ok-results.ensures.pieces c.join.ensures;
}
