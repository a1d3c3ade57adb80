use Rattle.typed_pieces.proofs.Names.{subst}
use Rattle.typed_pieces.specs.Places.{IsKeptAt}
use Rattle.nested_pieces.specs.Works.{Came}
use Rattle.nested_pieces.proofs.frame.Frame.result_at.Goals as goal

pub invariant_of-result : goal.invariant_of-result
invariant_of-result g c = record {
  kept = subst (λ v. ∥ IsKeptAt (Came g.P.Split.promise g.P.Split.joined) v.value.items c.args.place.index c.in-Some.done ∥₁) c.agrees.ensures
      c.in-Some.ensures;
}
