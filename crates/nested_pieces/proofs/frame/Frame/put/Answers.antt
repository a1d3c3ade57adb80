use Rattle.typed_pieces.proofs.Names.{subst, sym}
use Rattle.typed_pieces.specs.Places.{IsKeptAt}
use Rattle.nested_pieces.specs.Works.{Came}
use Rattle.nested_pieces.proofs.frame.Frame.put.Goals as goal

pub put_done-requires : goal.put_done-requires
put_done-requires g c =
    subst (λ v. ∥ IsKeptAt (Came g.P.Split.promise g.P.Split.joined) v.value.items c.args.ended.place.index c.args.ended.done ∥₁)
    (sym c.agrees.ensures) c.args.ended.kept
