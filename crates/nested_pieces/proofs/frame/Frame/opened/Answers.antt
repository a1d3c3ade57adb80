use Rattle.typed_pieces.proofs.Names.{same_Some, subst, sym}
use Rattle.typed_pieces.proofs.Places.{from_all, kept_none}
use Rattle.nested_pieces.specs.Joins.{JoinsAt}
use Rattle.nested_pieces.specs.Works.{Came}
use Rattle.nested_pieces.proofs.frame.Frame.opened.Goals as goal

pub invariant_of-result-clause-from : goal.invariant_of-result-clause-from
invariant_of-result-clause-from g c = from_all _ _ _ c.requires.parts c.in_ok-waiting.ensures

pub invariant_of-result-clause-kept : goal.invariant_of-result-clause-kept
invariant_of-result-clause-kept g c = kept_none (Came g.P.Split.promise g.P.Split.joined) _ _ _ c.in_ok-done.ensures

pub invariant_of-result-clause-joins : goal.invariant_of-result-clause-joins
invariant_of-result-clause-joins g c u e =
    subst (λ v. ∥ JoinsAt g.P.Split.promise g.P.Split.joined v.place.parts.value.value.items v.place.index c.args.token.value.value.items v.join ∥₁)
    (same_Some _ u e)
    (subst (λ l. ∥ JoinsAt g.P.Split.promise g.P.Split.joined c.args.opening.place.parts.value.value.items c.args.opening.place.index l c.args.opening.join ∥₁)
    (sym c.requires.parts) c.args.opening.joins)
