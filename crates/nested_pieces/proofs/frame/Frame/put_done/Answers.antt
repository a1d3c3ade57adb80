use Rattle.typed_pieces.proofs.Names.{◌∙◌, length-set, refl}
use Rattle.nested_pieces.proofs.Kept.{put_kept}
use Rattle.nested_pieces.specs.Works.{Came}
use Rattle.nested_pieces.proofs.frame.Frame.put_done.Goals as goal

pub invariant_of-self-clause-kept : goal.invariant_of-self-clause-kept
invariant_of-self-clause-kept g c = put_kept (Came g.P.Split.promise g.P.Split.joined) _ _ _ _ _ refl c.requires c.args.self.now.kept

pub invariant_of-self-clause-places : goal.invariant_of-self-clause-places
invariant_of-self-clause-places g c = length-set _ _ _ ∙ c.args.self.now.places
