use Rattle.history_law.proofs.Affinity.{obeys_masks}
use Rattle.history_law.proofs.law_affinity.Goals as goal

pub returns : goal.returns
returns c P R w t a k args cut place = obeys_masks _ _ c.args.place c.requires P R w t a k args cut place
