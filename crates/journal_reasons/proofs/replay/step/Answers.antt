use Rattle.journal_reasons.proofs.Replays.{after_one}
use Rattle.journal_reasons.proofs.replay.step.Goals as goal

pub returns-in-Pick-Picked : goal.returns-in-Pick-Picked
returns-in-Pick-Picked c = after_one _ _ _ _ c.requires.stands c.pick_toward.ensures.stands

pub returns : goal.returns
returns c = after_one _ _ _ _ c.requires.stands c.step.ensures.stands
