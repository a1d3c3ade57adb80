use Rattle.ready_index.proofs.LevelLemmas.{AreLevels-put}
use Rattle.ready_index.proofs.bitmaps.Bitmap.insert.Goals as goal

pub invariant_of-self : goal.invariant_of-self
invariant_of-self c =
    AreLevels-put _ _ _ _ _ _ c.args.number c.self.invariant c.set.ensures.words c.set.ensures.len c.set-2.ensures.bits c.set-2.ensures.words
    c.set-2.ensures.len c.set-3.ensures.bits c.set-3.ensures.len
