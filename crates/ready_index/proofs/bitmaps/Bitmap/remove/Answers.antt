use Rattle.std.proofs.Common.{sym, ◌∙◌}
use Rattle.ready_index.proofs.LevelLemmas.{AreLevels-taken, AreLevels-emptied}
use Rattle.ready_index.proofs.bitmaps.Bitmap.remove.Goals as goal

pub invariant_of-self-then-not-clear-2 : goal.invariant_of-self-then-not-clear-2
invariant_of-self-then-not-clear-2 c =
    AreLevels-taken _ _ _ _ _ c.args.number c.self.invariant c.clear.ensures.words (sym c.clear.ensures.empty ∙ c.if-not-clear.false) c.clear.ensures.len
    c.clear-2.ensures.bits c.clear-2.ensures.words (sym c.clear-2.ensures.empty ∙ c.if-not-clear-2.true) (λ e. sym c.clear-2.ensures.empty
    ∙ c.clear-2.ensures.shrinks e) c.clear-2.ensures.len

pub invariant_of-self-2 : goal.invariant_of-self-2
invariant_of-self-2 c =
    AreLevels-emptied _ _ _ _ _ _ c.args.number c.self.invariant c.clear.ensures.words (sym c.clear.ensures.empty ∙ c.if-not-clear.false) c.clear.ensures.len
    c.clear-2.ensures.bits c.clear-2.ensures.words (sym c.clear-2.ensures.empty
    ∙ c.if-not-clear-2.false) c.clear-2.ensures.len c.clear-3.ensures.bits c.clear-3.ensures.len
