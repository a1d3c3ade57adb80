use Rattle.ready_index.proofs.LevelLemmas.{none_from_top, below_length}
use Rattle.ready_index.proofs.bitmaps.Bitmap.first.Goals as goal

pub returns-in_err-place-clause-none : goal.returns-in_err-place-clause-none
returns-in_err-place-clause-none g c =
    rw c.from_residual.ensures (λ number. rw (← c.self.view_is) (none_from_top _ _ _ c.self.invariant c.in_err-place.ensures.none number))

pub lowest_in-requires-2-clause-place : goal.lowest_in-requires-2-clause-place
lowest_in-requires-2-clause-place g c =
    below_length c.self.inside.top c.self.inside.summary c.self.invariant.summaries c.in_ok-place.place c.in_ok-place.ensures.found

pub lowest_in-requires-3-clause-place : goal.lowest_in-requires-3-clause-place
lowest_in-requires-3-clause-place g c =
    below_length c.self.inside.summary c.self.inside.bits c.self.invariant.words c.in_ok-word.word c.in_ok-word.ensures.found
