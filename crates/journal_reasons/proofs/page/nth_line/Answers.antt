use Rattle.journal_reasons.proofs.Lines.{at_first, past_last, at_next}
use Rattle.journal_reasons.proofs.page.nth_line.Goals as goal

pub returns-then-above-eq0 : goal.returns-then-above-eq0
returns-then-above-eq0 c = at_first _ _ _ _ _ c.if-above-eq0.true c.cut_at.ensures.parts c.lines.invariant

pub returns-in-None : goal.returns-in-None
returns-in-None c = past_last _ _ _ _ c.if-above-eq0.false (rw c.in-None.is at c.cut_at.ensures.parts) c.lines.invariant

pub lines-preserved : goal.lines-preserved
lines-preserved c = at_next _ _ _ _ _ c.if-above-eq0.false (rw c.in-Some.is at c.cut_at.ensures.parts) c.lines.invariant
