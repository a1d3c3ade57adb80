use Rattle.journal_reasons.proofs.Judgements.{judged_illegal}
use Rattle.journal_reasons.proofs.judging.judge.Goals as goal

pub returns : goal.returns
returns c = record {
  judged =
      judged_illegal c.law_prefix.ensures c.args.journal.now c.in-Some.entry c.in_ok-instead.instead _
      (rw c.in-Some.is at c.in_ok-entry.ensures)
      c.in_ok-instead.ensures;
}
