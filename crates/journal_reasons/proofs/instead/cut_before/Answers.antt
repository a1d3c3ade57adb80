use Rattle.node_journals.specs.Shorts.{entry_of}
use Rattle.journal_reasons.proofs.Allowed.{cut_entries}
use Rattle.journal_reasons.proofs.instead.cut_before.Goals as goal

pub returns-in-len1-up-clause-with_it : goal.returns-in-len1-up-clause-with_it
returns-in-len1-up-clause-with_it c =
    cut_entries entry_of _ _ _ _ _ c.if-number-eq0.false c.split_at.ensures.front c.split_at.ensures.back c.in-len1-up.len_at_least c.given-item.is
