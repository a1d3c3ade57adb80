use Rattle.journal_check.proofs.laws.laws.Goals as goal

pub returns : goal.returns
returns c = record {
  steps = c.law_renaming.ensures.answered;
  decided = c.law_renaming.ensures.decided;
  created = c.law_renaming.ensures.created;
  live = c.law_renaming.ensures.live;
  opening = c.law_renaming.ensures.opening;
  fresh = c.law_counts.ensures.fresh;
  full = c.law_counts.ensures.full;
  one = c.law_counts.ensures.created;
  none = c.law_counts.ensures.others;
  told = c.law_refusals.ensures.told;
  stay = c.law_refusals.ensures.stay;
  refused = c.law_refusals.ensures.renamed;
  picks = c.law_refusals.ensures.picks;
  room = c.law_lasts.ensures.full;
  last = c.law_lasts.ensures.created;
  lasts = c.law_lasts.ensures.others;
  plain = c.law_refusals.ensures.plain;
  kept = c.law_lasts.ensures.kept;
  gone = c.law_gone.ensures.made;
  gone_stay = c.law_gone.ensures.stay;
  ends = c.law_gone.ensures.ends;
  terms = c.law_counts.ensures.terms;
}
