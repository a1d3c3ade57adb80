use Rattle.journal_check.proofs.Names.{◌≡◌, take, Legal, HasFollowed}
use Rattle.std.proofs.Common.{map}
use Rattle.node_journals.specs.Shorts.{entry_of}
use Rattle.journal_check.proofs.judged.first_refused.Given as goal

abbrev pub invariant-loop-short : goal.invariant-loop-short
invariant-loop-short l = record {
  terms : l.follower.terms ≡ l.fn.follower.terms;
  legal : Legal l.follower.terms (take l.short-index (map entry_of l.shorts));
  followed : HasFollowed l.follower (take l.short-index (map entry_of l.shorts));
  judged : l.judged ≡ l.short-index;
}
