use Rattle.std.proofs.Common.{◌≡◌, map, take}
use Rattle.node_journals.specs.Shorts.{entry_of}
use Rattle.journal_reasons.proofs.instead.list_of.Given as goal

abbrev pub invariant-loop-short : goal.invariant-loop-short
invariant-loop-short l = l.list.entries ≡ map entry_of (take l.short-index l.fn.shorts)
