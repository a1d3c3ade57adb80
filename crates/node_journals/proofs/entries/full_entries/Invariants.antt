use Rattle.std.proofs.Common.{◌≡◌, take, map}
use Rattle.node_journals.specs.Shorts.{entry_of}
use Rattle.node_journals.proofs.entries.full_entries.Given as goal

abbrev pub invariant-loop-short : goal.invariant-loop-short
invariant-loop-short l = l.entries.items ≡ map entry_of (take l.short-index l.shorts)
