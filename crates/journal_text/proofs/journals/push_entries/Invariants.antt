use Rattle.journal_text.proofs.Names.{◌≡◌, ◌++◌, length, AllPartsFit, lines_text, entry_lines}
use Rattle.std.proofs.Common.{map}
use Rattle.node_journals.specs.Shorts.{entry_of}
use Rattle.journal_text.proofs.journals.push_entries.Given as goal

-- the text grows by a line an entry, and what was written fits where the rest does
abbrev pub invariant-entries : goal.invariant-entries
invariant-entries l =
    (l.out.items ++ lines_text (entry_lines l.head (map entry_of l.shorts) l.skipped)
    ≡ l.initial.out.items ++ lines_text (entry_lines l.head (map entry_of l.initial.shorts) l.initial.skipped))
    × (AllPartsFit (map entry_of l.shorts) l.skipped → AllPartsFit (map entry_of l.initial.shorts) l.initial.skipped)

abbrev pub decreases-entries : goal.decreases-entries
decreases-entries l = length l.shorts
