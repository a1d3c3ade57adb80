use Rattle.journal_text.proofs.Names.{◌≡◌, ◌+◌, ◌≤◌, length, between, entries_from, no_entries}
use Rattle.journal_text.proofs.journals.entries_from.Given as goal

abbrev pub invariant-lines : goal.invariant-lines
invariant-lines l = record {
  so_far : entries_from l.head l.line l.kept (between 10 l.left) ≡ entries_from l.head 2 no_entries (between 10 l.fn.text);
  count : l.line + length l.left ≤ length l.fn.text + 2;
}

abbrev pub decreases-lines : goal.decreases-lines
decreases-lines l = length l.left
