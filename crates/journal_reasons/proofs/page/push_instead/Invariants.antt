use Rattle.std.proofs.Common.{◌≡◌, ◌++◌, take}
use Rattle.journal_reasons.specs.Pages.{instead_lines}
use Rattle.journal_reasons.proofs.page.push_instead.Given as goal

abbrev pub invariant-loop-entry : goal.invariant-loop-entry
invariant-loop-entry l = l.page.items ≡ l.fn.page.items ++ instead_lines l.fn.journal (take l.entry-index l.fn.entries)
