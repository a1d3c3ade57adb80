use Rattle.journal_text.proofs.Names.{◌≡◌, ◌++◌, map, pieces_of, number_behind, numbers_behind, left_len}
use Rattle.journal_text.proofs.heads.numbers_behind.Given as goal

abbrev pub invariant-cutting : goal.invariant-cutting
invariant-cutting l = l.numbers.items ++ map number_behind (pieces_of 32 l.left) ≡ numbers_behind l.line

abbrev pub decreases-cutting : goal.decreases-cutting
decreases-cutting l = left_len l.left
