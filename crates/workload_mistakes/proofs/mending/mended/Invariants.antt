use Rattle.workload_mistakes.proofs.Names.{◌≡◌, ◌+◌, ◌≤◌, ◌++◌, length, join_with_byte, between, pieces_of, left_len, read_for}
use Rattle.workload_mistakes.specs.Mending.{with_line}
use Rattle.workload_mistakes.proofs.mending.mended.Given as goal

abbrev pub invariant-lines : goal.invariant-lines
invariant-lines l = record {
  so_far : l.out.items ++ join_with_byte 10 (with_line l.number l.mistake.line (read_for l.mistake.mend) (pieces_of 10 l.left))
      ≡ join_with_byte 10 (with_line 1 l.mistake.line (read_for l.mistake.mend) (between 10 l.text));
  count : l.number + left_len l.left ≤ length l.text + 2;
}

abbrev pub decreases-lines : goal.decreases-lines
decreases-lines l = left_len l.left
