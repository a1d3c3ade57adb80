use Rattle.workload_file.proofs.Cited.{◌≡◌, ◌+◌, ◌≤◌, length, between, pieces_of, lines_add, IsReader, left_len}
use Rattle.workload_file.proofs.load.read_lines.Given as goal

abbrev pub invariant-lines : goal.invariant-lines
invariant-lines l = record {
  so_far : lines_add l.r.said l.line (pieces_of 10 l.left) ≡ lines_add l.fn.first.said 1 (between 10 l.bytes);
  reader : IsReader l.r;
  count : l.line + left_len l.left ≤ length l.bytes + 2;
}

abbrev pub decreases-lines : goal.decreases-lines
decreases-lines l = left_len l.left
