use Rattle.std.proofs.Common.{◌≡◌, ◌+◌, ◌≤◌, length}
use Rattle.number_text.specs.Lists.{between, wholes}
use Rattle.number_text.specs.Lists.{pieces_of}
use Rattle.number_text.proofs.Pieces.{left_len}
use Rattle.number_text.proofs.Parsing.{with_front}
use Rattle.number_text.proofs.lists.list_of.Given as goal

abbrev pub invariant-cutting : goal.invariant-cutting
invariant-cutting l = record {
  so_far : with_front l.args (wholes (pieces_of 44 l.left)) ≡ wholes (between 44 l.text);
  count : length l.args + length (pieces_of 44 l.left) ≡ length (between 44 l.text);
  within : length l.args ≤ 16;
}

abbrev pub decreases-cutting : goal.decreases-cutting
decreases-cutting l = left_len l.left
