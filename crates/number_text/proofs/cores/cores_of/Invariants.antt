use Rattle.std.proofs.Common.{◌≡◌, ◌<◌, ◌≤◌, ◌^◌}
use Rattle.number_text.specs.Lists.{between}
use Rattle.number_text.specs.Cores.{bits_from}
use Rattle.number_text.specs.Lists.{pieces_of}
use Rattle.number_text.proofs.Pieces.{left_len}
use Rattle.number_text.proofs.Parsing.{add_bits}
use Rattle.number_text.proofs.cores.cores_of.Given as goal

abbrev pub invariant-cutting : goal.invariant-cutting
invariant-cutting l = record {
  so_far : add_bits l.mask (bits_from l.low (pieces_of 44 l.left)) ≡ bits_from 0 (between 44 l.text);
  room : l.mask < 2 ^ l.low;
  within : l.low ≤ 64;
}

abbrev pub decreases-cutting : goal.decreases-cutting
decreases-cutting l = left_len l.left
