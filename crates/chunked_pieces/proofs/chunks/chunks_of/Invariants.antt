use Rattle.std.proofs.Common.{◌≡◌, ◌+◌, ◌-◌, ◌*◌, ◌<◌, ◌++◌, length}
use Rattle.chunked_pieces.specs.Chunks.{items_of}
use Rattle.chunked_pieces.proofs.chunks.chunks_of.Given as goal

abbrev pub invariant-cuts : goal.invariant-cuts
invariant-cuts g l =
    record {
      whole : l.items.items ++ items_of l.chunks.items ≡ l.fn.items.items;
      left : length l.items.items ≡ length l.fn.items.items - length l.chunks.items * l.size;
      few : length l.chunks.items * l.size < length l.fn.items.items + l.size;
    }

abbrev pub decreases-cuts : goal.decreases-cuts
decreases-cuts g l = length l.items.items
