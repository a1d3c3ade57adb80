use Rattle.std.proofs.Common.{◌≡◌, List, ◌++◌}
use Rattle.chunked_pieces.specs.Chunks.{AreJoined}
use Rattle.chunked_pieces.proofs.chunks.joined.Given as goal

abbrev pub invariant-loop-chunk : goal.invariant-loop-chunk
invariant-loop-chunk g l = (before : List _) × (before ++ l.chunk-iterator.rest.items ≡ l.fn.results.items) × AreJoined before l.all.items
