use Rattle.std.proofs.Common.{rules}
use Rattle.chunked_pieces.proofs.Cuts.{joined_step}
use Rattle.chunked_pieces.proofs.chunks.joined.Goals as goal

pub loop-chunk-preserved : goal.loop-chunk-preserved
loop-chunk-preserved g c =
    joined_step c.args.results.items c.loop-chunk.invariant.0 c.loop-chunk.chunk-iterator.rest.items c.next.new.self.rest.items c.loop-chunk.all.items
    c.append.new.self.items c.in-Some.chunk c.in_ok-chunk.chunk c.loop-chunk.invariant.1 c.loop-chunk.invariant.2 (search rules) (search rules) (search rules)
