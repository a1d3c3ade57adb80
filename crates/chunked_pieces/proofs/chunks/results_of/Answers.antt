use Rattle.std.proofs.Common.{arith}
use Rattle.chunked_pieces.proofs.Cuts.{zip_end}
use Rattle.chunked_pieces.proofs.chunks.results_of.Goals as goal

pub returns : goal.returns
returns g c =
    zip_end (λ x d. g.F.Fn.post c.args.f.now (x, tt) d) c.args.items.items c.loop-item.item-iterator.rest.items c.loop-item.results.items
    (omega (arith, c.loop-item.item-iterator.rest.ok.0, c.in-None.ensures.steps.0))
    c.loop-item.invariant
