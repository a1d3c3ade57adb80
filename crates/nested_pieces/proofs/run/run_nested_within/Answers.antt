use Rattle.nested_pieces.proofs.Works.{ok_keeps}
use Rattle.nested_pieces.proofs.run.run_nested_within.Goals as goal

pub returns-clause-kept : goal.returns-clause-kept
returns-clause-kept g c = ok_keeps g.P.Split.promise g.P.Split.joined c.args.root (λ n. n.pieces) (λ n. n.result) _ c.run_named.ensures.worked
