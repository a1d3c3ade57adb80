use Rattle.typed_pieces.proofs.Names.{rules}
use Rattle.typed_pieces.proofs.Mapping.{all_made, if_ok, kept_made}
use Rattle.typed_pieces.proofs.map.map_pieces.Goals as goal

pub run_pieces-requires-clause-ready : goal.run_pieces-requires-clause-ready
run_pieces-requires-clause-ready g c κs within = all_made (λ m. g.F.Fn.pre m.f.now (m.item, tt)) _ _ _ c.in_ok-mapped.ensures c.requires.ready

pub returns-clause-kept : goal.returns-clause-kept
returns-clause-kept g c =
    if_ok _ _ _ c.run_pieces.result
    (λ v kept many. kept_made (λ m d. g.F.Fn.post m.f.now (m.item, tt) d) _ _ _ _ c.in_ok-mapped.ensures (search rules) kept)
    c.run_pieces.ensures.kept c.run_pieces.ensures.places
