use Rattle.typed_pieces.proofs.Names.{rules, run_alone, causes_alone}
use Rattle.typed_pieces.proofs.node.with_pieces.Goals as goal

pub returns-clause-run : goal.returns-clause-run
returns-clause-run g c =
    run_alone (λ x. g.C.PieceClient.promise x c.args.pieces.items) _ c.args.client _ c.args.settings _ _ _ c.new-nobody.ensures.items c.in_ok-worked.ensures.run

pub returns-in_err-worked-clause-causes : goal.returns-in_err-worked-clause-causes
returns-in_err-worked-clause-causes g c =
    let r = causes_alone (λ x. g.C.PieceClient.promise x c.args.pieces.items) c.args.client _ c.args.settings _ c.new-nobody.ensures.len
    c.in_err-worked.ensures.causes in
    search rules
