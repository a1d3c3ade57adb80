use Rattle.typed_pieces.proofs.Names.{rules, subst, vec_len, IfRefused, IsRunOfAll, RefusesOne, AreKept}
use Rattle.typed_pieces.proofs.Callers.{passed_on}
use Rattle.typed_pieces.proofs.node.with_handed.Goals as goal

pub returns-clause-run : goal.returns-clause-run
returns-clause-run g c =
    subst (λ hs. IsRunOfAll (λ x. g.C.PieceClient.promise x hs)
    (λ x. g.D.PieceClient.promise x hs) c.args.client c.args.others.items c.args.settings c.in_ok-told.told c.in_ok-told.others.items c.in_ok-told.journal)
    c.requires.named c.in_ok-told.ensures.run

pub returns-clause-kept : goal.returns-clause-kept
returns-clause-kept g c =
    subst (λ hs. AreKept g.J.Piece.promise hs c.into_vec-results.result.items) c.requires.named c.into_vec-results.ensures.kept

pub returns-in_err-told-clause-causes : goal.returns-in_err-told-clause-causes
returns-in_err-told-clause-causes g c =
    let why = subst (λ hs. IfRefused c.in_err-told.field-0.0
    (RefusesOne (λ x. g.C.PieceClient.promise x hs) c.args.client (vec_len c.args.others) c.args.settings)) c.requires.named c.in_err-told.ensures.causes in
    passed_on _ _ (λ e. IfRefused e (RefusesOne (λ x. g.C.PieceClient.promise x c.args.pieces.items) c.args.client (vec_len c.args.others) c.args.settings))
    (search rules) why
