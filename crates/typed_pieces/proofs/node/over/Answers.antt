use Rattle.typed_pieces.proofs.Names.{rules, sym, ◌∙◌, ap, length, vec_len, length-map, IfRefused, RefusesOne}
use Rattle.typed_pieces.proofs.Callers.{passed_on, refused_of_all, run_of_all}
use Rattle.typed_pieces.proofs.node.over.Goals as goal

pub returns-clause-run : goal.returns-clause-run
returns-clause-run g c =
    run_of_all (λ x. g.C.PieceClient.promise x g.L.Handed.pieces) _ (λ b. b.client) (λ b a z u p. p) (λ x. g.D.PieceClient.promise x g.L.Handed.pieces) _
    (λ b. b.client) (λ b a z u p. p) _ _ _ _ _ _ _ c.in_ok-others.ensures c.in_ok-done.ensures.run

pub returns-in_err-done-clause-causes : goal.returns-in_err-done-clause-causes
returns-in_err-done-clause-causes g c =
    let same = c.in_ok-others.others.ok.0 ∙ sym (length-map c.in_ok-others.others.items (λ b. b.client)) ∙ ap length c.in_ok-others.ensures
    ∙ sym c.args.others.ok.0 in
    let why = refused_of_all (λ x. g.C.PieceClient.promise x g.L.Handed.pieces) _ (λ b. b.client)
    (λ b a z u p. p) _ _ _ c.args.settings _ same c.in_err-done.ensures.causes in
    passed_on _ _ (λ e. IfRefused e (RefusesOne (λ x. g.C.PieceClient.promise x g.L.Handed.pieces) c.args.client (vec_len c.args.others) c.args.settings))
    (search rules) why
