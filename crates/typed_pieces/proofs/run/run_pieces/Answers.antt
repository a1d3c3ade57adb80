use Rattle.typed_pieces.proofs.Names.{◌≤◌, ◌∙◌, Some, ap, length, rules, subst, sym, length-map, vec_len, AreKept, refused_weaker}
use Rattle.typed_pieces.specs.Runs.{MeansTooMany}
use Rattle.typed_pieces.proofs.TaskLimits.{refused_otherwise, too_many}
use Rattle.typed_pieces.proofs.Runs.{has_run, told_why}
use Rattle.typed_pieces.proofs.run.run_pieces.Goals as goal

pub returns-clause-run : goal.returns-clause-run
returns-clause-run g c = has_run _ _ _ _ _ c.in_ok-worked.ensures.run

pub returns-clause-kept : goal.returns-clause-kept
returns-clause-kept g c =
    subst (λ xs. AreKept g.J.Piece.promise c.args.pieces.items xs) (sym c.in_ok-results.ensures.there) c.in_ok-worked.ensures.kept

pub returns-clause-places : goal.returns-clause-places
returns-clause-places g c =
    let same = sym (length-map _ Some) ∙ ap length c.in_ok-results.ensures.there in
    search rules

pub returns-in_err-told-clause-causes : goal.returns-in_err-told-clause-causes
returns-in_err-told-clause-causes g c =
    let why = told_why (λ a. a.count) _ _ _ c.in_err-told.field-0.0 _ c.in_ok-worked.ensures.run cc in
    search rules

pub returns-in_err-worked-clause-limit : goal.returns-in_err-worked-clause-limit
returns-in_err-worked-clause-limit g c =
    let few = refused_weaker _ (MeansTooMany c.args.settings (vec_len c.args.pieces)) c.in_err-worked.field-0.0 (λ s. refused_otherwise _ _ _ s _)
    c.in_err-worked.ensures.causes in
    search rules

pub returns-in_err-told-clause-limit : goal.returns-in_err-told-clause-limit
returns-in_err-told-clause-limit g c =
    let count : c.unwrap_or-count.result ≤ vec_len c.args.pieces = search rules in
    let few = too_many (λ a. a.count) _ _ _ c.in_err-told.field-0.0 _ (vec_len c.args.pieces) c.in_ok-worked.ensures.run (cc) count in
    search rules
