use Rattle.typed_pieces.proofs.Names.{◌≡◌, [], ◌∷◌, arith, rules, length, vec_len}
use Rattle.typed_pieces.proofs.Levels.{kept_last, kept_one}
use Rattle.typed_pieces.proofs.split_run.run_split_within.Goals as goal

pub unreachable-requires : goal.unreachable-requires
unreachable-requires g c =
    let one = kept_one g.P.Split.promise _ _ (c.in_ok-results.ensures (c.args.root ∷ []) c.in_ok-opened.ensures.waits) in
    let same : vec_len c.in_ok-results.results ≡ length c.in_ok-results.results.items = search rules in
    let none : vec_len c.in_ok-results.results ≡ 0 = search rules in
    omega (arith, one, same, none)

pub returns-clause-kept : goal.returns-clause-kept
returns-clause-kept g c =
    kept_last g.P.Split.promise _ _ _ _ (c.in_ok-results.ensures (c.args.root ∷ []) c.in_ok-opened.ensures.waits) c.in-Some.ensures.items

pub returns-clause-levels : goal.returns-clause-levels
returns-clause-levels g c = record { waiting = c.in_ok-opened.opened.items; waits = c.in_ok-opened.ensures.waits; counts = c.in_ok-opened.ensures.counts }
