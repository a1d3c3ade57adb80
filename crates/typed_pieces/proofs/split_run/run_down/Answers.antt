use Rattle.typed_pieces.proofs.Names.{◌≡◌, ◌<◌, ◌^◌, ◌∙◌, arith, rules, refl, subst, sym, vec_len, IfOk, length, IfRefused, FailsBy, HasRunAll, RefusesPieces, IsOver, SplitFails}
use Rattle.typed_pieces.proofs.Levels.{open_end, open_next, open_none, waits_many}
use Rattle.typed_pieces.proofs.SplitRuns.{counted_more, counted_none, is_over, ran_more, ran_none}
use Rattle.typed_pieces.proofs.split_run.run_down.Goals as goal

pub down-init : goal.down-init
down-init g c = (open_none _ _ _ _ _ (search rules) (search rules), ran_none _ _ _ (search rules), counted_none _ _ (search rules) (search rules))

pub down-preserved : goal.down-preserved
down-preserved g c =
    let many : vec_len c.down.pieces ≡ c.in_ok-count.count = search rules in
    let few : vec_len c.down.pieces < 2 ^ 32 = omega (arith, many) in
    let ran = subst (λ r. IfOk r (λ x. HasRunAll c.args.settings (vec_len c.down.pieces) x.1)) c.in_ok-level.was (c.run_level.ensures.run few) in
    let here = subst (λ n. HasRunAll c.args.settings n c.in_ok-level.journal) many ran in
    let level : length c.down.pieces.items ≡ c.in_ok-count.count = search rules in
    let wait = sym level ∙ waits_many g.P.Split.promise g.P.Split.joined _ _ _ c.in_ok-level.ensures.waits in (
      open_next _ _ _ _ _ c.in_ok-level.level.pending _ _ (search rules) c.down.invariant.0 c.in_ok-level.ensures.waits,
      ran_more _ _ _ _ _ _ (record { pieces = c.in_ok-count.count; journal = c.in_ok-level.journal })
          (search rules) here refl c.in_ok-count.ensures.within c.down.invariant.1,
      counted_more _ _ _ _ (record { pieces = c.in_ok-count.count; journal = c.in_ok-level.journal }) c.in_ok-level.level.pending (search rules)
          (search rules) wait c.down.invariant.2,
    )

pub returns-clause-waits : goal.returns-clause-waits
returns-clause-waits g c = open_end _ _ _ _ _ (search rules) c.down.invariant.0

pub returns-in_err-count-clause-causes : goal.returns-in_err-count-clause-causes
returns-in_err-count-clause-causes g c =
    let many : length c.down.pieces.items ≡ c.len.result = search rules in
    let why : SplitFails c.in_err-count.field-0.0 (λ u. FailsBy u (λ f. IfRefused f (RefusesPieces c.args.settings)))
    (IsOver g.P.Split.promise g.P.Split.joined c.args.settings c.args.root c.args.most) =
    is_over g.P.Split.promise g.P.Split.joined _ _ _ _ _ _ _ _ c.down.invariant.1 c.down.invariant.0 c.down.invariant.2 many _ _ c.in_err-count.ensures.limit in
    search rules
