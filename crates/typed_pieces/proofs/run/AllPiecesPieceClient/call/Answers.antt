use Rattle.typed_pieces.proofs.Names.{arith, rules}
use Rattle.typed_pieces.proofs.Runs.{awaited, goes_on, refused_told, started_more, started_none, stops_at_group, stops_at_look, stops_at_start}
use Rattle.typed_pieces.proofs.run.AllPiecesPieceClient.call.Goals as goal

pub loop-place-init : goal.loop-place-init
loop-place-init g c = goes_on _ _ _ _ (started_none _ _ _ _ _ _ _ c.make_action.ensures c.in_ok-make_action.was c.group_create.ensures c.in_ok-group.was)

pub loop-place-preserved : goal.loop-place-preserved
loop-place-preserved g c = goes_on _ _ _ _ (started_more _ _ _ _ _ _ _ _ c.new.ensures c.loop-place.invariant.2 c.start_place.ensures c.in_ok-start_place.was)

pub returns-clause-kept : goal.returns-clause-kept
returns-clause-kept g c =
    let end = c.loop-place.auto.place-end in
    let over = c.loop-place-test.false in (
      awaited _ _ _ _ _ _ _ (omega (arith, end, over)) c.loop-place.invariant.2 c.group_wait_all.ensures,
      stops_at_look _ _ _ _ _ _ _
          (omega (arith, end, over)) c.loop-place.invariant.2 c.group_wait_all.ensures,
    )

pub returns-in_err-group-clause-kept : goal.returns-in_err-group-clause-kept
returns-in_err-group-clause-kept g c =
    let stopped = stops_at_group c.args.self.count _ _ _ _ _ _ _ c.make_action.ensures c.in_ok-make_action.was c.group_create.ensures c.in_err-group.was in
    refused_told _ _ _ _ _ (search rules) stopped

pub returns-in_err-start_place-clause-kept : goal.returns-in_err-start_place-clause-kept
returns-in_err-start_place-clause-kept g c =
    let few = c.loop-place-test.true in
    let stopped = stops_at_start _ _ c.args.self.count _ _ _ _ _ _ c.new.ensures
    (search rules) c.loop-place.invariant.2 c.start_place.ensures c.in_err-start_place.was in
    refused_told _ _ _ _ _ (search rules) stopped
