use Rattle.typed_pieces.proofs.Names.{refl, rules}
use Rattle.typed_pieces.proofs.Runs.{awaited, refused_told, started_more, started_none, stops_at_action, stops_at_group, stops_at_look, stops_at_start}
use Rattle.nested_pieces.proofs.client.RootClient.call.Goals as goal

pub returns-clause-kept : goal.returns-clause-kept
returns-clause-kept g c =
    let none = started_none _ _ _ _ _ _ _ c.make_action.ensures c.in_ok-make_action.was c.group_create.ensures c.in_ok-group.was in
    let one = started_more _ 0 _ _ _ _ _ _ c.new.ensures none c.start_root.ensures c.in_ok-start_root.was in
    (awaited _ _ _ _ _ _ _ refl one c.group_wait_all.ensures, stops_at_look _ _ 1 _ _ _ _ refl one c.group_wait_all.ensures)

pub returns-in_err-make_action-clause-kept : goal.returns-in_err-make_action-clause-kept
returns-in_err-make_action-clause-kept g c =
    refused_told _ _ _ _ _ (search rules) (stops_at_action 1 _ _ _ _ c.make_action.ensures c.in_err-make_action.was)

pub returns-in_err-group-clause-kept : goal.returns-in_err-group-clause-kept
returns-in_err-group-clause-kept g c =
    let stopped = stops_at_group 1 _ _ _ _ _ _ _ c.make_action.ensures c.in_ok-make_action.was c.group_create.ensures c.in_err-group.was in
    refused_told _ _ _ _ _ (search rules) stopped

pub returns-in_err-start_root-clause-kept : goal.returns-in_err-start_root-clause-kept
returns-in_err-start_root-clause-kept g c =
    let none = started_none _ _ _ _ _ _ _ c.make_action.ensures c.in_ok-make_action.was c.group_create.ensures c.in_ok-group.was in
    let stopped = stops_at_start _ _ 1 _ _ _ _ _ _ c.new.ensures (search rules) none c.start_root.ensures c.in_err-start_root.was in
    refused_told _ _ _ _ _ (search rules) stopped
