use Rattle.node_with_workers.specs.Clients.{MainOpens}
use Rattle.node_with_workers.proofs.Lemmas.{first_refused, first_same, has_called, main_opened, same_back, second_refused, second_same}
use Rattle.node_with_workers.proofs.client.call.Goals as goal

pub returns-in-Ok-release-clause-told : goal.returns-in-Ok-release-clause-told
returns-in-Ok-release-clause-told g c =
    has_called MainOpens g.C.Client.promise c.args.client c.call-told.result c.args.seat c.release.new.self c.call-told.new.caller c.into_seat-seat.result
    (main_opened c.args.seat c.new-caller.result c.initialize.new.self c.release.new.self c.initialize.result c.release.result _ _ c.requires.new
    c.new-caller.ensures c.initialize.ensures c.in-Ok.is c.release.ensures c.in-Ok-release.is)
    c.call-told.ensures.same c.call-told.ensures.goes_on c.call-told.ensures.kept c.into_seat-seat.ensures

pub returns-in-Ok-release-clause-same : goal.returns-in-Ok-release-clause-same
returns-in-Ok-release-clause-same g c =
    same_back c.args.seat c.release.new.self c.call-told.new.caller c.into_seat-seat.result
    (main_opened c.args.seat c.new-caller.result c.initialize.new.self c.release.new.self c.initialize.result c.release.result _ _ c.requires.new
    c.new-caller.ensures c.initialize.ensures c.in-Ok.is c.release.ensures c.in-Ok-release.is).0
    c.call-told.ensures.same c.into_seat-seat.ensures

pub returns-in-Err-release-clause-told : goal.returns-in-Err-release-clause-told
returns-in-Err-release-clause-told g c =
    second_refused g.C.Client.promise c.args.client c.args.seat c.new-caller.result c.initialize.new.self c.release.new.self c.into_seat.result
    c.initialize.result c.release.result _ c.in-Err-release.status c.unopened.result
    c.requires.new c.new-caller.ensures c.initialize.ensures c.in-Ok.is c.release.ensures c.in-Err-release.is c.into_seat.ensures c.unopened.ensures

pub returns-in-Err-release-clause-same : goal.returns-in-Err-release-clause-same
returns-in-Err-release-clause-same g c =
    second_same c.args.seat c.new-caller.result c.initialize.new.self c.release.new.self c.into_seat.result c.initialize.result c.release.result
    c.in-Err-release.status c.unopened.result c.new-caller.ensures c.initialize.ensures c.release.ensures c.into_seat.ensures c.unopened.ensures

pub returns-in-Err-clause-told : goal.returns-in-Err-clause-told
returns-in-Err-clause-told g c =
    first_refused g.C.Client.promise c.args.client c.args.seat c.new-caller.result c.initialize.new.self c.into_seat-in-Err.result c.initialize.result
    c.in-Err.status c.unopened-in-Err.result
    c.requires.new c.new-caller.ensures c.initialize.ensures c.in-Err.is c.into_seat-in-Err.ensures c.unopened-in-Err.ensures

pub returns-in-Err-clause-same : goal.returns-in-Err-clause-same
returns-in-Err-clause-same g c =
    first_same c.args.seat c.new-caller.result c.initialize.new.self c.into_seat-in-Err.result c.initialize.result c.in-Err.status c.unopened-in-Err.result
    c.new-caller.ensures c.initialize.ensures c.into_seat-in-Err.ensures c.unopened-in-Err.ensures
