use Rattle.node_with_workers.specs.Clients.{CallerEnters}
use Rattle.node_with_workers.proofs.Lemmas.{entered, has_called, kept_out, same_back, waited_same}
use Rattle.node_with_workers.proofs.client.call_inside.Goals as goal

pub returns-in-Ok-clause-told : goal.returns-in-Ok-clause-told
returns-in-Ok-clause-told g c =
    has_called CallerEnters g.D.Client.promise c.args.client c.call-told.result c.args.seat c.enter.new.self c.call-told.new.caller c.into_seat-seat.result
    (entered c.args.seat c.new-caller.result c.enter.new.self c.enter.result _ c.requires.new c.new-caller.ensures c.enter.ensures c.in-Ok.is)
    c.call-told.ensures.same c.call-told.ensures.goes_on c.call-told.ensures.kept c.into_seat-seat.ensures

pub returns-in-Ok-clause-same : goal.returns-in-Ok-clause-same
returns-in-Ok-clause-same g c =
    same_back c.args.seat c.enter.new.self c.call-told.new.caller c.into_seat-seat.result
    (entered c.args.seat c.new-caller.result c.enter.new.self c.enter.result _ c.requires.new c.new-caller.ensures c.enter.ensures c.in-Ok.is).0
    c.call-told.ensures.same c.into_seat-seat.ensures

pub returns-in-Err-clause-told : goal.returns-in-Err-clause-told
returns-in-Err-clause-told g c = (
  c.failure_of.ensures.started,
  kept_out c.args.seat c.new-caller.result c.enter.new.self c.into_seat-seat-in-Err.result c.enter.result c.in-Err.status c.failure_of.result c.requires.new
      c.new-caller.ensures c.enter.ensures c.in-Err.is c.into_seat-seat-in-Err.ensures c.known.ensures.legal c.known.ensures.own c.failure_of.ensures.says,
)

pub returns-in-Err-clause-same : goal.returns-in-Err-clause-same
returns-in-Err-clause-same g c =
    waited_same c.args.seat c.new-caller.result c.enter.new.self c.into_seat-seat-in-Err.result c.enter.result c.new-caller.ensures c.enter.ensures
    c.into_seat-seat-in-Err.ensures
