use Rattle.mcapi_msg.proofs.Names.{subst, IfOk, OnErr, Looked, Pending, MsgLegal, PostSeat, Received, RanOut, look_for}
use Rattle.mtapi_values.specs.Timeouts.{looks_of}
use Rattle.mcapi_msg.proofs.CallAnswers.{look_answer, received, received_same, timeout_of, spent_of}
use Rattle.mcapi_msg.proofs.mailer.Mailer.recv.Goals as goal

pub handed-requires : goal.handed-requires
handed-requires g c = look_answer c.args.at (looks_of c.args.timeout) c.self.inside.seat c.look.new.seat c.look.result c.look.ensures.answered

pub returns : goal.returns
returns g c =
    let looked = subst (λ (s : PostSeat). IfOk c.look.result
    (λ r. Looked MsgLegal (look_for c.args.at) Pending (looks_of c.args.timeout) s c.look.new.seat r)) c.self.view_is c.look.ensures.answered in
    let out = subst (λ (s : PostSeat). OnErr c.look.result
    (RanOut c.args.at (looks_of c.args.timeout) s c.look.new.seat)) c.self.view_is c.look.ensures.spent in
    let all : Received c.args.at (looks_of c.args.timeout) c.args.self.now c.look.new.seat c.handed.result =
    received c.args.at (looks_of c.args.timeout) c.args.self.now c.look.new.seat c.look.result c.handed.result looked out c.handed.ensures in
    record {
      same = received_same c.args.at (looks_of c.args.timeout) c.args.self.now c.look.new.seat c.handed.result all;
      received = all;
      timeout = timeout_of c.args.at (looks_of c.args.timeout) c.args.self.now c.look.new.seat c.handed.result all;
      spent = spent_of c.args.at (looks_of c.args.timeout) c.args.self.now c.look.new.seat c.handed.result all;
    }
