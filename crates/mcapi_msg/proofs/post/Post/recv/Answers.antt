use Rattle.mcapi_msg.proofs.Names.{true, false, refl, sym, ◌∙◌, slot_value}
use Rattle.mcapi_msg.proofs.PostSteps.{recv_refused, owner_found, recv_got, recv_left}
use Rattle.mcapi_msg.proofs.post.Post.recv.Goals as goal

pub returns-in-Some : goal.returns-in-Some
returns-in-Some c l v = recv_refused c.args.self.now l c.args.who c.args.at c.args.last c.in-Some.status v (sym c.owner_refusal.ensures ∙ c.in-Some.is)

pub take-requires : goal.take-requires
take-requires c = let m = owner_found (slot_value c.args.self.now.boxes.pool c.args.at.0) c.args.who (sym c.owner_refusal.ensures ∙ c.in_default.is) in
    rw m.1 refl

pub returns-in-Some-take : goal.returns-in-Some-take
returns-in-Some-take c l v =
    let m = owner_found (slot_value c.args.self.now.boxes.pool c.args.at.0) c.args.who (sym c.owner_refusal.ensures ∙ c.in_default.is) in
    recv_got c.args.self.now c.take.new.self l c.args.who c.args.at c.args.last m.0 c.in-Some-take.message v m.1 m.2 (sym (c.take.ensures.value m.0 m.1)
    ∙ c.in-Some-take.is) c.take.ensures.limit (c.take.ensures.rest m.0 m.1)

pub returns-in-None : goal.returns-in-None
returns-in-None c l v =
    let m = owner_found (slot_value c.args.self.now.boxes.pool c.args.at.0) c.args.who (sym c.owner_refusal.ensures ∙ c.in_default.is) in
    recv_left c.args.self.now c.take.new.self l c.args.who c.args.at c.args.last true m.0 v m.1 m.2 (sym (c.take.ensures.value m.0 m.1)
    ∙ c.in-None.is) c.in-None.ensures.none c.if-last.true

pub returns-in-None-2 : goal.returns-in-None-2
returns-in-None-2 c l v =
    let m = owner_found (slot_value c.args.self.now.boxes.pool c.args.at.0) c.args.who (sym c.owner_refusal.ensures ∙ c.in_default.is) in
    recv_left c.args.self.now c.take.new.self l c.args.who c.args.at c.args.last false m.0 v m.1 m.2 (sym (c.take.ensures.value m.0 m.1)
    ∙ c.in-None-2.is) c.in-None-2.ensures.none c.if-last.false
