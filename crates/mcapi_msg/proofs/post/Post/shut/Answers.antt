use Rattle.mcapi_msg.proofs.Names.{refl, sym, ◌∙◌, slot_value}
use Rattle.mcapi_msg.proofs.PostSteps.{shut_refused, owner_found, shut_done}
use Rattle.mcapi_msg.proofs.post.Post.shut.Goals as goal

pub returns-in-Some : goal.returns-in-Some
returns-in-Some c l v = shut_refused c.args.self.now l c.args.who c.args.at c.in-Some.status v (sym c.owner_refusal.ensures ∙ c.in-Some.is)

pub remove-requires : goal.remove-requires
remove-requires c = let m = owner_found (slot_value c.args.self.now.boxes.pool c.args.at.0) c.args.who (sym c.owner_refusal.ensures ∙ c.in_default.is) in
    rw m.1 refl

pub returns : goal.returns
returns c l v =
    let m = owner_found (slot_value c.args.self.now.boxes.pool c.args.at.0) c.args.who (sym c.owner_refusal.ensures ∙ c.in_default.is) in
    shut_done c.args.self.now c.remove.new.self l c.args.who c.args.at m.0 v m.1 m.2 c.remove.ensures.limit c.remove.ensures.removed
