use Rattle.mcapi_msg.proofs.Names.{refl, sym, ap, ◌∙◌, option_copied_mut, RingTable}
use Rattle.mcapi_msg.proofs.BoxLemmas.{kept-with_value, without_front-limit}
use Rattle.mcapi_msg.proofs.boxes.Boxes.take.Goals as goal

pub invariant_of-self : goal.invariant_of-self
invariant_of-self c =
    kept-with_value c.self.inside.limit _ c.args.at.0 c.self.inside.pool c.in-Some.mailbox.now _ c.self.inside.spare.items c.self.invariant
    (sym c.get_mut.ensures.value ∙ ap option_copied_mut c.in-Some.is) refl
    (ap (λ (r : RingTable). r.limit) c.take.ensures.rest ∙ without_front-limit c.in-Some.mailbox.now.rings)
