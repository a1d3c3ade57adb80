use Rattle.node_bridge.proofs.Names.{refl, after, image, node_terms, served_terms_of}
use Rattle.mtapi_machine.specs.declared.ops.Op.TheVariants as op
use Rattle.node_bridge.specs.declared.ops.BridgeOp.TheVariants as bridge
use Rattle.node_bridge.proofs.Says.{close_says, finish_says, pick_says}
use Rattle.node_bridge.proofs.Found.{acts_for}
use Rattle.node_bridge.proofs.Steps.{has_room, step_next, works_on}
use Rattle.node_bridge.proofs.served.Served.dispatch.Goals as goal

pub step-requires-clause-room : goal.step-requires-clause-room
step-requires-clause-room c = has_room c.args.self.now c.requires.room

pub picked-requires : goal.picked-requires
picked-requires c =
    let r = c.requires.room in (
      c.args.self.now.opened,
      pick_says c.args.self.now.opened _ c.args.who c.step.result (acts_for (served_terms_of c.args.self.now) r.0 r.1.legal.image)
          (step_next c.args.self.now c.step.new.self r.0 c.args.who op.Pick c.step.result c.step.ensures.terms (c.step.ensures.stands _ r.1.node)).allowed,
    )

pub returns-in-Pick-clause-stands : goal.returns-in-Pick-clause-stands
returns-in-Pick-clause-stands c B st =
    let s = c.step.ensures.stands _ st.node in
    let says = pick_says c.args.self.now.opened _ c.args.who c.step.result (acts_for (served_terms_of c.args.self.now) B st.legal.image)
    (step_next c.args.self.now c.step.new.self B c.args.who op.Pick c.step.result c.step.ensures.terms s).allowed in
    rw c.in-Pick.is (works_on c.args.self.now c.step.new.self B c.args.who bridge.Pick c.picked.result c.step.result st c.step.ensures.terms refl refl
    (λ h. refl) s (c.picked.ensures c.args.self.now.opened says) (record { end = tt; impure = tt }))

pub step-requires-in-Finish-clause-room : goal.step-requires-in-Finish-clause-room
step-requires-in-Finish-clause-room c = has_room c.args.self.now c.requires.room

pub worked-requires : goal.worked-requires
worked-requires c =
    let r = c.requires.room in
    finish_says (after (node_terms c.args.self.now.node) (image (served_terms_of c.args.self.now) r.0)) c.args.who c.in-Finish.task c.in-Finish.done
    c.step-in-Finish.result (step_next c.args.self.now c.step-in-Finish.new.self r.0 c.args.who (op.Finish c.in-Finish.task c.in-Finish.done)
    c.step-in-Finish.result c.step-in-Finish.ensures.terms (c.step-in-Finish.ensures.stands _ r.1.node)).allowed

pub returns-in-Finish-clause-stands : goal.returns-in-Finish-clause-stands
returns-in-Finish-clause-stands c B st =
    rw c.in-Finish.is (works_on c.args.self.now c.step-in-Finish.new.self B c.args.who (bridge.Finish c.in-Finish.task c.in-Finish.done) c.worked.result
    c.step-in-Finish.result st c.step-in-Finish.ensures.terms refl refl (λ h. refl) (c.step-in-Finish.ensures.stands _ st.node)
    (c.worked.ensures c.args.self.now.opened) (record { end = tt; impure = tt }))

pub step-requires-in-Close-clause-room : goal.step-requires-in-Close-clause-room
step-requires-in-Close-clause-room c = has_room c.args.self.now c.requires.room

pub worked-requires-in-Close : goal.worked-requires-in-Close
worked-requires-in-Close c =
    let r = c.requires.room in
    close_says (after (node_terms c.args.self.now.node) (image (served_terms_of c.args.self.now) r.0)) c.args.who c.step-in-Close.result
    (step_next c.args.self.now c.step-in-Close.new.self r.0 c.args.who op.Close c.step-in-Close.result c.step-in-Close.ensures.terms
    (c.step-in-Close.ensures.stands _ r.1.node)).allowed

pub returns-in-Close-clause-stands : goal.returns-in-Close-clause-stands
returns-in-Close-clause-stands c B st =
    rw c.in-Close.is (works_on c.args.self.now c.step-in-Close.new.self B c.args.who bridge.Close c.worked-in-Close.result c.step-in-Close.result st
    c.step-in-Close.ensures.terms refl refl (λ h. refl) (c.step-in-Close.ensures.stands _ st.node) (c.worked-in-Close.ensures c.args.self.now.opened)
    (record { end = tt; impure = tt }))
