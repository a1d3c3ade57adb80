use Rattle.node_core.proofs.Names.{refl, Node, inward_op}
use Rattle.node_core.proofs.NodeLemmas.{room_inside, same_terms, goes_on}
use Rattle.node_core.proofs.node.Node.execute.Goals as goal

pub step_inward-requires-clause-room : goal.step_inward-requires-clause-room
step_inward-requires-clause-room c = room_inside c.args.self.now _ c.requires.room

pub returns-clause-stands : goal.returns-clause-stands
returns-clause-stands c L st =
    let m : Node = record { inner = c.step_inward.new.self } in
    goes_on c.args.self.now m L c.args.who c.args.op.now
    (inward_op c.args.op.now) c.answered_kind-kind.result c.step_inward.new.reply c.turn_outward.new.reply st
    refl c.answered_kind-kind.ensures
    (same_terms c.args.self.now m c.step_inward.ensures.terms) c.step_inward.ensures.stands c.step_inward.ensures.small c.turn_outward.ensures
