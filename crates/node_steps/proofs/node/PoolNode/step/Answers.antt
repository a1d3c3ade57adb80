use Rattle.std.proofs.Common.{arith}
use Rattle.node_steps.proofs.InitSteps.{goes_on, few_starts, few_seats, same_terms, sound}
use Rattle.node_steps.proofs.NewHandles.{issues_small}
use Rattle.node_steps.proofs.SameOps.{does}
use Rattle.node_steps.proofs.node.PoolNode.step.Goals as goal

pub dispatch-reply-requires-clause-few_starts : goal.dispatch-reply-requires-clause-few_starts
dispatch-reply-requires-clause-few_starts c = few_starts c.args.self.now c.requires.room.0 c.requires.room.1 (omega (arith, c.requires.room.2))

pub dispatch-reply-requires-clause-seat : goal.dispatch-reply-requires-clause-seat
dispatch-reply-requires-clause-seat c = few_seats c.args.self.now c.requires.room.0 c.args.who c.requires.room.1 c.requires.seat

pub returns-clause-terms : goal.returns-clause-terms
returns-clause-terms c = same_terms c.args.self.now c.dispatch-reply.new.self _ _ _ c.requires.room.0 c.requires.room.1
    (does c.args.self.now c.dispatch-reply.new.self c.args.who c.args.op c.dispatch-reply.result c.dispatch-reply.ensures)

pub returns-clause-stands : goal.returns-clause-stands
returns-clause-stands c L st = goes_on c.args.self.now c.dispatch-reply.new.self L c.args.who c.args.op c.dispatch-reply.result st c.requires.seat
    (does c.args.self.now c.dispatch-reply.new.self c.args.who c.args.op c.dispatch-reply.result c.dispatch-reply.ensures st.lists st.live
    (sound c.args.self.now L st)) c.is_kept.ensures

pub returns-clause-small : goal.returns-clause-small
returns-clause-small c =
    let L = c.requires.room.0 in
    let st = c.requires.room.1 in
    issues_small c.args.self.now c.dispatch-reply.new.self st.lists c.args.who c.args.op c.dispatch-reply.result
    (does c.args.self.now c.dispatch-reply.new.self c.args.who c.args.op c.dispatch-reply.result c.dispatch-reply.ensures st.lists st.live
    (sound c.args.self.now L st))
