use Rattle.node_steps.proofs.Names.{refl}
use Rattle.mtapi_machine.specs.declared.ops.Op.TheVariants.{Pick}
use Rattle.node_steps.proofs.InitSteps.{goes_on, same_terms}
use Rattle.node_steps.proofs.node.PoolNode.pick_toward.Goals as goal

pub returns-clause-terms : goal.returns-clause-terms
returns-clause-terms c = same_terms c.args.self.now c.pick_wanted-reply.new.self c.args.who Pick c.pick_wanted-reply.result c.requires.room.0 c.requires.room.1
    (λ l v k. c.pick_wanted-reply.ensures.steps l v)

pub returns-clause-stands : goal.returns-clause-stands
returns-clause-stands c L st = goes_on c.args.self.now c.pick_wanted-reply.new.self L c.args.who Pick c.pick_wanted-reply.result st c.requires.seat
    (c.pick_wanted-reply.ensures.steps st.lists st.live) c.is_kept.ensures

pub returns-clause-toward : goal.returns-clause-toward
returns-clause-toward c L kind args st m = c.pick_wanted-reply.ensures.toward c.args.task c.args.action st.lists kind args refl st.live (rw st.state at m)
