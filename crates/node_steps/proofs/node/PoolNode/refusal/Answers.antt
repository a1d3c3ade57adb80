use Rattle.node_steps.proofs.Names.{◌∙◌, ap, State, refusal_of}
use Rattle.node_steps.proofs.node.PoolNode.refusal.Goals as goal

pub returns : goal.returns
returns c L st = ap (λ (s : State). refusal_of s c.args.who c.args.op.now) st.state ∙ c.create_refusal.ensures st.lists st.live
