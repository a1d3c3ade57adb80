use Rattle.node_steps.proofs.Names.{◌∙◌, ap, State}
use Rattle.mtapi_machine.specs.Kept.{pends_alike}
use Rattle.node_steps.proofs.node.PoolNode.pends_alike.Goals as goal

pub returns : goal.returns
returns c L st = ap (λ (s : State). pends_alike s c.args.who c.args.op.now) st.state ∙ c.looks_alike.ensures st.lists st.live
