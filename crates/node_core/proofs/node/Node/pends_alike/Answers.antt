use Rattle.node_core.proofs.Names.{◌∙◌, ap, sym, inward_op}
use Rattle.mtapi_values.specs.declared.handles.TaskHandle.{TaskHandle}
use Rattle.mtapi_machine.specs.declared.ops.Op.TheVariants.{TaskLook}
use Rattle.node_core.proofs.NodeLemmas.{pends_alike_so}
use Rattle.node_core.proofs.node.Node.pends_alike.Goals as goal

pub returns-in-TaskLook : goal.returns-in-TaskLook
returns-in-TaskLook c L st =
    let inside = TaskLook c.other_task-task.result c.in-TaskLook.last in
    let turned = ap (λ (t : TaskHandle). TaskLook t c.in-TaskLook.last) c.other_task-task.ensures ∙ ap inward_op (sym c.in-TaskLook.is) in
    pends_alike_so c.args.self.now L c.args.who c.args.op.now inside c.pends_alike.result st turned c.pends_alike.ensures
