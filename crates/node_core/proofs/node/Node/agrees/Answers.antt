use Rattle.node_core.proofs.PartLemmas.{agrees}
use Rattle.node_core.proofs.node.Node.agrees.Goals as goal

pub returns : goal.returns
returns c L st = agrees c.args.self.now L st
