use Rattle.mcapi_msg.proofs.Names.{NoneBelow, HasPort}
use Rattle.mcapi_msg.proofs.boxes.Boxes.find.Given as goal

abbrev pub invariant-loop-place : goal.invariant-loop-place
invariant-loop-place l = NoneBelow l.self.pool l.place (HasPort l.port)
