use Rattle.std.proofs.Common.{[], arith}
use Rattle.node_core_tests.proofs.tests.asking.Called.new.Goals as goal

pub invariant_of-result : goal.invariant_of-result
invariant_of-result c = ([], c.with-node.ensures.stands c.in_ok-init.ensures.stands, omega arith)
