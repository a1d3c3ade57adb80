-- Which ops statements ask for.
use Rattle.std.proofs.lemmas.Bool.Decides.{nat_tests}
use Rattle.std.proofs.Common.{arith}
use Rattle.run_check.proofs.Names.{Op, Wanted, Entrance, IsOnce, op_of_look, IsTimed, Bool, IsStated}

pub once_is_stated : (o : Op) → IsOnce o → IsStated o
once_is_stated o e1 = grind (arith, nat_tests)

pub look_is_stated : (w : Wanted) → IsTimed w → (last : Bool) → IsStated (op_of_look w last)
look_is_stated Entrance timed last = elim timed [ ]
look_is_stated _ timed last = tt
