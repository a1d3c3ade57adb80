use Rattle.std.proofs.Common.{◌≡◌, take}
use Rattle.mtapi_c.proofs.ops.args_of.Given as goal

-- the numbers so far
abbrev pub invariant-loop-number : goal.invariant-loop-number
invariant-loop-number l = l.args ≡ take l.number-index l.numbers
