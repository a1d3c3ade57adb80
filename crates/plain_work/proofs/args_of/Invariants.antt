use Rattle.std.proofs.Common.{◌≡◌, ◌≤◌, take, length}
use Rattle.plain_work.proofs.args_of.Given as goal

abbrev pub invariant-loop-number : goal.invariant-loop-number
invariant-loop-number l = (l.args ≡ take l.number-index l.numbers) × (l.number-index ≤ length l.numbers) × (l.number-index ≤ 16)
