use Rattle.std.proofs.Common.{◌≡◌, ◌≤◌, length}
use Rattle.number_text.specs.Cores.{cores_below}
use Rattle.number_text.proofs.cores.listed_cores.Given as goal

abbrev pub invariant-loop-core : goal.invariant-loop-core
invariant-loop-core l = record {
  so_far : l.cores.items ≡ cores_below l.mask l.core;
  room : length l.cores.items ≤ l.core;
  within : l.core ≤ 64;
}
