use Rattle.std.proofs.Common.{◌≡◌, ℕ, ◌+◌, ◌*◌, ◌<◌, ◌≤◌, false}
use Rattle.ready_index.specs.Bits.{has_slot}
use Rattle.ready_index.proofs.workers.WorkerSets.first.Given as goal

-- no smaller priority has a slot, and three words were read for each at most
abbrev pub invariant-loop-priority : goal.invariant-loop-priority
invariant-loop-priority g l = record {
  none : (p s : ℕ) → p < l.priority → has_slot l.self p s ≡ false;
  cost : l.steps ≤ l.initial.steps + 3 * l.priority;
}
