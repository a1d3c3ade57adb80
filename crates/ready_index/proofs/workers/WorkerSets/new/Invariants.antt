use Rattle.std.proofs.Common.{◌≡◌, ℕ, ◌*◌, ◌<◌, ◌≤◌, false, length}
use Rattle.ready_index.specs.Bits.{has_slot, set_of}
use Rattle.ready_index.proofs.workers.WorkerSets.new.Given as goal

-- the sets so far are empty and have room
abbrev pub invariant-loop-priority : goal.invariant-loop-priority
invariant-loop-priority l = record {
  empty : (p s : ℕ) → has_slot l.by_priority.items p s ≡ false;
  room : (p : ℕ) → p < l._priority → l.max ≤ 64 * length (set_of l.by_priority.items p);
  len : length l.by_priority.items ≡ l._priority;
}
