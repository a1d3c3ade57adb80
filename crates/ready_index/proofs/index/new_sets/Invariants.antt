use Rattle.std.proofs.Common.{◌≡◌, ℕ, false, length}
use Rattle.ready_index.specs.Bits.{has_slot}
use Rattle.ready_index.specs.Index.{sets_of, HaveRoom}
use Rattle.ready_index.proofs.index.new_sets.Given as goal

-- the sets so far are empty and have room
abbrev pub invariant-loop-worker : goal.invariant-loop-worker
invariant-loop-worker l = record {
  empty : (w p s : ℕ) → has_slot (sets_of l.sets.items w) p s ≡ false;
  room : HaveRoom l.max l.sets.items l.priorities;
  len : length l.sets.items ≡ l._worker;
}
