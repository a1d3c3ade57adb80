use Rattle.mcapi_msg.proofs.Names.{◌≡◌, ◌≤◌, length, vec_capacity, AreEmpty}
use Rattle.mcapi_msg.proofs.boxes.spare_rings.Given as goal

abbrev pub invariant-loop-index : goal.invariant-loop-index
invariant-loop-index l = record { count : length l.spare.items ≡ l._index; empty : AreEmpty l.limit l.spare.items; room : l.count ≤ vec_capacity l.spare }
