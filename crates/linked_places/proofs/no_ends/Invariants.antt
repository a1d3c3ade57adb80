use Rattle.linked_places.proofs.Names.{◌≡◌, ◌≤◌, replicate, vec_len, vec_capacity, NO_ENDS}
use Rattle.linked_places.proofs.no_ends.Given as goal

abbrev pub invariant-loop-list : goal.invariant-loop-list
invariant-loop-list l = record {
  len : vec_len l.ends ≡ l.list;
  room : l.lists ≤ vec_capacity l.ends;
  items : l.ends.items ≡ replicate l.list NO_ENDS;
}
