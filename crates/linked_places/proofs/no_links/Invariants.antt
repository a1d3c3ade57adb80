use Rattle.linked_places.proofs.Names.{◌≡◌, ◌≤◌, replicate, vec_len, vec_capacity, NO_LINK}
use Rattle.linked_places.proofs.no_links.Given as goal

abbrev pub invariant-loop-place : goal.invariant-loop-place
invariant-loop-place l = record {
  len : vec_len l.links ≡ l.place;
  room : l.places ≤ vec_capacity l.links;
  items : l.links.items ≡ replicate l.place NO_LINK;
}
