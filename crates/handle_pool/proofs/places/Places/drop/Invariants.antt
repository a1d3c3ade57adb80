use Rattle.std.proofs.Common.{◌≡◌, ◌<◌, length}
use Rattle.handle_pool.proofs.places.Places.drop.Given as goal

abbrev pub invariant-loop-place : goal.invariant-loop-place
invariant-loop-place g l = record {
  made : l.made ≡ length l.row.items;
  room : l.count ≡ l.row.room;
  some : 0 < l.count;
}
