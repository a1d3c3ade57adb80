use Rattle.handle_pool.proofs.Names.{◌≡◌, ◌-◌, ◌++◌, fresh}
use Rattle.handle_pool.proofs.places.make.Given as goal

abbrev pub invariant-loop-at : goal.invariant-loop-at
invariant-loop-at g l = record {
  items : l.row.items ≡ l.fn.row.items ++ fresh l.made (l.at - l.made);
  room : l.row.room ≡ l.fn.row.room;
}
