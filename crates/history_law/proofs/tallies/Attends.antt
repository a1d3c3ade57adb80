-- A running tally that has its mutex and its segment owns the one and is attached to the other.
use Rattle.history_law.proofs.Names.{arith, nat_tests, Terms, Legal, List, NodeEntry, TalliesHold, after, live_object}
use Rattle.history_law.proofs.lists.Every.{every_at}
use Rattle.history_law.proofs.locks.Exclusive.{good_after}
use Rattle.history_law.proofs.tallies.Ties.{id_in}

pub tallies_hold : (terms : Terms) (L : List NodeEntry) → Legal terms L → TalliesHold (after terms L)
tallies_hold terms L l h w t e r b = grind (arith, nat_tests, live_object, every_at, good_after, id_in)
