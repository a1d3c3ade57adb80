use Rattle.linked_places.proofs.Names.{◌≤◌, [], length, replicate, arith, length-replicate, NO_LINK}
use Rattle.linked_places.proofs.LinkedLemmas.{no_ends, IsLinked-new, IsLinked-view, lists-view}
use Rattle.linked_places.proofs.LinkedLists.new.Goals as goal

pub invariant_of-result : goal.invariant_of-result
invariant_of-result c =
    let few : length (replicate c.args.places NO_LINK) ≤ 65536 = omega (arith, length-replicate c.args.places NO_LINK, c.requires) in
    rw (c.in_ok-no_links.ensures, c.in_ok-no_ends.ensures)
    (IsLinked-view (replicate c.args.places NO_LINK) (replicate c.args.lists no_ends) (replicate c.args.lists [])
    (IsLinked-new (replicate c.args.places NO_LINK) c.args.lists few))

pub returns-clause-lists : goal.returns-clause-lists
returns-clause-lists c =
    let few : length (replicate c.args.places NO_LINK) ≤ 65536 = omega (arith, length-replicate c.args.places NO_LINK, c.requires) in
    rw (c.in_ok-no_links.ensures, c.in_ok-no_ends.ensures)
    (lists-view (replicate c.args.places NO_LINK) (replicate c.args.lists no_ends) (replicate c.args.lists [])
    (IsLinked-new (replicate c.args.places NO_LINK) c.args.lists few))
