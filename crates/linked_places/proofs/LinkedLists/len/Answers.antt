use Rattle.linked_places.proofs.Names.{◌≤◌, map, subst, HandleLists, list_at, linked_handles}
use Rattle.linked_places.proofs.LinkedLemmas.{count-within, read_ends}
use Rattle.linked_places.proofs.LinkedLists.len.Goals as goal

pub returns-clause-few : goal.returns-clause-few
returns-clause-few c =
    let links = c.self.inside.links.items in
    let ends = c.self.inside.ends.items in
    let e = c.index.result.now in
    let at = read_ends links ends c.args.self.now c.args.list e c.self.view_is c.requires c.index.ensures in
    let few = count-within links e (list_at (map (linked_handles links) ends) c.args.list) (c.self.invariant.each c.args.list e at) in
    let P : HandleLists → Type 0 = λ ls. e.count ≤ ls.places in
    subst P c.self.view_is few
