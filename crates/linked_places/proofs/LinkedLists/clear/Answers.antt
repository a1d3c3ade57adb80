use Rattle.linked_places.proofs.Names.{◌<◌, length, map, set, [], refl, sym, subst, HandleLists, linked_handles}
use Rattle.linked_places.proofs.LinkedLemmas.{no_ends, IsLinked-clear, IsLinked-view, view-with_list}
use Rattle.linked_places.proofs.LinkedLists.clear.Goals as goal

pub invariant_of-self : goal.invariant_of-self
invariant_of-self c =
    let links = c.self.inside.links.items in
    let ends = c.self.inside.ends.items in
    let P : HandleLists → Type 0 = λ ls. c.args.list < length ls.lists in
    let linked = IsLinked-clear links ends (map (linked_handles links) ends) c.args.list c.self.invariant (subst P (sym c.self.view_is) c.requires) in
    IsLinked-view links (set ends c.args.list no_ends) (set (map (linked_handles links) ends) c.args.list []) linked

pub returns : goal.returns
returns c =
    let links = c.self.inside.links.items in
    let ends = c.self.inside.ends.items in
    let P : HandleLists → Type 0 = λ ls. c.args.list < length ls.lists in
    let linked = IsLinked-clear links ends (map (linked_handles links) ends) c.args.list c.self.invariant (subst P (sym c.self.view_is) c.requires) in
    view-with_list links links ends (set ends c.args.list no_ends) c.args.self.now c.args.list (λ (o : HandleLists). []) c.self.view_is refl linked
