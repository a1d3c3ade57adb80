use Rattle.linked_places.proofs.Names.{◌≡◌, ◌++◌, ◌∷◌, [], length, map, set, None, Some, ◌∙◌, arith, length-set, slot_of, HandleLists, list_at, linked_handles, link_of, links_followed, links_with, ends_with}
use Rattle.linked_places.proofs.RunLemmas.{length-followed}
use Rattle.linked_places.proofs.LinkedLemmas.{last-within, count-within, IsLinked-view, view-with_list, read_ends, pushed}
use Rattle.linked_places.proofs.LinkedLists.push.Goals as goal

pub set_next-requires : goal.set_next-requires
set_next-requires c =
    let links = c.self.inside.links.items in
    let ends = c.self.inside.ends.items in
    let at = read_ends links ends c.args.self.now c.args.list c.index-ends.result.now c.self.view_is c.requires.list c.index-ends.ensures in
    last-within links c.index-ends.result.now (list_at (map (linked_handles links) ends) c.args.list)
    (c.self.invariant.each c.args.list c.index-ends.result.now at)

pub overflow_add-ends : goal.overflow_add-ends
overflow_add-ends c =
    let links = c.self.inside.links.items in
    let ends = c.self.inside.ends.items in
    let at = read_ends links ends c.args.self.now c.args.list c.index-ends.result.now c.self.view_is c.requires.list c.index-ends.ensures in
    let few = count-within links c.index-ends.result.now (list_at (map (linked_handles links) ends) c.args.list)
    (c.self.invariant.each c.args.list c.index-ends.result.now at) in
    omega (arith, few, c.self.invariant.few)

pub invariant_of-self : goal.invariant_of-self
invariant_of-self c =
    let links = c.self.inside.links.items in
    let ends = c.self.inside.ends.items in
    let e = c.index-ends.result.now in
    let at = read_ends links ends c.args.self.now c.args.list e c.self.view_is c.requires.list c.index-ends.ensures in
    let linked = pushed links ends c.args.self.now c.args.list e c.args.handle c.self.view_is c.self.invariant at c.requires.place c.requires.nowhere in
    rw (c.set_next.ensures, c.or.ensures) (IsLinked-view (links_with links e.last c.args.handle) (set ends c.args.list (ends_with e (slot_of c.args.handle)))
    (set (map (linked_handles links) ends) c.args.list (list_at (map (linked_handles links) ends) c.args.list ++ c.args.handle ∷ [])) linked)

pub returns : goal.returns
returns c =
    let links = c.self.inside.links.items in
    let ends = c.self.inside.ends.items in
    let e = c.index-ends.result.now in
    let at = read_ends links ends c.args.self.now c.args.list e c.self.view_is c.requires.list c.index-ends.ensures in
    let linked = pushed links ends c.args.self.now c.args.list e c.args.handle c.self.view_is c.self.invariant at c.requires.place c.requires.nowhere in
    let followed = links_followed links e.last (Some (slot_of c.args.handle)) in
    let size : length (links_with links e.last c.args.handle) ≡ length links =
    length-set followed (slot_of c.args.handle) (link_of c.args.handle e.last None) ∙ length-followed links e.last (Some (slot_of c.args.handle)) in
    rw (c.set_next.ensures, c.or.ensures) (view-with_list links (links_with links e.last c.args.handle) ends
    (set ends c.args.list (ends_with e (slot_of c.args.handle))) c.args.self.now c.args.list (λ (o : HandleLists). list_at o.lists c.args.list
    ++ c.args.handle ∷ []) c.self.view_is size linked)
