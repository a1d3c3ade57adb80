use Rattle.linked_places.proofs.Names.{◌≡◌, ◌<◌, length, map, set, sym, subst, ◌∙◌, arith, get_or_from_slice_get, slot_of, HandleLists, list_at, without_handle, NowhereAt, linked_handles, links_followed, links_without, ends_without}
use Rattle.linked_places.proofs.RunLemmas.{length-followed, length-following}
use Rattle.linked_places.proofs.LinkedLemmas.{IsLinked-view, view-with_list, removed, removed_gone}
use Rattle.linked_places.proofs.LinkedLists.remove.Goals as goal

pub index-link-requires : goal.index-link-requires
index-link-requires c =
    let found = removed c.self.inside.links.items c.self.inside.ends.items c.args.self.now c.args.list c.args.handle c.self.view_is c.self.invariant
    c.requires in
    omega (arith, found.2.within)

pub set_next-requires : goal.set_next-requires
set_next-requires c =
    let found = removed c.self.inside.links.items c.self.inside.ends.items c.args.self.now c.args.list c.args.handle c.self.view_is c.self.invariant
    c.requires in
    let link : c.index-link.result.now ≡ found.2.link =
    c.index-link.ensures ∙ get_or_from_slice_get c.self.inside.links.items (slot_of c.args.handle) found.2.link c.index-link.result.now found.2.read in
    rw link found.2.previous

pub set_previous-requires : goal.set_previous-requires
set_previous-requires c =
    let links = c.self.inside.links.items in
    let found = removed links c.self.inside.ends.items c.args.self.now c.args.list c.args.handle c.self.view_is c.self.invariant c.requires in
    let link : c.index-link.result.now ≡ found.2.link =
    c.index-link.ensures ∙ get_or_from_slice_get links (slot_of c.args.handle) found.2.link c.index-link.result.now found.2.read in
    rw (c.set_next.ensures, length-followed links c.index-link.result.now.previous c.index-link.result.now.next, link) found.2.next

pub invariant_of-self : goal.invariant_of-self
invariant_of-self c =
    let links = c.self.inside.links.items in
    let ends = c.self.inside.ends.items in
    let found = removed links ends c.args.self.now c.args.list c.args.handle c.self.view_is c.self.invariant c.requires in
    let link : c.index-link.result.now ≡ found.2.link =
    c.index-link.ensures ∙ get_or_from_slice_get links (slot_of c.args.handle) found.2.link c.index-link.result.now found.2.read in
    let e : c.index-ends.result.now ≡ found.0 = c.index-ends.ensures ∙ get_or_from_slice_get ends c.args.list found.0 c.index-ends.result.now found.1 in
    rw (c.set_previous.ensures, c.set_next.ensures, c.without.ensures, link, e)
    (IsLinked-view (links_without links found.2.link.previous found.2.link.next) (set ends c.args.list (ends_without found.0 found.2.link))
    (set (map (linked_handles links) ends) c.args.list (without_handle c.args.handle (list_at (map (linked_handles links) ends) c.args.list))) found.2.linked)

pub returns-clause-new : goal.returns-clause-new
returns-clause-new c =
    let links = c.self.inside.links.items in
    let ends = c.self.inside.ends.items in
    let found = removed links ends c.args.self.now c.args.list c.args.handle c.self.view_is c.self.invariant c.requires in
    let link : c.index-link.result.now ≡ found.2.link =
    c.index-link.ensures ∙ get_or_from_slice_get links (slot_of c.args.handle) found.2.link c.index-link.result.now found.2.read in
    let e : c.index-ends.result.now ≡ found.0 = c.index-ends.ensures ∙ get_or_from_slice_get ends c.args.list found.0 c.index-ends.result.now found.1 in
    let followed = links_followed links found.2.link.previous found.2.link.next in
    let size : length (links_without links found.2.link.previous found.2.link.next) ≡ length links =
    length-following followed found.2.link.next found.2.link.previous ∙ length-followed links found.2.link.previous found.2.link.next in
    rw (c.set_previous.ensures, c.set_next.ensures, c.without.ensures, link, e)
    (view-with_list links (links_without links found.2.link.previous found.2.link.next) ends
    (set ends c.args.list (ends_without found.0 found.2.link)) c.args.self.now c.args.list
    (λ (o : HandleLists). without_handle c.args.handle (list_at o.lists c.args.list)) c.self.view_is size found.2.linked)

pub returns-clause-gone : goal.returns-clause-gone
returns-clause-gone c =
    let links = c.self.inside.links.items in
    let ends = c.self.inside.ends.items in
    let P : HandleLists → Type 0 = λ ls. NowhereAt (slot_of c.args.handle) ls.lists in
    subst P (sym (returns-clause-new c)) (removed_gone links ends c.args.self.now c.args.list c.args.handle c.self.view_is c.self.invariant c.requires)

pub returns-clause-place : goal.returns-clause-place
returns-clause-place c =
    let found = removed c.self.inside.links.items c.self.inside.ends.items c.args.self.now c.args.list c.args.handle c.self.view_is c.self.invariant
    c.requires in
    let P : HandleLists → Type 0 = λ ls. slot_of c.args.handle < ls.places in
    subst P c.self.view_is found.2.within
