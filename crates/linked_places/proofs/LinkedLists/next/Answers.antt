use Rattle.linked_places.proofs.Names.{◌≡◌, refl, sym, ap, ◌∙◌, arith, get_or_from_slice_get, slice_get_read, length, Some, slice_get, slot_of, Link}
use Rattle.linked_places.proofs.NextLemmas.{followed, followed-in, within-link, within-next, next-none, next-some}
use Rattle.linked_places.proofs.LinkedLists.next.Goals as goal

pub index-requires : goal.index-requires
index-requires c =
    let f = followed-in c.self.inside.links.items c.self.inside.ends.items c.args.self.now c.args.handle c.self.view_is c.self.invariant c.requires in
    omega (arith, within-link c.self.inside.links.items c.args.handle f.0 f.1)

pub index-requires-in-Some : goal.index-requires-in-Some
index-requires-in-Some c =
    let links = c.self.inside.links.items in
    let f = followed-in links c.self.inside.ends.items c.args.self.now c.args.handle c.self.view_is c.self.invariant c.requires in
    let link : c.index.result.now ≡ f.1.link = c.index.ensures ∙ get_or_from_slice_get links (slot_of c.args.handle) f.1.link c.index.result.now f.1.read in
    omega (arith, within-next links c.args.handle f.0 c.in-Some.after f.1 (ap (λ (l : Link). l.next) (sym link) ∙ c.in-Some.is))

pub returns-in-Some : goal.returns-in-Some
returns-in-Some c list i at =
    let links = c.self.inside.links.items in
    let f = followed links c.self.inside.ends.items c.args.self.now c.args.handle list i c.self.view_is c.self.invariant at in
    let link : c.index.result.now ≡ f.link = c.index.ensures ∙ get_or_from_slice_get links (slot_of c.args.handle) f.link c.index.result.now f.read in
    let next = ap (λ (l : Link). l.next) (sym link) ∙ c.in-Some.is in
    let read : slice_get links c.in-Some.after ≡ Some c.index-in-Some.result.now =
    slice_get_read links (length links) c.in-Some.after c.index-in-Some.result.now refl
    (within-next links c.args.handle _ c.in-Some.after f next) c.index-in-Some.ensures in
    next-some links c.args.handle _ c.in-Some.after c.index-in-Some.result.now f next read

pub returns-in-None : goal.returns-in-None
returns-in-None c list i at =
    let links = c.self.inside.links.items in
    let f = followed links c.self.inside.ends.items c.args.self.now c.args.handle list i c.self.view_is c.self.invariant at in
    let link : c.index.result.now ≡ f.link = c.index.ensures ∙ get_or_from_slice_get links (slot_of c.args.handle) f.link c.index.result.now f.read in
    next-none links c.args.handle _ f (ap (λ (l : Link). l.next) (sym link) ∙ c.in-None.is)
