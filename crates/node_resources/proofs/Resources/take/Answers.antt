use Rattle.node_resources.proofs.Names.{◌≡◌, false, Some, ◌∙◌, is_some, true, slot_value, Mutex, locked_by, with_attached, after_look, after_attach, the_view}
use Rattle.node_resources.proofs.TallyLemmas.{changed_as, look_locks, attach_marks}
use Rattle.node_resources.proofs.Resources.take.Goals as goal

pub returns : goal.returns
returns c =
    let p = c.self.inside in
    let free : (x : Mutex) → slot_value p.mutexes c.args.mutex.0 ≡ Some x → is_some x.owner ≡ false = rw (← c.self.view_is) at c.requires.free in
    let ms = c.look.ensures.new ∙ changed_as p.mutexes c.args.mutex.0 (after_look c.args.who) (locked_by c.args.who)
    (λ x e. look_locks c.args.who x (free x e)) in
    let gs = c.change.ensures.new ∙ changed_as p.segments c.args.segment.0 (after_attach c.args.who) (with_attached c.args.who true)
    (λ y e. attach_marks c.args.who y) in
    rw (← c.self.view_is) (λ i. record (the_view p) { mutexes = ms i; segments = gs i })
