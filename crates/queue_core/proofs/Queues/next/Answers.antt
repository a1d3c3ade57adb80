use Rattle.std.proofs.Common.{◌+◌, ℕ, List, slice_get, sym, ◌∙◌, ap}
use Rattle.handle_pool.specs.Slots.{slot_of}
use Rattle.queue_core.proofs.QueueLemmas.{unended_from, tasks-listed}
use Rattle.queue_core.proofs.Queues.next.Goals as goal

pub next-requires : goal.next-requires
next-requires c = (
  slot_of c.requires.0,
  (unended_from c.self.inside.pool c.self.inside.tasks c.requires.0 c.args.self.now c.args.t.0 c.self.view_is c.requires.1).has,
)

pub returns-in-Some : goal.returns-in-Some
returns-in-Some c q i at =
    let list = tasks-listed c.self.inside.pool c.self.inside.tasks q c.args.self.now i c.args.t.0 c.self.view_is at in
    sym c.in-Some.is
    ∙ c.next.ensures (slot_of q) i (ap (λ (l : List ℕ). slice_get l i) (sym list) ∙ at)
    ∙ ap (λ (l : List ℕ). slice_get l (i + 1)) (sym list)

pub returns-in-None : goal.returns-in-None
returns-in-None c q i at =
    let list = tasks-listed c.self.inside.pool c.self.inside.tasks q c.args.self.now i c.args.t.0 c.self.view_is at in
    sym c.in-None.is
    ∙ c.next.ensures (slot_of q) i (ap (λ (l : List ℕ). slice_get l i) (sym list) ∙ at)
    ∙ ap (λ (l : List ℕ). slice_get l (i + 1)) (sym list)
