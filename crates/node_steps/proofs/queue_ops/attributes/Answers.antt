use Rattle.node_steps.proofs.Names.{◌≡◌, ℕ, Bool, true, false, cond, refl, ap, ◌∙◌, QueueAttributes}
use Rattle.mtapi_values.specs.AttributeTables.{after_set, queue_attributes}
use Rattle.node_steps.proofs.queue_ops.attributes.Goals as goal

set-ordered : (b : Bool) (a : QueueAttributes) → (after_set queue_attributes 4 (cond b 1 0) a).ordered ≡ b
set-ordered true a = refl
set-ordered false a = refl

set-retain : (b : Bool) (a : QueueAttributes) → (after_set queue_attributes 5 (cond b 1 0) a).retain ≡ b
set-retain true a = refl
set-retain false a = refl

kept-ordered : (b : Bool) (a : QueueAttributes) → (after_set queue_attributes 5 (cond b 1 0) a).ordered ≡ a.ordered
kept-ordered true a = refl
kept-ordered false a = refl

pub returns-clause-ordered : goal.returns-clause-ordered
returns-clause-ordered c =
    ap (λ (a : QueueAttributes). a.ordered) (c.set-4.ensures.becomes ∙ ap (λ (k : ℕ). after_set queue_attributes 5 k c.set-3.new.self) c.yes_or_no-2.ensures)
    ∙ kept-ordered c.args.retain c.set-3.new.self
    ∙ ap (λ (a : QueueAttributes). a.ordered) (c.set-3.ensures.becomes ∙ ap (λ (k : ℕ). after_set queue_attributes 4 k c.set-2.new.self) c.yes_or_no.ensures)
    ∙ set-ordered c.args.ordered c.set-2.new.self

pub returns-clause-retain : goal.returns-clause-retain
returns-clause-retain c =
    ap (λ (a : QueueAttributes). a.retain) (c.set-4.ensures.becomes ∙ ap (λ (k : ℕ). after_set queue_attributes 5 k c.set-3.new.self) c.yes_or_no-2.ensures)
    ∙ set-retain c.args.retain c.set-3.new.self
