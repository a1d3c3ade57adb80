use Rattle.std.proofs.Common.{◌∙◌}
use Rattle.std.proofs.Math.Logic.{∥∥₁_map}
use Rattle.nested_workers.proofs.Starts.{since_then}
use Rattle.nested_workers.proofs.held.Held.start.Goals as goal

pub invariant_of-self : goal.invariant_of-self
invariant_of-self g c = record {
  of_cell = c.started.ensures.same.cell ∙ c.args.self.now.of_cell;
  since = ∥∥₁_map c.args.self.now.since (λ s. since_then g.B.Began.began _ _ s c.started.ensures);
}
