-- What comes of the parts of a workload.
use Rattle.std.specs.Prelude.{◌≡◌, ℕ, List, All, Option, None}
use Rattle.mtapi_machine.specs.Legal.{NodeEntry}
use Rattle.node_journals.specs.declared.entries.Journal.{Journal}
use Rattle.workload_runners.specs.Turns.{Seat, SameNodeSeat, AddsOwn}
use Rattle.workload_runners.specs.declared.parts.Back.{Back}
use Rattle.workload_runners.specs.declared.statements.Stop.{Stop}
use Rattle.workload_runners.specs.declared.crew.holder.Held.{Held}
use Rattle.workload_runners.specs.declared.crew.run.RanNode.{RanNode}

-- what a seat that came back promises: the same seat, and, unless its holder had to stop, what it did
pub record CameBack (R : ℕ → List NodeEntry → Type 0) (old : Seat) (b : Back) : Type 0 where
  pub same : SameNodeSeat old b.seat
  pub did : b.stop ≡ None → AddsOwn R old b.seat

-- the same seat, with its entries as they were where nobody had to stop
pub record IsClosed (b : Back) (h : Held (Option Stop)) : Type 0 where
  pub same : SameNodeSeat b.seat h.seat
  pub told : h.told ≡ b.stop
  pub seat : h.told ≡ None → h.seat ≡ b.seat

-- the journal of a run in which nobody had to stop
pub record IsUnstopped {A : Type 0} (r : RanNode (Option Stop) (Option Stop) A) (j : Journal) : Type 0 where
  pub journal : j ≡ r.journal
  pub main : r.told ≡ None
  pub others : All (λ (s : Option Stop). s ≡ None) r.others.items
