use Rattle.std.proofs.Common.{◌≡◌, ◌+◌, ◌≤◌, take}
use Rattle.std.specs.List.{flat_map}
use Rattle.handle_pool.specs.Issued.{how_many}
use Rattle.settled_workloads.specs.Made.{makes_made}
use Rattle.settled_workloads.proofs.whole.makes_at_most.Given as goal

abbrev pub invariant-loop-part : goal.invariant-loop-part
invariant-loop-part l =
    how_many (λ s. makes_made l.made s.deed) (flat_map (λ p. p.statements) (take l.part-index l.parts)) + l.left ≡ l.most
