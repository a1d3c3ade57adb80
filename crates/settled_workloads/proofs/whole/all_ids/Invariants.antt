use Rattle.std.proofs.Common.{◌≡◌, take}
use Rattle.std.specs.List.{flat_map}
use Rattle.settled_workloads.specs.Rows.{ids_of}
use Rattle.settled_workloads.proofs.whole.all_ids.Given as goal

abbrev pub invariant-loop-part : goal.invariant-loop-part
invariant-loop-part l =
    l.ids.items ≡ ids_of (flat_map (λ p. p.statements) (take l.part-index l.parts))
