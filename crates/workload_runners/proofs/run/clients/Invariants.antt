use Rattle.std.proofs.Common.{◌≡◌, map, take}
use Rattle.workload_runners.proofs.run.clients.Given as goal

abbrev pub invariant-loop-part : goal.invariant-loop-part
invariant-loop-part l = map (λ c. c.part.now) l.all.items ≡ take l.part-index l.parts
