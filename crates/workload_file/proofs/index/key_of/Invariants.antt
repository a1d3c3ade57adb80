use Rattle.workload_file.proofs.Cited.{◌≡◌, ◌<◌, ◌*◌, ◌-◌, ◌^◌, drop, length}
use Rattle.workload_file.specs.Indexed.{key_of}
use Rattle.workload_file.proofs.index.key_of.Given as goal

abbrev pub invariant-digits : goal.invariant-digits
invariant-digits l = (l.key ≡ key_of (drop l.at l.name)) × (l.key < 2 ^ (8 * (length l.name - l.at)))
