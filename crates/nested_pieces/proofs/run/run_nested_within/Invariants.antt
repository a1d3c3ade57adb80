use Rattle.std.proofs.Common.{map}
use Rattle.nested_pieces.proofs.run.run_nested_within.Given as goal

abbrev pub ghosts-run_named : goal.ghosts-run_named
ghosts-run_named g a = record { ids = map (λ name. name.id) a.names.now }
