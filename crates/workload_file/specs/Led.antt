-- Lines one behind the other.
use Rattle.std.specs.Prelude.{ℕ, List, [], ◌∷◌}
use Rattle.workload_file.specs.Written.{TextLine}

-- the line behind which all that is laid out stands
abbrev pub last_line : ℕ → List TextLine → ℕ
last_line at [] = at
last_line at (line ∷ lines) = last_line line.0 lines
