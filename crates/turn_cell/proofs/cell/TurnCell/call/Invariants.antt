use Rattle.std.proofs.Common.{[], ◌∷◌}
use Rattle.turn_cell.proofs.cell.TurnCell.call.Given as goal

abbrev pub ghosts-turn : goal.ghosts-turn
ghosts-turn g a = record { argument = a.op ∷ [] }
