use Rattle.std.proofs.Common.{[], ◌∷◌}
use Rattle.turn_cell.proofs.cell.TurnCell.turn.Given as goal

abbrev pub ghosts-pass : goal.ghosts-pass
ghosts-pass g a = record { argument = a.reply.now ∷ [] }
