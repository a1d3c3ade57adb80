use Rattle.mtapi_split.proofs.queens.Board.+count.Given as goal

abbrev pub decreases-count : goal.decreases-count
decreases-count l = l.self.rows
