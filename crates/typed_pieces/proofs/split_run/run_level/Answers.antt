use Rattle.typed_pieces.proofs.Names.{rules, IsKeptBy}
use Rattle.typed_pieces.proofs.Levels.{kept_at}
use Rattle.typed_pieces.proofs.split_run.run_level.Goals as goal

pub returns-clause-waits : goal.returns-clause-waits
returns-clause-waits g c =
    c.in_ok-level.ensures c.args.pieces.items
    (kept_at (IsKeptBy g.P.Split.promise g.P.Split.joined) (λ s. s.piece) _ _ _ c.in_ok-pieces.ensures.items (search rules) c.in_ok-journal.ensures.kept)
