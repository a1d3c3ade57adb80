use Rattle.ready_index.proofs.index.ReadyIndex.first_for.Given as goal

-- the ledger of the new counter
abbrev pub ghosts-first_from : goal.ghosts-first_from
ghosts-first_from a = record { name = a.blank.name; parts = a.blank.parts }
