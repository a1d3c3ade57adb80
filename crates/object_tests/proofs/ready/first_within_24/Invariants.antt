use Rattle.object_tests.proofs.ready.first_within_24.Given as goal

-- the ledger of the new counter
abbrev pub ghosts-counted : goal.ghosts-counted
ghosts-counted a = record { name = a.blank.name; parts = a.blank.parts }
