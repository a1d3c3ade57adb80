use Rattle.run_report.proofs.Names.{ℕ, take, map, nat_eq, get, nothing_seen, seen_from, entry_of}
use Rattle.run_report.proofs.NamedEnds.{Named}
use Rattle.run_report.proofs.ends.note_named_ends.Given as goal

abbrev pub invariant-loop-short : goal.invariant-loop-short
invariant-loop-short l = (workers : ℕ) → Named (get nat_eq l.ended) (seen_from workers nothing_seen (map entry_of (take l.short-index l.shorts)))
