use Rattle.run_report.proofs.Names.{nat_eq, ◌≡◌, ℕ, drop, get, nows, first_or_second, place_from}
use Rattle.run_report.proofs.places.places_of.Given as goal

abbrev pub invariant-loop-i : goal.invariant-loop-i
invariant-loop-i l = (h : ℕ) → first_or_second (get nat_eq l.places h) (place_from l.i (drop l.i l.statements) (drop l.i (nows l.replies)) h)
    ≡ place_from 0 l.statements (nows l.replies) h
