use Rattle.run_report.proofs.Names.{◌≡◌, take, map, nows, decided, entry_of}
use Rattle.run_report.proofs.deciding.decided.Given as goal

abbrev pub invariant-loop-short : goal.invariant-loop-short
invariant-loop-short l = nows l.found.items ≡ decided l.who (map entry_of (take l.short-index l.shorts))
