use Rattle.workload_file.proofs.Cited.{◌≡◌, list_all, take, is_printable}
use Rattle.workload_file.proofs.grammar.all_printable.Given as goal

abbrev pub invariant-loop-b : goal.invariant-loop-b
invariant-loop-b l = l.printable ≡ list_all is_printable (take l.b-index l.text)
