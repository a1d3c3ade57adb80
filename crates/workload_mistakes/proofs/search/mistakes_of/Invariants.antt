use Rattle.workload_mistakes.proofs.Names.{◌≡◌, ◌≤◌, ◌-◌, length, mended_text, AreFaulty}
use Rattle.workload_mistakes.proofs.search.mistakes_of.Given as goal

abbrev pub invariant-reading : goal.invariant-reading
invariant-reading l = record {
  few : length l.told.items ≤ 50;
  each : AreFaulty l.told.items l.bytes;
  text : l.text.items ≡ mended_text l.told.items l.bytes;
}

abbrev pub decreases-reading : goal.decreases-reading
decreases-reading l = 50 - length l.told.items
