use Rattle.workload_file.proofs.Cited.{◌≡◌, ◌≤◌, ◌-◌, ◌++◌, replicate, ◌⊎◌}
use Rattle.workload_file.proofs.page.feed.Given as goal

abbrev pub invariant-loop-at : goal.invariant-loop-at
invariant-loop-at l = record {
  so_far : l.page.text.items ≡ l.fn.page.text.items ++ replicate (l.at - l.fn.page.line) 10;
  from : l.fn.page.line ≤ l.at;
  within : (l.at ≤ l.line) ⊎ (l.at ≡ l.fn.page.line);
}

abbrev pub decreases-loop-at : goal.decreases-loop-at
decreases-loop-at l = l.line - l.at
