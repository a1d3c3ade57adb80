use Rattle.run_report.proofs.Names.{◌≡◌, ◌≤◌, length, take, with_numbers, IsNear}
use Rattle.run_report.proofs.totals.with_numbers.Given as goal

abbrev pub invariant-loop-number : goal.invariant-loop-number
invariant-loop-number l = record {
  value : l.totals ≡ with_numbers l.fn.totals (take l.number-index l.numbers);
  kept : l.totals ≡ record l.fn.totals { sum = l.totals.sum };
  near : IsNear l.number-index l.fn.totals.sum l.totals.sum;
  within : l.number-index ≤ length l.numbers;
}
