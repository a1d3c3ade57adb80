use Rattle.std.proofs.Common.{arith, rules}
use Rattle.std.proofs.lemmas.Int.{ints, to_z-of_z}
use Rattle.std.proofs.lemmas.List.Sums.{fold_more}
use Rattle.run_report.proofs.TotalSteps.{kept_more}
use Rattle.run_report.proofs.totals.with_numbers.Goals as goal

pub loop-number-preserved : goal.loop-number-preserved
loop-number-preserved c = record {
  value = search (rules, fold_more, to_z-of_z);
  kept = kept_more c.args.totals c.loop-number.totals c.with_number-totals.result _ c.loop-number.invariant.kept c.with_number-totals.ensures.value;
  near = record {
    low = omega (arith, ints, c.with_number-totals.ensures.near.low, c.loop-number.invariant.near.low);
    high = omega (arith, ints, c.with_number-totals.ensures.near.high, c.loop-number.invariant.near.high);
  };
  within = omega (arith, c.loop-number-test.true);
}
