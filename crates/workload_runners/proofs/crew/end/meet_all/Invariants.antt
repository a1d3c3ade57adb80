use Rattle.std.proofs.Common.{◌≡◌, vec_len, vec_capacity}
use Rattle.workload_runners.proofs.Meets.{MetSoFar}
use Rattle.workload_runners.proofs.crew.end.meet_all.Given as goal

abbrev pub invariant-loop-i : goal.invariant-loop-i
invariant-loop-i l = record {
  met : MetSoFar l.fn.main l.main l.fn.others.items l.others.items l.i;
  len : vec_len l.others ≡ vec_len l.fn.others;
  capacity : vec_capacity l.others ≡ vec_capacity l.fn.others;
}
