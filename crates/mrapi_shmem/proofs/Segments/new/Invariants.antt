use Rattle.std.proofs.Common.{◌≡◌, ◌≤◌, vec_len, vec_capacity}
use Rattle.mrapi_shmem.proofs.Segments.new.Given as goal

abbrev pub invariant-loop-place : goal.invariant-loop-place
invariant-loop-place l = record {
  len : vec_len l.spare ≡ l._place;
  room : l.max ≤ vec_capacity l.spare;
}
