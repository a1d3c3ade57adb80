use Rattle.std.proofs.Common.{◌≡◌, ◌≤◌, replicate, vec_len, vec_capacity}
use Rattle.std.specs.Prelude.{pos}
use Rattle.mrapi_shmem.proofs.room.Room.zeroed.Given as goal

abbrev pub invariant-loop-cell : goal.invariant-loop-cell
invariant-loop-cell l = record {
  items : l.self-inside.cells.items ≡ replicate l._cell (pos 0);
  len : vec_len l.self-inside.cells ≡ l._cell;
  room : 4096 ≤ vec_capacity l.self-inside.cells;
}
