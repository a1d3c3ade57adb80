use Rattle.std.proofs.Common.{length, take, ◌-◌, ◌≤◌}
use Rattle.std.specs.Io.KnownBytes.{Appends}
use Rattle.byte_io.proofs.written.write_all.Given as goal

abbrev pub invariant-writing : goal.invariant-writing
invariant-writing g l = record {
  within : l.at ≤ length l.bytes;
  added : Appends (g.W.Sink.held l.initial.out) (g.W.Sink.held l.out) (take l.at l.bytes);
  later : g.W.Sink.faults l.initial.out ≤ g.W.Sink.faults l.out;
}

abbrev pub decreases-writing : goal.decreases-writing
decreases-writing g l = length l.bytes - l.at
