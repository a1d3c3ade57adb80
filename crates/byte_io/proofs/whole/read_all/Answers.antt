use Rattle.std.proofs.Common.{rules, ◌++◌, take, length-append, length-take}
use Rattle.std.proofs.KnownBytes.{Consumes-trans}
use Rattle.byte_io.proofs.whole.read_all.Goals as goal

pub returns-in_err-extend_from_slice-clause-taken : goal.returns-in_err-extend_from_slice-clause-taken
returns-in_err-extend_from_slice-clause-taken g c = record {
  taken = c.reading.bytes.items ++ take c.in_ok-count.count c.read.new.buf;
  few = search (rules, length-append, length-take);
  consumed = Consumes-trans _ _ _ c.reading.bytes.items (take c.in_ok-count.count c.read.new.buf) c.reading.invariant.taken c.in_ok-count.ensures.bytes.0;
}
