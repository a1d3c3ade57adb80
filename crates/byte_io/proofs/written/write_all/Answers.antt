use Rattle.std.proofs.Common.{arith}
use Rattle.std.proofs.lemmas.List.{take_rest}
use Rattle.std.proofs.lemmas.Grind.{common_steps}
use Rattle.byte_io.proofs.Pieces.{Appends-then}
use Rattle.byte_io.proofs.written.write_all.Goals as goal

pub writing-preserved : goal.writing-preserved
writing-preserved g c =
    let held = g.W.Sink.held in
    let piece = rw (take_rest c.args.bytes.now c.writing.at) at c.in_ok-count.ensures.bytes in
    record {
      within = grind (arith, common_steps);
      added = Appends-then (held c.args.out.now) (held c.writing.out)
          (held c.write.new.self) c.args.bytes.now c.writing.at c.in_ok-count.count c.writing.invariant.added piece;
      later = omega (arith, c.in_ok-count.ensures.cause.later, c.writing.invariant.later);
    }
