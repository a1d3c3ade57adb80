use Rattle.workload_mistakes.proofs.Names.{length, arith, after_len, read_for}
use Rattle.workload_mistakes.proofs.Lines.{line_written, lines_written}
use Rattle.workload_mistakes.proofs.mending.mended.Goals as goal

pub lines-preserved : goal.lines-preserved
lines-preserved c =
    let h = rw (c.in-Some.is, c.cut_at.ensures.parts) at c.lines.invariant.so_far in
    let k = rw c.in-Some.is at c.lines.invariant.count in
    record {
      so_far = line_written c.lines.out.items c.push_line.new.out.items c.lines.number c.args.mistake.now.line
          (read_for c.args.mistake.now.mend) c.cut_at.result.0.now c.cut_at.result.1 c.is_some.result _ c.is_some.ensures c.in_ok-push_line.ensures h;
      count = omega (arith, k, after_len c.cut_at.result.1 (length c.in-Some.rest.now) c.cut_at.ensures.shorter);
    }

pub returns : goal.returns
returns c = lines_written c.lines.out.items c.lines.number c.args.mistake.now.line (read_for c.args.mistake.now.mend) _
    (rw c.in_default.is at c.lines.invariant.so_far)
