use Rattle.workload_file.proofs.Cited.{arith, length, err_from_is_err_and, after_len}
use Rattle.workload_file.proofs.Phrases.{lines_more, lines_end, lines_done}
use Rattle.workload_file.proofs.load.read_lines.Goals as goal

pub returns-in_err-add_line : goal.returns-in_err-add_line
returns-in_err-add_line c =
    let h = rw (c.in-Some.is, c.cut_at.ensures.parts) at c.lines.invariant.so_far in
    let p = err_from_is_err_and c.from_residual.result c.from_residual.ensures.1 in
    rw (p.1, p.2) (lines_end c.in_err-add_line.field-0.0 c.lines.r.said c.lines.line _ _ _ c.in_err-add_line.ensures.value h)

pub lines-preserved : goal.lines-preserved
lines-preserved c =
    let h = rw (c.in-Some.is, c.cut_at.ensures.parts) at c.lines.invariant.so_far in
    let k = rw c.in-Some.is at c.lines.invariant.count in
    record {
      so_far = lines_more c.lines.r.said c.add_line.new.r.said c.lines.line _ _ _ c.in_ok-add_line.ensures.value h;
      reader = c.in_ok-add_line.ensures.reader;
      count = omega (arith, k, after_len c.cut_at.result.1 (length c.in-Some.rest.now) c.cut_at.ensures.shorter);
    }

pub returns : goal.returns
returns c = lines_done c.lines.r.said c.lines.line _ (rw c.in_default.is at c.lines.invariant.so_far)
