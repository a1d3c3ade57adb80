use Rattle.std.proofs.Common.{arith}
use Rattle.journal_text.proofs.Steps.{entries_more, entries_fail, entries_end}
use Rattle.journal_text.proofs.journals.entries_from.Goals as goal

pub returns-in_default : goal.returns-in_default
returns-in_default c =
    let last = rw c.in_default.is at c.cut_at.ensures.parts in
    rw (entries_end c.args.head.now c.lines.line c.lines.kept _ c.cut_at.result.0.now _ c.lines.invariant.so_far last) c.at_end.ensures

pub returns-in-Err : goal.returns-in-Err
returns-in-Err c =
    let first = rw c.in-Some.is at c.cut_at.ensures.parts in
    entries_fail c.in-Err.error c.args.head.now c.lines.line c.lines.kept _ c.cut_at.result.0.now c.in-Some.rest.now _ c.lines.invariant.so_far first
    c.in-Err.ensures

pub lines-preserved : goal.lines-preserved
lines-preserved c =
    let first = rw c.in-Some.is at c.cut_at.ensures.parts in
    let shorter = rw c.in-Some.is at c.cut_at.ensures.shorter in
    record {
      so_far = entries_more c.args.head.now c.lines.line c.lines.kept c.in-Ok.more _ c.cut_at.result.0.now c.in-Some.rest.now _ c.lines.invariant.so_far first
          c.in-Ok.ensures;
      count = omega (arith, shorter, c.lines.invariant.count);
    }
