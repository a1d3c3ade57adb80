use Rattle.std.proofs.Common.{◌≡◌, ◌≤◌, ◌+◌, drop}
use Rattle.handle_pool.specs.Issued.{how_many}
use Rattle.mrapi_counting.proofs.marks.count.Given as goal

abbrev pub invariant-loop-mark : goal.invariant-loop-mark
invariant-loop-mark l = record {
  few : l.marked ≤ l.mark-index;
  counted : how_many (λ mark. mark) l.marks ≡ l.marked + how_many (λ mark. mark) (drop l.mark-index l.marks);
}
