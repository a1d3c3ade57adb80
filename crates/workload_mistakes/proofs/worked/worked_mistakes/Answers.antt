use Rattle.std.proofs.Common.{refl}
unfoldable use Rattle.std.specs.Fmt.{digits}
unfoldable use Rattle.workload_file.specs.Causes.{cause_text}
unfoldable use Rattle.workload_mistakes.specs.Ends.{explain_message}
unfoldable use Rattle.workload_mistakes.specs.Mending.{usual_text, with_line}
unfoldable use Rattle.workload_mistakes.specs.Page.{place_of_mistake, placed}
use Rattle.workload_mistakes.proofs.worked.worked_mistakes.Goals as goal

pub returns : goal.returns
unfolding digits cause_text explain_message usual_text with_line place_of_mistake placed
returns c = record {
  order = λ hint. search;
  page = λ hint e. record { line = rw e refl; none = refl; one = rw e refl; more = rw e refl };
  mends = λ hint. search;
  bindings = search;
  ends = record { statuses = refl; said = refl; writing = refl };
  causes = record { last = refl };
  looks = λ hint. search;
}
