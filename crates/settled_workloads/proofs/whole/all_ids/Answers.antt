use Rattle.std.proofs.Common.{◌++◌, ap, ◌∙◌, arith}
use Rattle.settled_runs.specs.Plain.{queue_in}
use Rattle.settled_workloads.specs.Rows.{id_in, ids_of}
use Rattle.settled_workloads.proofs.Loops.{adds_part}
use Rattle.settled_workloads.proofs.whole.all_ids.Goals as goal

pub loop-part-preserved : goal.loop-part-preserved
loop-part-preserved c = adds_part (λ s. id_in (queue_in s.deed)) c.args.parts.now c.loop-part.part-index c.part-item.result c.loop-part.ids.items
    c.push_ids.new.ids.items (omega arith) c.part-item.is (c.in_ok-push_ids.ensures
    ∙ ap (λ u. c.loop-part.ids.items ++ ids_of u) c.as_slice.ensures) c.loop-part.invariant
