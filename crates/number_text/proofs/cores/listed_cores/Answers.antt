use Rattle.std.proofs.Common.{sym, arith, ◌∙◌}
use Rattle.number_text.proofs.CoreSteps.{cores_none, cores_yes, cores_no}
use Rattle.number_text.proofs.cores.listed_cores.Goals as goal
use Rattle.number_text.proofs.cores.listed_cores.Goals.{then-has_core, else-has_core}

pub loop-core-init : goal.loop-core-init
loop-core-init c = rw c.new-cores.ensures (record { so_far = sym (cores_none c.args.mask); room = omega arith; within = omega arith })

pub loop-core-preserved : goal.loop-core-preserved
loop-core-preserved c = elim c.if-has_core.branch [
  | then-has_core w ↦ record {
    so_far = rw (w.cores-is, w.push.ensures.items)
        (cores_yes c.args.mask c.loop-core.core _ (sym c.has_core.ensures ∙ w.if-has_core.true) c.loop-core.invariant.so_far);
    room = rw w.cores-is (omega (arith, w.push.ensures.len, c.loop-core.invariant.room));
    within = omega arith;
  }
  | else-has_core w ↦ record {
    so_far = rw w.cores-is (cores_no c.args.mask c.loop-core.core _ (sym c.has_core.ensures ∙ w.if-has_core.false) c.loop-core.invariant.so_far);
    room = rw w.cores-is (omega (arith, c.loop-core.invariant.room));
    within = omega arith;
  }
]
