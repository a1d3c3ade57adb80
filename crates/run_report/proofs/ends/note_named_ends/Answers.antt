use Rattle.run_report.proofs.Names.{refl, nat_eq, get, entry_of}
use Rattle.run_report.specs.Changes.{effect_of}
use Rattle.run_report.proofs.NamedEnds.{named_next}
use Rattle.run_report.proofs.ends.note_named_ends.Goals as goal

pub loop-short-preserved : goal.loop-short-preserved
loop-short-preserved c =
    λ workers.
    named_next workers c.loop-short.short-index c.args.shorts.now c.short-item.result
    (effect_of (entry_of c.short-item.result).op (entry_of c.short-item.result).reply)
    (get nat_eq c.loop-short.ended) (get nat_eq c.note_short.new.ended)
    c.loop-short-test.true c.short-item.is refl (c.in_ok-note_short.ensures.one c.if-not-branch.false)
    (c.loop-short.invariant workers) (c.in_ok-note_short.ensures.noted c.if-not-branch.false)
