use Rattle.std.proofs.Common.{◌∙◌}
use Rattle.run_check.proofs.Owns.{own_none, own_next}
use Rattle.run_check.proofs.lines.lines_of.Goals as goal

pub loop-i-init : goal.loop-i-init
loop-i-init c = c.new-lines.ensures.items ∙ own_none c.args.who

pub loop-i-preserved : goal.loop-i-preserved
loop-i-preserved c = own_next c.args.who c.loop-i.i c.args.entries.now c.args.skipped.now c.index-entries-i.result c.loop-i.lines.items
    c.push_if_own.new.lines.items
    c.requires.beside c.loop-i-test.true c.index-entries-i.is c.loop-i.invariant c.in_ok-push_if_own.ensures
