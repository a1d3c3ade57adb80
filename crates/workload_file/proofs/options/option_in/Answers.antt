use Rattle.workload_file.proofs.Cited.{sym, take_all}
use Rattle.workload_file.proofs.Placed.{none_known}
use Rattle.workload_file.proofs.options.option_in.Goals as goal

pub returns-clause-known : goal.returns-clause-known
returns-clause-known c = sym (none_known c.args.fields.now c.args.word.now
    (rw (take_all c.loop-place.place c.args.fields.now c.loop-place-test.false) at c.loop-place.invariant))
