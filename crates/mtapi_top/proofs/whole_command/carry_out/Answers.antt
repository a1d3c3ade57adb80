use Rattle.mtapi_top.proofs.Names.{◌∙◌, refl}
use Rattle.mtapi_top.proofs.Comes.{without_load_comes, without_run_comes, written_comes, started_without_run, started_written}
use Rattle.mtapi_top.proofs.whole_command.carry_out.Goals as goal

pub returns-in-Err-clause-comes : goal.returns-in-Err-clause-comes
returns-in-Err-clause-comes g c =
    rw c.without_load.ensures
    (without_load_comes c.args.asked.now (g.S.Source.left c.args.src.now)
    (g.S.Source.left c.load_for.new.src) c.requires.asked c.requires.range c.in-Err.error _ _ _ _ _
    c.in-Err.ensures.none c.in-Err.ensures.clean c.in-Err.ensures.unread c.in-Err.ensures.taken c.in-Err.ensures.faultless c.in-Err.ensures.later)

pub returns-in-Err-clause-idle : goal.returns-in-Err-clause-idle
returns-in-Err-clause-idle g c = λ s. (refl, refl)

pub returns-in-Err-run_and_output-clause-comes : goal.returns-in-Err-run_and_output-clause-comes
returns-in-Err-run_and_output-clause-comes g c =
    rw c.without_run.ensures
    (without_run_comes c.args.asked.now (g.S.Source.left c.args.src.now) (g.S.Source.left c.load_for.new.src) c.requires.asked c.requires.range c.in-Ok.load _ _
    c.in-Ok.ensures.workload c.in-Ok.ensures.clean c.in-Ok.ensures.whole c.in-Ok.ensures.unread c.in-Ok.ensures.taken
    (c.in-Ok.ensures.faultless (λ q. cc)) c.in-Ok.ensures.later
    c.in-Err-run_and_output.reason _ _ _ _ c.in-Err-run_and_output.ensures.causes)

pub returns-in-Err-run_and_output-clause-idle : goal.returns-in-Err-run_and_output-clause-idle
returns-in-Err-run_and_output-clause-idle g c =
    rw c.without_run.ensures (started_without_run _ c.args.asked.now c.requires.asked c.in-Err-run_and_output.reason)

pub returns-clause-comes : goal.returns-clause-comes
returns-clause-comes g c =
    written_comes c.args.asked.now (g.S.Source.left c.args.src.now) (g.S.Source.left c.load_for.new.src) c.requires.asked c.requires.range c.in-Ok.load _ _
    c.in-Ok.ensures.workload c.in-Ok.ensures.clean c.in-Ok.ensures.whole c.in-Ok.ensures.unread c.in-Ok.ensures.taken
    (c.in-Ok.ensures.faultless (λ q. cc)) c.in-Ok.ensures.later
    c.in-Ok-run_and_output.both.0 c.deref.result.now c.write_output.result _ _ _ _ _ _ c.in-Ok.ensures.load
    c.in-Ok-run_and_output.ensures.is_run c.in-Ok-run_and_output.ensures.again (c.deref.ensures.value
    ∙ c.in-Ok-run_and_output.ensures.output) c.in-Ok-run_and_output.ensures.counts c.write_output.ensures.later c.write_output.ensures.writes

pub returns-clause-idle : goal.returns-clause-idle
returns-clause-idle g c = started_written _ c.args.asked.now c.requires.asked _ _ _ _ _ c.in-Ok-run_and_output.both.0 c.write_output.result
    c.write_output.ensures.writes
