use Rattle.journal_text.proofs.Taken.{end_clean}
use Rattle.mtapi_top.proofs.checking.check_input.Goals as goal

pub returns-in-Ok-verdict_on-clause-clean : goal.returns-in-Ok-verdict_on-clause-clean
returns-in-Ok-verdict_on-clause-clean g c = λ p.
    end_clean (g.S.Source.faults c.args.src.now) (g.S.Source.faults c.read_all.new.src) (g.S.Source.left c.args.src.now)
    (g.S.Source.left c.read_all.new.src) c.in-Ok.bytes c.in-Ok.ensures.clean c.in-Ok.ensures.whole

pub returns-clause-clean : goal.returns-clause-clean
returns-clause-clean g c = λ p.
    end_clean (g.S.Source.faults c.args.src.now) (g.S.Source.faults c.read_all.new.src) (g.S.Source.left c.args.src.now)
    (g.S.Source.left c.read_all.new.src) c.in-Ok.bytes c.in-Ok.ensures.clean c.in-Ok.ensures.whole
