use Rattle.journal_text.proofs.Taken.{end_clean}
use Rattle.journal_text.proofs.journals.read_journal.Goals as goal

pub returns-in-Ok-journal_of-clause-clean : goal.returns-in-Ok-journal_of-clause-clean
returns-in-Ok-journal_of-clause-clean g c =
    end_clean (g.S.Source.faults c.args.src.now) (g.S.Source.faults c.read_all.new.src) (g.S.Source.left c.args.src.now)
    (g.S.Source.left c.read_all.new.src) c.in-Ok.bytes c.in-Ok.ensures.clean c.in-Ok.ensures.whole

pub returns-in-Err-BadLine-clause-clean : goal.returns-in-Err-BadLine-clause-clean
returns-in-Err-BadLine-clause-clean g c =
    end_clean (g.S.Source.faults c.args.src.now) (g.S.Source.faults c.read_all.new.src) (g.S.Source.left c.args.src.now)
    (g.S.Source.left c.read_all.new.src) c.in-Ok.bytes c.in-Ok.ensures.clean c.in-Ok.ensures.whole

pub returns-clause-clean : goal.returns-clause-clean
returns-clause-clean g c = end_clean (g.S.Source.faults c.args.src.now) (g.S.Source.faults c.read_all.new.src) (g.S.Source.left c.args.src.now)
    (g.S.Source.left c.read_all.new.src) c.in-Ok.bytes c.in-Ok.ensures.clean c.in-Ok.ensures.whole
