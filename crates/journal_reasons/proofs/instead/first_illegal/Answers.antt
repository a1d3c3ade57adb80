use Rattle.journal_reasons.proofs.Judgements.{first_by_place}
use Rattle.journal_reasons.proofs.instead.first_illegal.Goals as goal

pub returns-in-Illegal : goal.returns-in-Illegal
returns-in-Illegal c =
    first_by_place c.args.load.now c.args.journal.now c.in_ok-check_run.field-0 c.in-Illegal.entry c.in_ok-check_run.ensures c.in-Illegal.is
