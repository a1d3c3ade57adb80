use Rattle.task_board.proofs.Names.{bit_and, ap, subst, ◌∙◌, Covers}
use Rattle.job_table.specs.declared.cover.Cover.{Cover}
use Rattle.task_board.proofs.MarkLemmas.{mark-right}
use Rattle.task_board.proofs.marks.mark_of.Goals as goal

pub returns-in-Cores-clause-right : goal.returns-in-Cores-clause-right
returns-in-Cores-clause-right c actions lets unstarted begins covers =
    mark-right actions lets c.args.found.now c.in-Cores.mask _ unstarted begins
    (subst (λ (x : Cover). Covers actions c.args.found.now.job x) c.in-Cores.is covers) c.priority.ensures
    (c.both.ensures ∙ ap (bit_and c.in-Cores.mask.0) c.cores.ensures)
