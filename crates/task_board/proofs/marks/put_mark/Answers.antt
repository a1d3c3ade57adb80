use Rattle.task_board.proofs.Names.{Option, Some, None, set, sym, ap, ◌∙◌, Mark, ReadyMarks}
use Rattle.task_board.proofs.MarkLemmas.{set-set}
use Rattle.task_board.proofs.marks.put_mark.Goals as goal

pub returns-in-Some : goal.returns-in-Some
returns-in-Some c =
    let old = c.args.ready.now in
    c.mark.ensures
    ∙ (ap (λ (r : ReadyMarks). record r { marks = set r.marks c.args.place (Some c.in-Some.mark) }) c.clear.ensures
    ∙ ((λ i. record old { marks = set-set old.marks c.args.place None (Some c.in-Some.mark) i })
    ∙ ap (λ (o : Option Mark). record old { marks = set old.marks c.args.place o }) (sym c.in-Some.is)))
