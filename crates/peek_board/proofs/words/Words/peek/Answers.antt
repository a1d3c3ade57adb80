use Rattle.peek_board.proofs.Names.{sym, ap, ◌∙◌, subst, TableId, OnBoard, Has}
use Rattle.peek_board.proofs.words.Words.peek.Goals as goal

pub returns-then-not-has-clause-own : goal.returns-then-not-has-clause-own
returns-then-not-has-clause-own c = λ t.
    let own = ap (λ w. w.board) c.seat.view_is ∙ (c.requires.own ∙ sym (ap (λ w. w.id) c.self.view_is)) in
    let words = ap (λ (z : TableId). z.words) own ∙ (c.self.invariant.0 ∙ ap (λ w. w.terms.slots) c.self.view_is) in
    let inside = subst (λ l. Has l (c.args.task, t.0)) (sym (ap (λ w. w.told) c.seat.view_is)) t.1 in
    let on = subst (λ n. OnBoard n c.args.task.0) words (c.seat.invariant.2 (c.args.task, t.0) inside) in
    let yes = c.has.ensures.1 on in
    let no = c.if-not-has.true in
    absurd (cc)
