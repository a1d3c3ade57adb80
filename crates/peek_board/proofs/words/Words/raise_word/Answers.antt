use Rattle.peek_board.proofs.Names.{sym, ap, ◌∙◌, subst, arith, OnBoard, TableId}
use Rattle.peek_board.proofs.Keeps.{posts_as}
use Rattle.peek_board.proofs.Lists.{boards_more}
use Rattle.peek_board.proofs.words.Words.raise_word.Goals as goal

pub fetch_max-found-requires : goal.fetch_max-found-requires
fetch_max-found-requires g c =
    let slots = ap (λ w. w.terms.slots) c.self.view_is in
    let on = subst (λ n. OnBoard n c.args.task.0) (sym slots) c.requires.task in (
      ap (λ w. w.board) c.seat.view_is ∙ (c.requires.own ∙ sym (ap (λ w. w.id) c.self.view_is)),
      (let below = on.below in let n = c.self.invariant.0 in let v = c.slot_of-slot.ensures.value in omega arith),
      posts_as _ _ _ _ (c.args.task, c.args.class) _ _ _ c.slot_of-slot.ensures.value c.number_of-number.ensures c.requires.argument (let one =
          c.seat.invariant.0 in omega arith) on,
    )

pub invariant_of-seat : goal.invariant_of-seat
invariant_of-seat g c =
    let now = c.fetch_max-found.ensures.2 (c.args.task, c.args.class) c.requires.argument in
    let own = ap (λ w. w.board) c.seat.view_is ∙ (c.requires.own ∙ sym (ap (λ w. w.id) c.self.view_is)) in
    let words = ap (λ (z : TableId). z.words) own ∙ (c.self.invariant.0 ∙ ap (λ w. w.terms.slots) c.self.view_is) in (
      ap (λ m. m.0.count) now ∙ c.seat.invariant.0,
      ap (λ m. m.1) now ∙ c.seat.invariant.1,
      boards_more _ _ _ _ (c.args.task, c.args.class) c.fetch_max-found.ensures.0 (ap (λ m. m.0.told) now)
          (subst (λ n. OnBoard n c.args.task.0) (sym words) c.requires.task) c.seat.invariant.2,
    )
