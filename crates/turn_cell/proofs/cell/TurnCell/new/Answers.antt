use Rattle.turn_cell.proofs.Names.{[], ◌∷◌, ◌++◌, Some, sym, ap, ◌∙◌, subst, opening, Invariant, fresh_parts, boxed_terms, boxed_stands}
use Rattle.turn_cell.proofs.Opens.{opens}
use Rattle.turn_cell.proofs.cell.TurnCell.new.Goals as goal

pub new-requires-2 : goal.new-requires-2
new-requires-2 g c =
    let b = c.in_ok-boxed.boxed in
    let t = c.told_terms-terms.result in
    let inside = c.in_ok-boxed.ensures.ok in
    let is = ap g.O.Object.terms inside ∙ sym c.told_terms-terms.ensures.terms in
    let stood = subst (λ o. g.O.Object.stands o []) (sym inside) c.requires.stands in
    let lawful = subst (λ t. g.O.Object.legal t []) is (g.met.O.Object.stands_legal b.value [] stood) in
    let filled = c.in_ok-push.ensures.items ∙ ap (λ l. l ++ Some b ∷ []) c.new-slots.ensures.items in
    subst (λ slots. Invariant (boxed_terms g.O.Object.terms) g.O.Object.seat_count g.O.Object.legal (boxed_stands g.O.Object.stands) t
    (opening (0 ∷ 0 ∷ []) slots (fresh_parts t 0 (g.O.Object.seat_count t)))) (sym filled)
    (opens (boxed_terms g.O.Object.terms) g.O.Object.seat_count g.O.Object.legal (boxed_stands g.O.Object.stands) t b is stood lawful)
