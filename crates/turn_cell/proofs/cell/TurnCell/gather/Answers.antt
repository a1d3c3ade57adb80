use Rattle.turn_cell.proofs.Names.{◌≡◌, [], ◌∷◌, ◌++◌, sym, ap, ◌∙◌, subst, arith, append_assoc, AllItems}
use Rattle.turn_cell.proofs.Ends.{all_before, all_after, gathers_more}
use Rattle.turn_cell.proofs.Shares.{glues}
use Rattle.turn_cell.proofs.cell.TurnCell.gather.Goals as goal

pub join_seat-requires : goal.join_seat-requires
join_seat-requires g c =
    let here = sym (ap (λ w. w.id) c.self.view_is) in
    let cells = all_after (λ f. f.cell ≡ c.args.self.now.id) c.pop-in-loop-next.new.self.items _
    (subst (AllItems (λ f. f.cell ≡ c.args.self.now.id)) c.in-Some-pop.ensures.items c.loop-next.invariant.cells) in (
      c.loop-next.invariant.own ∙ here,
      ap (λ f. f.cell) c.next.view_is
          ∙ (cells.0 ∙ here),
      ap (λ m. m.1) c.next.invariant.me_is,
      (let n = c.self.invariant.0 in omega arith),
      glues _ _ _ _ _ _ _ _ _,
    )

pub loop-next-preserved : goal.loop-next-preserved
loop-next-preserved g c = let v = c.loop-next.invariant in record {
  own = c.join_seat.ensures.0 ∙ v.own;
  free = ap (λ m. m.1) c.join_seat.ensures.2 ∙ v.free;
  cells = all_before (λ f. f.cell ≡ c.args.self.now.id) c.pop-in-loop-next.new.self.items _
      (subst (AllItems (λ f. f.cell ≡ c.args.self.now.id)) c.in-Some-pop.ensures.items v.cells);
  parts = (
    c.in-Some-pop.next ∷ v.parts.0,
    v.parts.1 ∙ (ap (λ l. l ++ v.parts.0) c.in-Some-pop.ensures.items ∙ append_assoc c.pop-in-loop-next.new.self.items (c.in-Some-pop.next ∷ []) v.parts.0),
    gathers_more g.O.Object.blank c.next.inside.token.table_id c.loop-next.token.me.0 _ c.next.inside.token.me c.next.invariant.part c.in-Some-pop.next
        v.parts.0 c.next.invariant.me_is c.next.invariant.idle c.next.view_is (ap (λ m. m.0) c.join_seat.ensures.2) v.parts.2,
  );
}
