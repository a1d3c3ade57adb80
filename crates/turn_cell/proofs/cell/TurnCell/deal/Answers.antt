use Rattle.turn_cell.proofs.Names.{◌≡◌, ◌+◌, ◌-◌, sym, ap, ◌∙◌, refl, arith, fresh_seats, fresh_part}
use Rattle.turn_cell.proofs.Opens.{first_part, other_parts, last_part, one_more}
use Rattle.turn_cell.proofs.OnePart.{first_rest}
use Rattle.turn_cell.proofs.Shares.{cuts}
use Rattle.turn_cell.proofs.cell.TurnCell.deal.Goals as goal

pub split_seat-rest-requires : goal.split_seat-rest-requires
split_seat-rest-requires g c = (
  c.loop-number.invariant.own
      ∙ sym (ap (λ w. w.id) c.self.view_is),
  (let n = c.self.invariant.0 in omega arith),
  cuts _ _ _ _ _ _ _ _ _ (first_rest _),
)

pub invariant_of-push : goal.invariant_of-push
invariant_of-push g c = let v = c.loop-number.invariant in
    record {
      part = fresh_part c.args.self.now.terms c.loop-number.number;
      me_is = first_part c.args.self.now.terms c.loop-number.number c.args.count _ _ v.few v.parts c.split_seat-rest.ensures.2;
      idle = refl;
      number_is = refl;
      shown_is = refl;
      lawful = c.requires.legal;
      own = refl;
    }

pub loop-number-preserved : goal.loop-number-preserved
loop-number-preserved g c = let v = c.loop-number.invariant in let k = c.loop-number.number in let t = c.args.self.now.terms in record {
  own = c.split_seat-rest.ensures.3 ∙ v.own;
  parts = other_parts t k c.args.count _ _ v.few v.parts c.split_seat-rest.ensures.4;
  seats = one_more g.O.Object.blank t c.args.self.now.id _ k _ _ _ (first_part t k c.args.count _ _ v.few v.parts c.split_seat-rest.ensures.2)
      (c.split_seat-rest.ensures.0 ∙ v.own) v.seats c.in_ok-push.ensures.items;
  few = omega arith;
}

pub invariant_of-push-2 : goal.invariant_of-push-2
invariant_of-push-2 g c = let v = c.loop-number.invariant in
    record {
      part = fresh_part c.args.self.now.terms (c.args.count - 1);
      me_is = last_part c.args.self.now.terms c.loop-number.number c.args.count _ (omega arith) c.requires.some v.parts;
      idle = refl;
      number_is = refl;
      shown_is = refl;
      lawful = c.requires.legal;
      own = refl;
    }

pub returns : goal.returns
returns g c = let v = c.loop-number.invariant in let t = c.args.self.now.terms in let k : c.args.count - 1 ≡ c.loop-number.number = omega arith in
    let n : (c.args.count - 1) + 1 ≡ c.args.count = omega arith in
    record {
      seats = one_more g.O.Object.blank t c.args.self.now.id _ (c.args.count - 1) _ _ _
          (last_part t c.loop-number.number c.args.count _ (sym k) c.requires.some v.parts) v.own (v.seats
          ∙ ap (fresh_seats t c.args.self.now.id 0) (sym k)) c.in_ok-push-2.ensures.items
          ∙ ap (fresh_seats t c.args.self.now.id 0) n;
    }
