use Rattle.turn_cell.proofs.Names.{arith, ◌≡◌, refl, sym, ap, ◌∙◌, entries_of, HasSeenMore, having_seen, boxed_terms, boxed_stands}
use Rattle.turn_cell.proofs.OnePart.{carried, first_rest, seen_of}
use Rattle.turn_cell.proofs.Shares.{cuts, glues, gathers, meets}
use Rattle.turn_cell.proofs.cell.TurnCell.meet.Goals as goal

pub split_seat-theirs-requires : goal.split_seat-theirs-requires
split_seat-theirs-requires g c = (
  ap (λ f. f.cell) c.b.view_is
      ∙ (c.requires.1 ∙ sym (ap (λ w. w.id) c.self.view_is)),
  (let n = c.self.invariant.0 in omega arith),
  cuts _ _ _ _ _ _ _ _ _ refl,
)

pub join_seat-requires : goal.join_seat-requires
join_seat-requires g c = (
  ap (λ f. f.cell) c.a.view_is ∙ (c.requires.0 ∙ sym (ap (λ w. w.id) c.self.view_is)),
  c.split_seat-theirs.ensures.3
      ∙ (ap (λ f. f.cell) c.b.view_is ∙ (c.requires.1 ∙ sym (ap (λ w. w.id) c.self.view_is))),
  ap (λ m. m.1) c.split_seat-theirs.ensures.4,
  (let n =
      c.self.invariant.0 in omega arith),
  glues _ _ _ _ _ _ _ _ _,
)

pub load-requires : goal.load-requires
load-requires g c = (
  c.join_seat.ensures.0
      ∙ (ap (λ f. f.cell) c.a.view_is ∙ (c.requires.0 ∙ sym (ap (λ w. w.id) c.self.view_is))),
  (let n = c.self.invariant.0 in
      omega arith),
  gathers _ _ _ _ _ _ _ _,
)

pub split_seat-requires : goal.split_seat-requires
split_seat-requires g c = (
  c.load.ensures.0
      ∙ (c.join_seat.ensures.0 ∙ (ap (λ f. f.cell) c.a.view_is ∙ (c.requires.0 ∙ sym (ap (λ w. w.id) c.self.view_is)))),
  (let n = c.self.invariant.0 in
      omega arith),
  cuts _ _ _ _ _ _ _ _ _ (first_rest _),
)

pub invariant_of-a : goal.invariant_of-a
invariant_of-a g c =
    let v = c.a.invariant in
    let m = meets (boxed_terms g.O.Object.terms) g.O.Object.seat_count g.O.Object.legal
    (boxed_stands g.O.Object.stands) _ _ _ _ _ _ _ _ _ v.me_is c.b.invariant.me_is c.split_seat-theirs.ensures.4 c.join_seat.ensures.2 c.load.ensures.2
    c.split_seat.ensures.2 c.split_seat.ensures.4 in
    record {
      part = having_seen m.history v.part;
      me_is = m.one;
      idle = v.idle;
      number_is = v.number_is;
      shown_is = v.shown_is;
      lawful = m.first_knows.lawful;
      own = m.first_knows.own;
    }

pub invariant_of-b : goal.invariant_of-b
invariant_of-b g c =
    let v = c.b.invariant in
    let m = meets (boxed_terms g.O.Object.terms) g.O.Object.seat_count g.O.Object.legal
    (boxed_stands g.O.Object.stands) _ _ _ _ _ _ _ _ _ c.a.invariant.me_is v.me_is c.split_seat-theirs.ensures.4 c.join_seat.ensures.2 c.load.ensures.2
    c.split_seat.ensures.2 c.split_seat.ensures.4 in
    record {
      part = having_seen m.history v.part;
      me_is = m.two;
      idle = v.idle;
      number_is = v.number_is;
      shown_is = v.shown_is;
      lawful = m.second_knows.lawful;
      own = m.second_knows.own;
    }

pub returns : goal.returns
returns g c =
    let va = c.a.invariant in let vb = c.b.invariant in
    let m = meets (boxed_terms g.O.Object.terms) g.O.Object.seat_count g.O.Object.legal
    (boxed_stands g.O.Object.stands) _ _ _ _ _ _ _ _ _ va.me_is vb.me_is c.split_seat-theirs.ensures.4 c.join_seat.ensures.2 c.load.ensures.2
    c.split_seat.ensures.2 c.split_seat.ensures.4 in
    let d = g.O.Object.blank in
    let first = carried
    (λ x y. HasSeenMore x y × g.O.Object.legal y.terms y.seen × (entries_of y.number y.seen ≡ y.mine))
    d _ _ _ _ _ va.part (having_seen m.history va.part) va.me_is c.a.view_is m.one (
      record {
        cell = c.split_seat.ensures.0 ∙ (c.load.ensures.0 ∙ c.join_seat.ensures.0);
        number = refl;
        terms = refl;
        seen = m.first_knows.begins;
        mine = refl;
        shown = refl;
      },
      m.first_knows.lawful,
      m.first_knows.own,
    ) in
    let second = carried
    (λ x y. HasSeenMore x y × g.O.Object.legal y.terms y.seen × (entries_of y.number y.seen ≡ y.mine))
    d _ _ _ _ _ vb.part (having_seen m.history vb.part) vb.me_is c.b.view_is m.two (
      record {
        cell = c.split_seat.ensures.3
            ∙ (c.load.ensures.0 ∙ (c.join_seat.ensures.0
            ∙ (ap (λ f. f.cell) c.a.view_is ∙ (c.requires.0 ∙ (sym c.requires.1 ∙ sym (ap (λ f. f.cell) c.b.view_is))))));
        number = refl;
        terms = refl;
        seen = m.second_knows.begins;
        mine = refl;
        shown = refl;
      },
      m.second_knows.lawful,
      m.second_knows.own,
    ) in
    record {
      one = seen_of d _ _ m.one ∙ sym (seen_of d _ _ m.two);
      first = first.0;
      second = second.0;
      first_legal = first.1;
      second_legal = second.1;
      first_own = first.2;
      second_own = second.2;
    }
