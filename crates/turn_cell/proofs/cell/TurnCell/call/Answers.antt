use Rattle.std.specs.Prelude.{IfOk, IfErr, OnOk, OnErr}
use Rattle.turn_cell.proofs.Names.{◌≡◌, ◌^◌, ◌<◌, ◌≤◌, true, false, [], ◌∷◌, ◌++◌, refl, sym, subst, ap, ◌∙◌, entries_of, view_of, Extends, entry, own_more, after_draw, after_take, after_pass, part_entry}
use Rattle.turn_cell.proofs.OnePart.{carried}
use Rattle.turn_cell.proofs.cell.TurnCell.call.Goals as goal

pub look-object-requires-clause-waits : goal.look-object-requires-clause-waits
look-object-requires-clause-waits g c = let p = c.seat.invariant.part in
    (after_draw p c.in-Ok.ticket true, c.in-Ok.ensures.drawn.1 p c.seat.invariant.me_is, refl)

pub turn-requires-clause-holds : goal.turn-requires-clause-holds
turn-requires-clause-holds g c =
    let p = c.seat.invariant.part in
    let t = c.look-object.ensures.took (after_draw p c.in-Ok.ticket true) (c.in-Ok.ensures.drawn.1 p c.seat.invariant.me_is) refl in (
      after_take (after_draw p c.in-Ok.ticket true) t.history c.in-Ok.ticket,
      c.in-Ok.ticket,
      t.after,
      refl,
      c.seat.invariant.number_is,
      t.same_terms,
      t.stood,
      t.short,
      t.seat,
    )

pub invariant_of-seat : goal.invariant_of-seat
invariant_of-seat g c =
    let p = c.seat.invariant.part in
    let t = c.look-object.ensures.took (after_draw p c.in-Ok.ticket true) (c.in-Ok.ensures.drawn.1 p c.seat.invariant.me_is) refl in
    let p2 = after_take (after_draw p c.in-Ok.ticket true) t.history c.in-Ok.ticket in
    record {
      part = after_pass p2 (part_entry p2 c.args.op c.turn.ensures.replied.0);
      me_is = c.turn.ensures.replied.2 p2 t.after;
      idle = refl;
      number_is = c.seat.invariant.number_is;
      shown_is = refl;
      lawful = c.turn.ensures.replied.3 p2 t.after;
      own = own_more p.number t.history (part_entry p2 c.args.op c.turn.ensures.replied.0) refl
          ∙ ap (λ l. l ++ part_entry p2 c.args.op c.turn.ensures.replied.0 ∷ []) t.own;
    }

pub invariant_of-seat-in-Err-1 : goal.invariant_of-seat-in-Err-1
invariant_of-seat-in-Err-1 g c = let v = c.seat.invariant in let p = v.part in
    record {
      part = after_draw p c.in-Err.drawn false;
      me_is = c.in-Err.ensures.spent.1 p v.me_is;
      idle = refl;
      number_is = v.number_is;
      shown_is = refl;
      lawful = v.lawful;
      own = v.own;
    }

pub returns-in-Ok : goal.returns-in-Ok
returns-in-Ok g c =
    let v = c.seat.invariant in
    let p = v.part in
    let t = c.look-object.ensures.took (after_draw p c.in-Ok.ticket true) (c.in-Ok.ensures.drawn.1 p v.me_is) refl in
    let p2 = after_take (after_draw p c.in-Ok.ticket true) t.history c.in-Ok.ticket in
    let e = part_entry p2 c.args.op c.turn.ensures.replied.0 in
    let r = carried
    (λ a b. (b.number ≡ a.number) × (b.terms ≡ a.terms) × g.O.Object.legal b.terms b.seen × (entries_of b.number b.seen ≡ b.mine)
    × Extends a.seen (entry a.number c.args.op c.turn.ensures.replied.0) b.seen
    × (b.mine ≡ a.mine ++ entry a.number c.args.op c.turn.ensures.replied.0 ∷ []) × (b.shown < 2 ^ 62))
    g.O.Object.blank c.seat.inside.token.table_id c.turn.new.token.table_id _ _ _ p (after_pass p2 e) v.me_is c.seat.view_is
    (c.turn.ensures.replied.2 p2 t.after) (
      refl,
      refl,
      c.turn.ensures.replied.3 p2 t.after,
      own_more p.number t.history e refl
          ∙ ap (λ l. l ++ e ∷ []) t.own,
      (t.begins.0, ap (λ l. l ++ e ∷ []) t.begins.1),
      refl,
      c.in-Ok.ensures.drawn.0,
    ) in
    record {
      cell = c.turn.ensures.own ∙ (c.look-object.ensures.own ∙ (c.in-Ok.ensures.own ∙ ap (λ s. s.cell) c.seat.view_is));
      number = r.0;
      terms = r.1;
      legal = r.2;
      own = r.3;
      seen = subst (λ x. IfOk x (λ reply. Extends c.args.seat.now.seen (entry c.args.seat.now.number c.args.op reply)
          (view_of g.O.Object.blank c.turn.new.token.table_id c.turn.new.token.me.0).seen)) (sym c.turn.ensures.replied.1) r.4;
      mine = subst (λ x. IfOk x (λ reply. (view_of g.O.Object.blank c.turn.new.token.table_id c.turn.new.token.me.0).mine
          ≡ c.args.seat.now.mine ++ entry c.args.seat.now.number c.args.op reply ∷ [])) (sym c.turn.ensures.replied.1) r.5;
      drew = subst (λ x. OnOk x ((view_of g.O.Object.blank c.turn.new.token.table_id c.turn.new.token.me.0).shown < 2 ^ 62)) (sym c.turn.ensures.replied.1) r.6;
      spent = subst (λ x. IfErr x (λ spent. (2 ^ 62 ≤ spent) × (spent ≡ (view_of g.O.Object.blank c.turn.new.token.table_id c.turn.new.token.me.0).shown)))
          (sym c.turn.ensures.replied.1) tt;
      unchanged = subst (λ x. OnErr x (((view_of g.O.Object.blank c.turn.new.token.table_id c.turn.new.token.me.0).seen ≡ c.args.seat.now.seen)
          × ((view_of g.O.Object.blank c.turn.new.token.table_id c.turn.new.token.me.0).mine ≡ c.args.seat.now.mine))) (sym c.turn.ensures.replied.1) tt;
    }

pub returns-in-Err : goal.returns-in-Err
returns-in-Err g c =
    let v = c.seat.invariant in
    let r = carried
    (λ a b. (b.number ≡ a.number) × (b.terms ≡ a.terms) × g.O.Object.legal b.terms b.seen × (entries_of b.number b.seen ≡ b.mine) × (2 ^ 62 ≤ c.in-Err.drawn)
    × (c.in-Err.drawn ≡ b.shown) × (b.seen ≡ a.seen) × (b.mine ≡ a.mine))
    g.O.Object.blank c.seat.inside.token.table_id c.draw.new.token.table_id _ _ _ v.part _ v.me_is c.seat.view_is (c.in-Err.ensures.spent.1 v.part v.me_is)
    (refl, refl, v.lawful, v.own, c.in-Err.ensures.spent.0, refl, refl, refl) in
    record {
      cell = c.in-Err.ensures.own ∙ ap (λ s. s.cell) c.seat.view_is;
      number = r.0;
      terms = r.1;
      legal = r.2;
      own = r.3;
      seen = tt;
      mine = tt;
      drew = tt;
      spent = (r.4, r.5);
      unchanged = (r.6, r.7);
    }
