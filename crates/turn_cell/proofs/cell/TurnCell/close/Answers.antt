use Rattle.turn_cell.proofs.Names.{◌≡◌, ℕ, ◌<◌, List, [], ◌∷◌, length, Option, Some, None, sym, ap, subst, arith, Entry, AllItems, SeatView, IsComplete, IsSeatOf, boxed_terms, boxed_stands}
use Rattle.turn_cell.proofs.Ends.{Ended, ends}
use Rattle.turn_cell.proofs.cell.TurnCell.close.Goals as goal

some_seat : {T P Q : Type 0} (n : ℕ) (l : List (SeatView T P Q)) → 0 < n → IsComplete n l → 0 < length l
some_seat n [] h c = let a = c 0 h in absurd (omega arith)
some_seat n (f ∷ l) h c = omega arith

module _ {O T P Q : Type 0} (terms_of : O → T) (seat_count : T → ℕ) (legal : T → List (Entry P Q) → Type 0) (stands : O → List (Entry P Q) → Type 0) where
  no_object : (t : T) (seats : List (SeatView T P Q)) (y : Option O) → Ended terms_of seat_count legal stands t seats y → y ≡ None → ⊥
  no_object t seats y e is = let a = e.is in cc

  the_object : (t u : T) (seats : List (SeatView T P Q)) (y : Option O) (o : O) → Ended terms_of seat_count legal stands t seats y → y ≡ Some o → t ≡ u
      → (terms_of o ≡ u) × ((h : List (Entry P Q)) × legal u h × stands o h × AllItems (IsSeatOf u h) seats)
  the_object t u seats y o e is same =
      let a = e.is in
      let one : e.object ≡ o = cc in
      let G : O × T → Type 0 = λ x. (terms_of x.0 ≡ x.1) × ((h : List (Entry P Q)) × legal x.1 h × stands x.0 h × AllItems (IsSeatOf x.1 h) seats) in
      subst G (λ i. (one i, same i)) (e.terms, (e.history, e.lawful, e.stood, e.all))

pub gather-token-requires-clause-some : goal.gather-token-requires-clause-some
gather-token-requires-clause-some g c =
    some_seat _ _ (subst (λ t. 0 < g.O.Object.seat_count t) (ap (λ w. w.terms) c.self.view_is) c.self.invariant.2) c.requires.complete

pub unreachable-requires : goal.unreachable-requires
unreachable-requires g c =
    let complete = subst (λ t. IsComplete (g.O.Object.seat_count t) c.args.seats.items) (sym (ap (λ w. w.terms) c.self.view_is)) c.requires.complete in
    no_object (boxed_terms g.O.Object.terms) g.O.Object.seat_count g.O.Object.legal (boxed_stands g.O.Object.stands) _ _ _
    (ends _ _ _ _ _ _ _ _ _ _ _ c.gather-token.ensures.parts complete c.close_with-closed.ensures.values.2 c.take-slot.ensures.value) c.in-None.is

pub returns : goal.returns
returns g c =
    let complete = subst (λ t. IsComplete (g.O.Object.seat_count t) c.args.seats.items) (sym (ap (λ w. w.terms) c.self.view_is)) c.requires.complete in
    let r = the_object (boxed_terms g.O.Object.terms) g.O.Object.seat_count g.O.Object.legal
    (boxed_stands g.O.Object.stands) _ c.args.self.terms _ _ c.in-Some.object
    (ends _ _ _ _ _ _ _ _ _ _ _ c.gather-token.ensures.parts complete c.close_with-closed.ensures.values.2 c.take-slot.ensures.value) c.in-Some.is
    (ap (λ w. w.terms) c.self.view_is) in
    let out = sym c.into_inner.ensures in
    record {
      terms = subst (λ o. g.O.Object.terms o ≡ c.args.self.terms) out r.0;
      history = subst (λ o. (h : List (Entry g.row.O-Op.Denot g.row.O-Reply.Denot)) × g.O.Object.legal c.args.self.terms h × g.O.Object.stands o h
          × AllItems (IsSeatOf c.args.self.terms h) c.args.seats.items) out r.1;
    }
