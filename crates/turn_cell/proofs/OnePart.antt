-- What one part becomes.
use Rattle.std.proofs.lemmas.Bool.Decides.{nat_tests}
use Rattle.turn_cell.proofs.Names.{arith, ◌≡◌, ◌≢◌, ℕ, ◌==◌, true, false, List, [], ◌∷◌, ◌++◌, sym, refl, ap, subst, eq-eqb, ne_eqb, Me, rest, TableId, SeatView, view_of, first_or, after_draw, foremost_part, parts_behind, Part, Idle}

pub one_slot : {S : Type 0} (c : List (ℕ × S)) (k : ℕ) (y : S) → c ≡ (k, y) ∷ [] → c ≡ (k, y) ∷ rest c
one_slot {S} c k y e = subst (λ (c : List (ℕ × S)). c ≡ (k, y) ∷ rest c) (sym e) refl

module _ {T P Q : Type 0} where
  head_or : Part T P Q → List (Part T P Q) → Part T P Q
  head_or d [] = d
  head_or d (x ∷ xs) = x

  pub one_part : (p q : Part T P Q) → (p ∷ []) ≡ (q ∷ []) → p ≡ q
  unfolding head_or
  one_part p q e = ap (head_or p) e

  pub drawn_start : (p : Part T P Q) (n : ℕ) → p.stage ≡ Idle → p.shown ≡ n → p ≡ after_draw p n false
  drawn_start p n is e = λ i. record p { shown = e i; stage = is i }

  pub drawn_hit : (p : Part T P Q) (found guess : ℕ) → found ≡ guess → after_draw p found (found == guess) ≡ after_draw p guess true
  drawn_hit p found guess e = λ i. after_draw p (e i) (eq-eqb found guess e i)

  pub drawn_miss : (p : Part T P Q) (found guess : ℕ) → found ≢ guess → after_draw p found (found == guess) ≡ after_draw p found false
  drawn_miss p found guess ne = ap (after_draw p found) (ne_eqb found guess ne)

  -- a fact about a seat, as its parts have it
  pub carried : {O : Type 0} (F : SeatView T P Q → SeatView T P Q
      → Type 0) (d : T) (z z' : TableId) (now : SeatView T P Q) (me me' : Me O (List (Part T P Q))) (p q : Part T P Q) → me ≡ (p ∷ [], [])
      → view_of d z me.0 ≡ now → me' ≡ (q ∷ [], [])
      → F (view_of d z (p ∷ [])) (view_of d z' (q ∷ [])) → F now (view_of d z' me'.0)
  carried F d z z' now me me' p q e1 e2 e3 e4 = grind (arith, nat_tests, view_of)

  pub first_rest : (v : List (Part T P Q)) → foremost_part v ++ parts_behind v ≡ v
  first_rest [] = refl
  first_rest (p ∷ ps) = refl

  pub seen_of : {O : Type 0} (d : T) (m : Me O (List (Part T P Q))) (p : Part T P Q) → m ≡ (p ∷ [], []) → (first_or d m.0).seen ≡ p.seen
  seen_of {O} d m p is = ap (λ (m : Me O (List (Part T P Q))). (first_or d m.0).seen) is

  pub terms_of : {O : Type 0} (d : T) (m : Me O (List (Part T P Q))) (p : Part T P Q) → m ≡ (p ∷ [], []) → (first_or d m.0).terms ≡ p.terms
  terms_of {O} d m p is = ap (λ (m : Me O (List (Part T P Q))). (first_or d m.0).terms) is
