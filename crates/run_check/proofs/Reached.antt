-- The statements of a part, as far as they were followed.
use Rattle.run_check.proofs.Names.{◌≡◌, ℕ, ◌+◌, ◌<◌, ◌≤◌, List, [], ◌∷◌, ◌++◌, refl, sym, ◌∙◌, ap, subst, length, get_or, drop, arith, length-drop, drop_more, nil_from_length, Statement, Reply, handle_of, call_of, Line, Takes, CarriedTo}
use Rattle.run_check.proofs.Same.{takes_same}

-- what is left behind all statements is what is left behind those that are to come
pub record Reached (ss : List Statement) (lines : List Line) (bound : List ℕ) (left : List Statement) (rest : List Line) : Type 0 where
  pub to : (end : List Line) → CarriedTo bound left rest end → CarriedTo [] ss lines end
  pub from : (end : List Line) → CarriedTo [] ss lines end → CarriedTo bound left rest end

module _ (ss : List Statement) (lines : List Line) (bound : List ℕ) (rest : List Line) (i : ℕ) (s : Statement) (here : i < length ss) (is : s ≡ get_or ss i s)
    (reached : Reached ss lines bound (drop i ss) rest) where
  next_is : drop i ss ≡ s ∷ drop (i + 1) ss
  next_is = drop_more ss i s here ∙ ap (λ x. x ∷ drop (i + 1) ss) (sym is)

  -- the next statement takes the front of what is left
  pub one_more : (left : List Line) (r : Reply) (h : ℕ) (more : List ℕ) → Takes (call_of bound s.deed) rest left r → h ≡ handle_of r → more ≡ bound ++ h ∷ []
      → Reached ss lines more (drop (i + 1) ss) left
  unfolding CarriedTo
  one_more left r h more takes handle grows =
      let bounds : more ≡ bound ++ handle_of r ∷ [] = grows ∙ ap (λ k. bound ++ k ∷ []) handle in
      record {
        to = λ end c. reached.to end (subst (λ (z : List Statement). CarriedTo bound z rest end) (sym next_is)
            (left, r, takes, subst (λ (b : List ℕ). CarriedTo b (drop (i + 1) ss) left end) bounds c));
        from = λ end c.
            let d = subst (λ (z : List Statement). CarriedTo bound z rest end) next_is (reached.from end c) in
            let same = takes_same (call_of bound s.deed) rest d.0 left d.1 r d.2 takes in
            subst (λ (b : List ℕ). CarriedTo b (drop (i + 1) ss) left end) (sym bounds)
            (subst (λ (q : Reply). CarriedTo (bound ++ handle_of q ∷ []) (drop (i + 1) ss) left end) same.1
            (subst (λ (z : List Line). CarriedTo (bound ++ handle_of d.1 ∷ []) (drop (i + 1) ss) z end) same.0 d.3));
      }

  -- it takes none
  pub none_more : ((left : List Line) (r : Reply) → Takes (call_of bound s.deed) rest left r → ⊥) → (end : List Line) → CarriedTo [] ss lines end → ⊥
  unfolding CarriedTo
  none_more none end c =
      let d = subst (λ (z : List Statement). CarriedTo bound z rest end) next_is (reached.from end c) in
      none d.0 d.1 d.2

-- all were followed
pub at_end : (ss : List Statement) (lines : List Line) (bound : List ℕ) (rest : List Line) (i : ℕ) → length ss ≤ i → Reached ss lines bound (drop i ss) rest
    → CarriedTo [] ss lines rest
unfolding CarriedTo
at_end ss lines bound rest i past reached =
    let none : drop i ss ≡ [] = nil_from_length (drop i ss) (omega (arith, length-drop i ss, past)) in
    reached.to rest (subst (λ (z : List Statement). CarriedTo bound z rest rest) (sym none) refl)
