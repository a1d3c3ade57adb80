-- The record of a live object, where no handle is listed twice.
use Rattle.history_law.proofs.Names.{nat_tests, ◌≡◌, ℕ, Bool, true, cond, List, [], ◌∷◌, Some, sym, ◌∙◌, ap, arith, ◌==◌, Listed, live_of, live_object, listed, change, some_same, false_from_ne_true}
use Rattle.history_law.proofs.Ages.{live_listed}
use Rattle.history_law.proofs.lists.Found.{at_here, change_here, change_past, at_head, at_past}
use Rattle.history_law.proofs.lists.Handles.{OnceIn, once_rest}

module _ {T A : Type 0} (h : ℕ) (at : List (Listed T) → A) (of : T → A) (next : (r : Listed T) (rs : List (Listed T))
    → at (r ∷ rs) ≡ cond (r.handle == h) (of r.fields) (at rs)) where
  -- a record that isn't live isn't the one of a live object
  no_dead : (r : Listed T) (rs : List (Listed T)) (t : T) → OnceIn (r ∷ rs) → live_object rs h ≡ Some t → (r.handle == h) ≡ true → ⊥
  unfolding listed
  no_dead r rs t o e i = grind (arith, nat_tests, live_listed)

  -- what is read of the first record under the handle is what is read of the live object
  pub read_found : (l : List (Listed T)) (t : T) → OnceIn l → live_object l h ≡ Some t → at l ≡ of t
  unfolding live_of
  read_found [] t o e = absurd (cc)
  read_found (r ∷ rs) t o e = at_head r h (λ a i. next r rs
      ∙ (ap (λ (b : Bool). cond b (of r.fields) (at rs)) i ∙ ap of (some_same (sym (at_here r rs h a i) ∙ e))))
      (λ n.
      let behind : live_object rs h ≡ Some t = sym (at_past r rs h n) ∙ e in
      next r rs ∙ (ap (λ (b : Bool). cond b (of r.fields) (at rs)) (false_from_ne_true (r.handle == h) (no_dead r rs t o behind))
      ∙ read_found rs t (once_rest r rs o) behind))

  -- and where the object has changed, it is what the change brings
  pub read_changed : (f : Listed T → Listed T) (a : A) → ((r : Listed T) → (f r).handle ≡ r.handle) → ((r : Listed T) → of (f r).fields ≡ a)
      → (l : List (Listed T)) (t : T) → OnceIn l → live_object l h ≡ Some t → at (change h f l) ≡ a
  unfolding live_of
  read_changed f a k g [] t o e = absurd (cc)
  read_changed f a k g (r ∷ rs) t o e = grind
      (arith, nat_tests, f r, k r, g r, at_past r rs, no_dead r rs t o, read_changed f a k g rs t (once_rest r rs o), change_here, change_past)
