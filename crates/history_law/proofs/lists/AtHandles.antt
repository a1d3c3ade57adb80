-- The live object of a handle, after a change of the list.
use Rattle.history_law.proofs.Names.{◌≡◌, ℕ, Bool, true, false, List, [], ◌∷◌, Option, Some, None, refl, ◌∙◌, arith, ◌==◌, eq-eqb, eqb-true, Listed, live_of, live_object, listed, change, issue, gone, with_fields, at-update, nat_tests}
use Rattle.history_law.proofs.Answered.{on_test}
use Rattle.history_law.proofs.lists.Found.{at_skip, at_here}
use Rattle.history_law.proofs.lists.Handles.{OnceIn, head_apart}

module _ {T : Type 0} where
  pub at_change_other : (x h : ℕ) (f : Listed T → Listed T) (l : List (Listed T)) → ((r : Listed T) → (f r).handle ≡ r.handle) → (x == h) ≡ false
      → live_object (change x f l) h ≡ live_object l h
  unfolding change live_of
  at_change_other x h f [] k n = refl
  at_change_other x h f (r ∷ rs) k n = grind (arith, nat_tests, k r, at_change_other x h f rs k n)

  pub at_issue_other : (j h : ℕ) (x : T) (l : List (Listed T)) → (j == h) ≡ false → live_object (issue j x l) h ≡ live_object l h
  unfolding issue live_of
  at_issue_other j h x [] n = grind arith
  at_issue_other j h x (r ∷ rs) n = grind (arith, at_issue_other j h x rs n)

  pub at_issue_here : (h : ℕ) (x : T) (l : List (Listed T)) → listed h l ≡ 0 → live_object (issue h x l) h ≡ Some x
  unfolding issue listed
  at_issue_here h x [] n = at_here (record { handle = h; live = true; fields = x }) [] h refl (eq-eqb h h refl)
  at_issue_here h x (r ∷ rs) n = let a = head_apart h r rs n in at_skip r (issue h x rs) h a.0 ∙ at_issue_here h x rs a.1

  pub at_unlisted : (h : ℕ) (l : List (Listed T)) → listed h l ≡ 0 → live_object l h ≡ None
  unfolding listed live_of
  at_unlisted h [] n = refl
  at_unlisted h (r ∷ rs) n = let a = head_apart h r rs n in grind (arith, a.0, at_unlisted h rs a.1)

  pub at_retired : (h : ℕ) (l : List (Listed T)) → OnceIn l → live_object (change h gone l) h ≡ None
  unfolding change listed live_of
  at_retired h [] o = refl
  at_retired h (r ∷ rs) o = grind (arith, o h, at_unlisted h rs, at_retired h rs)

  -- P of the object of the handle j before and after a change of that of the handle h, and of whether it is the same one
  module _ (P : Bool → Option T → Option T → Type 0) (h j : ℕ) (l : List (Listed T)) (stays : (o : Option T) → P false o o) where
    where_same : (m : List (Listed T)) (o p : Option T) → live_object l h ≡ o → live_object m h ≡ p → P true o p
        → ((h == j) ≡ false → live_object m j ≡ live_object l j) → P (h == j) (live_object l j) (live_object m j)
    where_same m o p a b x k = grind (arith, nat_tests, on_test, live_object, eqb-true)

    pub where_changed : (f : T → T) (v : T) → live_object l h ≡ Some v → P true (Some v) (Some (f v))
        → P (h == j) (live_object l j) (live_object (change h (with_fields f) l) j)
    where_changed f v e x = where_same _ (Some v) (Some (f v)) e (at-update h f v l e) x (at_change_other h j (with_fields f) l (λ r. refl))

    pub where_retired : (v : T) → OnceIn l → live_object l h ≡ Some v → P true (Some v) None → P (h == j) (live_object l j) (live_object (change h gone l) j)
    where_retired v o e x = where_same _ (Some v) None e (at_retired h l o) x (at_change_other h j gone l (λ r. refl))

    pub where_issued : (v : T) → listed h l ≡ 0 → P true None (Some v) → P (h == j) (live_object l j) (live_object (issue h v l) j)
    where_issued v e x = where_same _ None (Some v) (at_unlisted h l e) (at_issue_here h v l e) x (at_issue_other h j v l)
