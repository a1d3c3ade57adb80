-- Lists of entries that grow, and the entries of one seat in them.
use Rattle.std.proofs.Common.{◌≡◌, ◌≢◌, ℕ, ◌==◌, Bool, true, false, cond, List, [], ◌∷◌, ◌++◌, sym, refl, ap, ◌∙◌, subst, eq-eqb, ne_eqb, append_assoc}
use Rattle.history.specs.declared.entries.Entry.{Entry}
use Rattle.history.specs.Histories.{StartsWith, Extends, entries_of}

module _ {A : Type 0} where
  pub starts_self : (xs : List A) → StartsWith xs xs
  starts_self [] = ([], refl)
  starts_self (x ∷ xs) = let r = starts_self xs in (r.0, ap (λ l. x ∷ l) r.1)

  -- a longer list begins with all that the shorter one begins with
  pub starts_longer : (xs ys more : List A) → StartsWith xs ys → StartsWith (xs ++ more) ys
  starts_longer xs ys more s = (s.0 ++ more, ap (λ l. l ++ more) s.1 ∙ append_assoc ys s.0 more)

module _ {Op Reply : Type 0} where
  -- one entry more, of the seat `who`
  pub own_more : (who : ℕ) (l : List (Entry Op Reply)) (e : Entry Op Reply) → e.who ≡ who → entries_of who (l ++ e ∷ []) ≡ entries_of who l ++ e ∷ []
  own_more who [] e is = ap (λ (b : Bool). cond b (e ∷ []) []) (eq-eqb e.who who is)
  own_more who (x ∷ l) e is =
      let rest = own_more who l e is in
      elim (x.who == who) as (λ b. cond b (x ∷ entries_of who (l ++ e ∷ [])) (entries_of who (l ++ e ∷ []))
      ≡ cond b (x ∷ entries_of who l) (entries_of who l) ++ e ∷ [])
      [ true ↦ ap (λ m. x ∷ m) rest | false ↦ rest ]

  -- one entry more, of another seat
  pub other_more : (who : ℕ) (l : List (Entry Op Reply)) (e : Entry Op Reply) → e.who ≢ who → entries_of who (l ++ e ∷ []) ≡ entries_of who l
  other_more who [] e is = ap (λ (b : Bool). cond b (e ∷ []) []) (ne_eqb e.who who is)
  other_more who (x ∷ l) e is =
      let rest = other_more who l e is in
      elim (x.who == who) as (λ b. cond b (x ∷ entries_of who (l ++ e ∷ [])) (entries_of who (l ++ e ∷ [])) ≡ cond b (x ∷ entries_of who l) (entries_of who l))
      [ true ↦ ap (λ m. x ∷ m) rest | false ↦ rest ]

  pub entries_append : (who : ℕ) (l m : List (Entry Op Reply)) → entries_of who (l ++ m) ≡ entries_of who l ++ entries_of who m
  entries_append who [] m = refl
  entries_append who (x ∷ l) m =
      let rest = entries_append who l m in
      elim (x.who == who) as (λ b. cond b (x ∷ entries_of who (l ++ m)) (entries_of who (l ++ m))
      ≡ cond b (x ∷ entries_of who l) (entries_of who l) ++ entries_of who m)
      [ true ↦ ap (λ n. x ∷ n) rest | false ↦ rest ]
