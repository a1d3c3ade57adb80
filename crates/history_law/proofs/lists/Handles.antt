-- How often a handle is listed, after a change of the list.
use Rattle.history_law.proofs.Names.{◌≡◌, ℕ, ◌≤◌, false, List, [], ◌∷◌, refl, sym, subst, arith, ◌==◌, Listed, change, issue, listed, listed-issue, nat_tests}

module _ {T : Type 0} where
  pub listed_change : (j h : ℕ) (f : Listed T → Listed T) (l : List (Listed T)) → ((r : Listed T) → (f r).handle ≡ r.handle)
      → listed j (change h f l) ≡ listed j l
  unfolding change listed
  listed_change j h f [] k = refl
  listed_change j h f (r ∷ rs) k = grind (arith, k r, listed_change j h f rs k)

  -- where a handle isn't listed, the head has another one
  pub head_apart : (h : ℕ) (r : Listed T) (rs : List (Listed T)) → listed h (r ∷ rs) ≡ 0 → ((r.handle == h) ≡ false) × (listed h rs ≡ 0)
  unfolding listed
  head_apart h r rs n = (grind arith, grind arith)

  -- an issued handle is listed
  pub some_issued : (h : ℕ) (x : T) (l : List (Listed T)) → 1 ≤ listed h (issue h x l)
  some_issued h x l = grind (arith, nat_tests, listed-issue h h x l)

  -- each handle is listed at most once
  abbrev pub OnceIn : List (Listed T) → Type 0
  OnceIn l = (j : ℕ) → listed j l ≤ 1

  pub once_rest : (r : Listed T) (rs : List (Listed T)) → OnceIn (r ∷ rs) → OnceIn rs
  unfolding listed
  once_rest r rs o j = grind (arith, o j)

  pub once_same : (l k : List (Listed T)) → ((j : ℕ) → listed j k ≡ listed j l) → OnceIn l → OnceIn k
  once_same l k e o j = subst (λ (n : ℕ). n ≤ 1) (sym (e j)) (o j)

  pub once_more : (h : ℕ) (v : T) (l : List (Listed T)) → listed h l ≡ 0 → OnceIn l → OnceIn (issue h v l)
  once_more h v l n o j = grind (arith, nat_tests, listed-issue j h v l, o j)
