-- What the list of a kind answers as its pool has it, and each move of it: one lemma a move.
use Rattle.handle_pool.proofs.Names.{nat_tests, arith, ◌≡◌, ℕ, ◌+◌, Bool, cond, List, [], ◌∷◌, refl, sym, ◌∙◌, ap, option_map, Listed, live_of, live_object, how_many, change, with_fields, gone, update, retire, issue}
use Rattle.handle_pool.specs.Inside.{turned, inside, Apart, Agree}

module _ {M T : Type 0} (g : ℕ → ℕ) (f : ℕ → M → T) where
  -- the live object of a handle
  pub at-inside : (h : ℕ) (l : List (Listed M)) → Apart g f h l → live_object (inside g f l) (g h) ≡ option_map (f h) (live_object l h)
  unfolding live_of inside
  at-inside h [] a = refl
  at-inside h (r ∷ rs) a = grind (arith, nat_tests, at-inside h rs a.1)

  -- the live object of a handle changes
  pub change-inside : (h : ℕ) (F : Listed M → Listed M) (G : Listed T → Listed T) (l : List (Listed M))
      → ((r : Listed M) → r.handle ≡ h → turned g f (F r) ≡ G (turned g f r)) → Apart g f h l → inside g f (change h F l) ≡ change (g h) G (inside g f l)
  unfolding change inside
  change-inside h F G [] k a = refl
  change-inside h F G (r ∷ rs) k a = grind (arith, nat_tests, change-inside h F G rs k a.1)

  -- its fields change
  pub update-inside : (h : ℕ) (F : M → M) (G : T → T) (l : List (Listed M)) → ((v : M) → f h (F v) ≡ G (f h v)) → Apart g f h l
      → inside g f (update h F l) ≡ update (g h) G (inside g f l)
  update-inside h F G l k a =
      change-inside h (with_fields F) (with_fields G) l
      (λ r e. ap (λ (v : T). record { handle = g r.handle; live = r.live; fields = v }) (ap (λ (x : ℕ). f x (F r.fields)) e ∙ k r.fields
      ∙ ap (λ (x : ℕ). G (f x r.fields)) (sym e))) a

  -- it stops being live
  pub retire-inside : (h : ℕ) (l : List (Listed M)) → Apart g f h l → inside g f (retire h l) ≡ retire (g h) (inside g f l)
  retire-inside h l a = change-inside h gone gone l (λ r e. refl) a

  -- a new object
  pub issue-inside : (h : ℕ) (v : M) (l : List (Listed M)) → inside g f (issue h v l) ≡ issue (g h) (f h v) (inside g f l)
  unfolding issue inside
  issue-inside h v [] = refl
  issue-inside h v (r ∷ rs) = ap (λ (x : List (Listed T)). turned g f r ∷ x) (issue-inside h v rs)

  -- how many pass
  pub count-inside : (p : Listed T → Bool) (q : Listed M → Bool) (l : List (Listed M)) → Agree g f p q l → how_many p (inside g f l) ≡ how_many q l
  unfolding inside
  count-inside p q [] a = refl
  count-inside p q (r ∷ rs) a = λ i. cond (a.0 i) 1 0 + count-inside p q rs a.1 i
