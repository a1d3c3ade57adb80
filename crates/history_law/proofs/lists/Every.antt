-- What holds of every task that was ever issued, after a change of the list.
use Rattle.history_law.proofs.Names.{arith, nat_tests, ◌≡◌, ℕ, Bool, true, false, List, [], ◌∷◌, Some, refl, cond_both, Listed, live_of, live_object, change, issue, some_same, fst_true, snd_true}
use Rattle.history_law.proofs.lists.Found.{at_here, at_past}

-- P of each
abbrev pub Each : {A : Type 0} → (A → Type 0) → List A → Type 0
Each P [] = Unit {0}
Each P (x ∷ xs) = P x × Each P xs

pub each_map : {A : Type 0} (P Q : A → Type 0) (l : List A) → ((x : A) → P x → Q x) → Each P l → Each Q l
each_map P Q [] f a = tt
each_map P Q (x ∷ xs) f a = (f x a.0, each_map P Q xs f a.1)

module _ {T : Type 0} where
  -- P of the fields of each object
  abbrev pub Every : (T → Type 0) → List (Listed T) → Type 0
  Every P l = Each (λ r. P r.fields) l

  pub every_issue : (P : T → Type 0) (j : ℕ) (t : T) (l : List (Listed T)) → P t → Every P l → Every P (issue j t l)
  unfolding issue
  every_issue P j t [] k a = (k, tt)
  every_issue P j t (r ∷ rs) k a = (a.0, every_issue P j t rs k a.1)

  pub every_change : (P : T → Type 0) (j : ℕ) (f : Listed T → Listed T) (l : List (Listed T))
      → ((r : Listed T) → live_object l j ≡ Some r.fields → P r.fields → P (f r).fields) → Every P l → Every P (change j f l)
  unfolding change
  every_change P j f [] g a = tt
  every_change P j f (r ∷ rs) g a = grind (arith, nat_tests, every_change P j f rs, cond_both, at_here, fst_true, snd_true, at_past)

  -- what holds of each object, and what follows
  pub every_map : (P R Q : T → Type 0) (l : List (Listed T)) → ((t : T) → P t → R t → Q t) → Every P l → Every R l → Every Q l
  every_map P R Q [] g a b = tt
  every_map P R Q (r ∷ rs) g a b = (g r.fields a.0 b.0, every_map P R Q rs g a.1 b.1)

  pub every_at : (P : T → Type 0) (l : List (Listed T)) (h : ℕ) (t : T) → Every P l → live_object l h ≡ Some t → P t
  unfolding live_of
  every_at P [] h t a i = absurd (cc)
  every_at P (r ∷ rs) h t a i = grind (arith, nat_tests, every_at P rs h t a.1, a.0, some_same)

pub always : {T : Type 0} (l : List (Listed T)) → Every (λ (t : T). Unit {0}) l
always [] = tt
always (r ∷ rs) = (tt, always rs)

-- of each, where a test holds
pub every_if : {T : Type 0} (b : Bool) (P : T → Type 0) (l : List (Listed T)) → (b ≡ true → Every P l) → Every (λ (t : T). (b ≡ true) → P t) l
every_if true P l f = every_map P (λ t. Unit {0}) (λ t. (true ≡ true) → P t) l (λ t a u e. a) (f refl) (always l)
every_if false P l f = every_map (λ t. Unit {0}) (λ t. Unit {0}) (λ t. (false ≡ true) → P t) l (λ t a u e. absurd (cc)) (always l) (always l)
