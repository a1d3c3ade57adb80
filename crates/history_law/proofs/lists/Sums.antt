-- Sums over listed tasks, and the records of handles, after a change of the list.
use Rattle.history_law.proofs.Names.{nat_tests, arith, ◌≡◌, ℕ, Bool, false, cond, List, [], ◌∷◌, Option, Some, None, refl, sym, ◌∙◌, ap, ◌==◌, ◌&&◌, is_some, ℤ, pos, ◌+ℤ◌, option_map, eqb-true, eq-eqb, cond_both, +ℤ_comm, +ℤ_assoc, Listed, live_of, live_object, listed, change, issue, update, with_fields, Task, some_same, at-update, record_of, sum_of, fst_true, snd_true}
use Rattle.history_law.proofs.lists.Handles.{OnceIn, once_rest, listed_change, once_same, head_apart}
use Rattle.history_law.proofs.lists.Every.{Every}
use Rattle.history_law.proofs.lists.Found.{at_here, at_head, at_past}
use Rattle.history_law.proofs.lists.Firsts.{head_alone}

-- Sums

-- the head changes by d, and so does the sum
head_more : (a b d s : ℤ) → a ≡ b +ℤ d → a +ℤ s ≡ (b +ℤ s) +ℤ d
head_more a b d s e = ap (λ (z : ℤ). z +ℤ s) e ∙ (+ℤ_assoc b d s ∙ (ap (λ (z : ℤ). b +ℤ z) (+ℤ_comm d s) ∙ sym (+ℤ_assoc b s d)))

pub sum_more : (f : Task → ℤ) (d : ℤ) (j : ℕ) (g : Listed Task → Listed Task) (l : List (Listed Task)) (x : Task) → live_object l j ≡ Some x
    → ((r : Listed Task) → r.fields ≡ x → f (g r).fields ≡ f r.fields +ℤ d) → sum_of f (change j g l) ≡ sum_of f l +ℤ d
unfolding live_of change
sum_more f d j g [] x e k = absurd (cc)
sum_more f d j g (r ∷ rs) x e k = grind (arith, nat_tests, sum_more f d j g rs x, cond_both, sum_of, head_more, some_same, at_here)

pub sum_change : (f : Task → ℤ) (j : ℕ) (g : Listed Task → Listed Task) (l : List (Listed Task))
    → ((r : Listed Task) → live_object l j ≡ Some r.fields → f (g r).fields ≡ f r.fields) → sum_of f (change j g l) ≡ sum_of f l
unfolding live_of change
sum_change f j g [] k = refl
sum_change f j g (r ∷ rs) k = cond_both (r.live && (r.handle == j)) (g r ∷ rs) (r ∷ change j g rs) (λ m. sum_of f m ≡ f r.fields +ℤ sum_of f rs)
    (λ c. ap (λ (z : ℤ). z +ℤ sum_of f rs) (k r (at_here r rs j (fst_true r.live _ c) (snd_true r.live _ c))))
    (λ c. ap (λ (z : ℤ). f r.fields +ℤ z) (sum_change f j g rs (λ q a. k q (at_past r rs j c ∙ a))))

pub sum_none : (f : Task → ℤ) (l : List (Listed Task)) → Every (λ t. f t ≡ pos 0) l → sum_of f l ≡ pos 0
sum_none f [] a = refl
sum_none f (r ∷ rs) a = ap (λ (z : ℤ). z +ℤ sum_of f rs) a.0 ∙ ap (λ (z : ℤ). pos 0 +ℤ z) (sum_none f rs a.1)

pub sum_same : (f g : Task → ℤ) (l : List (Listed Task)) → Every (λ t. f t ≡ g t) l → sum_of f l ≡ sum_of g l
sum_same f g [] a = refl
sum_same f g (r ∷ rs) a = ap (λ (z : ℤ). z +ℤ sum_of f rs) a.0 ∙ ap (λ (z : ℤ). g r.fields +ℤ z) (sum_same f g rs a.1)

-- Records

module _ {T : Type 0} where
  pub record_new : (h : ℕ) (v : T) (l : List (Listed T)) → listed h l ≡ 0 → record_of (issue h v l) h ≡ Some v
  unfolding listed record_of issue
  record_new h v [] n = ap (λ (b : Bool). cond b (Some v) None) (eq-eqb h h refl)
  record_new h v (r ∷ rs) n = let a = head_apart h r rs n in ap (λ (b : Bool). cond b (Some r.fields) (record_of (issue h v rs) h)) a.0 ∙ record_new h v rs a.1

  pub record_beside : (j h : ℕ) (v : T) (l : List (Listed T)) → (j == h) ≡ false → record_of (issue j v l) h ≡ record_of l h
  unfolding record_of issue
  record_beside j h v [] n = ap (λ (b : Bool). cond b (Some v) None) n
  record_beside j h v (r ∷ rs) n = ap (λ (o : Option T). cond (r.handle == h) (Some r.fields) o) (record_beside j h v rs n)

  -- a change that keeps the handles, and the fields or at least those of another handle
  pub record_other : (j h : ℕ) (f : Listed T → Listed T) (l : List (Listed T)) → ((r : Listed T) → (f r).handle ≡ r.handle) → (j == h) ≡ false
      → record_of (change j f l) h ≡ record_of l h
  unfolding record_of change
  record_other j h f [] k n = refl
  record_other j h f (r ∷ rs) k n = grind (arith, nat_tests, record_other j h f rs k n, cond_both, record_of, eqb-true, snd_true)

  pub record_at : (h : ℕ) (x : T) (l : List (Listed T)) → OnceIn l → live_object l h ≡ Some x → record_of l h ≡ Some x
  unfolding record_of live_of
  record_at h x [] o e = absurd (cc)
  record_at h x (r ∷ rs) o e = at_head r h (λ a b. ap (λ (c : Bool). cond c (Some r.fields) (record_of rs h)) b ∙ (sym (at_here r rs h a b) ∙ e))
      (λ n. let i : live_object rs h ≡ Some x = sym (at_past r rs h n) ∙ e in
      ap (λ (b : Bool). cond b (Some r.fields) (record_of rs h)) (head_alone r rs h o (ap is_some i)) ∙ record_at h x rs (once_rest r rs o) i)

  pub record_updated : (h : ℕ) (f : T → T) (x : T) (l : List (Listed T)) → OnceIn l → live_object l h ≡ Some x → record_of (update h f l) h ≡ Some (f x)
  record_updated h f x l o e = record_at h (f x) (update h f l) (once_same l (update h f l) (λ j. listed_change j h (with_fields f) l (λ r. refl)) o)
      (at-update h f x l e)

  -- V of the record, where a change keeps V of the fields
  pub record_view : {X : Type 0} (V : T → X) (j h : ℕ) (f : Listed T → Listed T) (l : List (Listed T)) → ((r : Listed T) → (f r).handle ≡ r.handle)
      → ((r : Listed T) → V (f r).fields ≡ V r.fields)
      → option_map V (record_of (change j f l) h) ≡ option_map V (record_of l h)
  unfolding record_of change
  record_view V j h f [] k v = refl
  record_view V j h f (r ∷ rs) k v = grind (arith, nat_tests, record_view V j h f rs k v, cond_both, option_map, record_of)
