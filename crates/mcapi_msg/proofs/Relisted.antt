-- A list of issued objects with other fields: each question has the same answer, and each move comes to the same.
use Rattle.mcapi_msg.proofs.Names.{arith, nat_tests, ◌≡◌, ℕ, suc, ◌+◌, Bool, true, false, not, ◌&&◌, cond, List, [], ◌∷◌, length, Option, Some, None, refl, sym, ap, ◌∙◌, ◌==◌, nat_le, slot_of, generation_of, Listed, lookup, live_object, any_listed, any_live, first_handle, gone, update, retire}
use Rattle.handle_pool.specs.Issued.{live_of, issue, change, listed, issued_at, retired, is_full, may_issue}
use Rattle.mcapi_msg.specs.Stands.{relisted}

module _ {A B : Type 0} (f : A → B) where
  abbrev pub pairs : List (ℕ × A) → List (ℕ × B)
  pairs [] = []
  pairs (e ∷ es) = (e.0, f e.1) ∷ pairs es

  abbrev pub mapped : Option A → Option B
  mapped None = None
  mapped (Some x) = Some (f x)

  pub live_of-relisted : (l : List (Listed A)) → live_of (relisted f l) ≡ pairs (live_of l)
  unfolding relisted live_of
  live_of-relisted [] = refl
  live_of-relisted (r ∷ rs) = pick r.live (live_of-relisted rs)
    where
      pick : (b : Bool) → live_of (relisted f rs) ≡ pairs (live_of rs)
          → cond b ((r.handle, f r.fields) ∷ live_of (relisted f rs)) (live_of (relisted f rs))
          ≡ pairs (cond b ((r.handle, r.fields) ∷ live_of rs) (live_of rs))
      pick true e = ap (λ (l : List (ℕ × B)). (r.handle, f r.fields) ∷ l) e
      pick false e = e

  lookup-pairs : (es : List (ℕ × A)) (h : ℕ) → lookup (pairs es) h ≡ mapped (lookup es h)
  lookup-pairs [] h = refl
  lookup-pairs (e ∷ es) h = pick (e.0 == h) (lookup-pairs es h)
    where
      pick : (b : Bool) → lookup (pairs es) h ≡ mapped (lookup es h) → cond b (Some (f e.1)) (lookup (pairs es) h) ≡ mapped (cond b (Some e.1) (lookup es h))
      pick true k = refl
      pick false k = k

  pub at-relisted : (l : List (Listed A)) (h : ℕ) → live_object (relisted f l) h ≡ mapped (live_object l h)
  at-relisted l h = ap (λ es. lookup es h) (live_of-relisted l) ∙ lookup-pairs (live_of l) h

  mapped_back : (o : Option A) (y : B) → mapped o ≡ Some y → (x : A) × (o ≡ Some x) × (f x ≡ y)
  mapped_back o y e1 = grind (arith, nat_tests)

  pub at-back : (l : List (Listed A)) (h : ℕ) (y : B) → live_object (relisted f l) h ≡ Some y → (x : A) × (live_object l h ≡ Some x) × (f x ≡ y)
  at-back l h y e = mapped_back (live_object l h) y (sym (at-relisted l h) ∙ e)

  mapped_none : (o : Option A) → mapped o ≡ None → o ≡ None
  mapped_none o e1 = grind (arith, nat_tests)

  pub at-none : (l : List (Listed A)) (h : ℕ) → live_object (relisted f l) h ≡ None → live_object l h ≡ None
  at-none l h e = mapped_none (live_object l h) (sym (at-relisted l h) ∙ e)

  any-pairs : (q : B → Bool) (es : List (ℕ × A)) → any_live q (pairs es) ≡ any_live (λ x. q (f x)) es
  any-pairs q [] = refl
  any-pairs q (e ∷ es) = ap (λ b. cond (q (f e.1)) true b) (any-pairs q es)

  pub any-relisted : (q : B → Bool) (l : List (Listed A)) → any_listed q (relisted f l) ≡ any_listed (λ x. q (f x)) l
  any-relisted q l = ap (λ es. any_live q es) (live_of-relisted l) ∙ any-pairs q (live_of l)

  first-pairs : (q : B → Bool) (es : List (ℕ × A)) → first_handle q (pairs es) ≡ first_handle (λ x. q (f x)) es
  first-pairs q [] = refl
  first-pairs q (e ∷ es) = ap (λ (o : Option ℕ). cond (q (f e.1)) (Some e.0) o) (first-pairs q es)

  pub first-relisted : (q : B → Bool) (l : List (Listed A)) → first_handle q (live_of (relisted f l)) ≡ first_handle (λ x. q (f x)) (live_of l)
  first-relisted q l = ap (λ es. first_handle q es) (live_of-relisted l) ∙ first-pairs q (live_of l)

  length-pairs : (es : List (ℕ × A)) → length (pairs es) ≡ length es
  length-pairs [] = refl
  length-pairs (e ∷ es) = ap suc (length-pairs es)

  listed-relisted : (h : ℕ) (l : List (Listed A)) → listed h (relisted f l) ≡ listed h l
  unfolding relisted listed
  listed-relisted h [] = refl
  listed-relisted h (r ∷ rs) = ap (λ n. cond (r.handle == h) 1 0 + n) (listed-relisted h rs)

  issued_at-relisted : (h : ℕ) (l : List (Listed A)) → issued_at h (relisted f l) ≡ issued_at h l
  unfolding relisted issued_at
  issued_at-relisted h [] = refl
  issued_at-relisted h (r ∷ rs) = ap (λ n. cond (slot_of r.handle == slot_of h) 1 0 + n) (issued_at-relisted h rs)

  retired-relisted : (last : ℕ) (l : List (Listed A)) → retired last (relisted f l) ≡ retired last l
  unfolding relisted retired
  retired-relisted last [] = refl
  retired-relisted last (r ∷ rs) = ap (λ n. cond (not r.live && (generation_of r.handle == last)) 1 0 + n) (retired-relisted last rs)

  pub is_full-relisted : (last max : ℕ) (l : List (Listed A)) → is_full last max (relisted f l) ≡ is_full last max l
  unfolding is_full
  is_full-relisted last max l = (λ i. (ap (λ (es : List (ℕ × B)). length es) (live_of-relisted l) ∙ length-pairs (live_of l)) i
      + retired-relisted last l i == max)

  pub may_issue-relisted : (last h : ℕ) (l : List (Listed A)) → may_issue last h (relisted f l) ≡ may_issue last h l
  unfolding may_issue
  may_issue-relisted last h l = (λ i. (listed-relisted h l i == 0) && nat_le (generation_of h) last && (generation_of h == issued_at-relisted h l i + 1))

  pub issue-relisted : (h : ℕ) (v : A) (l : List (Listed A)) → relisted f (issue h v l) ≡ issue h (f v) (relisted f l)
  unfolding relisted issue
  issue-relisted h v [] = refl
  issue-relisted h v (r ∷ rs) = ap (λ (l : List (Listed B)). record { handle = r.handle; live = r.live; fields = f r.fields } ∷ l) (issue-relisted h v rs)

  pub retire-relisted : (h : ℕ) (l : List (Listed A)) → relisted f (retire h l) ≡ retire h (relisted f l)
  unfolding relisted change
  retire-relisted h [] = refl
  retire-relisted h (r ∷ rs) = pick (r.live && (r.handle == h)) (retire-relisted h rs)
    where
      pick : (b : Bool) → relisted f (retire h rs) ≡ retire h (relisted f rs)
          → relisted f (cond b (gone r ∷ rs) (r ∷ retire h rs))
          ≡ cond b (record { handle = r.handle; live = false; fields = f r.fields }
          ∷ relisted f rs) (record { handle = r.handle; live = r.live; fields = f r.fields } ∷ retire h (relisted f rs))
      pick true e = refl
      pick false e = ap (λ (l : List (Listed B)). record { handle = r.handle; live = r.live; fields = f r.fields } ∷ l) e

  -- the live object of the handle changes into one that is seen so
  pub update-relisted : (h : ℕ) (g : A → A) (x : A) (y : B) (l : List (Listed A)) → live_object l h ≡ Some x → f (g x) ≡ y
      → relisted f (update h g l) ≡ update h (λ _. y) (relisted f l)
  unfolding relisted change live_of
  update-relisted h g x y [] found is = absurd (cc)
  update-relisted h g x y (r ∷ rs) found is = pick r.live (r.handle == h) refl found (λ more. update-relisted h g x y rs more is)
    where
      fields : (a b : A) → Some a ≡ Some b → a ≡ b
      fields a b e = cc

      pick : (live same : Bool) → (r.handle == h) ≡ same → lookup (cond live ((r.handle, r.fields) ∷ live_of rs) (live_of rs)) h ≡ Some x
          → (live_object rs h ≡ Some x → relisted f (update h g rs) ≡ update h (λ _. y) (relisted f rs)) →
          relisted f (cond (live && same) (record { handle = r.handle; live = live; fields = g r.fields }
          ∷ rs) (record { handle = r.handle; live = live; fields = r.fields } ∷ update h g rs))
          ≡ cond (live && same) (record { handle = r.handle; live = live; fields = y }
          ∷ relisted f rs) (record { handle = r.handle; live = live; fields = f r.fields } ∷ update h (λ _. y) (relisted f rs))
      pick true true e at more =
          let own : r.fields ≡ x = fields r.fields x (sym (ap (λ b. cond b (Some r.fields) (lookup (live_of rs) h)) e) ∙ at) in
          (λ i. record { handle = r.handle; live = true; fields = (ap (λ (a : A). f (g a)) own ∙ is) i } ∷ relisted f rs)
      pick true false e at more = ap (λ (l : List (Listed B)). record { handle = r.handle; live = true; fields = f r.fields }
          ∷ l) (more (sym (ap (λ b. cond b (Some r.fields) (lookup (live_of rs) h)) e) ∙ at))
      pick false same e at more = ap (λ (l : List (Listed B)). record { handle = r.handle; live = false; fields = f r.fields } ∷ l) (more at)
