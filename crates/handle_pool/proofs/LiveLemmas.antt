-- Live objects, each with its handle: what stands at each handle after a change, and what is asked of them.
use Rattle.handle_pool.proofs.Names.{◌≡◌, ℕ, ◌+◌, Bool, true, false, cond, List, [], ◌∷◌, ◌++◌, length, Some, None, refl, sym, arith, ◌==◌, cases_Bool, inl, inr, nat_tests, how_many, lookup, any_live, first_handle, Distinct}

-- two tests of which each passes where the other does
pub same_tests : (a b : Bool) → (a ≡ true → b ≡ true) → (b ≡ true → a ≡ true) → a ≡ b
same_tests a b f g = grind (arith, nat_tests)

module _ {T : Type 0} where
  -- the objects, with the fields of this handle changed
  abbrev pub pairs_changed : ℕ → (T → T) → List (ℕ × T) → List (ℕ × T)
  pairs_changed h f [] = []
  pairs_changed h f (e ∷ es) = cond (e.0 == h) ((e.0, f e.1) ∷ es) (e ∷ pairs_changed h f es)

  -- the objects without this handle
  abbrev pub pairs_without : ℕ → List (ℕ × T) → List (ℕ × T)
  pairs_without h [] = []
  pairs_without h (e ∷ es) = cond (e.0 == h) es (e ∷ pairs_without h es)

  -- a change shows at its handle alone
  pub lookup-changed : (h k : ℕ) (f : T → T) (v : T) (es : List (ℕ × T)) → lookup es h ≡ Some v
      → lookup (pairs_changed h f es) k ≡ cond (h == k) (Some (f v)) (lookup es k)
  lookup-changed h k f v [] at = absurd (cc)
  lookup-changed h k f v (x ∷ es) at = grind (arith, nat_tests, lookup-changed h k f v es)

  pub lookup-without : (h k : ℕ) (es : List (ℕ × T)) → Distinct es → lookup (pairs_without h es) k ≡ cond (h == k) None (lookup es k)
  lookup-without h k [] d = grind (arith, nat_tests)
  lookup-without h k (x ∷ es) d = grind (arith, nat_tests, lookup-without h k es d.1)

  pub lookup-append : (h k : ℕ) (v : T) (es : List (ℕ × T)) → lookup es h ≡ None → lookup (es ++ (h, v) ∷ []) k ≡ cond (h == k) (Some v) (lookup es k)
  lookup-append h k v [] off = refl
  lookup-append h k v (x ∷ es) off = grind (arith, nat_tests, lookup-append h k v es)

  pub Distinct-append : (h : ℕ) (v : T) (es : List (ℕ × T)) → Distinct es → lookup es h ≡ None → Distinct (es ++ (h, v) ∷ [])
  Distinct-append h v [] d off = (refl, tt)
  Distinct-append h v (x ∷ es) d off = grind (arith, nat_tests, lookup-append h x.0 v es, Distinct-append h v es d.1)

  off_changed : (h k : ℕ) (f : T → T) (es : List (ℕ × T)) → lookup es k ≡ None → lookup (pairs_changed h f es) k ≡ None
  off_changed h k f [] off = refl
  off_changed h k f (x ∷ es) off = grind (arith, nat_tests, off_changed h k f es)

  pub Distinct-changed : (h : ℕ) (f : T → T) (es : List (ℕ × T)) → Distinct es → Distinct (pairs_changed h f es)
  Distinct-changed h f [] d = tt
  Distinct-changed h f (x ∷ es) d = grind (arith, nat_tests, off_changed h x.0 f es, Distinct-changed h f es d.1)

  off_without : (h k : ℕ) (es : List (ℕ × T)) → lookup es k ≡ None → lookup (pairs_without h es) k ≡ None
  off_without h k [] off = refl
  off_without h k (x ∷ es) off = grind (arith, nat_tests, off_without h k es)

  pub Distinct-without : (h : ℕ) (es : List (ℕ × T)) → Distinct es → Distinct (pairs_without h es)
  Distinct-without h [] d = tt
  Distinct-without h (x ∷ es) d = grind (arith, nat_tests, off_without h x.0 es, Distinct-without h es d.1)

  pub length-changed : (h : ℕ) (f : T → T) (es : List (ℕ × T)) → length (pairs_changed h f es) ≡ length es
  length-changed h f [] = refl
  length-changed h f (x ∷ es) = grind (arith, nat_tests, length-changed h f es)

  -- how many pass, where one object is left out
  pub how_many-without : (q : ℕ × T → Bool) (h : ℕ) (v : T) (es : List (ℕ × T)) → lookup es h ≡ Some v
      → how_many q es ≡ cond (q (h, v)) 1 0 + how_many q (pairs_without h es)
  how_many-without q h v [] at = absurd (cc)
  how_many-without q h v (x ∷ es) at = grind (arith, nat_tests, how_many-without q h v es)

  -- an object that passes, with its handle
  pub record Passing (q : T → Bool) (es : List (ℕ × T)) : Type 0 where
    pub handle : ℕ
    pub value : T
    pub stands : lookup es handle ≡ Some value
    pub passes : q value ≡ true

  -- where handles are distinct, the one that passes stands at its handle
  pub passing : (q : T → Bool) (es : List (ℕ × T)) → Distinct es → any_live q es ≡ true → Passing q es
  passing q [] d e = absurd (cc)
  passing q (x ∷ es) d e = elim (cases_Bool (q x.1)) [
    | inl here ↦ record { handle = x.0; value = x.1; stands = grind (arith, nat_tests); passes = here }
    | inr off ↦ let r = passing q es d.1 (rw off at e) in record { handle = r.handle; value = r.value; stands = grind (arith, nat_tests); passes = r.passes }
  ]

  pub any_live-at : (q : T → Bool) (es : List (ℕ × T)) (h : ℕ) (v : T) → lookup es h ≡ Some v → q v ≡ true → any_live q es ≡ true
  any_live-at q [] h v e holds = absurd (cc)
  any_live-at q (x ∷ es) h v e holds = grind (arith, nat_tests, any_live-at q es h v)

  -- the first that passes is one of those that pass
  pub first_live-passes : (q : T → Bool) (es : List (ℕ × T)) (h : ℕ) → Distinct es → first_handle q es ≡ Some h
      → (v : T) × (lookup es h ≡ Some v) × (q v ≡ true)
  first_live-passes q [] h d e = absurd (cc)
  first_live-passes q (x ∷ es) h d e = grind (arith, nat_tests, first_live-passes q es h d.1)

  -- none is the first that passes exactly where none passes
  pub first_live-any : (q : T → Bool) (es : List (ℕ × T)) → any_live q es ≡ true → (h : ℕ) × (first_handle q es ≡ Some h)
  first_live-any q [] e = absurd (cc)
  first_live-any q (x ∷ es) e = elim (cases_Bool (q x.1)) [
    | inl here ↦ (x.0, rw here refl)
    | inr off ↦ rw off (first_live-any q es (rw off at e))
  ]

  pub first_live-none : (q : T → Bool) (es : List (ℕ × T)) → any_live q es ≡ false → first_handle q es ≡ None
  first_live-none q [] e = refl
  first_live-none q (x ∷ es) e = grind (arith, nat_tests, first_live-none q es)

  none_left : (q : ℕ × T → Bool) (es : List (ℕ × T)) → ((h : ℕ) → lookup es h ≡ None) → how_many q es ≡ 0
  none_left q [] none = refl
  none_left q (x ∷ es) none = let off = none x.0 in grind (arith, nat_tests)

  -- lists in any order with the same at each handle have as many that pass
  pub how_many-same : (q : ℕ × T → Bool) (xs ys : List (ℕ × T)) → Distinct xs → Distinct ys → ((h : ℕ) → lookup xs h ≡ lookup ys h)
      → how_many q xs ≡ how_many q ys
  how_many-same q [] ys dx dy same = sym (none_left q ys (λ h. sym (same h)))
  how_many-same q (x ∷ xs) ys dx dy same =
      let here = same x.0 in
      let at : lookup ys x.0 ≡ Some x.1 = grind (arith, nat_tests) in
      let out = how_many-without q x.0 x.1 ys at in
      let rest = how_many-same q xs (pairs_without x.0 ys) dx.1 (Distinct-without x.0 ys dy)
      (λ h. let is = same h in let left = lookup-without x.0 h ys dy in grind (arith, nat_tests)) in
      omega arith
