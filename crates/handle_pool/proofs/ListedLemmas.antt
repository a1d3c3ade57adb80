-- What each move of the list of issued objects does to the live ones and to the counts.
use Rattle.handle_pool.proofs.Names.{nat_tests, ◌≡◌, ℕ, ◌+◌, Bool, true, not, ◌&&◌, cond, List, [], ◌∷◌, ◌++◌, length, length_push, Some, None, refl, ◌∙◌, ap, arith, ◌==◌, slot_of, generation_of, Listed, how_many, live_of, lookup, live_object, issue, change, with_fields, update, retire, listed, issued_at, retired, Distinct}
use Rattle.handle_pool.proofs.LiveLemmas.{pairs_changed, pairs_without, lookup-changed, lookup-without, lookup-append, Distinct-append, Distinct-changed, Distinct-without, length-changed, how_many-without}

-- the handle's slot, as a handle, names itself
slot_of-slot : (h : ℕ) → slot_of (slot_of h) ≡ slot_of h
slot_of-slot h = omega arith

pub how_many-push : {X : Type 0} (q : X → Bool) (xs : List X) (x : X) → how_many q (xs ++ x ∷ []) ≡ how_many q xs + cond (q x) 1 0
how_many-push q [] x = omega arith
how_many-push q (y ∷ xs) x = omega (arith, how_many-push q xs x)

module _ {T : Type 0} where
  -- the live objects after each move

  pub live_of-issue : (h : ℕ) (v : T) (l : List (Listed T)) → live_of (issue h v l) ≡ live_of l ++ (h, v) ∷ []
  unfolding live_of issue
  live_of-issue h v [] = refl
  live_of-issue h v (r ∷ rs) = grind (arith, nat_tests, live_of-issue h v rs)

  pub live_of-update : (h : ℕ) (f : T → T) (l : List (Listed T)) → live_of (update h f l) ≡ pairs_changed h f (live_of l)
  unfolding live_of change
  live_of-update h f [] = refl
  live_of-update h f (r ∷ rs) = grind (arith, nat_tests, live_of-update h f rs)

  pub live_of-retire : (h : ℕ) (l : List (Listed T)) → live_of (retire h l) ≡ pairs_without h (live_of l)
  unfolding live_of change
  live_of-retire h [] = refl
  live_of-retire h (r ∷ rs) = grind (arith, nat_tests, live_of-retire h rs)

  -- what stands at each handle after each move

  pub at-issue : (h k : ℕ) (v : T) (l : List (Listed T)) → live_object l h ≡ None → live_object (issue h v l) k ≡ cond (h == k) (Some v) (live_object l k)
  at-issue h k v l off = ap (λ es. lookup es k) (live_of-issue h v l) ∙ lookup-append h k v (live_of l) off

  pub at-update : (h k : ℕ) (f : T → T) (v : T) (l : List (Listed T)) → live_object l h ≡ Some v
      → live_object (update h f l) k ≡ cond (h == k) (Some (f v)) (live_object l k)
  at-update h k f v l is = ap (λ es. lookup es k) (live_of-update h f l) ∙ lookup-changed h k f v (live_of l) is

  pub at-retire : (h k : ℕ) (l : List (Listed T)) → Distinct (live_of l) → live_object (retire h l) k ≡ cond (h == k) None (live_object l k)
  at-retire h k l d = ap (λ es. lookup es k) (live_of-retire h l) ∙ lookup-without h k (live_of l) d

  pub Distinct-issue : (h : ℕ) (v : T) (l : List (Listed T)) → Distinct (live_of l) → live_object l h ≡ None → Distinct (live_of (issue h v l))
  Distinct-issue h v l d off = rw (live_of-issue h v l) (Distinct-append h v (live_of l) d off)

  pub Distinct-update : (h : ℕ) (f : T → T) (l : List (Listed T)) → Distinct (live_of l) → Distinct (live_of (update h f l))
  Distinct-update h f l d = rw (live_of-update h f l) (Distinct-changed h f (live_of l) d)

  pub Distinct-retire : (h : ℕ) (l : List (Listed T)) → Distinct (live_of l) → Distinct (live_of (retire h l))
  Distinct-retire h l d = rw (live_of-retire h l) (Distinct-without h (live_of l) d)

  length_many : (es : List (ℕ × T)) → length es ≡ how_many (λ _. true) es
  length_many [] = refl
  length_many (e ∷ es) = omega (arith, length_many es)

  pub length-issue : (h : ℕ) (v : T) (l : List (Listed T)) → length (live_of (issue h v l)) ≡ length (live_of l) + 1
  length-issue h v l = ap length (live_of-issue h v l) ∙ length_push (live_of l) (h, v)

  pub length-update : (h : ℕ) (f : T → T) (l : List (Listed T)) → length (live_of (update h f l)) ≡ length (live_of l)
  length-update h f l = ap length (live_of-update h f l) ∙ length-changed h f (live_of l)

  pub length-retire : (h : ℕ) (v : T) (l : List (Listed T)) → live_object l h ≡ Some v → length (live_of l) ≡ length (live_of (retire h l)) + 1
  length-retire h v l is =
      let out = how_many-without (λ _. true) h v (live_of l) is in
      let left = ap length (live_of-retire h l) in
      omega (arith, length_many (live_of l), length_many (pairs_without h (live_of l)))

  -- counts after each move

  -- a change that keeps a test of each object keeps how many pass
  pub how_many-change : (q : Listed T → Bool) (h : ℕ) (f : Listed T → Listed T) → ((r : Listed T) → q (f r) ≡ q r) → (l : List (Listed T))
      → how_many q (change h f l) ≡ how_many q l
  unfolding change
  how_many-change q h f keeps [] = refl
  how_many-change q h f keeps (r ∷ rs) = grind (arith, nat_tests, how_many-change q h f keeps rs)

  pub listed-change : (k h : ℕ) (f : Listed T → Listed T) → ((r : Listed T) → (f r).handle ≡ r.handle) → (l : List (Listed T))
      → listed k (change h f l) ≡ listed k l
  unfolding listed
  listed-change k h f keeps l = how_many-change (λ r. r.handle == k) h f (λ r. ap (λ n. n == k) (keeps r)) l

  pub issued_at-change : (k h : ℕ) (f : Listed T → Listed T) → ((r : Listed T) → (f r).handle ≡ r.handle) → (l : List (Listed T))
      → issued_at k (change h f l) ≡ issued_at k l
  unfolding issued_at
  issued_at-change k h f keeps l = how_many-change (λ r. slot_of r.handle == slot_of k) h f (λ r. ap (λ n. slot_of n == slot_of k) (keeps r)) l

  pub retired-update : (last h : ℕ) (f : T → T) (l : List (Listed T)) → retired last (update h f l) ≡ retired last l
  unfolding retired
  retired-update last h f l = how_many-change (λ r. not r.live && (generation_of r.handle == last)) h (with_fields f) (λ r. refl) l

  pub listed-issue : (k h : ℕ) (v : T) (l : List (Listed T)) → listed k (issue h v l) ≡ listed k l + cond (h == k) 1 0
  unfolding listed issue
  listed-issue k h v l = how_many-push (λ r. r.handle == k) l (record { handle = h; live = true; fields = v })

  pub issued_at-issue : (k h : ℕ) (v : T) (l : List (Listed T)) → issued_at k (issue h v l) ≡ issued_at k l + cond (slot_of h == slot_of k) 1 0
  unfolding issued_at issue
  issued_at-issue k h v l = how_many-push (λ r. slot_of r.handle == slot_of k) l (record { handle = h; live = true; fields = v })

  pub retired-issue : (last h : ℕ) (v : T) (l : List (Listed T)) → retired last (issue h v l) ≡ retired last l
  unfolding retired issue
  retired-issue last h v l = how_many-push (λ r. not r.live && (generation_of r.handle == last)) l (record { handle = h; live = true; fields = v })
      ∙ omega arith

  pub issued_at-slot : (h : ℕ) (l : List (Listed T)) → issued_at (slot_of h) l ≡ issued_at h l
  unfolding issued_at
  issued_at-slot h l = ap (λ s. how_many (λ r. slot_of r.handle == s) l) (slot_of-slot h)

  pub retired-retire : (last h : ℕ) (v : T) (l : List (Listed T)) → live_object l h ≡ Some v
      → retired last (retire h l) ≡ retired last l + cond (generation_of h == last) 1 0
  unfolding live_of change retired
  retired-retire last h v [] is = absurd (cc)
  retired-retire last h v (r ∷ rs) is = grind (arith, nat_tests, retired-retire last h v rs)

  -- a change of a handle that isn't live is none
  pub change-none : (h : ℕ) (f : Listed T → Listed T) (l : List (Listed T)) → live_object l h ≡ None → change h f l ≡ l
  unfolding live_of change
  change-none h f [] off = refl
  change-none h f (r ∷ rs) off = grind (arith, nat_tests, change-none h f rs)
