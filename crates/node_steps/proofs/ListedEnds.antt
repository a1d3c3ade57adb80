-- Many tasks of a list that end at once end as they would one after the other.
use Rattle.node_steps.proofs.Names.{◌≡◌, ℕ, ◌+◌, Bool, true, false, cond, List, [], ◌∷◌, Some, None, refl, sym, ◌∙◌, ap, arith, ◌==◌, ◌&&◌, ◌||◌, if◌then◌else◌, nat_tests, TaskEnd, holds, Listed, live_of, lookup, live_object, handles_of, count_listed, change, Distinct, has_handle, Task, is_unstarted, ended, end_each, and_right, eq-eqb, eqb-true, none-some, same_Some}
use Rattle.std.proofs.lemmas.Bool.{false≢true}

-- The handles of those that pass

pub passes-listed : (p : Task → Bool) (es : List (ℕ × Task)) (h : ℕ) (t : Task) → lookup es h ≡ Some t → p t ≡ true → has_handle h (handles_of p es) ≡ true
passes-listed p [] h t g q = absurd (none-some _ g)
passes-listed p (e ∷ es) h t g q = by_handle (e.0 == h) refl g (passes-listed p es h t)
  where
    behind : (b c : Bool) → has_handle h (handles_of p es) ≡ true → has_handle h (cond b (e.0 ∷ handles_of p es) (handles_of p es)) ≡ true
    behind true c m = by (e.0 == h)
      where
        by : (d : Bool) → (d || has_handle h (handles_of p es)) ≡ true
        by true = refl
        by false = m
    behind false c m = m

    by_handle : (b : Bool) → (e.0 == h) ≡ b → cond b (Some e.1) (lookup es h) ≡ Some t
        → (lookup es h ≡ Some t → p t ≡ true → has_handle h (handles_of p es) ≡ true)
        → has_handle h (cond (p e.1) (e.0 ∷ handles_of p es) (handles_of p es)) ≡ true
    by_handle true same f more =
        ap (λ (b : Bool). has_handle h (cond b (e.0 ∷ handles_of p es) (handles_of p es))) (ap p (same_Some _ _ f) ∙ q)
        ∙ ap (λ (b : Bool). b || has_handle h (handles_of p es)) same
    by_handle false other f more = behind (p e.1) true (more f q)

pub listed-passes : (p : Task → Bool) (es : List (ℕ × Task)) (h : ℕ) → Distinct es → has_handle h (handles_of p es) ≡ true
    → (t : Task) × (lookup es h ≡ Some t) × (p t ≡ true)
listed-passes p [] h d m = absurd (false≢true m)
listed-passes p (e ∷ es) h d m = by_test (p e.1) refl m (listed-passes p es h d.1)
  where
    later : ((t : Task) × (lookup es h ≡ Some t) × (p t ≡ true)) → (b : Bool) → (e.0 == h) ≡ b
        → (t : Task) × (cond b (Some e.1) (lookup es h) ≡ Some t) × (p t ≡ true)
    later x true same = absurd (none-some _ (sym d.0 ∙ ap (lookup es) (eqb-true e.0 h same) ∙ x.1))
    later x false other = x

    by_handle : p e.1 ≡ true → (b : Bool) → (e.0 == h) ≡ b → (b || has_handle h (handles_of p es)) ≡ true
        → (has_handle h (handles_of p es) ≡ true → (t : Task) × (lookup es h ≡ Some t) × (p t ≡ true))
        → (t : Task) × (cond b (Some e.1) (lookup es h) ≡ Some t) × (p t ≡ true)
    by_handle q true same n more = (e.1, refl, q)
    by_handle q false other n more = later (more n) false other

    by_test : (b : Bool) → p e.1 ≡ b → has_handle h (cond b (e.0 ∷ handles_of p es) (handles_of p es)) ≡ true
        → (has_handle h (handles_of p es) ≡ true → (t : Task) × (lookup es h ≡ Some t) × (p t ≡ true))
        → (t : Task) × (cond (e.0 == h) (Some e.1) (lookup es h) ≡ Some t) × (p t ≡ true)
    by_test true q n more = by_handle q (e.0 == h) refl n more
    by_test false q n more = later (more n) (e.0 == h) refl

-- One after the other

-- the number of the next end, and the list
Ends : Type 0
Ends = ℕ × List (Listed Task)

abbrev pub step_listed : (Task → Bool) → TaskEnd → ℕ → ℕ × List (Listed Task) → ℕ × List (Listed Task)
step_listed p e h s = if holds p (live_object s.1 h) then (s.0 + 1, change h (ended e s.0) s.1) else s

abbrev pub each_listed : (Task → Bool) → TaskEnd → List ℕ → ℕ × List (Listed Task) → ℕ × List (Listed Task)
each_listed p e [] s = s
each_listed p e (h ∷ hs) s = each_listed p e hs (step_listed p e h s)

-- an object in front that has none of these handles
abbrev IsApart : Listed Task → List ℕ → Type 0
IsApart r hs = (h : ℕ) → has_handle h hs ≡ true → (r.live && (r.handle == h)) ≡ false

abbrev behind : Listed Task → ℕ × List (Listed Task) → ℕ × List (Listed Task)
behind r s = (s.0, r ∷ s.1)

live-behind : (r : Listed Task) (rs : List (Listed Task)) (h : ℕ) → (r.live && (r.handle == h)) ≡ false → live_object (r ∷ rs) h ≡ live_object rs h
unfolding live_of
live-behind r rs h e1 = grind (arith, nat_tests)

change-behind : (r : Listed Task) (rs : List (Listed Task)) (h : ℕ) (f : Listed Task → Listed Task) → (r.live && (r.handle == h)) ≡ false
    → change h f (r ∷ rs) ≡ r ∷ change h f rs
unfolding change
change-behind r rs h f off = ap (λ (b : Bool). cond b (f r ∷ rs) (r ∷ change h f rs)) off

step-behind : (p : Task → Bool) (e : TaskEnd) (r : Listed Task) (h : ℕ) (s : ℕ × List (Listed Task)) → (r.live && (r.handle == h)) ≡ false
    → step_listed p e h (behind r s) ≡ behind r (step_listed p e h s)
step-behind p e r h s e1 = grind (arith, nat_tests, live-behind, live_object, change-behind)

each-behind : (p : Task → Bool) (e : TaskEnd) (r : Listed Task) (hs : List ℕ) (s : ℕ × List (Listed Task)) → IsApart r hs
    → each_listed p e hs (behind r s) ≡ behind r (each_listed p e hs s)
each-behind p e r [] s k = refl
each-behind p e r (h ∷ hs) s k = grind (arith, nat_tests, each-behind p e r hs, step-behind)

-- the object in front has its turn
step-own : (p : Task → Bool) (e : TaskEnd) (r : Listed Task) (n : ℕ) (rs : List (Listed Task)) (c : Bool) → r.live ≡ true → p r.fields ≡ c
    → step_listed p e r.handle (n, r ∷ rs) ≡ cond c (n + 1, ended e n r ∷ rs) (n, r ∷ rs)
unfolding live_of change
step-own p e r n rs c e1 e2 = grind (arith, nat_tests)

-- the handles behind a live object are others
apart-live : (p : Task → Bool) (handle : ℕ) (x : Listed Task) (rs : List (Listed Task)) → x.handle ≡ handle → lookup (live_of rs) handle ≡ None
    → Distinct (live_of rs) → IsApart x (handles_of p (live_of rs))
apart-live p handle x rs e1 e2 e3 = grind (arith, nat_tests, listed-passes, live_of, none-some, eqb-true, and_right)

module _ (p : Task → Bool) (e : TaskEnd) where
  abbrev pub both_pass : Task → Bool
  both_pass t = is_unstarted t && p t

  abbrev ends_at_once : ℕ → List (Listed Task) → ℕ × List (Listed Task)
  ends_at_once n l = (n + count_listed both_pass l, end_each both_pass e n l)

  more : (r : Listed Task) (n : ℕ) (rs : List (Listed Task)) (z : ℕ × List (Listed Task)) → z ≡ ends_at_once n rs
      → behind r z ≡ (n + (0 + count_listed both_pass rs), r ∷ end_each both_pass e n rs)
  more r n rs z is = grind (arith, nat_tests)

  one-more : (r : Listed Task) (n : ℕ) (rs : List (Listed Task)) (z : ℕ × List (Listed Task)) → z ≡ ends_at_once (n + 1) rs
      → behind r z ≡ (n + (1 + count_listed both_pass rs), r ∷ end_each both_pass e (n + 1) rs)
  one-more r n rs z is = grind (arith, nat_tests)

  -- in the order of the list they end as they end at once
  pub at-once : (n : ℕ) (l : List (Listed Task)) → Distinct (live_of l)
      → each_listed p e (handles_of is_unstarted (live_of l)) (n, l) ≡ (n + count_listed both_pass l, end_each both_pass e n l)
  unfolding live_of end_each
  at-once n [] d = let same : n ≡ n + 0 = omega arith in ap (λ (k : ℕ). (k, [])) same
  at-once n (r ∷ rs) d = by_live r.live refl d (at-once n rs) (at-once (n + 1) rs)
    where
      hs : List ℕ
      hs = handles_of is_unstarted (live_of rs)

      Rest : ℕ → Type 0
      Rest k = Distinct (live_of rs) → each_listed p e hs (k, rs) ≡ ends_at_once k rs

      ended_to : Bool → ℕ × List (Listed Task)
      ended_to b = (n + (cond b 1 0 + count_listed both_pass rs), cond b (ended e n r ∷ end_each both_pass e (n + 1) rs) (r ∷ end_each both_pass e n rs))

      by_tests : r.live ≡ true → (lookup (live_of rs) r.handle ≡ None) × Distinct (live_of rs) → Rest n → Rest (n + 1) → (b c : Bool)
          → is_unstarted r.fields ≡ b → p r.fields ≡ c → each_listed p e (cond b (r.handle ∷ hs) hs) (n, r ∷ rs) ≡ ended_to (b && c)
      by_tests live d m k false c u v = each-behind p e r hs (n, rs) (apart-live is_unstarted r.handle r rs refl d.0 d.1) ∙ more r n rs _ (m d.1)
      by_tests live d m k true true u v =
          ap (each_listed p e hs) (step-own p e r n rs true live v)
          ∙ (each-behind p e (ended e n r) hs (n + 1, rs) (apart-live is_unstarted r.handle (ended e n r) rs refl d.0 d.1)
          ∙ one-more (ended e n r) n rs _ (k d.1))
      by_tests live d m k true false u v =
          ap (each_listed p e hs) (step-own p e r n rs false live v)
          ∙ (each-behind p e r hs (n, rs) (apart-live is_unstarted r.handle r rs refl d.0 d.1) ∙ more r n rs _ (m d.1))

      by_live : (a : Bool) → r.live ≡ a → Distinct (cond a ((r.handle, r.fields) ∷ live_of rs) (live_of rs)) → Rest n → Rest (n + 1)
          → each_listed p e (handles_of is_unstarted (cond a ((r.handle, r.fields) ∷ live_of rs) (live_of rs))) (n, r ∷ rs)
          ≡ ended_to (a && (is_unstarted r.fields && p r.fields))
      by_live true live d m k = by_tests live d m k (is_unstarted r.fields) (p r.fields) refl refl
      by_live false live d m k = each-behind p e r hs (n, rs) (λ h j. ap (λ (a : Bool). a && (r.handle == h)) live) ∙ more r n rs _ (m d)
