-- What each change of a list of tasks does to what is read of the task of a handle.
use Rattle.run_report.proofs.Names.{◌≡◌, ℕ, ◌+◌, ◌≤◌, Bool, true, false, ◌&&◌, cond, List, [], ◌∷◌, Option, Some, None, refl, arith, ◌==◌, nat_tests, TaskEnd, holds, Listed, live_of, live_object, issue, change, change_all, listed, Task, is_unstarted, ended, end_each, end_in, end_at, Unstarted, unstarted_of, unstarted_in, unstarted_at}

-- what is read of the first task that is listed under this handle
unfoldable pub first_at : {X : Type 0} → (Listed Task → Option X) → List (Listed Task) → ℕ → Option X
first_at g [] h = None
first_at g (r ∷ rs) h = cond (r.handle == h) (g r) (first_at g rs h)

-- the end of a listed task
abbrev pub end_read : Listed Task → Option TaskEnd
end_read r = end_in r.fields.state

pub ends_first : (l : List (Listed Task)) (h : ℕ) → end_at l h ≡ first_at end_read l h
unfolding end_at first_at
ends_first l h = grind (arith, nat_tests)

pub unstarted_first : (l : List (Listed Task)) (h : ℕ) → unstarted_at l h ≡ first_at unstarted_in l h
unfolding unstarted_at first_at
unstarted_first l h = grind (arith, nat_tests)

-- where no task is listed under a handle, none is live
pub unlisted : {T : Type 0} (k : ℕ) (l : List (Listed T)) → listed k l ≤ 0 → live_object l k ≡ None
unfolding listed live_of
unlisted k [] few = refl
unlisted k (r ∷ rs) few = grind (arith, nat_tests, unlisted k rs)

pub same_number : (a b : ℕ) → (a == b) ≡ true → a ≡ b
same_number a b e = grind (arith, nat_tests)

other_number : (a b c : ℕ) → (a == b) ≡ false → (b == c) ≡ true → (a == c) ≡ false
other_number a b c e f = grind (arith, nat_tests)

-- the live task of a handle, as it is listed
abbrev pub entry_of : ℕ → Task → Listed Task
entry_of k t = record { handle = k; live = true; fields = t }

module _ {X : Type 0} (g : Listed Task → Option X) where
  is_entry : (r : Listed Task) (k : ℕ) (t : Task) → r.live ≡ true → (r.handle == k) ≡ true → r.fields ≡ t → r ≡ entry_of k t
  is_entry r k t a b c = λ i. record { handle = same_number r.handle k b i; live = a i; fields = c i }

  -- the two ways of a test, where the outer one is met only where the inner one isn't
  apart : (b c : Bool) (x s o : Option X) → (b ≡ true → c ≡ false) → cond c s (cond b x o) ≡ cond b x (cond c s o)
  apart b c x s o e1 = grind (arith, nat_tests)

  -- where a handle is listed once and its task is live, that task is read
  pub first-found : (k : ℕ) (t : Task) (l : List (Listed Task)) → listed k l ≤ 1 → live_object l k ≡ Some t → first_at g l k ≡ g (entry_of k t)
  unfolding first_at listed live_of
  first-found k t [] one found = absurd (cc)
  first-found k t (r ∷ rs) one found = grind (arith, nat_tests, first-found k t rs, is_entry r k t, unlisted k rs)

  -- where a handle is listed once and its task is live, a change of it shows at its handle alone
  pub first-set : (h k : ℕ) (f : Listed Task → Listed Task) (t : Task) → ((r : Listed Task) → (f r).handle ≡ r.handle)
      → (l : List (Listed Task)) → listed k l ≤ 1 → live_object l k ≡ Some t
      → first_at g (change k f l) h ≡ cond (k == h) (g (f (entry_of k t))) (first_at g l h)
  unfolding first_at change listed live_of
  first-set h k f t keeps [] one found = absurd (cc)
  first-set h k f t keeps (r ∷ rs) one found = grind (arith, nat_tests, keeps r, first-set h k f t keeps rs, is_entry r k t, unlisted k rs, apart, other_number)

  -- the same where the change isn't seen
  pub first-kept : (h k : ℕ) (f : Listed Task → Listed Task) (t : Task) → ((r : Listed Task) → (f r).handle ≡ r.handle)
      → g (f (entry_of k t)) ≡ g (entry_of k t)
      → (l : List (Listed Task)) → listed k l ≤ 1 → live_object l k ≡ Some t → first_at g (change k f l) h ≡ first_at g l h
  first-kept h k f t keeps stays l one found = grind (arith, nat_tests, first-set h k f t keeps l, first-found k t l)

  -- where no task is listed under a handle, nothing is read
  pub first-none : (k : ℕ) (l : List (Listed Task)) → listed k l ≡ 0 → first_at g l k ≡ None
  unfolding first_at listed
  first-none k [] none = refl
  first-none k (r ∷ rs) none = grind (arith, nat_tests, first-none k rs)

  -- a new task shows at its handle alone
  pub first-issued : (h k : ℕ) (t : Task) (l : List (Listed Task)) → listed k l ≡ 0
      → first_at g (issue k t l) h ≡ cond (k == h) (g (entry_of k t)) (first_at g l h)
  unfolding first_at issue listed
  first-issued h k t [] none = refl
  first-issued h k t (r ∷ rs) none = grind (arith, nat_tests, first-issued h k t rs, apart, other_number)

  -- a change of many that isn't seen
  pub first-all : (h : ℕ) (p : Task → Bool) (f : Listed Task → Listed Task) → ((r : Listed Task) → (f r).handle ≡ r.handle)
      → ((r : Listed Task) → p r.fields ≡ true → g (f r) ≡ g r)
      → (l : List (Listed Task)) → first_at g (change_all p f l) h ≡ first_at g l h
  unfolding first_at change_all
  first-all h p f keeps stays [] = refl
  first-all h p f keeps stays (r ∷ rs) = grind (arith, nat_tests, keeps r, stays r, first-all h p f keeps stays rs)

  -- every task that hasn't begun and passes ends: then this is read of it
  pub first-ends : (p : Unstarted → Bool) (e : TaskEnd) (out : Option X) → ((n : ℕ) (r : Listed Task) → g (ended e n r) ≡ out)
      → (h n : ℕ) (l : List (Listed Task))
      → first_at g (end_each (λ t. is_unstarted t && p (unstarted_of t)) e n l) h ≡ cond (holds p (first_at unstarted_in l h)) out (first_at g l h)
  unfolding first_at end_each
  first-ends p e out gives h n [] = refl
  first-ends p e out gives h n (r ∷ rs) =
      grind (arith, nat_tests, gives n r, unstarted_in, unstarted_of, first-ends p e out gives h n rs, first-ends p e out gives h (n + 1) rs)
