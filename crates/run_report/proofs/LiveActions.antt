-- Live actions by their places, and the workers that can take a task.
use Rattle.run_report.proofs.Names.{◌≡◌, ℕ, zero, suc, ◌+◌, ◌<◌, ◌≤◌, Bool, true, false, cond, List, [], ◌∷◌, ◌++◌, length, get_or, set, drop, length-drop, Option, Some, None, refl, sym, ◌∙◌, ap, arith, ◌==◌, ◌&&◌, nat_lt, option_map, list_any, remove, nat_tests, drop_more, nil_from_length, in_mask, any_live, Action, has_enabled_job, is_eligible, some_below, has_worker, machine_action, live_pairs, with_action, without_action, can_run, place_of_action}
use Rattle.run_report.specs.declared.changes.LiveAction.{LiveAction}

-- Workers

below_or : (n : ℕ) (f g : ℕ → Bool) → some_below n (λ w. cond (f w) true (g w)) ≡ cond (some_below n f) true (some_below n g)
below_or zero f g = refl
below_or (suc n) f g = grind (arith, nat_tests, below_or n f g)

below_none : (n : ℕ) → some_below n (λ w. false) ≡ false
below_none zero = refl
below_none (suc n) = below_none n

below_and : (n : ℕ) (e : Bool) (q : ℕ → Bool) → some_below n (λ w. e && q w) ≡ (e && some_below n q)
below_and n true q = refl
below_and n false q = below_none n

below_same : (n : ℕ) (p q : ℕ → Bool) → ((w : ℕ) → w < n → p w ≡ q w) → some_below n p ≡ some_below n q
below_same zero p q k = refl
below_same (suc n) p q k = λ i. cond (k n (omega arith) i) true (below_same n p q (λ w l. k w (omega arith)) i)

regrouped : (e b x y : Bool) → b ≡ true → (e && b && x && y) ≡ (e && (x && y))
regrouped e b x y e1 = grind (arith, nat_tests)

by_one : (n job cores : ℕ) (a : Action) → some_below n (λ w. is_eligible n w job cores a) ≡ can_run n job cores a
by_one n job cores a =
    below_same n _ (λ w. has_enabled_job job a
    && (in_mask w a.cores && in_mask w cores))
    (λ w l. regrouped (has_enabled_job job a) (nat_lt w n) (in_mask w a.cores) (in_mask w cores) (grind (arith, nat_tests, l)))
    ∙ below_and n (has_enabled_job job a) (λ w. in_mask w a.cores && in_mask w cores)

by_all : (n job cores : ℕ) (xs : List LiveAction)
    → some_below n (λ w. any_live (is_eligible n w job cores) (live_pairs xs)) ≡ list_any (λ a. can_run n job cores (machine_action a)) xs
by_all n job cores [] = below_none n
by_all n job cores (x ∷ xs) =
    below_or n (λ w. is_eligible n w job cores (machine_action x)) (λ w. any_live (is_eligible n w job cores) (live_pairs xs))
    ∙ (λ i. cond (by_one n job cores (machine_action x) i) true (by_all n job cores xs i)) ∙ grind (arith, nat_tests)

-- some worker can take a task exactly where some action can be run for it
pub worker_by_actions : (n job cores : ℕ) (xs : List LiveAction)
    → has_worker n job cores (live_pairs xs) ≡ list_any (λ a. can_run n job cores (machine_action a)) xs
unfolding has_worker
worker_by_actions n job cores xs = by_all n job cores xs

pub below_at : (n w : ℕ) (p : ℕ → Bool) → w < n → p w ≡ true → some_below n p ≡ true
below_at zero w p l e = absurd (omega arith)
below_at (suc n) w p l e = grind (arith, nat_tests, below_at n w p)

pub below_next : (n : ℕ) (p : ℕ → Bool) → some_below n p ≡ false → p n ≡ false → some_below (suc n) p ≡ false
below_next n p e d = (λ i. cond (d i) true (some_below n p)) ∙ e

-- Places

-- a place so many further on
abbrev pub further : ℕ → Option ℕ → Option ℕ
further n None = None
further n (Some k) = Some (n + k)

further_zero : (o : Option ℕ) → further 0 o ≡ o
further_zero o = grind (arith, nat_tests)

further_suc : (n : ℕ) (o : Option ℕ) → further n (option_map suc o) ≡ further (n + 1) o
further_suc n o = grind (arith, nat_tests)

pub place_first : (h : ℕ) (xs : List LiveAction) → further 0 (place_of_action h (drop 0 xs)) ≡ place_of_action h xs
place_first h xs = further_zero (place_of_action h xs)

left_at : (i : ℕ) (xs : List LiveAction) (d : LiveAction) → i < length xs → drop i xs ≡ get_or xs i d ∷ drop (i + 1) xs
left_at i xs d l = drop_more xs i d l

same_test : (a b : ℕ) → a ≡ b → (a == b) ≡ true
same_test a b e = grind (arith, nat_tests)

other_test : (a b : ℕ) → (a ≡ b → ⊥) → (a == b) ≡ false
other_test a b e1 = grind (arith, nat_tests)

pub place_here : (h i : ℕ) (xs : List LiveAction) (d : LiveAction) (whole : Option ℕ) → i < length xs → (get_or xs i d).handle ≡ h
    → further i (place_of_action h (drop i xs)) ≡ whole → whole ≡ Some i
place_here h i xs d whole e1 e2 e3 = grind (arith, nat_tests, place_of_action, left_at, same_test, option_map)

pub place_later : (h i : ℕ) (xs : List LiveAction) (d : LiveAction) (whole : Option ℕ) → i < length xs → ((get_or xs i d).handle ≡ h → ⊥)
    → further i (place_of_action h (drop i xs)) ≡ whole → further (i + 1) (place_of_action h (drop (i + 1) xs)) ≡ whole
place_later h i xs d whole e1 e2 e3 = grind (arith, nat_tests, further_suc, place_of_action, other_test, option_map, left_at)

pub place_nowhere : (h i : ℕ) (xs : List LiveAction) (whole : Option ℕ) → length xs ≤ i → further i (place_of_action h (drop i xs)) ≡ whole → whole ≡ None
place_nowhere h i xs whole past so = sym so ∙ ap (λ ys. further i (place_of_action h ys)) (nil_from_length (drop i xs) (omega (arith, length-drop i xs)))

pub ruleset place_found = (place_first, place_here, place_later, place_nowhere)

none_zero : (o : Option ℕ) → option_map suc o ≡ Some 0 → ⊥
none_zero o e1 = grind (arith, nat_tests)

before : (o : Option ℕ) (k : ℕ) → option_map suc o ≡ Some (suc k) → o ≡ Some k
before o k e1 = grind (arith, nat_tests)

pub place_below : (h : ℕ) (xs : List LiveAction) (i : ℕ) → place_of_action h xs ≡ Some i → i < length xs
place_below h [] i at = absurd (cc)
place_below h (x ∷ xs) zero at = omega arith
place_below h (x ∷ xs) (suc i) at = grind (arith, nat_tests, place_below h xs i, before (place_of_action h xs) i)

-- what changes at the place of a handle changes at the handle
module _ (h : ℕ) where
  pub place_set : (f : Action → Action) (xs : List LiveAction) (i : ℕ) (y d : LiveAction) → place_of_action h xs ≡ Some i → y.handle ≡ (get_or xs i d).handle
      → machine_action y ≡ f (machine_action (get_or xs i d))
      → live_pairs (set xs i y) ≡ with_action h f (live_pairs xs)
  place_set f [] i y d at same acts = absurd (cc)
  place_set f (x ∷ xs) zero y d at same acts = grind (arith, nat_tests, none_zero (place_of_action h xs))
  place_set f (x ∷ xs) (suc i) y d at same acts = grind (arith, nat_tests, place_set f xs i y d, before (place_of_action h xs) i)

  pub place_out : (xs : List LiveAction) (i : ℕ) → place_of_action h xs ≡ Some i → live_pairs (remove xs i) ≡ without_action h (live_pairs xs)
  place_out [] i at = absurd (cc)
  place_out (x ∷ xs) zero at = grind (arith, nat_tests, none_zero (place_of_action h xs))
  place_out (x ∷ xs) (suc i) at = grind (arith, nat_tests, place_out xs i, before (place_of_action h xs) i)

  none_later : (o : Option ℕ) → option_map suc o ≡ None → o ≡ None
  none_later o e1 = grind (arith, nat_tests)

  pub place_none_set : (f : Action → Action) (xs : List LiveAction) → place_of_action h xs ≡ None → live_pairs xs ≡ with_action h f (live_pairs xs)
  place_none_set f [] at = refl
  place_none_set f (x ∷ xs) at = grind (arith, nat_tests, place_none_set f xs, none_later (place_of_action h xs))

  pub place_none_out : (xs : List LiveAction) → place_of_action h xs ≡ None → live_pairs xs ≡ without_action h (live_pairs xs)
  place_none_out [] at = refl
  place_none_out (x ∷ xs) at = grind (arith, nat_tests, place_none_out xs, none_later (place_of_action h xs))

-- a new action stands behind the others
pub pairs_more : (xs : List LiveAction) (x : LiveAction) → live_pairs (xs ++ x ∷ []) ≡ live_pairs xs ++ live_pairs (x ∷ [])
pairs_more [] x = refl
pairs_more (y ∷ xs) x = ap (λ l. (y.handle, machine_action y) ∷ l) (pairs_more xs x)
