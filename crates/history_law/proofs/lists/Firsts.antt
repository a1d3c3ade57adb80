-- What is known of the first live object that passes, and of two live ones where at most one passes.
use Rattle.history_law.proofs.Names.{nat_tests, ◌≡◌, ℕ, ◌≤◌, Bool, true, false, List, [], ◌∷◌, Some, arith, ◌==◌, is_some, Listed, live_of, live_object, listed, count_listed, some_same}
use Rattle.handle_pool.specs.Issued.{first_handle}
use Rattle.history_law.proofs.lists.Handles.{OnceIn, once_rest}
use Rattle.history_law.proofs.Ages.{live_listed}
use Rattle.history_law.proofs.lists.Found.{at_here, at_head, at_past}

module _ {T : Type 0} where
  -- a head that has the handle has it alone
  pub head_alone : (r : Listed T) (rs : List (Listed T)) (h : ℕ) → OnceIn (r ∷ rs) → is_some (live_object rs h) ≡ true → (r.handle == h) ≡ false
  unfolding listed
  head_alone r rs h o e = grind (arith, nat_tests, live_listed)

  first_there : (p : T → Bool) (l : List (Listed T)) (h : ℕ) → first_handle p (live_of l) ≡ Some h → is_some (live_object l h) ≡ true
  unfolding live_of
  first_there p [] h f = absurd (cc)
  first_there p (r ∷ rs) h f = grind (arith, nat_tests, first_there p rs h)

  -- the first live object that passes is the one of its handle
  pub first_at : (p : T → Bool) (l : List (Listed T)) (h : ℕ) (x : T) → OnceIn l → first_handle p (live_of l) ≡ Some h → live_object l h ≡ Some x → p x ≡ true
  unfolding live_of
  first_at p [] h x o f e = absurd (cc)
  first_at p (r ∷ rs) h x o f e = grind (arith, nat_tests, first_at p rs h x (once_rest r rs o), first_there p rs h, head_alone r rs h o, some_same)

  -- a live object that passes is counted
  pub found_count : (p : T → Bool) (l : List (Listed T)) (h : ℕ) (x : T) → live_object l h ≡ Some x → p x ≡ true → 1 ≤ count_listed p l
  unfolding live_of
  found_count p [] h x e i = absurd (cc)
  found_count p (r ∷ rs) h x e i = grind (arith, nat_tests, found_count p rs h x, at_head, some_same, at_here, at_past)

  -- where at most one passes, two that do are one
  pub one_passes : (p : T → Bool) (l : List (Listed T)) (h k : ℕ) (x y : T) → count_listed p l ≤ 1 → live_object l h ≡ Some x → live_object l k ≡ Some y
      → p x ≡ true → p y ≡ true → x ≡ y
  unfolding live_of
  one_passes p [] h k x y c e f i j = absurd (cc)
  one_passes p (r ∷ rs) h k x y c e f i j = grind (arith, nat_tests, one_passes p rs h k x y, found_count p rs h x, found_count p rs k y, some_same)
