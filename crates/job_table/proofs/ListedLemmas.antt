-- The lists of actions by their jobs, and what each move keeps of them.
use Rattle.job_table.proofs.Names.{◌≡◌, ◌≢◌, ◌≤◌, ◌<◌, ℕ, zero, suc, Bool, true, false, List, [], ◌∷◌, ◌++◌, length, length-set, replicate, Option, Some, None, slice_get, refl, sym, ap, subst, ◌∙◌, inl, inr, arith, ◌==◌, ◌||◌, IsSome, false≢true, cases_eq, cases_Bool, nat_tests, Slot, Slots, slot_of, generation_of, free_slot, used_slot, slot_after, value_at, slot_value, max_of, Inserts, without, changed, put, with_value, HandleLists, list_at, has_handle, without_handle, stands_at, NowhereAt, with_list, index-has, Action, with_enabled, AreListed, list_of_job, eq-eqb, none-some, or_right, same_Some}
use Rattle.std.specs.Option.{option_map}
use Rattle.std.proofs.lemmas.List.{length-replicate}
use Rattle.handle_pool.proofs.StandsLemmas.{get-fresh, value_at-none}
use Rattle.handle_pool.proofs.GetLemmas.{get-insert_same, get-insert_other, get-without_same, get-without_other, get-with_value_same, get-with_value_other}
use Rattle.handle_pool.proofs.WalkLemmas.{slot_of-live}
use Rattle.linked_places.proofs.HandleLemmas.{list_at-set_same, list_at-set_other, stands-has}
use Rattle.linked_places.proofs.BesideLemmas.{list_at-none}

-- Handles in lists

has-append : (h : ℕ) (xs ys : List ℕ) → has_handle h (xs ++ ys) ≡ (has_handle h xs || has_handle h ys)
has-append h [] ys = refl
has-append h (x ∷ xs) ys = grind (arith, nat_tests, has-append h xs ys)

or-left : (a b : Bool) → a ≡ true → (a || b) ≡ true
or-left a b e = grind (arith, nat_tests)

or-first : (a b : Bool) → b ≡ false → (a || b) ≡ true → a ≡ true
or-first a b e f = grind (arith, nat_tests)

eq-other : (h k : ℕ) → k ≢ h → (h == k) ≡ false
eq-other h k d = grind (arith, nat_tests)

has-without : (h k : ℕ) (hs : List ℕ) → k ≢ h → has_handle k (without_handle h hs) ≡ has_handle k hs
has-without h k [] d = refl
has-without h k (x ∷ xs) d = grind (arith, nat_tests, has-without h k xs d)

stands-handle : (place : ℕ) (hs : List ℕ) → stands_at place hs ≡ true → (k : ℕ) × (has_handle k hs ≡ true) × (slot_of k ≡ place)
stands-handle place [] e = absurd (false≢true e)
stands-handle place (x ∷ hs) e = grind (arith, nat_tests, stands-handle place hs)

-- Moves

pub listed-new : (p : Slots Action) (jobs : HandleLists) (max : ℕ) → 1 ≤ max → max ≤ 65536 → p.slots ≡ replicate max (free_slot 1) → jobs.places ≡ max
    → jobs.lists ≡ replicate max [] → AreListed p jobs
listed-new p jobs max some few slots places lists = record {
  some = subst (λ (n : ℕ). 1 ≤ n) (sym all) some;
  few = subst (λ (n : ℕ). n ≤ 65536) (sym all) few;
  places = places ∙ sym all;
  lists = ap length lists ∙ length-replicate max [] ∙ sym all;
  listed = λ h a e. absurd (none-some _ (sym (free h) ∙ e));
  live = λ n h e. absurd (false≢true (sym (ap (λ (l : List (List ℕ)). has_handle h (list_at l n)) lists ∙ ap (has_handle h) (list_at-none max n)) ∙ e));
}
  where
    all : max_of p ≡ max
    all = ap length slots ∙ length-replicate max (free_slot 1)

    free : (h : ℕ) → slot_value p h ≡ None
    free h = ap (λ (l : List (Slot Action)). value_at (slice_get l (slot_of h)) (generation_of h)) slots ∙ get-fresh max (slot_of h) (generation_of h)

-- the list of a job is one of them
pub list-below : (p : Slots Action) (jobs : HandleLists) (job : ℕ) → AreListed p jobs → list_of_job (max_of p) job < length jobs.lists
list-below p jobs job l = grind (arith, nat_tests)

pub nowhere : (p q : Slots Action) (jobs : HandleLists) (h : ℕ) (a : Action) → AreListed p jobs → Inserts p q h a → NowhereAt (slot_of h) jobs.lists
nowhere p q jobs h a l i number = elim (cases_Bool (stands_at (slot_of h) (list_at jobs.lists number))) [
  | inl on ↦
      let w = stands-handle (slot_of h) (list_at jobs.lists number) on in
      let b = l.live number w.0 w.1 in
      let free : slot_value p w.0 ≡ None = ap (λ (place : ℕ). value_at (slice_get p.slots place) (generation_of w.0)) w.2
      ∙ (ap (λ (o : Option (Slot Action)). value_at o (generation_of w.0)) i.was_free
      ∙ value_at-none (free_slot (generation_of h)) (generation_of w.0) refl) in
      absurd (none-some _ (sym free ∙ b.1))
  | inr off ↦ off
]

max-insert : (p q : Slots Action) (h : ℕ) (a : Action) → Inserts p q h a → max_of q ≡ max_of p
max-insert p q h a i = ap max_of i.now ∙ length-set p.slots (slot_of h) (used_slot (generation_of h) a)

pub new-slot : (p q : Slots Action) (h : ℕ) (a : Action) → Inserts p q h a → slot_of h < max_of p
new-slot p q h a i = subst (λ (n : ℕ). slot_of h < n) (max-insert p q h a i) (slot_of-live q h a (get-insert_same p q h a i))

module _ (p q : Slots Action) (old jobs : HandleLists) (h n : ℕ) (a : Action) (l : AreListed p old) (below : n < length old.lists) where
  same_list : (list : List ℕ) → jobs ≡ with_list old n list → list_at jobs.lists n ≡ list
  same_list list is = ap (λ (x : HandleLists). list_at x.lists n) is ∙ list_at-set_same old.lists n list below

  other_list : (list : List ℕ) (m : ℕ) → jobs ≡ with_list old n list → m ≢ n → list_at jobs.lists m ≡ list_at old.lists m
  other_list list m is d = ap (λ (x : HandleLists). list_at x.lists m) is ∙ list_at-set_other old.lists n m list d

  pub listed-insert : Inserts p q h a → n ≡ list_of_job (max_of p) a.job → jobs ≡ with_list old n (list_at old.lists n ++ h ∷ []) → AreListed q jobs
  listed-insert i at is = record {
    some = subst (λ (k : ℕ). 1 ≤ k) (sym max) l.some;
    few = subst (λ (k : ℕ). k ≤ 65536) (sym max) l.few;
    places = ap (λ (x : HandleLists). x.places) is ∙ l.places ∙ sym max;
    lists = ap (λ (x : HandleLists). length x.lists) is ∙ length-set old.lists n _ ∙ l.lists ∙ sym max;
    listed = λ k b e. subst (λ (m : ℕ). has_handle k (list_at jobs.lists (list_of_job m b.job)) ≡ true) (sym max) (listed k b e);
    live = λ m k e. grind (arith, nat_tests, get-insert_same p q h a i, l.live m k, was m k, get-insert_other p q h k a i);
  }
    where
      max : max_of q ≡ max_of p
      max = max-insert p q h a i

      in_list : (k : ℕ) → has_handle k (list_at jobs.lists n) ≡ (has_handle k (list_at old.lists n) || has_handle k (h ∷ []))
      in_list k = ap (has_handle k) (same_list _ is) ∙ has-append k (list_at old.lists n) (h ∷ [])

      keeps : (m k : ℕ) → has_handle k (list_at old.lists m) ≡ true → has_handle k (list_at jobs.lists m) ≡ true
      keeps m k e = grind (arith, nat_tests, in_list k, other_list _ m is)

      was : (m k : ℕ) → k ≢ h → has_handle k (list_at jobs.lists m) ≡ true → has_handle k (list_at old.lists m) ≡ true
      was m k d e = grind (arith, nat_tests, in_list k, other_list _ m is)

      listed : (k : ℕ) (b : Action) → slot_value q k ≡ Some b → has_handle k (list_at jobs.lists (list_of_job (max_of p) b.job)) ≡ true
      listed k b e = elim (cases_eq k h) [
        | inl here ↦
            let same : a ≡ b = same_Some _ _ (sym (get-insert_same p q h a i) ∙ ap (slot_value q) (sym here) ∙ e) in
            ap (λ (m : ℕ). has_handle k (list_at jobs.lists m)) (ap (λ (x : Action). list_of_job (max_of p) x.job) (sym same) ∙ sym at)
            ∙ in_list k ∙ or_right (has_handle k (list_at old.lists n)) _ (or-left (h == k) false (ap (λ (z : ℕ). h == z) here ∙ eq-eqb h h refl))
        | inr away ↦ keeps _ k (l.listed k b (sym (get-insert_other p q h k a i away) ∙ e))
      ]

  pub listed-without : slot_value p h ≡ Some a → n ≡ list_of_job (max_of p) a.job → q ≡ without p h
      → jobs ≡ with_list old n (without_handle h (list_at old.lists n)) → NowhereAt (slot_of h) jobs.lists → AreListed q jobs
  listed-without g at pool is gone = subst (λ (z : Slots Action). AreListed z jobs) (sym pool) (record {
    some = subst (λ (k : ℕ). 1 ≤ k) (sym max) l.some;
    few = subst (λ (k : ℕ). k ≤ 65536) (sym max) l.few;
    places = ap (λ (x : HandleLists). x.places) is ∙ l.places ∙ sym max;
    lists = ap (λ (x : HandleLists). length x.lists) is ∙ length-set old.lists n _ ∙ l.lists ∙ sym max;
    listed = λ k b e. grind (arith, nat_tests, get-without_same p h a g, max, same k, l.listed k b, get-without_other p h k a g);
    live = λ m k e. elim (cases_eq k h) [
      | inl here ↦ absurd (false≢true (sym (gone m) ∙ stands-has h (list_at jobs.lists m) (ap (λ (z : ℕ). has_handle z (list_at jobs.lists m)) (sym here) ∙ e)))
      | inr away ↦ let b = l.live m k (sym (same k m away) ∙ e) in (b.0, get-without_other p h k a g away ∙ b.1)
    ];
  })
    where
      max : max_of (without p h) ≡ max_of p
      max = length-set p.slots (slot_of h) (slot_after p.generations (generation_of h))

      same : (k m : ℕ) → k ≢ h → has_handle k (list_at jobs.lists m) ≡ has_handle k (list_at old.lists m)
      same k m d = grind (arith, nat_tests, same_list _ is, other_list _ m is, has-without h k (list_at old.lists n) d)

pub listed-changed : (p : Slots Action) (jobs : HandleLists) (h : ℕ) (on : Bool) → AreListed p jobs → AreListed (changed p h (with_enabled on)) jobs
listed-changed p jobs h on l = by_found (slot_value p h) refl
  where
    by_found : (o : Option Action) → slot_value p h ≡ o → AreListed (put p h (option_map (with_enabled on) o)) jobs
    by_found None g = l
    by_found (Some a) g = record {
      some = subst (λ (k : ℕ). 1 ≤ k) (sym max) l.some;
      few = subst (λ (k : ℕ). k ≤ 65536) (sym max) l.few;
      places = l.places ∙ sym max;
      lists = l.lists ∙ sym max;
      listed = λ k b e. subst (λ (m : ℕ). has_handle k (list_at jobs.lists (list_of_job m b.job)) ≡ true) (sym max) (elim (cases_eq k h) [
        | inl here ↦
            let same : with_enabled on a ≡ b = same_Some _ _ (sym (get-with_value_same p h a (with_enabled on a) g)
            ∙ ap (slot_value (with_value p h (with_enabled on a))) (sym here) ∙ e) in
            ap (λ (x : Action). has_handle k (list_at jobs.lists (list_of_job (max_of p) x.job))) (sym same) ∙ l.listed k a (ap (slot_value p) here ∙ g)
        | inr away ↦ l.listed k b (sym (get-with_value_other p h k a (with_enabled on a) g away) ∙ e)
      ]);
      live = λ n k e. elim (cases_eq k h) [
        | inl here ↦ (with_enabled on a, ap (slot_value (with_value p h (with_enabled on a))) here ∙ get-with_value_same p h a (with_enabled on a) g)
        | inr away ↦ let b = l.live n k e in (b.0, get-with_value_other p h k a (with_enabled on a) g away ∙ b.1)
      ];
    }
      where
        max : max_of (with_value p h (with_enabled on a)) ≡ max_of p
        max = length-set p.slots (slot_of h) (used_slot (generation_of h) (with_enabled on a))

-- the list has something at each index below its length
pub past-none : (hs : List ℕ) (i : ℕ) → i < length hs → slice_get hs i ≡ None → ⊥
past-none [] i less none = omega arith
past-none (x ∷ hs) zero less none = absurd (none-some _ (sym none))
past-none (x ∷ hs) (suc i) less none = past-none hs i (omega arith) none

pub live-at : (p : Slots Action) (jobs : HandleLists) (n i h : ℕ) → AreListed p jobs → slice_get (list_at jobs.lists n) i ≡ Some h
    → (a : Action) × (slot_value p h ≡ Some a)
live-at p jobs n i h l e = l.live n h (index-has h i (list_at jobs.lists n) e)

pub some-is : (o : Option Action) → ((a : Action) × (o ≡ Some a)) → IsSome o
some-is None e = absurd (none-some _ e.1)
some-is (Some a) e = refl
