-- Marks that are right, and what they tell.
use Rattle.task_board.proofs.Names.{◌≡◌, ℕ, zero, suc, Bool, true, bit_and, List, [], ◌∷◌, Option, Some, set, slice_get, refl, sym, ◌∙◌, ap, inl, inr, arith, ◌==◌, cases_Bool, nat_tests, bit_at_and, bit_at-lt, holds, in_mask, Slots, slot_value, used_at, SomeLive, Mark, is_for, is_for_at, HasNoneFor, IsFirst, Action, Passes, runs_job_on, Covers, Chooses, Cores, Task, is_unstarted, HeldQueue, Takeable, NoneTakeable, NoneBetter, IsBest, seen, seen_in, begins_in, IsMarkOf, Marked, and_from, and_parts}
use Rattle.mtapi_values.specs.declared.masks.Mask.{Mask}
use Rattle.task_board.specs.declared.scheduler.Choice.{Choice}
use Rattle.task_board.proofs.SeenLemmas.{seen-as, unstarted-seen, takes-to}

in_mask-both : (w a b : ℕ) → in_mask w a ≡ true → in_mask w b ≡ true → in_mask w (bit_and a b) ≡ true
in_mask-both w a b x y = grind (arith, nat_tests, bit_at_and a b w, bit_at-lt a w, bit_at-lt b w)

in_mask-left : (w a b : ℕ) → in_mask w (bit_and a b) ≡ true → in_mask w a ≡ true
in_mask-left w a b x = grind (arith, nat_tests, bit_at_and a b w, bit_at-lt a w, bit_at-lt b w)

in_mask-right : (w a b : ℕ) → in_mask w (bit_and a b) ≡ true → in_mask w b ≡ true
in_mask-right w a b x = grind (arith, nat_tests, bit_at_and a b w, bit_at-lt a w, bit_at-lt b w)

pub same-number : (a b : ℕ) → (a == b) ≡ true → a ≡ b
same-number a b e = grind (arith, nat_tests)

-- what names this number
pub named-is : (g : ℕ) (o : Option ℕ) → holds (λ h. h == g) o ≡ true → o ≡ Some g
named-is g o e1 = grind (arith, nat_tests)

pub number-same : (a b : ℕ) → a ≡ b → (a == b) ≡ true
number-same a b e = grind (arith, nat_tests)

-- the mark of a task that is scheduled and may begin: its priority, and the cores in its mask that its job's actions cover
pub mark-right : (actions : Slots Action) (lets : Option ℕ → Bool) (t : Task) (mask : Mask) (m : Mark) → is_unstarted t ≡ true → lets t.queue ≡ true
    → Covers actions t.job (Cores mask) → m.priority ≡ t.priority → m.mask.0 ≡ bit_and mask.0 t.cores → IsMarkOf actions lets (seen (Some t)) (Some m)
mark-right actions lets t mask m u q c priority cores = record {
  sound = λ w p e.
      let s = unstarted-seen t t.state u in
      let a = seen-as t t.state s.0 s.1 in
      let in_m = ap (in_mask w) (sym cores) ∙ (and_parts (in_mask w m.mask.0) (p == m.priority) e).0 in
      let at = same-number p m.priority (and_parts (in_mask w m.mask.0) (p == m.priority) e).1 in
      let run = c.1.covered w (in_mask-left w mask.0 t.cores in_m) in (
        s.0,
        s.1,
        a.priority ∙ sym priority ∙ sym at,
        record {
          waits = s.2;
          queue = ap lets a.queue ∙ q;
          core = ap (in_mask w) a.cores ∙ in_mask-right w mask.0 t.cores in_m;
          action = (run.0, run.1, run.2, ap (λ (j : ℕ). runs_job_on j w run.1) a.job ∙ run.3);
        },
      );
  whole = λ w s e k.
      let a = seen-as t t.state s e in
      let core = ap (in_mask w) (sym a.cores) ∙ k.core in
      and_from _ _ (ap (in_mask w) cores ∙ in_mask-both w mask.0 t.cores
      (covers w (k.action.0, k.action.1, k.action.2, ap (λ (j : ℕ). runs_job_on j w k.action.1) (sym a.job) ∙ k.action.3)) core)
      (number-same s.priority m.priority (a.priority ∙ sym priority));
}
  where
    covers : (w : ℕ) → SomeLive (slot_value actions) (Passes (runs_job_on t.job w)) → in_mask w mask.0 ≡ true
    covers w some = elim (cases_Bool (in_mask w mask.0)) [
      | inl on ↦ on
      | inr off ↦ absurd (c.1.uncovered w off some.0 some.1 some.2 some.3)
    ]

-- Reading the first mark

for-some : (w p : ℕ) (o : Option Mark) → is_for_at w p o ≡ true → is_for w o ≡ true
for-some w p o e1 = grind (arith, nat_tests)

module _ (actions : Slots Action) (p : Slots Task) (queues : Slots HeldQueue) (marks : List (Option Mark))
    (m : Marked actions (begins_in queues) (seen_in p) marks) (w : ℕ) where
  pub best-none : HasNoneFor w marks → NoneTakeable actions p queues w
  best-none none h t g k = grind (arith, nat_tests, takes-to actions (begins_in queues h) w t k, for-some w, m.whole w h)

  none-better : (priority place : ℕ) → IsFirst w priority place marks → NoneBetter actions p queues w priority
  none-better priority place f h t g k less = grind (arith, nat_tests, takes-to actions (begins_in queues h) w t k, m.whole w h)

  -- the task at the place of the first mark
  pub record At (priority place : ℕ) : Type 0 where
    pub h : ℕ
    pub t : Task
    pub live : slot_value p h ≡ Some t
    pub used : used_at place (slice_get p.slots place) ≡ Some (h, t)
    pub takes : Takeable actions (begins_in queues h) w t
    pub priority_is : t.priority ≡ priority

  pub first-at : (priority place : ℕ) → IsFirst w priority place marks → At priority place
  first-at priority place e1 = grind (arith, nat_tests)

  -- the choice of this task, by an action that the table of actions chose
  pub found-best : (priority place h : ℕ) (t : Task) (c : Choice) → IsFirst w priority place marks → used_at place (slice_get p.slots place) ≡ Some (h, t)
      → c.task.0 ≡ h → c.priority ≡ t.priority → Chooses actions t.job w (Some (c.action, c.kind)) → IsBest actions p queues w (Some c)
  found-best priority place h t c f used task prio a = grind (arith, nat_tests, first-at priority place f, none-better priority place f)

-- Lists written at a place
pub set-set : {X : Type 0} (xs : List X) (i : ℕ) (a b : X) → set (set xs i a) i b ≡ set xs i b
set-set [] i a b = refl
set-set (x ∷ xs) zero a b = refl
set-set (x ∷ xs) (suc i) a b = ap (λ (ys : List _). x ∷ ys) (set-set xs i a b)
