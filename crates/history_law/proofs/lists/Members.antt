-- The members of a group that have ended, as the machine finds them.
use Rattle.history_law.proofs.Names.{◌≡◌, ℕ, ◌+◌, ◌≤◌, Bool, true, false, cond, List, [], ◌∷◌, Option, Some, None, refl, arith, ◌==◌, nat_lt, eq-eqb, cond_both, TaskEnd, Listed, live_of, live_object, listed, Task, end_of, is_member, Ending, insert, insert_ended, endings, some_same, nat_tests}
use Rattle.history_law.proofs.lists.Every.{Each, each_map}
use Rattle.history_law.proofs.lists.Found.{at_skip, at_here}
use Rattle.history_law.proofs.lists.Handles.{once_rest}

pub all_insert : (P : Ending → Type 0) (e : Ending) (es : List Ending) → P e → Each P es → Each P (insert e es)
all_insert P e [] p a = (p, tt)
all_insert P e (f ∷ fs) p a = cond_both (nat_lt e.number f.number) (e ∷ f ∷ fs) (f ∷ insert e fs) (Each P) (λ i. (p, a)) (λ i. (a.0, all_insert P e fs p a.1))

-- the task was issued, and where it is live it is a member that ended so
pub record IsEnding (g : ℕ) (l : List (Listed Task)) (e : Ending) : Type 0 where
  pub some : 1 ≤ listed e.task l
  pub member : (x : Task) → live_object l e.task ≡ Some x → is_member g x ≡ true
  pub ended : (x : Task) → live_object l e.task ≡ Some x → end_of x.state ≡ Some (e.end, e.number)

-- where no handle is listed twice, each of the endings of a group is so
pub all_endings : (g : ℕ) (l : List (Listed Task)) → ((h : ℕ) → listed h l ≤ 1) → Each (IsEnding g l) (endings g (live_of l))
unfolding endings live_of listed
all_endings g [] o = tt
all_endings g (r ∷ rs) o = cond_both r.live ((r.handle, r.fields) ∷ live_of rs) (live_of rs) (λ q. Each (IsEnding g (r ∷ rs)) (endings g q))
    (λ a. by_member a (is_member g r.fields) refl
    (each_map (IsEnding g rs) (IsEnding g (r ∷ rs)) (endings g (live_of rs)) later (all_endings g rs (once_rest r rs o))))
    (λ a. (each_map (IsEnding g rs) (IsEnding g (r ∷ rs)) (endings g (live_of rs)) later (all_endings g rs (once_rest r rs o))))
  where
    later : (e : Ending) → IsEnding g rs e → IsEnding g (r ∷ rs) e
    later e i = by_handle (r.handle == e.task) refl (o e.task)
      where
        by_handle : (b : Bool) → (r.handle == e.task) ≡ b → cond b 1 0 + listed e.task rs ≤ 1 → IsEnding g (r ∷ rs) e
        by_handle true c k = let s : 1 ≤ listed e.task rs = i.some in absurd (omega arith)
        by_handle false c k = grind (arith, nat_tests, at_skip)

    here : r.live ≡ true → is_member g r.fields ≡ true → (x : Option (TaskEnd × ℕ)) → end_of r.fields.state ≡ x
        → Each (IsEnding g (r ∷ rs)) (endings g (live_of rs)) → Each (IsEnding g (r ∷ rs)) (insert_ended r.handle x (endings g (live_of rs)))
    here a m None e k = k
    here a m (Some y) e k = grind (arith, nat_tests, eq-eqb, live_object, at_here, all_insert, live_of, is_member, some_same, end_of)

    by_member : r.live ≡ true → (b : Bool) → is_member g r.fields ≡ b → Each (IsEnding g (r ∷ rs)) (endings g (live_of rs))
        → Each (IsEnding g (r ∷ rs)) (cond b (insert_ended r.handle (end_of r.fields.state) (endings g (live_of rs))) (endings g (live_of rs)))
    by_member a true m k = here a m (end_of r.fields.state) refl k
    by_member a false m k = k
