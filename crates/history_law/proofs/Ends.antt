-- The end of a task, by its handle: it stays, and where all have ended it is there.
use Rattle.history_law.proofs.Names.{nat_tests, ◌≡◌, ℕ, ◌≤◌, false, List, [], ◌∷◌, ◌++◌, Some, refl, sym, subst, arith, is_none, TaskEnd, Listed, listed, Task, TaskState, Scheduled, Running, Ended, end_of, State, Grows, NodeEntry, after_from, after_grows, after-append, end_in, end_at, cond_both}
use Rattle.history_law.proofs.Held.{HasEnded, AllEnded}

-- an end stays an end
end_stays : (x y : TaskState) (e : TaskEnd) → ((e : TaskEnd) (n : ℕ) → end_of x ≡ Some (e, n) → end_of y ≡ Some (e, n)) → end_in x ≡ Some e → end_in y ≡ Some e
end_stays Scheduled y e k i = absurd (cc)
end_stays (Running w j) y e k i = absurd (cc)
end_stays (Ended z n) y e k i = grind (arith, nat_tests, k z n refl)

-- in a list that has grown, the end of this handle's task is as it was
pub grows_end : (h : ℕ) (e : TaskEnd) (l m : List (Listed Task)) → Grows l m → end_at l h ≡ Some e → end_at m h ≡ Some e
unfolding end_at
grows_end h e (r ∷ rs) (q ∷ qs) g i = grind (arith, nat_tests, grows_end h e rs qs g.1, end_at, end_in, end_stays)
grows_end h e _ _ g i = grind (arith, nat_tests)

-- and it is listed at least as often
pub grows_listed : (h : ℕ) (l m : List (Listed Task)) → Grows l m → listed h l ≤ listed h m
unfolding listed
grows_listed h (r ∷ rs) (q ∷ qs) g = grind (arith, nat_tests, grows_listed h rs qs g.1, g.0.handle)
grows_listed h _ _ g = grind (arith, nat_tests)

ended_end : (t : Task) → HasEnded t → (e : TaskEnd) × (end_in t.state ≡ Some e)
ended_end t h = by_state t.state h
  where
    by_state : (x : TaskState) → is_none (end_of x) ≡ false → (e : TaskEnd) × (end_in x ≡ Some e)
    by_state Scheduled k = absurd (cc)
    by_state (Running w j) k = absurd (cc)
    by_state (Ended e n) k = (e, refl)

-- where every task has ended, a task that is listed has an end
pub all_end : (h : ℕ) (l : List (Listed Task)) → AllEnded l → 1 ≤ listed h l → (e : TaskEnd) × (end_at l h ≡ Some e)
unfolding end_at listed
all_end h [] a i = absurd (omega arith)
all_end h (r ∷ rs) a i = grind (arith, nat_tests, all_end h rs a.1, cond_both, end_in, end_at, ended_end)

-- between two prefixes of a list the tasks have grown
pub fronts_grow : (s : State) (P M : List NodeEntry) → Grows (after_from s P).tasks (after_from s (P ++ M)).tasks
fronts_grow s P M = subst (λ (t : State). Grows (after_from s P).tasks t.tasks) (sym (after-append s P M)) (after_grows (after_from s P) M)

pub end_later : (s : State) (P M : List NodeEntry) (h : ℕ) (e : TaskEnd) → end_at (after_from s P).tasks h ≡ Some e
    → end_at (after_from s (P ++ M)).tasks h ≡ Some e
end_later s P M h e i = grows_end h e (after_from s P).tasks (after_from s (P ++ M)).tasks (fronts_grow s P M) i
