-- Whether a task hasn't ended, by their number.
use Rattle.node_steps.proofs.Names.{◌≡◌, ℕ, ◌+◌, Bool, true, false, not, cond, List, [], ◌∷◌, refl, sym, ◌∙◌, arith, ◌&&◌, ◌==◌, nat_tests, Listed, live_of, any_listed, any_live, count_listed, count-slots, is_unended, unended_count, is_past_open, is_stop, PoolNode, Lists, Live, state_of}

-- some object passes exactly where they are more than none
any-count : {T : Type 0} (q : T → Bool) (l : List (Listed T)) → any_listed q l ≡ not (count_listed q l == 0)
unfolding live_of
any-count q [] = refl
any-count q (r ∷ rs) = grind (arith, nat_tests, any-count q rs)

pub stop_told : (n : PoolNode) (l : Lists) (k : ℕ) → Live n l → k ≡ unended_count n.scheduler.tasks.pool
    → is_stop (state_of n l) ≡ (is_past_open n.core.phase && (k == 0))
stop_told n l k e1 e2 = grind (arith, nat_tests, any-count, is_unended, count-slots, is_past_open)
