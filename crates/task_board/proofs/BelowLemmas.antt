-- Some number below a bound passes.
use Rattle.task_board.proofs.Names.{◌≡◌, ℕ, zero, suc, ◌<◌, Bool, true, false, cond, ◌∙◌, arith, nat_tests, some_below}

pub below_at : (n w : ℕ) (p : ℕ → Bool) → w < n → p w ≡ true → some_below n p ≡ true
below_at zero w p l e = absurd (omega arith)
below_at (suc n) w p l e = grind (arith, nat_tests, below_at n w p)

pub below_next : (n : ℕ) (p : ℕ → Bool) → some_below n p ≡ false → p n ≡ false → some_below (suc n) p ≡ false
below_next n p e d = (λ i. cond (d i) true (some_below n p)) ∙ e
