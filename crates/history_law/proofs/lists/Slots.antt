-- A list in which one element is set has the others as before.
use Rattle.history_law.proofs.Names.{arith, nat_tests, ◌≡◌, ℕ, false, List, sym, ◌==◌, slice_index_or, slice_set, eq-eqb, get_or-set_other, cond, eqb-true, get_or-set_same, length, ◌<◌, zero, suc, replicate, refl}
use Rattle.history_law.proofs.Answered.{true_false, on_test}

pub set_apart : {A : Type 0} (l : List A) (i w : ℕ) (v d : A) → (i == w) ≡ false → slice_index_or (slice_set l i v) w d ≡ slice_index_or l w d
set_apart l i w v d e = get_or-set_other l i w v d (λ k. true_false (eq-eqb i w (sym k)) e)

-- what stands at any place then
pub set_read : {A : Type 0} (l : List A) (i w : ℕ) (v d : A) → i < length l → slice_index_or (slice_set l i v) w d ≡ cond (i == w) v (slice_index_or l w d)
set_read l i w v d k = grind (arith, nat_tests, on_test, slice_index_or, eqb-true, get_or-set_same, set_apart)

-- a list of equal elements has that one at each place, and none beyond
pub read_replicate : {A : Type 0} (n w : ℕ) (d : A) → slice_index_or (replicate n d) w d ≡ d
read_replicate zero w d = refl
read_replicate (suc n) zero d = refl
read_replicate (suc n) (suc w) d = read_replicate n w d
