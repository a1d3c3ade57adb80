-- How many of a list's elements pass, one element more.
use Rattle.journal_check.proofs.Names.{◌≡◌, ℕ, zero, suc, ◌+◌, ◌<◌, Bool, cond, List, [], ◌∷◌, length, take, get_or, arith, add-one, how_many, nat_tests, eqb-true, eq-eqb}

next : (p : ℕ → Bool) (xs : List ℕ) (i d : ℕ) → i < length xs → how_many p (take (suc i) xs) ≡ how_many p (take i xs) + cond {A = ℕ} (p (get_or xs i d)) 1 0
next p [] i d below = absurd (omega (arith, below))
next p (x ∷ xs) zero d below = omega arith
next p (x ∷ xs) (suc i) d below =
    let e : how_many p (take (suc i) xs) ≡ how_many p (take i xs) + cond {A = ℕ} (p (get_or xs i d)) 1 0 = next p xs i d (omega (arith, below)) in
    omega (arith, e)

pub how_many-next : (p : ℕ → Bool) (xs : List ℕ) (i d : ℕ) → i < length xs
    → how_many p (take (i + 1) xs) ≡ how_many p (take i xs) + cond {A = ℕ} (p (get_or xs i d)) 1 0
how_many-next p xs i d below = rw add-one (next p xs i d below)
