-- Lists in the order of starts: the waiting tasks make one such list alone.
use Rattle.task_board.proofs.Names.{nat_tests, ◌≡◌, ℕ, ◌+◌, List, [], ◌∷◌, ◌++◌, length, Option, Some, slice_get, refl, ap, arith, Seen, AreWaiting}
use Rattle.task_board.proofs.KeyedLemmas.{same-order}

-- the waiting tasks have one list in the order of their starts
pub waiting-once : (at : ℕ → Option Seen) (xs ys : List ℕ) → AreWaiting at xs → AreWaiting at ys → xs ≡ ys
waiting-once at xs ys e1 e2 = grind (arith, nat_tests, same-order)

-- Places in the list

pub at-middle : (h : ℕ) (kept rest : List ℕ) → slice_get (kept ++ h ∷ rest) (length kept) ≡ Some h
at-middle h [] rest = refl
at-middle h (x ∷ kept) rest = at-middle h kept rest

pub past-middle : (h : ℕ) (kept rest : List ℕ) → slice_get (kept ++ h ∷ rest) (length kept + 1) ≡ slice_get rest 0
past-middle h [] rest = refl
past-middle h (x ∷ kept) rest = grind (arith, nat_tests, past-middle h kept rest)

pub append-middle : (h : ℕ) (kept rest : List ℕ) → kept ++ h ∷ rest ≡ (kept ++ h ∷ []) ++ rest
append-middle h [] rest = refl
append-middle h (x ∷ kept) rest = ap (λ (l : List ℕ). x ∷ l) (append-middle h kept rest)
