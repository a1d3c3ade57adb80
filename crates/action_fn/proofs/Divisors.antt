-- Euclid's rule gives the greatest common divisor.
use Rattle.std.proofs.Common.{◌≡◌, ℕ, zero, suc, ◌%◌, ◌<◌, refl, arith}
use Rattle.std.specs.Int.{IsGcd}
use Rattle.std.proofs.lemmas.Nat.Gcd.{IsGcd-from_zero, IsGcd-from_mod, same_from_IsGcd}
use Rattle.action_fn.specs.Answers.{gcd, gcd_in}

IsGcd-gcd_in : (n a b : ℕ) → b < n → IsGcd a b (gcd_in n a b)
IsGcd-gcd_in zero a b h = absurd (omega arith)
IsGcd-gcd_in (suc n) a zero h = IsGcd-from_zero a zero refl
IsGcd-gcd_in (suc n) a (suc b) h =
    let smaller : a % suc b < n = omega arith in
    IsGcd-from_mod a (suc b) _ (IsGcd-gcd_in n (suc b) (a % suc b) smaller)

pub IsGcd-gcd : (a b : ℕ) → IsGcd a b (gcd a b)
unfolding gcd
IsGcd-gcd a b = IsGcd-gcd_in (suc b) a b (omega arith)

pub gcd_from_IsGcd : (a b g : ℕ) → IsGcd a b g → g ≡ gcd a b
gcd_from_IsGcd a b g h = same_from_IsGcd a b g (gcd a b) h (IsGcd-gcd a b)
