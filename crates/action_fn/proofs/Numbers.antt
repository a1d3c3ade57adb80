-- What it means that a number fits 64 bits.
use Rattle.std.proofs.Common.{◌≡◌, ◌-◌, ◌≤◌, List, [], ◌∷◌, length, take, drop, get_or, sym, ap, Bool, true, false, ℤ, pos, Option, Some, None, SomeIff, FitsSigned, w64, refl, ◌∙◌, rules, arith, if◌then◌else◌, int_div}
use Rattle.std.specs.Int.{CanDivide, cast_unsigned}
use Rattle.std.specs.Result.{OkIff, result_ok}
use Rattle.std.specs.Prelude.{Result, Ok, Err, not, nat_abs, nat_lt, ◌==◌}
use Rattle.std.proofs.lemmas.Int.{ints}
use Rattle.std.proofs.lemmas.Grind.{common_steps}
use Rattle.action_fn.specs.Answers.{fits, fitting, fold_fitting, quotient}

pub fits_from : (z : ℤ) → FitsSigned w64 z → fits z ≡ true
unfolding fits
fits_from z h = grind (arith, ints)

pub FitsSigned-from : (z : ℤ) → fits z ≡ true → FitsSigned w64 z
unfolding fits
FitsSigned-from z h = grind (arith, ints)

-- a number where it fits is what a checked operation gives
pub fitting_from : (z : ℤ) (r : Option ℤ) → SomeIff r (FitsSigned w64 z) z → r ≡ fitting z
fitting_from z (Some x) h = rw (fits_from z h.0) (search rules)
fitting_from z None h = elim (fits z) as (λ b. fits z ≡ b → None ≡ (if b then Some z else None)) [
  | true ↦ λ e. absurd (h (FitsSigned-from z e))
  | false ↦
      λ e. search rules
] (search rules)

-- the same by way of a `Result`
pub fitting_from_ok : {E : Type 0} (z : ℤ) (t : Result ℤ E) (r : Option ℤ) → OkIff t (FitsSigned w64 z) z → r ≡ result_ok t → r ≡ fitting z
fitting_from_ok z (Ok x) r h e = e ∙ fitting_from z (Some x) h
fitting_from_ok z (Err x) r h e = e ∙ fitting_from z None h

-- a divisor that fits is 0 exactly where its bits are
is_zero : (y : ℤ) → FitsSigned w64 y → (nat_abs y == 0) ≡ not (nat_lt 0 (cast_unsigned w64 y))
is_zero y f = grind (arith, ints)

none_at : (x y : ℤ) (r : Option ℤ) → (nat_abs y == 0) ≡ not (nat_lt 0 (cast_unsigned w64 y)) → (nat_abs y == 0) ≡ true
    → SomeIff r (CanDivide w64 x y) (int_div x y) → r ≡ None
none_at x y None z e h = refl
none_at x y (Some q) z e h = absurd (grind (arith, ints, h.0))

some_at : (x y : ℤ) (r : Option ℤ) → (nat_abs y == 0) ≡ not (nat_lt 0 (cast_unsigned w64 y)) → (nat_abs y == 0) ≡ false
    → SomeIff r (CanDivide w64 x y) (int_div x y) → SomeIff r (FitsSigned w64 (int_div x y)) (int_div x y)
some_at x y None z e h = λ fits. h (grind (arith, ints), fits)
some_at x y (Some q) z e h = (h.0.1, h.1)

-- the quotient of a checked division
pub quotient_from : (x y : ℤ) (r : Option ℤ) → FitsSigned w64 y → SomeIff r (CanDivide w64 x y) (int_div x y) → r ≡ quotient x y
quotient_from x y r f h =
    elim (nat_abs y == 0) as (λ b. (nat_abs y == 0) ≡ b → r ≡ (if b then None else fitting (int_div x y))) [
      | true ↦ λ e. none_at x y r (is_zero y f) e h
      | false ↦ λ e. fitting_from (int_div x y) r (some_at x y r (is_zero y f) e h)
    ] refl

fold_at : (f : ℤ → ℤ → ℤ) (a n x : ℤ) (xs : List ℤ) (total : Option ℤ) (b : Bool) → fits (f a x) ≡ b → fitting (f a x) ≡ Some n → total ≡ fold_fitting f n xs
    → total ≡ fold_fitting f a (x ∷ xs)
fold_at f a n x xs total true is e t = rw is (let same : Some (f a x) ≡ Some n = rw is at e in let equal : f a x ≡ n = cc in rw equal t)
fold_at f a n x xs total false is e t = absurd (let none : ◌≡◌ {A = Option ℤ} None (Some n) = rw is at e in cc)

-- a step of a fold: the number that comes first fits, and the rest goes on from it
pub fold_step : (f : ℤ → ℤ → ℤ) (a n : ℤ) (xs : List ℤ) (r total : Option ℤ) → 1 ≤ length xs → r ≡ fitting (f a (get_or xs 0 (pos 0))) → r ≡ Some n
    → total ≡ fold_fitting f n (take (length xs - 1) (drop 1 xs)) → total ≡ fold_fitting f a xs
fold_step f a n [] r total l e s t = absurd (omega arith)
fold_step f a n (x ∷ xs) r total l e s t =
    let whole : take (length (x ∷ xs) - 1) (drop 1 (x ∷ xs)) ≡ xs = grind (arith, common_steps) in
    let given : fitting (f a x) ≡ Some n = sym e ∙ s in
    fold_at f a n x xs total (fits (f a x)) refl given (t ∙ ap (fold_fitting f n) whole)
