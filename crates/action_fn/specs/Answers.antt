-- What each pure kind of action answers.
use Rattle.std.specs.Prelude.{◌≡◌, ◌≤◌, ℕ, zero, suc, ◌+◌, ◌*◌, ◌/◌, ◌%◌, Bool, true, false, ◌&&◌, ◌==◌, nat_le, List, [], ◌∷◌, length, Option, Some, None, ℤ, pos, negsuc, ◌+ℤ◌, ◌*ℤ◌, nat_abs, int_le, int_div, if◌then◌else◌}
use Rattle.mtapi_values.specs.declared.kinds.Kind.{Kind}
use Rattle.mtapi_values.specs.declared.kinds.Kind.TheVariants.{Add, Mul, Max, Div, Gcd, Echo, Triangle, Fail, Watch, Tally}
use Rattle.mtapi_values.specs.declared.statuses.MtapiStatus.TheVariants.{ErrActionFailed, ErrArgSize}
use Rattle.action_fn.specs.declared.finished.ActEnd.{ActEnd}
use Rattle.action_fn.specs.declared.finished.ActEnd.TheVariants.{Done, Fails}

-- the number is one of 64 bits, with sign
unfoldable pub fits : ℤ → Bool
fits z = int_le (negsuc 9223372036854775807) z && int_le z (pos 9223372036854775807)

-- the number where it fits
abbrev pub fitting : ℤ → Option ℤ
fitting z = if fits z then Some z else None

-- from so far on, by each argument in order, where each number on the way fits
abbrev pub fold_fitting : (ℤ → ℤ → ℤ) → ℤ → List ℤ → Option ℤ
fold_fitting f so_far [] = Some so_far
fold_fitting f so_far (x ∷ xs) = if fits (f so_far x) then fold_fitting f (f so_far x) xs else None

-- the greatest of a number and a list
abbrev pub greatest : ℤ → List ℤ → ℤ
greatest x [] = x
greatest x (y ∷ ys) = greatest (if int_le x y then y else x) ys

-- the quotient cut toward zero, where there is one and it fits
abbrev pub quotient : ℤ → ℤ → Option ℤ
quotient x y = if nat_abs y == 0 then None else fitting (int_div x y)

-- Euclid's divisor of two numbers, in at most so many steps
abbrev pub gcd_in : ℕ → ℕ → ℕ → ℕ
gcd_in zero a b = a
gcd_in (suc n) a zero = a
gcd_in (suc n) a (suc b) = gcd_in n (suc b) (a % suc b)

-- the greatest common divisor, and 0 for 0 and 0
unfoldable pub gcd : ℕ → ℕ → ℕ
gcd a b = gcd_in (suc b) a b

-- the sum of the numbers from 1 to n, where n is 0 to 1,000,000
abbrev pub triangle : ℤ → Option ℤ
triangle (pos n) = if nat_le n 1000000 then Some (pos (n * (n + 1) / 2)) else None
triangle (negsuc n) = None

-- one number, or a failure where there is none
abbrev pub number_end : Option ℤ → ActEnd
number_end (Some z) = Done (z ∷ [])
number_end None = Fails ErrActionFailed

-- the kinds that take one argument or more, two, and one
abbrev pub of_some : (ℤ → List ℤ → Option ℤ) → List ℤ → ActEnd
of_some f [] = Fails ErrArgSize
of_some f (x ∷ xs) = number_end (f x xs)

abbrev pub of_two : (ℤ → ℤ → Option ℤ) → List ℤ → ActEnd
of_two f (x ∷ y ∷ []) = number_end (f x y)
of_two f _ = Fails ErrArgSize

abbrev pub of_one : (ℤ → Option ℤ) → List ℤ → ActEnd
of_one f (x ∷ []) = number_end (f x)
of_one f _ = Fails ErrArgSize

-- the kind's arguments alone settle its answer
abbrev pub is_pure : Kind → Bool
is_pure Add = true
is_pure Mul = true
is_pure Max = true
is_pure Div = true
is_pure Gcd = true
is_pure Echo = true
is_pure Triangle = true
is_pure Fail = true
is_pure Watch = false
is_pure Tally = false

-- what each pure kind answers; Watch and Tally aren't pure, and what stands there means nothing
unfoldable pub answer_of : Kind → List ℤ → ActEnd
answer_of Add args = number_end (fold_fitting ◌+ℤ◌ (pos 0) args)
answer_of Mul args = number_end (fold_fitting ◌*ℤ◌ (pos 1) args)
answer_of Max args = of_some (λ x xs. Some (greatest x xs)) args
answer_of Div args = of_two quotient args
answer_of Gcd args = of_two (λ x y. fitting (pos (gcd (nat_abs x) (nat_abs y)))) args
answer_of Echo args = Done args
answer_of Triangle args = of_one triangle args
answer_of Fail args = Fails ErrActionFailed
answer_of Watch args = Fails ErrActionFailed
answer_of Tally args = Fails ErrActionFailed

-- what a `Finished` is seen as
pub record Answered : Type 0 where
  pub kind : Kind
  pub args : List ℤ
  pub end : ActEnd

-- what a `Finished` keeps: its kind is pure, it has at most 16 arguments, and its end is the answer
pub record IsAnswered (f : Answered) : Type 0 where
  pub pure : is_pure f.kind ≡ true
  pub few : length f.args ≤ 16
  pub answer : f.end ≡ answer_of f.kind f.args
