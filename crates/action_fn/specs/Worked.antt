-- Worked rows of the actions: what each pure kind answers to numbers that all differ, at the edges of its table, and to too few and too
-- many numbers. Each is decided by computing.
use Rattle.std.specs.Prelude.{◌≡◌, ℕ, ◌-◌, ◌^◌, true, false, List, [], ◌∷◌, map, ℤ, pos, negsuc}
use Rattle.mtapi_values.specs.declared.kinds.Kind.{Kind}
use Rattle.mtapi_values.specs.declared.kinds.Kind.TheVariants.{Add, Mul, Max, Div, Gcd, Echo, Triangle, Fail, Watch, Tally}
use Rattle.mtapi_values.specs.declared.statuses.MtapiStatus.TheVariants.{ErrActionFailed, ErrArgSize}
use Rattle.action_fn.specs.declared.finished.ActEnd.TheVariants.{Done, Fails}
use Rattle.action_fn.specs.Answers.{is_pure, answer_of, Answered}

-- the least and the greatest number of 64 bits with sign
abbrev pub least : ℤ
least = negsuc (2 ^ 63 - 1)

abbrev pub most : ℤ
most = pos (2 ^ 63 - 1)

-- a number below 0, by its amount: -5 is `minus 5`
abbrev pub minus : ℕ → ℤ
minus n = negsuc (n - 1)

-- rows: the kind and its arguments, and that it answers one number, fails, or got a wrong number of arguments
abbrev pub gives_number : Kind → List ℤ → ℤ → Answered
gives_number k args z = record { kind = k; args = args; end = Done (z ∷ []) }

abbrev pub fails : Kind → List ℤ → Answered
fails k args = record { kind = k; args = args; end = Fails ErrActionFailed }

abbrev pub miscounted : Kind → List ℤ → Answered
miscounted k args = record { kind = k; args = args; end = Fails ErrArgSize }

-- sums and products of none, some, and those that leave 64 bits, be it on the way alone
abbrev pub folded : List Answered
folded =
    gives_number Add [] (pos 0)
    ∷ gives_number Add (pos 7 ∷ minus 9 ∷ pos 5 ∷ []) (pos 3)
    ∷ gives_number Add (minus 1 ∷ most ∷ pos 1 ∷ []) most
    ∷ fails Add (most ∷ pos 1 ∷ [])
    ∷ fails Add (most ∷ pos 1 ∷ minus 1 ∷ [])
    ∷ gives_number Add (least ∷ pos 0 ∷ []) least
    ∷ fails Add (least ∷ minus 1 ∷ [])
    ∷ gives_number Mul [] (pos 1)
    ∷ gives_number Mul (pos 2 ∷ minus 3 ∷ pos 7 ∷ []) (minus 42)
    ∷ gives_number Mul (pos (2 ^ 32) ∷ minus (2 ^ 31) ∷ []) least
    ∷ fails Mul (pos (2 ^ 32) ∷ pos (2 ^ 31) ∷ [])
    ∷ fails Mul (pos (2 ^ 32) ∷ pos (2 ^ 31) ∷ pos 0 ∷ [])
    ∷ gives_number Mul (pos 0 ∷ pos (2 ^ 32) ∷ pos (2 ^ 31) ∷ []) (pos 0)
    ∷ fails Mul (least ∷ minus 1 ∷ [])
    ∷ []

-- the greatest, wherever it stands
abbrev pub greatest_of : List Answered
greatest_of =
    miscounted Max []
    ∷ gives_number Max (minus 5 ∷ []) (minus 5)
    ∷ gives_number Max (pos 8 ∷ minus 4 ∷ pos 2 ∷ []) (pos 8)
    ∷ gives_number Max (minus 4 ∷ pos 8 ∷ pos 2 ∷ []) (pos 8)
    ∷ gives_number Max (minus 4 ∷ pos 2 ∷ pos 8 ∷ []) (pos 8)
    ∷ gives_number Max (minus 2 ∷ minus 1 ∷ minus 3 ∷ []) (minus 1)
    ∷ gives_number Max (least ∷ most ∷ []) most
    ∷ []

-- quotients cut toward zero, and divisors
abbrev pub divided : List Answered
divided =
    miscounted Div []
    ∷ miscounted Div (pos 7 ∷ [])
    ∷ miscounted Div (pos 7 ∷ pos 2 ∷ pos 1 ∷ [])
    ∷ gives_number Div (pos 7 ∷ pos 2 ∷ []) (pos 3)
    ∷ gives_number Div (minus 7 ∷ pos 2 ∷ []) (minus 3)
    ∷ gives_number Div (pos 7 ∷ minus 2 ∷ []) (minus 3)
    ∷ gives_number Div (minus 7 ∷ minus 2 ∷ []) (pos 3)
    ∷ gives_number Div (pos 0 ∷ pos 7 ∷ []) (pos 0)
    ∷ fails Div (pos 7 ∷ pos 0 ∷ [])
    ∷ fails Div (least ∷ minus 1 ∷ [])
    ∷ gives_number Div (least ∷ pos 1 ∷ []) least
    ∷ miscounted Gcd []
    ∷ miscounted Gcd (pos 6 ∷ [])
    ∷ miscounted Gcd (pos 6 ∷ pos 4 ∷ pos 2 ∷ [])
    ∷ gives_number Gcd (pos 12 ∷ minus 18 ∷ []) (pos 6)
    ∷ gives_number Gcd (minus 35 ∷ pos 21 ∷ []) (pos 7)
    ∷ gives_number Gcd (pos 0 ∷ pos 0 ∷ []) (pos 0)
    ∷ gives_number Gcd (pos 0 ∷ pos 5 ∷ []) (pos 5)
    ∷ gives_number Gcd (minus 4 ∷ pos 0 ∷ []) (pos 4)
    ∷ gives_number Gcd (least ∷ minus 6 ∷ []) (pos 2)
    ∷ fails Gcd (least ∷ least ∷ [])
    ∷ fails Gcd (pos 0 ∷ least ∷ [])
    ∷ []

-- echoes, sums from 1 on, and failures
abbrev pub other_answers : List Answered
other_answers =
    record { kind = Echo; args = []; end = Done [] }
    ∷ record { kind = Echo; args = pos 4 ∷ minus 5 ∷ pos 6 ∷ []; end = Done (pos 4 ∷ minus 5 ∷ pos 6 ∷ []) }
    ∷ miscounted Triangle []
    ∷ miscounted Triangle (pos 3 ∷ pos 4 ∷ [])
    ∷ gives_number Triangle (pos 0 ∷ []) (pos 0)
    ∷ gives_number Triangle (pos 4 ∷ []) (pos 10)
    ∷ gives_number Triangle (pos 1000000 ∷ []) (pos 500000500000)
    ∷ fails Triangle (pos 1000001 ∷ [])
    ∷ fails Triangle (minus 1 ∷ [])
    ∷ fails Fail []
    ∷ fails Fail (pos 1 ∷ [])
    ∷ []

-- the rows are so
abbrev pub AreAnswers : List Answered → Type 0
AreAnswers rows = map (λ r. answer_of r.kind r.args) rows ≡ map (λ r. r.end) rows

pub record WorkedAnswers : Type 0 where
  pub folded_so : AreAnswers folded
  pub greatest_so : AreAnswers greatest_of
  pub divided_so : AreAnswers divided
  pub others_so : AreAnswers other_answers
  pub pure_kinds : map is_pure (Add ∷ Mul ∷ Max ∷ Div ∷ Gcd ∷ Echo ∷ Triangle ∷ Fail ∷ []) ≡ (true ∷ true ∷ true ∷ true ∷ true ∷ true ∷ true ∷ true ∷ [])
  pub other_kinds : map is_pure (Watch ∷ Tally ∷ []) ≡ (false ∷ false ∷ [])
