-- The kinds of action by number.
use Rattle.std.specs.Prelude.{ℕ, ◌==◌, Option, Some, None, List, [], ◌∷◌, if◌then◌else◌}
use Rattle.mtapi_values.specs.declared.kinds.Kind.{Kind}
use Rattle.mtapi_values.specs.declared.kinds.Kind.TheVariants.{Add, Mul, Max, Div, Gcd, Echo, Triangle, Fail, Watch, Tally}

-- the number of a kind, 1 to 10
abbrev pub number_of_kind : Kind → ℕ
number_of_kind Add = 1
number_of_kind Mul = 2
number_of_kind Max = 3
number_of_kind Div = 4
number_of_kind Gcd = 5
number_of_kind Echo = 6
number_of_kind Triangle = 7
number_of_kind Fail = 8
number_of_kind Watch = 9
number_of_kind Tally = 10

-- the first of these kinds with this number
abbrev pub kind_among : List Kind → ℕ → Option Kind
kind_among [] number = None
kind_among (kind ∷ kinds) number = if number == number_of_kind kind then Some kind else kind_among kinds number

-- the kind with this number
abbrev pub kind_with_number : ℕ → Option Kind
kind_with_number = kind_among (Add ∷ Mul ∷ Max ∷ Div ∷ Gcd ∷ Echo ∷ Triangle ∷ Fail ∷ Watch ∷ Tally ∷ [])
