-- The kinds of action, each with its word.
use Rattle.std.specs.Prelude.{ℕ, List, [], ◌∷◌, codes, Option, find}
use Rattle.std.specs.Str.{bytes_eq}
use Rattle.mtapi_values.specs.declared.kinds.Kind.{Kind}
use Rattle.mtapi_values.specs.declared.kinds.Kind.TheVariants.{Add, Mul, Max, Div, Gcd, Echo, Triangle, Fail, Watch, Tally}

-- the word by which a text names a kind
abbrev pub kind_word : Kind → List ℕ
kind_word Add = codes "add"
kind_word Mul = codes "mul"
kind_word Max = codes "max"
kind_word Div = codes "div"
kind_word Gcd = codes "gcd"
kind_word Echo = codes "echo"
kind_word Triangle = codes "triangle"
kind_word Fail = codes "fail"
kind_word Watch = codes "watch"
kind_word Tally = codes "tally"

-- each kind once
abbrev pub kind_all : List Kind
kind_all = Add ∷ Mul ∷ Max ∷ Div ∷ Gcd ∷ Echo ∷ Triangle ∷ Fail ∷ Watch ∷ Tally ∷ []

-- the kind that a word names
unfoldable pub kind_named : List ℕ → Option Kind
kind_named text = find (λ k. bytes_eq (kind_word k) text) kind_all
