-- Words of a line.
use Rattle.std.specs.Prelude.{ℕ, List, nat_lt, length, filter}
use Rattle.number_text.specs.Lists.{between}

-- what stands between spaces and is not empty
unfoldable pub words_of : List ℕ → List (List ℕ)
words_of line = filter (λ w. nat_lt 0 (length w)) (between 32 line)
