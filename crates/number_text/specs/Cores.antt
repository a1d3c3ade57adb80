-- Sets of cores as texts: the cores ascending, with commas.
use Rattle.std.specs.Prelude.{ℕ, zero, suc, ◌+◌, ◌^◌, List, [], ◌∷◌, ◌++◌, map, Option, Some, if◌then◌else◌}
use Rattle.std.specs.Fmt.{decimal}
use Rattle.mtapi_values.specs.Masks.{in_mask}
use Rattle.number_text.specs.Numbers.{number_within}
use Rattle.number_text.specs.Lists.{◌>>=◌, between, with_commas}

-- ascending numbers below 64 and from low on, as bits
unfoldable pub bits_from : ℕ → List (List ℕ) → Option ℕ
bits_from low [] = Some 0
bits_from low (text ∷ texts) = do
  core ← number_within low 63 text
  bits ← bits_from (core + 1) texts
  Some (2 ^ core + bits)

-- the mask of the cores that a text lists
abbrev pub cores_in_text : List ℕ → Option ℕ
cores_in_text text = bits_from 0 (between 44 text)

-- the cores below n that are in the mask, ascending
unfoldable pub cores_below : ℕ → ℕ → List ℕ
cores_below mask zero = []
cores_below mask (suc n) = cores_below mask n ++ (if in_mask n mask then n ∷ [] else [])

-- the cores of a mask with commas
abbrev pub cores_text : ℕ → List ℕ
cores_text mask = with_commas (map decimal (cores_below mask 64))
