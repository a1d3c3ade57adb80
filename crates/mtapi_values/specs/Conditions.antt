-- Lists of conditions, and tests of an optional value.
use Rattle.std.specs.Prelude.{Bool, false, List, [], ◌∷◌, Option, Some, None, if◌then◌else◌}

-- a list of conditions, each with what it answers: the first that is met answers
abbrev pub first : {C : Type 0} → List (Bool × C) → Option C
first [] = None
first (c ∷ cs) = if c.0 then Some c.1 else first cs

-- there is a value, and it passes
abbrev pub holds : {T : Type 0} → (T → Bool) → Option T → Bool
holds p None = false
holds p (Some x) = p x
