-- An answer of a pure kind other than Echo is one number alone, or a failure.
use Rattle.std.proofs.Common.{◌≡◌, List, [], ◌∷◌, length, ℤ, pos, Option, Some, None, refl, rules}
use Rattle.std.specs.Prelude.{nat_abs}
use Rattle.mtapi_values.specs.declared.kinds.Kind.{Kind}
use Rattle.mtapi_values.specs.declared.kinds.Kind.TheVariants.{Add, Mul, Max, Div, Gcd, Echo, Triangle, Fail, Watch, Tally}
use Rattle.action_fn.specs.Answers.{answer_of, number_end, of_some, of_two, of_one, greatest, quotient, gcd, fitting, triangle}
use Rattle.action_fn.specs.declared.finished.ActEnd.TheVariants.{Done}

number_alone : (o : Option ℤ) (numbers : List ℤ) → Done numbers ≡ number_end o → length numbers ≡ 1
number_alone (Some z) numbers e = search rules
number_alone None numbers e = search rules

some_alone : (f : ℤ → List ℤ → Option ℤ) (args numbers : List ℤ) → Done numbers ≡ of_some f args → length numbers ≡ 1
some_alone f [] numbers e = search rules
some_alone f (x ∷ xs) numbers e = number_alone (f x xs) numbers e

two_alone : (f : ℤ → ℤ → Option ℤ) (args numbers : List ℤ) → Done numbers ≡ of_two f args → length numbers ≡ 1
two_alone f [] numbers e = search rules
two_alone f (x ∷ []) numbers e = search rules
two_alone f (x ∷ y ∷ []) numbers e = number_alone (f x y) numbers e
two_alone f (x ∷ y ∷ z ∷ zs) numbers e = search rules

one_alone : (f : ℤ → Option ℤ) (args numbers : List ℤ) → Done numbers ≡ of_one f args → length numbers ≡ 1
one_alone f [] numbers e = search rules
one_alone f (x ∷ []) numbers e = number_alone (f x) numbers e
one_alone f (x ∷ y ∷ ys) numbers e = search rules

pub alone : (k : Kind) (args numbers : List ℤ) → Done numbers ≡ answer_of k args → (k ≡ Echo → ⊥) → length numbers ≡ 1
unfolding answer_of
alone Add args numbers e n = number_alone _ numbers e
alone Mul args numbers e n = number_alone _ numbers e
alone Max args numbers e n = some_alone (λ x xs. Some (greatest x xs)) args numbers e
alone Div args numbers e n = two_alone quotient args numbers e
alone Gcd args numbers e n = two_alone (λ x y. fitting (pos (gcd (nat_abs x) (nat_abs y)))) args numbers e
alone Echo args numbers e n = absurd (n refl)
alone Triangle args numbers e n = one_alone triangle args numbers e
alone Fail args numbers e n = search rules
alone Watch args numbers e n = search rules
alone Tally args numbers e n = search rules
