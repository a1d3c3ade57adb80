-- What reading a text gave, and the range that it lies in.
use Rattle.std.proofs.lemmas.Bool.Decides.{nat_tests}
use Rattle.std.proofs.Common.{◌≡◌, ℕ, ℤ, pos, neg_ℤ, ◌+◌, ◌*◌, ◌^◌, ◌≤◌, ◌<◌, List, [], ◌∷◌, length, Bool, true, cond, ◌&&◌, eqb, Option, Some, None, refl, subst, arith, inl, inr, add-one, lit<, drop}
use Rattle.std.specs.Prelude.{nat_le, option_and_then, FitsSigned, slice_index}
use Rattle.std.specs.List.{AllByRecursion}
use Rattle.std.specs.Int.{w64}
use Rattle.std.specs.Str.Parse.{digits_value}
use Rattle.std.proofs.lemmas.Bool.{and_parts, leb-true, ltb-true, cases_Bool}
use Rattle.std.proofs.lemmas.List.Splits.{length-slice_split}
use Rattle.std.proofs.Math.Nat.{pow-le-pow_right}
use Rattle.number_text.proofs.Parsing.{some_cond}
use Rattle.number_text.specs.Numbers.{number, number_within, whole_number}
use Rattle.number_text.specs.Lists.{◌>>=◌, between, wholes, list_of}
use Rattle.number_text.specs.Cores.{bits_from, cores_in_text}

-- ---- steps that gave something

pub bind_some : {A B : Type 0} (o : Option A) (f : A → Option B) (y : B) → (o >>= f) ≡ Some y → (x : A) × (o ≡ Some x) × (f x ≡ Some y)
bind_some o f y e1 = grind (arith, nat_tests)

abbrev just : {A : Type 0} → A → Option A
just x = Some x

pub just_is : {A : Type 0} (x y : A) → just x ≡ just y → x ≡ y
just_is x y e = cc

-- ---- numbers

pub number_fits : (text : List ℕ) (n : ℕ) → number text ≡ Some n → n < 2 ^ 64
unfolding number
number_fits text n e1 = grind (arith, nat_tests)

abbrev picked : ℕ → ℕ → ℕ → Option ℕ
picked low high n = cond (nat_le low n && nat_le n high) (Some n) None

within_some : (low high n : ℕ) (o : Option ℕ) → option_and_then (picked low high) o ≡ Some n → (o ≡ Some n) × (low ≤ n) × (n ≤ high)
within_some low high n o e1 = grind (arith, nat_tests)

pub within_is : (low high n : ℕ) (text : List ℕ) → number_within low high text ≡ Some n → (number text ≡ Some n) × (low ≤ n) × (n ≤ high)
unfolding number_within
within_is low high n text e = within_some low high n (number text) e

neg_fits : (n : ℕ) → n ≤ 2 ^ 63 → FitsSigned w64 (neg_ℤ (pos n))
neg_fits n e1 = grind (arith, nat_tests)

pos_fits : (n : ℕ) → n < 2 ^ 63 → FitsSigned w64 (pos n)
pos_fits n lt = record { sfits = lt }

pub whole_fits : (text : List ℕ) (z : ℤ) → whole_number text ≡ Some z → FitsSigned w64 z
unfolding whole_number
whole_fits text z e =
    elim (cases_Bool (eqb (slice_index text 0) 45)) [
      | inl t ↦
          let g = some_cond _ (neg_ℤ (pos (digits_value 10 (drop 1 text)))) z (rw t at e) in
          let le = leb-true (digits_value 10 (drop 1 text)) (2 ^ 63) (and_parts _ _ g.0).1 in
          subst (FitsSigned w64) g.1 (neg_fits _ le)
      | inr f ↦
          let g = some_cond _ (pos (digits_value 10 text)) z (rw f at e) in
          let lt = ltb-true (digits_value 10 text) (2 ^ 63) (and_parts _ _ g.0).1 in
          subst (FitsSigned w64) g.1 (pos_fits _ lt)
    ]

-- ---- lists

wholes_fit : (texts : List (List ℕ)) (zs : List ℤ) → wholes texts ≡ Some zs → (length zs ≡ length texts) × AllByRecursion (FitsSigned w64) zs
unfolding wholes
wholes_fit [] zs e = let same : [] ≡ zs = just_is [] zs e in rw (← same) (refl, tt)
wholes_fit (text ∷ texts) zs e = grind (arith, nat_tests, wholes_fit texts, bind_some, just_is, whole_fits)

pub list_cond : (b : Bool) (o : Option (List ℤ)) (zs : List ℤ) → cond b o None ≡ Some zs → (b ≡ true) × (o ≡ Some zs)
list_cond b o zs e1 = grind (arith, nat_tests)

pub list_fits : (text : List ℕ) (zs : List ℤ) → list_of text ≡ Some zs → (1 ≤ length zs) × (length zs ≤ 16) × AllByRecursion (FitsSigned w64) zs
unfolding list_of
list_fits text zs e =
    let g = list_cond _ (wholes (between 44 text)) zs e in
    let few = leb-true (length (between 44 text)) 16 g.0 in
    let some : 1 ≤ length (between 44 text) = omega (arith, length-slice_split (λ b. eqb b 44) text) in
    let all = wholes_fit (between 44 text) zs g.1 in
    (omega (arith, some, all.0), omega (arith, few, all.0), all.1)

-- ---- cores

pub pow_double : (n : ℕ) → 2 ^ (n + 1) ≡ 2 * 2 ^ n
pow_double n = rw add-one (omega arith)

bits_fit : (texts : List (List ℕ)) (low bits : ℕ) → bits_from low texts ≡ Some bits → low ≤ 64 → bits + 2 ^ low ≤ 2 ^ 64
unfolding bits_from
bits_fit [] low bits e le = grind (arith, nat_tests, just_is, pow-le-pow_right)
bits_fit (text ∷ texts) low bits e le =
    grind (arith, nat_tests, bits_fit texts, bind_some, number_within, bits_from, within_is, just_is, pow-le-pow_right, pow_double)

bits_some : (texts : List (List ℕ)) (low bits : ℕ) → 1 ≤ length texts → bits_from low texts ≡ Some bits → 0 < bits
unfolding bits_from
bits_some [] low bits h e = absurd (omega arith)
bits_some (text ∷ texts) low bits h e =
    let a = bind_some (number_within low 63 text) _ bits e in
    let b = bind_some (bits_from (a.0 + 1) texts) _ bits a.2 in
    let same : 2 ^ a.0 + b.0 ≡ bits = just_is (2 ^ a.0 + b.0) bits b.2 in
    let from : 0 ≤ a.0 = omega arith in
    let p : 2 ^ 0 ≤ 2 ^ a.0 = pow-le-pow_right (lit< tt) from in
    omega (arith, same, p)

pub cores_fit : (text : List ℕ) (mask : ℕ) → cores_in_text text ≡ Some mask → (0 < mask) × (mask < 2 ^ 64)
cores_fit text mask e1 = grind (arith, nat_tests, length-slice_split, bits_some, bits_fit)
