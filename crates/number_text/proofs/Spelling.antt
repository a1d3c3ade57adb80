-- What was read is written as it was read.
use Rattle.std.proofs.lemmas.Bool.Decides.{nat_tests}
use Rattle.std.proofs.Common.{◌≡◌, ℕ, ℤ, pos, neg_ℤ, ◌+◌, ◌*◌, ◌^◌, ◌≤◌, ◌<◌, List, [], ◌∷◌, ◌++◌, length, true, not, cond, eqb, Some, refl, sym, ap, ◌∙◌, arith, inl, inr, map, lit<, get_or, zero, suc, drop, append_assoc, mul_assoc, mul_comm, add-mul}
use Rattle.std.specs.Prelude.{nat_lt, slice_index}
use Rattle.std.specs.Int.{bit_at}
use Rattle.std.specs.Fmt.{decimal, signed_decimal}
use Rattle.std.specs.Str.Parse.{digits_value}
use Rattle.std.proofs.Math.Nat.{pow-le-pow_right}
use Rattle.std.proofs.lemmas.Bool.{and_parts, or_cases, eqb-true, leb-true, ltb-true, cases_Bool, eq-eqb, cases_eq}
use Rattle.std.proofs.lemmas.Fmt.{decimal-digits_value, decimal_digit}
use Rattle.std.proofs.lemmas.List.{append-nil}
use Rattle.std.proofs.lemmas.List.Splits.{join_with_byte-slice_split}
use Rattle.std.proofs.lemmas.Nat.Bits.{bit_at-zero, bit_at-pow_same, bit_at_cat_low, bit_at_cat_high}
use Rattle.mtapi_values.specs.Masks.{in_mask}
use Rattle.number_text.specs.Numbers.{is_decimal, number, number_within, whole_number}
use Rattle.number_text.specs.Lists.{between, wholes, list_of, with_commas}
use Rattle.number_text.specs.Cores.{bits_from, cores_in_text, cores_below, cores_text}
use Rattle.number_text.proofs.Parsing.{own, some_cond}
use Rattle.number_text.proofs.CoreSteps.{cores_none, cores_next}
use Rattle.number_text.proofs.Reading.{bind_some, just_is, list_cond, within_is, pow_double}

-- ---- numbers

decimal_text : (text : List ℕ) → is_decimal text ≡ true → digits_value 10 text < 2 ^ 64 → decimal (digits_value 10 text) ≡ text
decimal_text text h lt =
    let a = and_parts _ _ h in
    let b = and_parts _ _ a.0 in
    let some = ltb-true 0 (length text) b.0 in
    decimal-digits_value own text b.1 some (λ (e : get_or text 0 0 ≡ 48).
    elim (or_cases (eqb (length text) 1) (not (eqb (slice_index text 0) 48)) a.1) [
      | inl one ↦ eqb-true (length text) 1 one
      | inr other ↦ absurd (let t : eqb (slice_index text 0) 48 ≡ true = eq-eqb _ _ e in let f = rw t at other in cc)
    ]) lt

pub number_spelled : (text : List ℕ) (n : ℕ) → number text ≡ Some n → decimal n ≡ text
unfolding number
number_spelled text n e1 = grind (arith, nat_tests, some_cond, digits_value, and_parts, is_decimal, nat_lt, ltb-true, decimal_text)

minus_text : (text : List ℕ) → slice_index text 0 ≡ 45 → text ≡ 45 ∷ drop 1 text
minus_text text e1 = grind (arith, nat_tests)

zero_digit : (v : ℕ) (ds : List ℕ) → decimal v ≡ ds → v ≡ 0 → get_or ds 0 0 ≡ 48
zero_digit v ds e z = rw (← e, z, decimal_digit 0 (omega arith)) (omega arith)

neg_text : (v : ℕ) (ds : List ℕ) → decimal v ≡ ds → (v ≡ 0 → ⊥) → signed_decimal (neg_ℤ (pos v)) ≡ 45 ∷ ds
neg_text v ds e1 e2 = grind (arith, nat_tests)

pub second : (text : List ℕ) → slice_index text 1 ≡ get_or (drop 1 text) 0 0
second text = grind (arith, nat_tests)

pub whole_spelled : (text : List ℕ) (z : ℤ) → whole_number text ≡ Some z → signed_decimal z ≡ text
unfolding whole_number
whole_spelled text z e =
    elim (cases_Bool (eqb (slice_index text 0) 45)) [
      | inl t ↦
          let ds = drop 1 text in
          let v = digits_value 10 ds in
          let g = some_cond _ (neg_ℤ (pos v)) z (rw t at e) in
          let a = and_parts _ _ g.0 in
          let b = and_parts _ _ a.0 in
          let le = leb-true v (2 ^ 63) a.1 in
          let spelled = decimal_text ds b.0 (omega (arith, le)) in
          let some : v ≡ 0 → ⊥ = λ (n : v ≡ 0).
          let first = zero_digit v ds spelled n in
          let t2 : eqb (slice_index text 1) 48 ≡ true = eq-eqb _ _ (second text ∙ first) in
          let f = rw t2 at b.1 in cc in
          ap signed_decimal (sym g.1) ∙ (neg_text v ds spelled some ∙ sym (minus_text text (eqb-true _ _ t)))
      | inr f ↦
          let g = some_cond _ (pos (digits_value 10 text)) z (rw f at e) in
          let a = and_parts _ _ g.0 in
          let lt = ltb-true (digits_value 10 text) (2 ^ 63) a.1 in
          ap signed_decimal (sym g.1) ∙ decimal_text text a.0 (omega (arith, lt))
    ]

wholes_text : (texts : List (List ℕ)) (zs : List ℤ) → wholes texts ≡ Some zs → map signed_decimal zs ≡ texts
unfolding wholes
wholes_text [] zs e = let same : [] ≡ zs = just_is [] zs e in rw (← same) refl
wholes_text (text ∷ texts) zs e = grind (arith, nat_tests, wholes_text texts, bind_some, just_is, whole_spelled)

pub list_spelled : (text : List ℕ) (zs : List ℤ) → list_of text ≡ Some zs → with_commas (map signed_decimal zs) ≡ text
unfolding list_of
list_spelled text zs e =
    let g = list_cond _ (wholes (between 44 text)) zs e in
    ap (λ (l : List (List ℕ)). with_commas l) (wholes_text (between 44 text) zs g.1) ∙ join_with_byte-slice_split 44 text

-- ---- cores

-- the cores of the mask from low on, k of them
abbrev pub cores_from : ℕ → ℕ → ℕ → List ℕ
cores_from mask low zero = []
cores_from mask low (suc k) = cond (in_mask low mask) (low ∷ []) [] ++ cores_from mask (low + 1) k

cores_up : (mask n k : ℕ) → cores_below mask n ++ cores_from mask n k ≡ cores_below mask (n + k)
cores_up mask n zero = append-nil (cores_below mask n) ∙ ap (cores_below mask) (omega arith)
cores_up mask n (suc k) = grind (arith, nat_tests, cores_up mask (n + 1) k, cores_next, append_assoc, cores_below, in_mask)

pub cores_all : (mask : ℕ) → cores_below mask 64 ≡ cores_from mask 0 64
cores_all mask = sym (cores_up mask 0 64) ∙ ap (λ (l : List ℕ). l ++ cores_from mask 0 64) (cores_none mask)

cores_same : (a b low k : ℕ) → ((i : ℕ) → low ≤ i → bit_at a i ≡ bit_at b i) → cores_from a low k ≡ cores_from b low k
cores_same a b low zero h = refl
cores_same a b low (suc k) h = grind (arith, nat_tests, cores_same a b (low + 1) k)

-- the listed cores from low on: either low comes first, or the list is one from the next core on
data Step (low bits : ℕ) (texts : List (List ℕ)) : Type 0 where
  here : (text : List ℕ) (rest : List (List ℕ)) (more : ℕ) → texts ≡ text ∷ rest → decimal low ≡ text → 2 ^ low + more ≡ bits
      → bits_from (low + 1) rest ≡ Some more → Step low bits texts
  later : bits_from (low + 1) texts ≡ Some bits → Step low bits texts

within_next : (low core : ℕ) (text : List ℕ) → number_within low 63 text ≡ Some core → low < core → number_within (low + 1) 63 text ≡ Some core
unfolding number_within
within_next low core text e1 e2 = grind (arith, nat_tests)

step_at : (low bits core more : ℕ) (text : List ℕ) (texts : List (List ℕ)) → number_within low 63 text ≡ Some core → number text ≡ Some core → low ≤ core
    → 2 ^ core + more ≡ bits → bits_from (core + 1) texts ≡ Some more → Step low bits (text ∷ texts)
unfolding bits_from
step_at low bits core more text texts within is le total next =
    elim (cases_eq core low) [
      | inl same ↦ here text texts more refl (rw same at (number_spelled text core is)) (rw same at total) (rw same at next)
      | inr other ↦
          let lt : low < core = omega arith in
          let w = within_next low core text within lt in
          later (rw (w, next) (ap Some total))
    ]

step : (low bits : ℕ) (texts : List (List ℕ)) → bits_from low texts ≡ Some bits → Step low bits texts
unfolding bits_from
step low bits [] e = later e
step low bits (text ∷ texts) e =
    let a = bind_some (number_within low 63 text) _ bits e in
    let b = bind_some (bits_from (a.0 + 1) texts) _ bits a.2 in
    let w = within_is low 63 a.0 text a.1 in
    step_at low bits a.0 b.0 text texts a.1 w.0 w.1 (just_is (2 ^ a.0 + b.0) bits b.2) b.1

none_left : (texts : List (List ℕ)) (bits : ℕ) → bits_from 64 texts ≡ Some bits → (texts ≡ []) × (bits ≡ 0)
unfolding bits_from
none_left [] bits e = (refl, sym (just_is 0 bits e))
none_left (text ∷ texts) bits e = grind (arith, nat_tests, bind_some, number_within, within_is)

pub twice : (m low : ℕ) → m * 2 ^ (low + 1) ≡ 2 * m * 2 ^ low
twice m low = ap (λ (x : ℕ). m * x) (pow_double low) ∙ (sym (mul_assoc m 2 (2 ^ low)) ∙ ap (λ (x : ℕ). x * 2 ^ low) (mul_comm m 2))

abbrev Listed : ℕ → ℕ → ℕ → List (List ℕ) → Type 0
Listed k low bits texts = ((m : ℕ) × (bits ≡ m * 2 ^ low)) × (map decimal (cores_from bits low k) ≡ texts)

from_zero : (low : ℕ) → 0 ≤ low
from_zero low = omega arith

pow_less : (low : ℕ) → 2 ^ low < 2 ^ (low + 1)
pow_less low =
    let p : 2 ^ 0 ≤ 2 ^ low = pow-le-pow_right (lit< tt) (from_zero low) in
    omega (arith, pow_double low, p)

cores_later : (k low bits : ℕ) (texts : List (List ℕ)) → Listed k (low + 1) bits texts → Listed (suc k) low bits texts
cores_later k low bits texts h =
    let m = h.0.0 in
    let is : bits ≡ m * 2 ^ (low + 1) + 0 = omega (arith, h.0.1) in
    let bit : bit_at bits low ≡ 0 = ap (λ (x : ℕ). bit_at x low) is ∙ (bit_at_cat_low m (low + 1) 0 low (omega arith) ∙ bit_at-zero low) in
    ((2 * m, h.0.1 ∙ twice m low), rw bit h.1)

bits_above : (m low more bits i : ℕ) → more ≡ m * 2 ^ (low + 1) → 2 ^ low + more ≡ bits → low + 1 ≤ i → bit_at bits i ≡ bit_at more i
bits_above m low more bits i a b le =
    let c : bits ≡ m * 2 ^ (low + 1) + 2 ^ low = omega (arith, a, b) in
    let d : more ≡ m * 2 ^ (low + 1) + 0 = omega (arith, a) in
    let e = bit_at_cat_high m (low + 1) (2 ^ low) i (pow_less low) le in
    let p : 0 < 2 ^ (low + 1) = omega (arith, pow_less low) in
    let f = bit_at_cat_high m (low + 1) 0 i p le in
    ap (λ (x : ℕ). bit_at x i) c ∙ (e ∙ (sym f ∙ ap (λ (x : ℕ). bit_at x i) (sym d)))

cores_here : (k low bits : ℕ) (text : List ℕ) (rest : List (List ℕ)) (more : ℕ) (texts : List (List ℕ)) → texts ≡ text ∷ rest → decimal low ≡ text
    → 2 ^ low + more ≡ bits → Listed k (low + 1) more rest → Listed (suc k) low bits texts
cores_here k low bits text rest more texts is spelled total h =
    let m = h.0.0 in
    let c : bits ≡ m * 2 ^ (low + 1) + 2 ^ low = omega (arith, h.0.1, total) in
    let bit : bit_at bits low ≡ 1 = ap (λ (x : ℕ). bit_at x low) c ∙ (bit_at_cat_low m (low + 1) (2 ^ low) low (omega arith) ∙ bit_at-pow_same low) in
    let same = cores_same bits more (low + 1) k (λ (i : ℕ) (le : low + 1 ≤ i). bits_above m low more bits i h.0.1 total le) in
    let one : (2 * m + 1) * 2 ^ low ≡ 2 * m * 2 ^ low + 2 ^ low = add-mul (2 * m) 1 (2 ^ low) ∙ omega arith in
    ((2 * m + 1, c ∙ (ap (λ (x : ℕ). x + 2 ^ low) (twice m low) ∙ sym one)), rw (bit, same, spelled, h.1) (sym is))

cores_listed : (k low bits : ℕ) (texts : List (List ℕ)) → low + k ≡ 64 → bits_from low texts ≡ Some bits → Listed k low bits texts
cores_listed zero low bits texts sum e =
    let at : low ≡ 64 = omega arith in
    let none = none_left texts bits (rw at at e) in
    ((0, none.1 ∙ omega arith), sym none.0)
cores_listed (suc k) low bits texts sum e =
    elim (step low bits texts e) [
      | here text rest more is spelled total next ↦
          cores_here k low bits text rest more texts is spelled total (cores_listed k (low + 1) more rest (omega arith) next)
      | later next ↦ cores_later k low bits texts (cores_listed k (low + 1) bits texts (omega arith) next)
    ]

pub cores_spelled : (text : List ℕ) (mask : ℕ) → cores_in_text text ≡ Some mask → cores_text mask ≡ text
cores_spelled text mask e =
    let l = cores_listed 64 0 mask (between 44 text) (omega arith) e in
    ap (λ (l : List ℕ). with_commas (map decimal l)) (cores_all mask) ∙ (ap (λ (l : List (List ℕ)). with_commas l) l.1 ∙ join_with_byte-slice_split 44 text)
