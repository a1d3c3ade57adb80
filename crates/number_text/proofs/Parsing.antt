-- What parse says, and lists of numbers as loops read them.
use Rattle.std.proofs.lemmas.Bool.Decides.{nat_tests}
use Rattle.std.proofs.Common.{◌≡◌, ℕ, ℤ, ◌+◌, ◌^◌, ◌<◌, ◌≤◌, List, [], ◌∷◌, ◌++◌, Bool, true, false, cond, ◌&&◌, not, ◌==◌, ◌⊎◌, length, get_or, drop, Option, Some, None, refl, sym, ap, ◌∙◌, arith, append_assoc, ltb, leb, pos, neg_ℤ, ◌-ℤ◌, ◌-◌, nat_le, ◌*◌, ◌%◌, lit<, add-one, suc, drop-cons}
use Rattle.std.specs.List.{list_all}
use Rattle.std.specs.Char.{is_ascii_digit, digit_value}
use Rattle.std.specs.Str.Parse.{digits_value, digits_value_after}
use Rattle.std.proofs.lemmas.Str.Parse.{IsNumeralModel, numerals_by_value}
use Rattle.std.specs.Prelude.{IsTrue, SomeIff, FitsSigned, slice_index}
use Rattle.std.specs.Bool.{OnTrue}
use Rattle.std.proofs.lemmas.List.{length_push, append-nil, drop_all}
use Rattle.std.proofs.lemmas.Bool.{lt-ltb, le-ltb, le-leb, and_parts}
use Rattle.std.specs.Int.{w64}
use Rattle.std.proofs.lemmas.Nat.{one_shl}
use Rattle.std.proofs.Math.Nat.{pow-le-pow_right}
use Rattle.std.proofs.Common.{rules}
use Rattle.number_text.specs.Numbers.{is_decimal, number, whole_number, number_within}
use Rattle.number_text.specs.Lists.{◌>>=◌, between, list_of, wholes}
use Rattle.number_text.specs.Cores.{bits_from}

pub some_cond : {A : Type 0} (b : Bool) (x y : A) → cond b (Some x) None ≡ Some y → (b ≡ true) × (x ≡ y)
some_cond b x y e1 = grind (arith, nat_tests)

pub own : IsNumeralModel (λ ds. list_all is_ascii_digit ds ≡ true) (digits_value 10)
own = numerals_by_value _ (search rules)

-- ---- digits behind a number

-- the number that digits write behind those of n, where it is below 2 ^ 64
abbrev pub read_from : ℕ → List ℕ → Option ℕ
read_from n ds = cond (list_all is_ascii_digit ds && ltb (digits_value_after 10 n ds) (2 ^ 64)) (Some (digits_value_after 10 n ds)) None

grows : (n : ℕ) (ds : List ℕ) → n ≤ digits_value_after 10 n ds
grows n [] = omega arith
grows n (c ∷ cs) = omega (arith, grows (n * 10 + digit_value c) cs)

more : (n c : ℕ) (cs : List ℕ) → is_ascii_digit c ≡ true → read_from n (c ∷ cs) ≡ read_from (n * 10 + (c - 48)) cs
more n c cs e1 = grind (arith, nat_tests)

large : (n : ℕ) (ds : List ℕ) → 2 ^ 64 ≤ n → read_from n ds ≡ None
large n ds e1 = grind (arith, nat_tests, digits_value_after, le-ltb, grows)

pub read_more : (n i : ℕ) (text : List ℕ) (o : Option ℕ) → i < length text → is_ascii_digit (get_or text i 0) ≡ true → read_from n (drop i text) ≡ o
    → read_from (n * 10 + (get_or text i 0 - 48)) (drop (i + 1) text) ≡ o
read_more n i text o lt h e =
    let k = rw (drop-cons text i 0 lt) at e in
    rw (add-one i) (sym (more n (get_or text i 0) (drop (suc i) text) h) ∙ k)

pub read_over : (n i : ℕ) (text : List ℕ) (o : Option ℕ) → i < length text → is_ascii_digit (get_or text i 0) ≡ true → 2 ^ 64 ≤ n * 10 + (get_or text i 0 - 48)
    → read_from n (drop i text) ≡ o → None ≡ o
read_over n i text o lt h le e = sym (large _ (drop (i + 1) text) le) ∙ read_more n i text o lt h e

pub read_done : (n i : ℕ) (text : List ℕ) (o : Option ℕ) → length text ≤ i → n < 2 ^ 64 → read_from n (drop i text) ≡ o → Some n ≡ o
read_done n i text o e1 e2 e3 = grind (arith, nat_tests, drop_all, lt-ltb)

-- ---- numbers

-- ---- numbers of i64

abbrev none_at : Option ℤ
none_at = None

below : (d : Bool) (v n : ℕ) → Some n ≡ cond (d && ltb v (2 ^ 64)) (Some v) None → (d ≡ true) × (v ≡ n)
below d v n e = let g = some_cond (d && ltb v (2 ^ 64)) v n (sym e) in ((and_parts d (ltb v (2 ^ 64)) g.0).0, g.1)

above : (d : Bool) (v : ℕ) → None ≡ cond (d && ltb v (2 ^ 64)) (Some v) None → (d ≡ false) ⊎ (2 ^ 64 ≤ v)
above d v e1 = grind (arith, nat_tests)

pub plain_small : (text : List ℕ) (n : ℕ) → Some n ≡ number text → n < 2 ^ 63
    → Some (pos n) ≡ cond (is_decimal text && ltb (digits_value 10 text) (2 ^ 63)) (Some (pos (digits_value 10 text))) None
unfolding number
plain_small text n e1 e2 = grind (arith, nat_tests)

pub plain_large : (text : List ℕ) (n : ℕ) → Some n ≡ number text → 2 ^ 63 ≤ n
    → none_at ≡ cond (is_decimal text && ltb (digits_value 10 text) (2 ^ 63)) (Some (pos (digits_value 10 text))) None
unfolding number
plain_large text n e1 e2 = grind (arith, nat_tests)

pub plain_none : (text : List ℕ) → None ≡ number text
    → none_at ≡ cond (is_decimal text && ltb (digits_value 10 text) (2 ^ 63)) (Some (pos (digits_value 10 text))) None
unfolding number
plain_none text e1 = grind (arith, nat_tests)

-- what a minus with these digits is
abbrev pub negative_of : List ℕ → Option ℤ
negative_of ds = cond (is_decimal ds && not (slice_index ds 0 == 48) && leb (digits_value 10 ds) (2 ^ 63)) (Some (neg_ℤ (pos (digits_value 10 ds)))) None

pub negative_some : (ds : List ℕ) (n : ℕ) (r : Option ℤ) → (slice_index ds 0 == 48) ≡ false → Some n ≡ number ds
    → SomeIff r (FitsSigned w64 (pos 0 -ℤ pos n)) (pos 0 -ℤ pos n) → r ≡ negative_of ds
unfolding number
negative_some ds n r e1 e2 e3 = grind (arith, nat_tests)

pub negative_none : (ds : List ℕ) → None ≡ number ds → None ≡ negative_of ds
unfolding number
negative_none ds e1 = grind (arith, nat_tests)

abbrev pub with_front : List ℤ → Option (List ℤ) → Option (List ℤ)
with_front prefix rest = rest >>= λ zs. Some (prefix ++ zs)

step : (prefix : List ℤ) (z : ℤ) (rest : Option (List ℤ)) → with_front prefix (rest >>= λ zs. Some (z ∷ zs)) ≡ with_front (prefix ++ z ∷ []) rest
step prefix z None = refl
step prefix z (Some zs) = ap Some (simp append_assoc)

pub args_more : (prefix : List ℤ) (part : List ℕ) (rest : List (List ℕ)) (z : ℤ) (total : Option (List ℤ)) → Some z ≡ whole_number part
    → with_front prefix (wholes (part ∷ rest)) ≡ total → with_front (prefix ++ z ∷ []) (wholes rest) ≡ total
unfolding wholes
args_more prefix part rest z total e h = sym (step prefix z (wholes rest)) ∙ (rw (← e) at h)

pub args_end : (prefix : List ℤ) (part : List ℕ) (rest : List (List ℕ)) (total : Option (List ℤ)) → None ≡ whole_number part
    → with_front prefix (wholes (part ∷ rest)) ≡ total → total ≡ None
unfolding wholes
args_end prefix part rest total e h = sym (rw (← e) at h)

pub args_done : (prefix : List ℤ) (total : Option (List ℤ)) → with_front prefix (wholes []) ≡ total → total ≡ Some prefix
unfolding wholes
args_done prefix total h = sym h ∙ ap Some (append-nil prefix)

abbrev pub add_bits : ℕ → Option ℕ → Option ℕ
add_bits mask rest = rest >>= λ bits. Some (mask + bits)

add_step : (mask power : ℕ) (rest : Option ℕ) → add_bits mask (rest >>= λ bits. Some (power + bits)) ≡ add_bits (mask + power) rest
add_step mask power rest = grind (arith, nat_tests)

pub cores_more : (mask low core : ℕ) (part : List ℕ) (rest : List (List ℕ)) (total : Option ℕ) → Some core ≡ number_within low 63 part
    → add_bits mask (bits_from low (part ∷ rest)) ≡ total → add_bits (mask + 2 ^ core) (bits_from (core + 1) rest) ≡ total
unfolding bits_from
cores_more mask low core part rest total e h = sym (add_step mask (2 ^ core) (bits_from (core + 1) rest)) ∙ (rw (← e) at h)

pub cores_end : (mask low : ℕ) (part : List ℕ) (rest : List (List ℕ)) (total : Option ℕ) → None ≡ number_within low 63 part
    → add_bits mask (bits_from low (part ∷ rest)) ≡ total → total ≡ None
unfolding bits_from
cores_end mask low part rest total e h = sym (rw (← e) at h)

pub cores_done : (mask low : ℕ) (total : Option ℕ) → add_bits mask (bits_from low []) ≡ total → total ≡ Some mask
unfolding bits_from
cores_done mask low total h = sym h ∙ ap Some (omega arith)

abbrev no : Option (List ℤ)
no = None

pub none_is : (text : List ℕ) → wholes (between 44 text) ≡ None → None ≡ list_of text
unfolding list_of
none_is text e = rw e (elim (nat_le (length (between 44 text)) 16) as (λ b. no ≡ cond b no no) [ true ↦ refl | false ↦ refl ])

pub some_is : (text : List ℕ) (prefix : List ℤ) → length (between 44 text) ≤ 16 → wholes (between 44 text) ≡ Some prefix → Some prefix ≡ list_of text
unfolding list_of
some_is text prefix le e = rw (le-leb _ _ le, e) refl

pub shl_core : (core : ℕ) → core ≤ 63 → 1 * 2 ^ core % 18446744073709551616 ≡ 2 ^ core
shl_core core le = one_shl core 64 (omega arith)

pub room_more : (mask low core : ℕ) → mask < 2 ^ low → low ≤ core → mask + 2 ^ core < 2 ^ (core + 1)
room_more mask low core lt le =
    let p : 2 ^ low ≤ 2 ^ core = pow-le-pow_right (lit< tt) le in
    let q : 2 ^ (core + 1) ≡ 2 * 2 ^ core = rw add-one (omega arith) in
    omega (arith, p, q)

pub pushed : (old new : List ℤ) (z : ℤ) (r : Bool) → r ≡ true → (IsTrue r → length old < 16) → OnTrue r (new ≡ old ++ z ∷ [])
    → (length old < 16) × (new ≡ old ++ z ∷ []) × (length new ≡ length old + 1)
pushed old new z r e1 e2 e3 = grind (arith, nat_tests, length_push)
