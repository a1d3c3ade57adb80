-- What is written is read as the same.
use Rattle.std.proofs.lemmas.Bool.Decides.{nat_tests}
use Rattle.std.proofs.Common.{◌≡◌, ℕ, ℤ, pos, negsuc, neg_ℤ, ◌+◌, ◌*◌, ◌/◌, ◌%◌, ◌^◌, ◌≤◌, ◌<◌, List, [], ◌∷◌, length, true, false, not, ◌||◌, eqb, Some, refl, sym, ap, subst, ◌∙◌, arith, inl, inr, map, get_or, zero, suc, add-mul}
use Rattle.std.specs.Prelude.{slice_index, FitsSigned}
use Rattle.std.specs.List.{AllByRecursion, list_all, join_with_byte}
use Rattle.std.specs.Char.{is_ascii_digit}
use Rattle.std.specs.Int.{w64, bit_at}
use Rattle.std.specs.Fmt.{decimal, signed_decimal}
use Rattle.std.specs.Str.Parse.{digits_value}
use Rattle.std.proofs.lemmas.Bool.{le-leb, lt-ltb, and_parts, and_from, or_right, eq-eqb, ne_eqb, cases_eq}
use Rattle.std.proofs.lemmas.Fmt.{digits_value-decimal, digits_decimal, decimal_nonempty, first_decimal, decimal_digit}
use Rattle.std.proofs.lemmas.List.{length-map}
use Rattle.std.proofs.lemmas.List.Elements.{All-from_recursion}
use Rattle.mtapi_values.specs.Masks.{in_mask}
use Rattle.number_text.specs.Numbers.{is_decimal, number, number_within, whole_number}
use Rattle.number_text.specs.Lists.{between, wholes, list_of, with_commas, list_text}
use Rattle.number_text.specs.Cores.{bits_from, cores_in_text, cores_text}
use Rattle.number_text.proofs.Parsing.{own}
use Rattle.number_text.proofs.Pieces.{between_joined}
unfoldable use Rattle.number_text.proofs.Pieces.{Lacks}
use Rattle.number_text.proofs.Reading.{bind_some, just_is, within_is, pow_double}
use Rattle.number_text.proofs.Spelling.{cores_from, cores_all, twice}

-- ---- numbers

-- the digits that are written have no zero in front of others
no_zero : (n : ℕ) → n < 2 ^ 64 → (eqb (length (decimal n)) 1 || not (eqb (slice_index (decimal n) 0) 48)) ≡ true
no_zero n e1 = grind (arith, nat_tests, cases_eq, decimal_digit, first_decimal, ne_eqb, or_right)

decimal_is : (n : ℕ) → n < 2 ^ 64 → is_decimal (decimal n) ≡ true
decimal_is n lt = and_from _ _ (and_from _ _ (lt-ltb 0 (length (decimal n)) (decimal_nonempty n lt)) (digits_decimal own n lt)) (no_zero n lt)

number_of_text : (text : List ℕ) (n : ℕ) → is_decimal text ≡ true → digits_value 10 text ≡ n → n < 2 ^ 64 → number text ≡ Some n
unfolding number
number_of_text text n d v lt = rw (d, v, lt-ltb n (2 ^ 64) lt) refl

pub number_written : (n : ℕ) → n < 2 ^ 64 → number (decimal n) ≡ Some n
number_written n lt = number_of_text (decimal n) n (decimal_is n lt) (digits_value-decimal own n lt) lt

pub within_from : (low high n : ℕ) (text : List ℕ) → number text ≡ Some n → low ≤ n → n ≤ high → number_within low high text ≡ Some n
unfolding number_within
within_from low high n text e a b = rw (e, le-leb low n a, le-leb n high b) refl

pub within_written : (low high n : ℕ) → n < 2 ^ 64 → low ≤ n → n ≤ high → number_within low high (decimal n) ≡ Some n
within_written low high n lt a b = within_from low high n (decimal n) (number_written n lt) a b

-- the first byte is a digit, and that of a number that is not 0 is not 0
first_digit : (n : ℕ) → n < 2 ^ 64 → 48 ≤ get_or (decimal n) 0 0
first_digit n e1 = grind (arith, nat_tests, cases_eq, decimal_digit, first_decimal)

whole_of_pos : (text : List ℕ) (n : ℕ) → is_decimal text ≡ true → eqb (slice_index text 0) 45 ≡ false → digits_value 10 text ≡ n → n < 2 ^ 63
    → whole_number text ≡ Some (pos n)
unfolding whole_number
whole_of_pos text n d f v lt = rw (f, d, v, lt-ltb n (2 ^ 63) lt) refl

whole_of_neg : (ds : List ℕ) (n : ℕ) → is_decimal ds ≡ true → eqb (slice_index ds 0) 48 ≡ false → digits_value 10 ds ≡ n → n ≤ 2 ^ 63
    → whole_number (45 ∷ ds) ≡ Some (neg_ℤ (pos n))
unfolding whole_number
whole_of_neg ds n d f v le = rw (d, f, v, le-leb n (2 ^ 63) le) refl

pub whole_written : (z : ℤ) → FitsSigned w64 z → whole_number (signed_decimal z) ≡ Some z
whole_written (pos n) f =
    let lt : n < 2 ^ 63 = omega (arith, f.sfits) in
    let wide : n < 2 ^ 64 = omega arith in
    let first = first_digit n wide in
    whole_of_pos (decimal n) n (decimal_is n wide) (ne_eqb _ _ (λ (e : get_or (decimal n) 0 0 ≡ 45). omega (arith, first, e)))
    (digits_value-decimal own n wide) lt
whole_written (negsuc n) f =
    let le : suc n ≤ 2 ^ 63 = omega (arith, f.sfits) in
    let wide : suc n < 2 ^ 64 = omega arith in
    let first = first_decimal (suc n) (omega arith) wide in
    whole_of_neg (decimal (suc n)) (suc n) (decimal_is (suc n) wide) (ne_eqb _ _ (λ (e : get_or (decimal (suc n)) 0 0 ≡ 48). omega (arith, first, e)))
    (digits_value-decimal own (suc n) wide) le

-- ---- texts joined by a byte that none has

digit_lacks : (b : ℕ) → is_ascii_digit b ≡ true → eqb b 44 ≡ false
digit_lacks b e1 = grind (arith, nat_tests)

digits_lack : (ds : List ℕ) → list_all is_ascii_digit ds ≡ true → Lacks 44 ds
unfolding Lacks
digits_lack [] h = tt
digits_lack (d ∷ ds) h = let both = and_parts (is_ascii_digit d) (list_all is_ascii_digit ds) h in (digit_lacks d both.0, digits_lack ds both.1)

decimal_lacks : (n : ℕ) → n < 2 ^ 64 → Lacks 44 (decimal n)
decimal_lacks n lt = digits_lack (decimal n) (digits_decimal own n lt)

minus_lacks : (ds : List ℕ) → Lacks 44 ds → Lacks 44 (45 ∷ ds)
unfolding Lacks
minus_lacks ds h = (refl, h)

whole_lacks : (z : ℤ) → FitsSigned w64 z → Lacks 44 (signed_decimal z)
whole_lacks z e1 = grind (arith, nat_tests, decimal_lacks, minus_lacks)

-- ---- lists

wholes_lack : (zs : List ℤ) → AllByRecursion (FitsSigned w64) zs → AllByRecursion (Lacks 44) (map signed_decimal zs)
wholes_lack [] h = tt
wholes_lack (z ∷ zs) h = (whole_lacks z h.0, wholes_lack zs h.1)

wholes_written : (zs : List ℤ) → AllByRecursion (FitsSigned w64) zs → wholes (map signed_decimal zs) ≡ Some zs
unfolding wholes
wholes_written [] h = refl
wholes_written (z ∷ zs) h = rw (whole_written z h.0, wholes_written zs h.1) refl

list_of_texts : (texts : List (List ℕ)) (text : List ℕ) (zs : List ℤ) → between 44 text ≡ texts → length texts ≤ 16 → wholes texts ≡ Some zs
    → list_of text ≡ Some zs
unfolding list_of
list_of_texts texts text zs e le w = rw (e, le-leb (length texts) 16 le) w

pub list_written : (zs : List ℤ) → 1 ≤ length zs → length zs ≤ 16 → AllByRecursion (FitsSigned w64) zs → list_of (list_text zs) ≡ Some zs
list_written [] some few h = absurd (omega arith)
list_written (z ∷ zs) some few h =
    list_of_texts (map signed_decimal (z ∷ zs)) (list_text (z ∷ zs)) (z ∷ zs)
    (between_joined 44 (signed_decimal z) (map signed_decimal zs) (wholes_lack (z ∷ zs) h))
    (omega (arith, few, length-map (z ∷ zs) signed_decimal))
    (wholes_written (z ∷ zs) h)

-- ---- cores

bits_weaker : (texts : List (List ℕ)) (low bits : ℕ) → bits_from (low + 1) texts ≡ Some bits → bits_from low texts ≡ Some bits
unfolding bits_from
bits_weaker [] low bits e = e
bits_weaker (text ∷ texts) low bits e =
    let a = bind_some (number_within (low + 1) 63 text) _ bits e in
    let w = within_is (low + 1) 63 a.0 text a.1 in
    rw (within_from low 63 a.0 text w.0 (omega (arith, w.1)) w.2) a.2

bits_first : (low bits total : ℕ) (text : List ℕ) (texts : List (List ℕ)) → number_within low 63 text ≡ Some low → bits_from (low + 1) texts ≡ Some bits
    → 2 ^ low + bits ≡ total → bits_from low (text ∷ texts) ≡ Some total
unfolding bits_from
bits_first low bits total text texts e rest sum = rw (e, rest) (ap Some sum)

pub cores_yes : (mask low k : ℕ) → in_mask low mask ≡ true → map decimal (cores_from mask low (suc k)) ≡ decimal low ∷ map decimal (cores_from mask (low + 1) k)
cores_yes mask low k t = rw t refl

pub cores_no : (mask low k : ℕ) → in_mask low mask ≡ false → map decimal (cores_from mask low (suc k)) ≡ map decimal (cores_from mask (low + 1) k)
cores_no mask low k f = rw f refl

lowest : (m low r mask : ℕ) → mask ≡ m * 2 ^ low + r → r < 2 ^ low → bit_at mask low ≡ m % 2
lowest m low r mask e1 e2 = grind (arith, nat_tests)

nothing_left : (m low : ℕ) → m ≡ 0 → bits_from low [] ≡ Some (m * 2 ^ low)
unfolding bits_from
nothing_left m low e = rw e (ap Some (omega arith))

-- the bits from low on, of which m tells k
cores_bits : (k low m r mask : ℕ) → low + k ≡ 64 → mask ≡ m * 2 ^ low + r → r < 2 ^ low → m < 2 ^ k
    → bits_from low (map decimal (cores_from mask low k)) ≡ Some (m * 2 ^ low)
cores_bits zero low m r mask sum e rl ml = nothing_left m low (omega arith)
cores_bits (suc k) low m r mask sum e rl ml =
    let n = m / 2 in
    let less : n < 2 ^ k = omega arith in
    elim (cases_eq (m % 2) 1) [
      | inl one ↦
          let is : m ≡ 2 * n + 1 = omega arith in
          let whole_number : m * 2 ^ low ≡ 2 * n * 2 ^ low + 2 ^ low = ap (λ (x : ℕ). x * 2 ^ low) is ∙ (add-mul (2 * n) 1 (2 ^ low) ∙ omega arith) in
          let split : mask ≡ n * 2 ^ (low + 1) + (2 ^ low + r) = omega (arith, e, whole_number, twice n low) in
          let rest = cores_bits k (low + 1) n (2 ^ low + r) mask (omega arith) split (omega (arith, rl, pow_double low)) less in
          let bit : in_mask low mask ≡ true = eq-eqb _ _ (lowest m low r mask e rl ∙ one) in
          subst (λ (ts : List (List ℕ)). bits_from low ts ≡ Some (m * 2 ^ low)) (sym (cores_yes mask low k bit))
          (bits_first low (n * 2 ^ (low + 1)) (m * 2 ^ low) (decimal low) (map decimal (cores_from mask (low + 1) k))
          (within_written low 63 low (omega arith) (omega arith) (omega arith)) rest (omega (arith, whole_number, twice n low)))
      | inr other ↦
          let is : m ≡ 2 * n = omega arith in
          let whole_number : m * 2 ^ low ≡ 2 * n * 2 ^ low = ap (λ (x : ℕ). x * 2 ^ low) is in
          let split : mask ≡ n * 2 ^ (low + 1) + r = omega (arith, e, whole_number, twice n low) in
          let rest = cores_bits k (low + 1) n r mask (omega arith) split (omega (arith, rl, pow_double low)) less in
          let bit : in_mask low mask ≡ false = ne_eqb _ _ (λ (t : bit_at mask low ≡ 1). other (sym (lowest m low r mask e rl) ∙ t)) in
          let same : n * 2 ^ (low + 1) ≡ m * 2 ^ low = twice n low ∙ sym whole_number in
          subst (λ (ts : List (List ℕ)). bits_from low ts ≡ Some (m * 2 ^ low)) (sym (cores_no mask low k bit))
          (bits_weaker (map decimal (cores_from mask (low + 1) k)) low (m * 2 ^ low) (rest ∙ ap Some same))
    ]

cores_lack : (k low mask : ℕ) → low + k ≡ 64 → AllByRecursion (Lacks 44) (map decimal (cores_from mask low k))
cores_lack zero low mask sum = tt
cores_lack (suc k) low mask sum = grind (arith, nat_tests, cores_lack k (low + 1) mask, in_mask, cores_yes, decimal_lacks, cores_no)

none_bits : (mask : ℕ) → bits_from 0 [] ≡ Some mask → 0 ≡ mask
unfolding bits_from
none_bits mask e = just_is 0 mask e

listed_bits : (texts : List (List ℕ)) (mask : ℕ) → bits_from 0 texts ≡ Some mask → 0 < mask → AllByRecursion (Lacks 44) texts
    → bits_from 0 (between 44 (with_commas texts)) ≡ Some mask
listed_bits [] mask e some h = absurd (let z = none_bits mask e in omega (arith, z))
listed_bits (text ∷ texts) mask e some h = subst (λ (ts : List (List ℕ)). bits_from 0 ts ≡ Some mask) (sym (between_joined 44 text texts h)) e

pub cores_written : (mask : ℕ) → 0 < mask → mask < 2 ^ 64 → cores_in_text (cores_text mask) ≡ Some mask
cores_written mask some lt =
    let unit : mask * 2 ^ 0 ≡ mask = omega arith in
    let all = cores_bits 64 0 mask 0 mask (omega arith) (omega (arith, unit)) (omega arith) lt ∙ ap Some unit in
    let read = listed_bits (map decimal (cores_from mask 0 64)) mask all some (cores_lack 64 0 mask (omega arith)) in
    subst (λ (cs : List ℕ). bits_from 0 (between 44 (with_commas (map decimal cs))) ≡ Some mask) (sym (cores_all mask)) read
