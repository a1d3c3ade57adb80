-- The index of a part's names, and the places at which the names are bound.
use Rattle.std.proofs.lemmas.Bool.Decides.{nat_tests}
use Rattle.workload_file.proofs.Cited.{◌≡◌, ℕ, ◌+◌, ◌<◌, ◌≤◌, List, [], ◌∷◌, ◌++◌, Bool, true, false, cond, eqb, length, Option, Some, None, is_some, not, refl, arith, inl, inr, pow_mono, pow-add, ◌*◌, ◌-◌, ◌^◌, get_or, drop, nat_lt, nat_le, length_push, position_or_len, list_all, bytes_eq, bytes_eq-Decides, position_or_len_push, cases_Bool, eq-eqb, and_parts, eqb-true, Statement, bound_at, is_called, first_of_two, is_name, is_name_byte, begins_with_letter}
use Rattle.std.proofs.lemmas.List.{drop_all, drop_more}
use Rattle.workload_file.specs.Indexed.{key_of}

pub bytes_are : (xs ys : List ℕ) → bytes_eq xs ys ≡ true → xs ≡ ys
bytes_are xs ys h = (bytes_eq-Decides xs ys).0 h

pub bytes_same : (xs : List ℕ) → bytes_eq xs xs ≡ true
bytes_same xs = (bytes_eq-Decides xs xs).1 refl

-- ---- the place at which a name is bound, after one more statement

push_place : (p : Bool) (i len : ℕ) → i ≤ len
    → first_of_two (cond (nat_lt i len) (Some i) None) (cond p (Some len) None)
    ≡ cond (nat_lt (cond (eqb i len) (len + cond p 0 1) i) (len + 1)) (Some (cond (eqb i len) (len + cond p 0 1) i)) None
push_place p i len e1 = grind (arith, nat_tests)

position_le : {X : Type 0} (p : X → Bool) (xs : List X) → position_or_len p xs ≤ length xs
position_le p [] = omega arith
position_le p (x ∷ xs) = grind (arith, nat_tests, position_le p xs, cases_Bool, position_or_len)

pub bound_push : (name : List ℕ) (sts : List Statement) (s : Statement)
    → first_of_two (bound_at name sts) (cond (is_called name s.name) (Some (length sts)) None) ≡ bound_at name (sts ++ s ∷ [])
bound_push name sts s = rw (position_or_len_push (λ s. is_called name s.name) sts s, length_push sts s)
    (push_place (is_called name s.name) (position_or_len (λ s. is_called name s.name) sts) (length sts) (position_le (λ s. is_called name s.name) sts))

pub apart_sym : (xs ys : List ℕ) → bytes_eq xs ys ≡ false → bytes_eq ys xs ≡ false
apart_sym xs ys h =
    elim (cases_Bool (bytes_eq ys xs)) [
      | inl t ↦ absurd (let same = bytes_are ys xs t in let t2 : bytes_eq xs ys ≡ true = rw same (bytes_same xs) in cc)
      | inr f ↦ f
    ]

-- ==== no two names stand at one number, and what the index has after one more

-- ---- the number of a text

pub key_none : (text : List ℕ) → 0 ≡ key_of (drop (length text) text)
unfolding key_of
key_none text = rw (drop_all (length text) text (omega arith)) refl

-- one digit more
pub key_more : (text : List ℕ) (at key d : ℕ) → 0 < at → at ≤ length text → key ≡ key_of (drop at text)
    → key * 256 + get_or text (at - 1) d ≡ key_of (drop (at - 1) text)
unfolding key_of
key_more text at key d e1 e2 e3 = grind (arith, nat_tests, drop_more)

pub key_next : (n at key digit : ℕ) → 0 < at → at ≤ n → key < 2 ^ (8 * (n - at)) → digit < 256 → key * 256 + digit < 2 ^ (8 * (n - (at - 1)))
key_next n at key digit low high fits small =
    let more : 2 ^ (8 * (n - at) + 8) ≡ 2 ^ (8 * (n - at)) * 256 = pow-add 2 (8 * (n - at)) 8 in
    let same : 8 * (n - (at - 1)) ≡ 8 * (n - at) + 8 = omega (arith, low, high) in
    rw same (omega (arith, small, fits, more))

-- up to 16 digits fit 128 bits
pub key_wide : (n k : ℕ) → n ≤ 16 → k < 2 ^ (8 * n) → k < 2 ^ 128
key_wide n k high fits = let most : 2 ^ (8 * n) ≤ 2 ^ 128 = pow_mono {i = 8 * n} {j = 128} (omega (arith, high)) in omega (arith, fits, most)

-- ---- a number has one name

pub name_short : (text : List ℕ) → is_name text ≡ true → length text ≤ 16
unfolding is_name
name_short text e1 = grind (arith, nat_tests)

-- a byte of a name is a digit to base 256, and not 0
record IsDigit (b : ℕ) : Type 0 where
  above : 0 < b
  below : b < 256

digit : (b : ℕ) → is_name_byte b ≡ true → IsDigit b
digit b e1 = grind (arith, nat_tests)

digits_same : (xs ys : List ℕ) → list_all is_name_byte xs ≡ true → list_all is_name_byte ys ≡ true → key_of xs ≡ key_of ys → xs ≡ ys
unfolding key_of
digits_same [] [] h k e = refl
digits_same [] (y ∷ ys) h k e = let d = digit y (and_parts (is_name_byte y) (list_all is_name_byte ys) k).0 in absurd (omega (arith, d.above, e))
digits_same (x ∷ xs) [] h k e = let d = digit x (and_parts (is_name_byte x) (list_all is_name_byte xs) h).0 in absurd (omega (arith, d.above, e))
digits_same (x ∷ xs) (y ∷ ys) h k e = grind (arith, nat_tests, digits_same xs ys, and_parts, is_name_byte, digit, key_of)

names_same : (xs ys : List ℕ) → is_name xs ≡ true → is_name ys ≡ true → key_of xs ≡ key_of ys → xs ≡ ys
unfolding is_name
names_same xs ys e1 e2 e3 = grind (arith, nat_tests, and_parts, begins_with_letter, nat_le, is_name_byte, digits_same)

-- keys apart of names apart
keys_apart : (xs ys : List ℕ) → is_name xs ≡ true → is_name ys ≡ true → bytes_eq xs ys ≡ false → eqb (key_of xs) (key_of ys) ≡ false
keys_apart xs ys e1 e2 e3 = grind (arith, nat_tests, cases_Bool, key_of, names_same, eqb-true, bytes_eq, bytes_same)

-- ---- numbers of 64 bits and longer ones, each in a map of its own

pub put_short : (key k place : ℕ) (new old long : Option ℕ) → key < 2 ^ 64 → new ≡ cond (eqb key k) (Some place) old
    → cond (nat_lt k (2 ^ 64)) new long ≡ cond (eqb key k) (Some place) (cond (nat_lt k (2 ^ 64)) old long)
put_short key k place new old long e1 e2 = grind (arith, nat_tests)

pub put_long : (key k place : ℕ) (new old short : Option ℕ) → 2 ^ 64 ≤ key → new ≡ cond (eqb key k) (Some place) old
    → cond (nat_lt k (2 ^ 64)) short new ≡ cond (eqb key k) (Some place) (cond (nat_lt k (2 ^ 64)) short old)
put_long key k place new old short e1 e2 = grind (arith, nat_tests)

pub none_is : (x : Option ℕ) (none : Bool) → is_some x ≡ not none → none ≡ true → x ≡ None
none_is x none e1 e2 = grind (arith, nat_tests)

pub alone : (x : Option ℕ) → x ≡ first_of_two x None
alone x = grind (arith, nat_tests)

-- the place of each text, after a name that had none got one
pub put : (name other : List ℕ) (place : ℕ) (before : Option ℕ) → is_name name ≡ true → (bytes_eq name other ≡ true → before ≡ None)
    → cond (is_name other) (cond (eqb (key_of name) (key_of other)) (Some place) before) None
    ≡ first_of_two (cond (is_name other) before None) (cond (bytes_eq name other) (Some place) None)
put name other place before e1 e2 = grind (arith, nat_tests, cases_Bool, bytes_eq, bytes_are, eq-eqb, key_of, bytes_same, is_name, keys_apart, alone)
