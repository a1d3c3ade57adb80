-- Words that are written have no space, and lines no line feed.
use Rattle.std.proofs.lemmas.Bool.Decides.{nat_tests}
use Rattle.journal_text.proofs.Names.{◌≡◌, ℕ, ℤ, ◌<◌, ◌≤◌, ◌^◌, List, [], ◌∷◌, ◌++◌, map, Bool, true, false, eqb, Option, Some, None, refl, ap, ◌∙◌, arith, nat_lt, FitsSigned, AllByRecursion, list_all, join_with_byte, is_ascii_digit, w64, decimal, signed_decimal, and_parts, and_from, lt-ltb, ltb-true, ne_eqb, eq-eqb, digits_decimal, All-from_recursion, slice_split_at, slice_split_none, TaskEnd, ObjectKind, Layout, Kind, MtapiStatus, MrapiStatus, kind_word, named_kind, mtapi_name, mrapi_name, between, own, Status, Value, OpWord, ReplyWord, kind_letter, kind_numbered, named_text, handle_text, value_words, values_words, args_text, op_row, reply_row, ValueFits, AreArgs}
use Rattle.journal_text.proofs.HandlesAgain.{digit_high, generation_fits, mod_less}

-- each byte is above this one
abbrev pub is_above : ℕ → List ℕ → Bool
is_above n text = list_all (λ b. nat_lt n b) text

abbrev pub is_plain : List ℕ → Bool
is_plain text = is_above 32 text

pub all_append : {X : Type 0} (p : X → Bool) (xs ys : List X) → list_all p xs ≡ true → list_all p ys ≡ true → list_all p (xs ++ ys) ≡ true
all_append p [] ys h k = k
all_append p (x ∷ xs) ys h k = let both = and_parts (p x) (list_all p xs) h in and_from _ _ both.0 (all_append p xs ys both.1 k)

lacks : (c n : ℕ) (text : List ℕ) → c ≤ n → is_above n text ≡ true → AllByRecursion (λ b. eqb b c ≡ false) text
lacks c n [] le h = tt
lacks c n (b ∷ bs) le h = let both = and_parts (nat_lt n b) (is_above n bs) h in let above = ltb-true n b both.0 in
    (ne_eqb b c (λ (e : b ≡ c). omega arith), lacks c n bs le both.1)

pub between_words : (first : List ℕ) (rest : List (List ℕ)) → list_all is_plain (first ∷ rest) ≡ true
    → between 32 (join_with_byte 32 (first ∷ rest)) ≡ first ∷ rest
between_words first [] h =
    slice_split_none (λ b. eqb b 32) first (All-from_recursion (λ (b : ℕ). eqb b 32
    ≡ false) first (lacks 32 32 first (omega arith) (and_parts (is_plain first) true h).0))
between_words first (next ∷ rest) h =
    let both = and_parts (is_plain first) (list_all is_plain (next ∷ rest)) h in
    slice_split_at (λ b. eqb b 32) first 32 (join_with_byte 32 (next ∷ rest))
    (All-from_recursion (λ (b : ℕ). eqb b 32 ≡ false) first (lacks 32 32 first (omega arith) both.0)) (eq-eqb 32 32 refl)
    ∙ ap (λ l. first ∷ l) (between_words next rest both.1)

-- a line without its line feed, before other text
pub between_line : (line text : List ℕ) → is_above 10 line ≡ true → between 10 (line ++ 10 ∷ text) ≡ line ∷ between 10 text
between_line line text h = slice_split_at (λ b. eqb b 10) line 10 text
    (All-from_recursion (λ (b : ℕ). eqb b 10 ≡ false) line (lacks 10 10 line (omega arith) h)) (eq-eqb 10 10 refl)

lower : (text : List ℕ) → is_plain text ≡ true → is_above 10 text ≡ true
lower [] h = refl
lower (b ∷ bs) h = let both = and_parts (nat_lt 32 b) (is_plain bs) h in let above = ltb-true 32 b both.0 in
    and_from _ _ (lt-ltb 10 b (omega arith)) (lower bs both.1)

-- words joined by spaces have no line feed
pub joined_above : (words : List (List ℕ)) → list_all is_plain words ≡ true → is_above 10 (join_with_byte 32 words) ≡ true
joined_above [] h = refl
joined_above (w ∷ []) h = lower w (and_parts (is_plain w) true h).0
joined_above (w ∷ next ∷ words) h = grind (arith, nat_tests, joined_above (next ∷ words), and_parts, all_append, nat_lt, join_with_byte, lower)

commas_plain : (words : List (List ℕ)) → AllByRecursion (λ w. is_plain w ≡ true) words → is_plain (join_with_byte 44 words) ≡ true
commas_plain [] h = refl
commas_plain (w ∷ []) h = h.0
commas_plain (w ∷ next ∷ words) h = all_append (λ b. nat_lt 32 b) w (44 ∷ join_with_byte 44 (next ∷ words)) h.0 (commas_plain (next ∷ words) h.1)

-- ---- numbers

digits_plain : (ds : List ℕ) → list_all is_ascii_digit ds ≡ true → is_plain ds ≡ true
digits_plain [] h = refl
digits_plain (d ∷ ds) h = let both = and_parts (is_ascii_digit d) (list_all is_ascii_digit ds) h in let high = digit_high d both.0 in
    and_from _ _ (lt-ltb 32 d (omega arith)) (digits_plain ds both.1)

pub decimal_plain : (n : ℕ) → n < 2 ^ 64 → is_plain (decimal n) ≡ true
decimal_plain n lt = digits_plain (decimal n) (digits_decimal own n lt)

whole_plain : (z : ℤ) → FitsSigned w64 z → is_plain (signed_decimal z) ≡ true
whole_plain z e1 = grind (arith, nat_tests, decimal_plain)

wholes_plain : (zs : List ℤ) → AllByRecursion (FitsSigned w64) zs → AllByRecursion (λ w. is_plain w ≡ true) (map signed_decimal zs)
wholes_plain [] h = tt
wholes_plain (z ∷ zs) h = (whole_plain z h.0, wholes_plain zs h.1)

args_plain : (zs : List ℤ) → AreArgs zs → is_plain (args_text zs) ≡ true
args_plain [] f = refl
args_plain (z ∷ zs) f = commas_plain (map signed_decimal (z ∷ zs)) (wholes_plain (z ∷ zs) f.fit)

-- ---- names

kind_plain : (k : Kind) → is_plain (kind_word k) ≡ true
kind_plain k = grind (arith, nat_tests)

mtapi_plain : (s : MtapiStatus) → is_plain (mtapi_name s) ≡ true
mtapi_plain s = grind (arith, nat_tests)

mrapi_plain : (s : MrapiStatus) → is_plain (mrapi_name s) ≡ true
mrapi_plain s = grind (arith, nat_tests)

pub op_plain : (w : OpWord) → is_plain (op_row w).0 ≡ true
unfolding op_row
op_plain w = grind (arith, nat_tests)

pub reply_plain : (w : ReplyWord) → is_plain (reply_row w).0 ≡ true
unfolding reply_row
reply_plain w = grind (arith, nat_tests)

-- ---- handles

letter_plain : (k : ObjectKind) → nat_lt 32 (kind_letter k) ≡ true
letter_plain k = grind (arith, nat_tests)

named_plain : (o : Option ObjectKind) (h : ℕ) → h < 2 ^ 64 → is_plain (named_text o h) ≡ true
named_plain o h e1 = grind (arith, nat_tests, decimal_plain, generation_fits, mod_less, and_from, letter_plain, all_append)

handle_plain : (l : Layout) (h : ℕ) → h < 2 ^ 64 → is_plain (handle_text l h) ≡ true
unfolding handle_text
handle_plain l h e1 = grind (arith, nat_tests, decimal_plain, nat_lt, named_plain, kind_numbered, named_kind)

-- ---- values

single : (w : List ℕ) → is_plain w ≡ true → list_all is_plain (w ∷ []) ≡ true
single w h = and_from _ _ h refl

value_plain : (l : Layout) (v : Value) → ValueFits v → list_all is_plain (value_words l v) ≡ true
unfolding value_words
value_plain l v e1 = grind (arith, nat_tests, single, decimal_plain, whole_plain, kind_plain, args_plain, handle_plain, mtapi_plain, mrapi_plain)

pub values_plain : (l : Layout) (vs : List Value) → AllByRecursion ValueFits vs → list_all is_plain (values_words l vs) ≡ true
values_plain l [] f = refl
values_plain l (v ∷ vs) f = all_append is_plain (value_words l v) (values_words l vs) (value_plain l v f.0) (values_plain l vs f.1)
