-- A handle that was written is read as the same.
use Rattle.std.proofs.lemmas.Bool.Decides.{nat_tests}
use Rattle.journal_text.proofs.Names.{◌≡◌, ℕ, ◌+◌, ◌*◌, ◌/◌, ◌%◌, ◌<◌, ◌≤◌, ◌^◌, List, [], ◌∷◌, ◌++◌, length, drop, Bool, true, false, eqb, Option, Some, None, refl, ap, ◌∙◌, arith, codes, nat_lt, find, before_first, after_first, position_or_len, list_all, is_ascii_digit, nat_le, decimal, leb-true, eqb-true, ne_eqb, and_parts, digits_decimal, ObjectKind, Layout, object_number, named_kind, number, number_within, own, number_written, within_written, kind_letter, kind_lettered, kind_numbered, object_kinds, handle_led, handle_of_word, handle_named, handle_text, named_text, generation, slot, length_push, cond_both, subst, sym, append_assoc, drop-append_seam, take-append_seam}

pub dash_no_handle : handle_of_word (codes "-") ≡ None
unfolding handle_of_word number
dash_no_handle = refl

-- ---- decimal numbers

pub digit_high : (b : ℕ) → is_ascii_digit b ≡ true → 48 ≤ b
digit_high b h = leb-true 48 b (and_parts (nat_le 48 b) (nat_le b 57) h).0

digits_number : (text : List ℕ) → list_all is_ascii_digit text ≡ true → handle_of_word text ≡ number text
unfolding handle_of_word number
digits_number text e1 = grind (arith, nat_tests)

decimal_again : (h : ℕ) → h < 2 ^ 64 → handle_of_word (decimal h) ≡ Some h
decimal_again h f = digits_number (decimal h) (digits_decimal own h f) ∙ number_written h f

-- ---- handles behind a letter

letter_again : (k : ObjectKind) → kind_lettered (kind_letter k) ≡ Some k
letter_again k = grind (arith, nat_tests)

abbrev is_dot : ℕ → Bool
is_dot b = eqb b 46

no_dot : (b : ℕ) → is_ascii_digit b ≡ true → is_dot b ≡ false
no_dot b h = ne_eqb b 46 (λ (e : b ≡ 46). omega (arith, digit_high b h))

dot_place : (ds xs : List ℕ) → list_all is_ascii_digit ds ≡ true → position_or_len is_dot (ds ++ 46 ∷ xs) ≡ length ds
dot_place [] xs h = refl
dot_place (d ∷ ds) xs h = grind (arith, nat_tests, dot_place ds xs, and_parts, no_dot)

drop_front : (ds xs : List ℕ) (x n : ℕ) → n ≡ length ds + 1 → drop n (ds ++ x ∷ xs) ≡ xs
drop_front ds xs x n e =
    subst (λ (m : ℕ). drop m (ds ++ x ∷ xs) ≡ xs) (length_push ds x ∙ sym e)
    (ap (drop (length (ds ++ x ∷ []))) (sym (append_assoc ds (x ∷ []) xs)) ∙ drop-append_seam (ds ++ x ∷ []) xs)

front_is : (ds xs : List ℕ) → list_all is_ascii_digit ds ≡ true → before_first is_dot (ds ++ 46 ∷ xs) ≡ ds
front_is ds xs h = rw (dot_place ds xs h) (take-append_seam ds (46 ∷ xs))

back_is : (ds xs : List ℕ) → list_all is_ascii_digit ds ≡ true → after_first is_dot (ds ++ 46 ∷ xs) ≡ xs
back_is ds xs h = rw (dot_place ds xs h) (drop_front ds xs 46 _ (omega arith))

whole_handle : (h q s p n g t : ℕ) → 2 ^ 24 * q + s ≡ h → s < 2 ^ 24 → 256 * p + n ≡ q → n < 256 → 2 ^ 32 * g + t ≡ h → t < 2 ^ 32
    → g * 2 ^ 32 + n * 2 ^ 24 + s ≡ h
whole_handle h q s p n g t a b c d e f = omega arith

div_parts : (x n : ℕ) → 0 < n → n * (x / n) + x % n ≡ x
div_parts x n h = omega arith

pub mod_less : (x n : ℕ) → 0 < n → x % n < n
mod_less x n h = omega arith

handle_whole : (h : ℕ) → h / 2 ^ 32 * 2 ^ 32 + named_kind h * 2 ^ 24 + h % 2 ^ 24 ≡ h
handle_whole h = grind (arith, nat_tests, whole_handle, div_parts, mod_less)

pub generation_fits : (h : ℕ) → h < 2 ^ 64 → h / 2 ^ 32 < 2 ^ 32
generation_fits h f = let parts = div_parts h (2 ^ 32) (omega arith) in omega arith

named_from : (k : ObjectKind) (text : List ℕ) (g s : ℕ) → number_within 0 4294967295 (before_first is_dot text) ≡ Some g
    → number_within 0 16777215 (after_first is_dot text) ≡ Some s → handle_named k text ≡ Some (g * 2 ^ 32 + object_number k * 2 ^ 24 + s)
unfolding handle_named
named_from k text g s a b = rw (a, b) refl

named_again : (k : ObjectKind) (h : ℕ) → h < 2 ^ 64 → object_number k ≡ named_kind h → handle_named k (decimal (generation h) ++ 46 ∷ decimal (slot h)) ≡ Some h
named_again k h f n =
    let few = generation_fits h f in
    let low = mod_less h (2 ^ 24) (omega arith) in
    let digits = digits_decimal own (h / 2 ^ 32) (omega arith) in
    let prefix = front_is (decimal (generation h)) (decimal (slot h)) digits in
    let back = back_is (decimal (generation h)) (decimal (slot h)) digits in
    let a = ap (number_within 0 4294967295) prefix ∙ within_written 0 4294967295 (h / 2 ^ 32) (omega arith) (omega arith) (omega arith) in
    let b = ap (number_within 0 16777215) back ∙ within_written 0 16777215 (h % 2 ^ 24) (omega arith) (omega arith) (omega arith) in
    named_from k (decimal (generation h) ++ 46 ∷ decimal (slot h)) (h / 2 ^ 32) (h % 2 ^ 24) a b
    ∙ ap (λ m. Some (h / 2 ^ 32 * 2 ^ 32 + m * 2 ^ 24 + h % 2 ^ 24)) n
    ∙ ap Some (handle_whole h)

found_passes : {X : Type 0} (p : X → Bool) (all : List X) (x : X) → find p all ≡ Some x → p x ≡ true
found_passes p [] x e = absurd cc
found_passes p (y ∷ ys) x e = cond_both (p y) (Some y) (find p ys) (λ o. o ≡ Some x → p x ≡ true) (λ is f. cc) (λ is f. found_passes p ys x f) e

kind_again : (h : ℕ) (o : Option ObjectKind) → h < 2 ^ 64 → kind_numbered (named_kind h) ≡ o → handle_of_word (named_text o h) ≡ Some h
unfolding handle_of_word
kind_again h o e1 e2 = grind (arith, nat_tests, decimal_again, eqb-true, found_passes, letter_again, named_again)

pub handle_again : (l : Layout) (h : ℕ) → h < 2 ^ 64 → handle_of_word (handle_text l h) ≡ Some h
unfolding handle_text
handle_again l h e1 = grind (arith, nat_tests, decimal_again, nat_lt, kind_again, kind_numbered, named_kind)
