-- Lines of words: that they are read, and how long they are.
use Rattle.std.proofs.lemmas.Bool.Decides.{nat_tests}
use Rattle.generated_workload.proofs.Names.{◌≡◌, ℕ, ◌+◌, ◌^◌, ◌≤◌, ◌<◌, List, [], ◌∷◌, ◌++◌, length, true, Some, Ok, refl, sym, subst, ◌∙◌, arith, list_all, join_with_byte, is_ascii_digit, decimal, and_parts, and_from, le-leb, lt-ltb, digits_decimal, led, own, within_written, Reading, line_text, bind_ok, ok_is, IsRead, states, is_inner, is_word, words_again, line_printable, led_length, change_of}
use Rattle.std.proofs.Common.{length-append}
use Rattle.workload_file.specs.Reading.{with_change, line_adds, lines_add}
use Rattle.workload_file.specs.Values.{number_in_32, number_from_to}
use Rattle.workload_file.specs.Alike.{IsPlain}
use Rattle.workload_file.specs.declared.table.Word.{Word}

-- ---- numbers in words

digit_inner : (b : ℕ) → is_ascii_digit b ≡ true → is_inner b ≡ true
digit_inner b h = grind (arith, nat_tests)

digits_inner : (ds : List ℕ) → list_all is_ascii_digit ds ≡ true → list_all is_inner ds ≡ true
digits_inner [] h = refl
digits_inner (d ∷ ds) h = let both = and_parts (is_ascii_digit d) (list_all is_ascii_digit ds) h in and_from _ _ (digit_inner d both.0) (digits_inner ds both.1)

pub decimal_inner : (n : ℕ) → n < 2 ^ 64 → list_all is_inner (decimal n) ≡ true
decimal_inner n lt = digits_inner (decimal n) (digits_decimal own n lt)

pub inner_word : (b : ℕ) (bs : List ℕ) → list_all is_inner (b ∷ bs) ≡ true → is_word (b ∷ bs) ≡ true
inner_word b bs h = and_from _ _ (lt-ltb 0 (length (b ∷ bs)) (omega arith)) h

pub within_decimal : (low high n : ℕ) → low ≤ n → n ≤ high → n ≤ 4294967295 → number_from_to low high (decimal n) ≡ Some n
unfolding number_from_to number_in_32
within_decimal low high n a b c = rw (within_written 0 4294967295 n (omega arith) (omega arith) c, le-leb low n a, le-leb n high b) refl

-- ---- lengths

-- how long these texts are, each with one byte more
unfoldable pub total : List (List ℕ) → ℕ
total [] = 0
total (x ∷ xs) = 1 + (length x + total xs)

pub total_append : (xs ys : List (List ℕ)) → total (xs ++ ys) ≡ total xs + total ys
unfolding total
total_append [] ys = omega arith
total_append (x ∷ xs) ys = let rest = total_append xs ys in omega (arith, rest)

led_total : (byte : ℕ) (xs : List (List ℕ)) → length (led byte xs) ≡ total xs
unfolding total
led_total byte [] = refl
led_total byte (x ∷ xs) = let rest = led_total byte xs in omega (arith, rest, length-append x (led byte xs))

pub joined_total : (byte : ℕ) (x : List ℕ) (xs : List (List ℕ)) → length (join_with_byte byte (x ∷ xs)) + 1 ≡ total (x ∷ xs)
joined_total byte x xs = sym (led_length byte x xs) ∙ led_total byte (x ∷ xs)

-- ---- lines

-- a statement by its words
pub words_add : (r : Reading) (line : ℕ) (first : List ℕ) (rest : List (List ℕ)) (w : Word) (name : List ℕ) (options : List (List ℕ))
    → list_all is_word (first ∷ rest) ≡ true → total (first ∷ rest) ≤ 513 → IsRead r first rest w name options
    → line_adds r line (line_text (first ∷ rest)) ≡ Ok (with_change r line (Some (change_of r line w name options)))
unfolding line_adds
words_add r line first rest w name options words few read =
    let size = joined_total 32 first rest in
    let plain : IsPlain (line_text (first ∷ rest)) = record { short = omega (arith, size, few); printable = line_printable first rest words } in
    rw (states r line (line_text (first ∷ rest)) first rest w name options plain (words_again first rest words) read) refl

pub more : (r mid s : Reading) (line : ℕ) (text : List ℕ) (texts : List (List ℕ)) → line_adds r line text ≡ Ok mid → lines_add mid (line + 1) texts ≡ Ok s
    → lines_add r line (text ∷ texts) ≡ Ok s
unfolding lines_add
more r mid s line text texts e h = rw e h

-- one line more
pub push : (texts : List (List ℕ)) (r s t : Reading) (line : ℕ) (text : List ℕ) → lines_add r line texts ≡ Ok s → line_adds s (line + length texts) text ≡ Ok t
    → lines_add r line (texts ++ text ∷ []) ≡ Ok t
unfolding lines_add
push [] r s t line text e f =
    let at : line + 0 ≡ line = omega arith in
    let here : line_adds s line text ≡ Ok t = subst (λ (k : ℕ). line_adds s k text ≡ Ok t) at f in
    let same : r ≡ s = ok_is r s e in
    rw (subst (λ (x : Reading). line_adds x line text ≡ Ok t) (sym same) here) refl
push (x ∷ xs) r s t line text e f =
    let b = bind_ok (line_adds r line x) _ s e in
    let at : line + length (x ∷ xs) ≡ (line + 1) + length xs = omega arith in
    more r b.0 t line x (xs ++ text ∷ []) b.1 (push xs b.0 s t (line + 1) text b.2 (subst (λ (k : ℕ). line_adds s k text ≡ Ok t) at f))
