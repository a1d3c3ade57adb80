-- Words that are joined are cut into the same words, and a line of fewer words is shorter.
use Rattle.std.proofs.lemmas.Bool.Decides.{nat_tests}
use Rattle.workload_file.proofs.Cited.{Lacks, between_joined, rest_of, first_rest, ◌≡◌, ℕ, ◌+◌, ◌≤◌, List, [], ◌∷◌, ◌++◌, length, Bool, true, false, not, cond, ◌&&◌, eqb, refl, ap, ◌∙◌, arith, length-append, All, Result, Ok, sym, ◌-◌, replicate, append_assoc, take, get_or, ◌<◌, ◌⊎◌, nat_lt, filter, AllByRecursion, list_all, join_with_byte, onto_first, flat_map, and_parts, and_from, not-true, ne_eqb, All-from_recursion, length-slice_split, join_with_byte-slice_split, between, led, words_of, is_printable, line_text, TextLine, if_any, laid_out, statement_lines_behind, statement_text, lines_of_part, joined, led_append, Bor, map-append, append-nil, take_more, replicate_more, texts_of_words, Reading, Fault, LineError, line_adds, lines_add, Fails, Statement, Part, last_line}

-- ---- what words consist of

-- a printable byte that is no space
abbrev pub is_inner : ℕ → Bool
is_inner b = is_printable b && not (eqb b 32)

abbrev pub is_word : List ℕ → Bool
is_word w = nat_lt 0 (length w) && list_all is_inner w

-- ---- joined words

inner_lacks : (w : List ℕ) → list_all is_inner w ≡ true → Lacks 32 w
unfolding Lacks
inner_lacks [] h = tt
inner_lacks (b ∷ bs) h = grind (arith, nat_tests, inner_lacks bs, and_parts, is_printable, not-true)

words_lack : (ws : List (List ℕ)) → list_all is_word ws ≡ true → AllByRecursion (Lacks 32) ws
words_lack [] h = tt
words_lack (w ∷ ws) h = grind (arith, nat_tests, words_lack ws, and_parts, nat_lt, inner_lacks)

filter_words : (ws : List (List ℕ)) → list_all is_word ws ≡ true → filter (λ w. nat_lt 0 (length w)) ws ≡ ws
filter_words [] h = refl
filter_words (w ∷ ws) h = grind (arith, nat_tests, filter_words ws, and_parts, nat_lt)

pub words_again : (first : List ℕ) (rest : List (List ℕ)) → list_all is_word (first ∷ rest) ≡ true → words_of (line_text (first ∷ rest)) ≡ first ∷ rest
unfolding words_of
words_again first rest h = ap (filter (λ w. nat_lt 0 (length w))) (between_joined 32 first rest (words_lack (first ∷ rest) h)) ∙ filter_words (first ∷ rest) h

-- ---- what joined words consist of

pub all_append : {X : Type 0} (q : X → Bool) (xs ys : List X) → list_all q xs ≡ true → list_all q ys ≡ true → list_all q (xs ++ ys) ≡ true
all_append q [] ys h k = k
all_append q (x ∷ xs) ys h k = let both = and_parts (q x) (list_all q xs) h in and_from _ _ both.0 (all_append q xs ys both.1 k)

pub all_parts : {X : Type 0} (q : X → Bool) (xs ys : List X) → list_all q (xs ++ ys) ≡ true → (list_all q xs ≡ true) × (list_all q ys ≡ true)
all_parts q [] ys h = (refl, h)
all_parts q (x ∷ xs) ys h = grind (arith, nat_tests, all_parts q xs ys, and_parts, and_from)

inner_printable : (w : List ℕ) → list_all is_inner w ≡ true → list_all is_printable w ≡ true
inner_printable [] h = refl
inner_printable (b ∷ bs) h = grind (arith, nat_tests, inner_printable bs, and_parts, is_printable, and_from)

led_printable : (ws : List (List ℕ)) → list_all is_word ws ≡ true → list_all is_printable (led 32 ws) ≡ true
led_printable [] h = refl
led_printable (w ∷ ws) h = grind (arith, nat_tests, led_printable ws, and_parts, nat_lt, all_append, is_printable, inner_printable)

pub line_printable : (first : List ℕ) (rest : List (List ℕ)) → list_all is_word (first ∷ rest) ≡ true → list_all is_printable (line_text (first ∷ rest)) ≡ true
line_printable first rest h =
    let both = and_parts (is_word first) (list_all is_word rest) h in
    let parts = and_parts (nat_lt 0 (length first)) (list_all is_inner first) both.0 in
    rw (joined 32 first rest) (all_append is_printable first (led 32 rest) (inner_printable first parts.1) (led_printable rest both.1))

printable_byte : (b : ℕ) → is_printable b ≡ true → eqb b 10 ≡ false
printable_byte b e1 = grind (arith, nat_tests)

printable_each : (text : List ℕ) → list_all is_printable text ≡ true → AllByRecursion (λ b. eqb b 10 ≡ false) text
printable_each [] h = tt
printable_each (b ∷ bs) h = let both = and_parts (is_printable b) (list_all is_printable bs) h in (printable_byte b both.0, printable_each bs both.1)

pub printable_lacks : (text : List ℕ) → list_all is_printable text ≡ true → All (λ b. eqb b 10 ≡ false) text
printable_lacks text h = All-from_recursion (λ (b : ℕ). eqb b 10 ≡ false) text (printable_each text h)

-- ---- the words of a line

-- one byte more, which ends a piece or stands before the first one
one_more : (b : ℕ) (parts : List (List ℕ)) (ends : Bool) → (ends ≡ false → is_inner b ≡ true) → list_all (λ w. list_all is_inner w) parts ≡ true
    → list_all (λ w. list_all is_inner w) (cond ends ([] ∷ parts) (onto_first b parts)) ≡ true
one_more b parts ends e1 e2 = grind (arith, nat_tests)

pieces_inner : (text : List ℕ) → list_all is_printable text ≡ true → list_all (λ w. list_all is_inner w) (between 32 text) ≡ true
pieces_inner [] h = refl
pieces_inner (b ∷ bs) h = grind (arith, nat_tests, pieces_inner bs, and_parts, is_printable, one_more, and_from)

kept_word : (w : List ℕ) (ws : List (List ℕ)) (keep : Bool) → (keep ≡ true → is_word w ≡ true) → list_all is_word ws ≡ true
    → list_all is_word (cond keep (w ∷ ws) ws) ≡ true
kept_word w ws keep e1 e2 = grind (arith, nat_tests)

kept_words : (ws : List (List ℕ)) → list_all (λ w. list_all is_inner w) ws ≡ true → list_all is_word (filter (λ w. nat_lt 0 (length w)) ws) ≡ true
kept_words [] h = refl
kept_words (w ∷ ws) h = grind (arith, nat_tests, kept_words ws, and_parts, kept_word, nat_lt, and_from)

-- the words of a printable line
pub words_good : (text : List ℕ) → list_all is_printable text ≡ true → list_all is_word (words_of text) ≡ true
unfolding words_of
words_good text h = kept_words (between 32 text) (pieces_inner text h)

-- ---- lengths

pub led_length : (byte : ℕ) (first : List ℕ) (rest : List (List ℕ)) → length (led byte (first ∷ rest)) ≡ length (join_with_byte byte (first ∷ rest)) + 1
led_length byte first rest = rw (joined byte first rest) (omega arith)

filter_shorter : (p : List ℕ → Bool) (xs : List (List ℕ)) → length (led 32 (filter p xs)) ≤ length (led 32 xs)
filter_shorter p [] = omega arith
filter_shorter p (x ∷ xs) = grind (arith, nat_tests, filter_shorter p xs, length-append)

between_led : (byte : ℕ) (ws : List (List ℕ)) (text : List ℕ) → 1 ≤ length ws → join_with_byte byte ws ≡ text → length (led byte ws) ≡ length text + 1
between_led byte [] text h e = absurd (omega arith)
between_led byte (w ∷ ws) text h e = led_length byte w ws ∙ ap (λ (t : List ℕ). length t + 1) e

pub text_led : (byte : ℕ) (text : List ℕ) → length (led byte (between byte text)) ≡ length text + 1
text_led byte text = between_led byte (between byte text) text (omega (arith, length-slice_split (λ b. eqb b byte) text)) (join_with_byte-slice_split byte text)

pub words_shorter : (text : List ℕ) → length (led 32 (words_of text)) ≤ length text + 1
unfolding words_of
words_shorter text = omega (arith, filter_shorter (λ w. nat_lt 0 (length w)) (between 32 text), text_led 32 text)

-- ==== words that are pushed one by one

pub texts_push : (words : List (Bor (List ℕ))) (w : Bor (List ℕ)) → texts_of_words (words ++ w ∷ []) ≡ texts_of_words words ++ w.now ∷ []
texts_push words w = map-append (λ w. w.now) words (w ∷ [])

-- ==== the lines of a text, one after the other, as a loop reads them

pub lines_more : (r s : Reading) (line : ℕ) (text : List ℕ) (texts_of_words : List (List ℕ)) (total : Result Reading Fault) → line_adds r line text ≡ Ok s
    → lines_add r line (text ∷ texts_of_words) ≡ total → lines_add s (line + 1) texts_of_words ≡ total
unfolding lines_add
lines_more r s line text texts_of_words total e h = rw e at h

pub lines_end : (e : LineError) (r : Reading) (line : ℕ) (text : List ℕ) (texts_of_words : List (List ℕ)) (total : Result Reading Fault)
    → Fails e (line_adds r line text) → lines_add r line (text ∷ texts_of_words) ≡ total → Fails e total
unfolding lines_add
lines_end e r line text texts_of_words total e1 e2 = grind (arith, nat_tests)

pub lines_done : (r : Reading) (line : ℕ) (total : Result Reading Fault) → lines_add r line [] ≡ total → total ≡ Ok r
unfolding lines_add
lines_done r line total h = sym h

-- ==== lines laid out one behind the other

pub laid-append : (at : ℕ) (xs ys : List TextLine) → laid_out at (xs ++ ys) ≡ laid_out at xs ++ laid_out (last_line at xs) ys
unfolding laid_out
laid-append at [] ys = refl
laid-append at (x ∷ xs) ys = rw (laid-append x.0 xs ys) (simp append_assoc)

pub last-append : (at : ℕ) (xs ys : List TextLine) → last_line at (xs ++ ys) ≡ last_line (last_line at xs) ys
last-append at [] ys = refl
last-append at (x ∷ xs) ys = last-append x.0 xs ys

pub laid_one : (at line : ℕ) (text : List ℕ) → laid_out at ((line, text) ∷ []) ≡ replicate (line - at) 10 ++ text
unfolding laid_out
laid_one at line text = rw append-nil refl

pub laid_none : (at : ℕ) → laid_out at [] ≡ []
unfolding laid_out
laid_none at = refl

pub statements_push : (before xs : List Statement) (s : Statement)
    → statement_lines_behind before (xs ++ s ∷ []) ≡ statement_lines_behind before xs ++ (s.line, statement_text (before ++ xs) s) ∷ []
unfolding statement_lines_behind
statements_push before [] s = rw append-nil refl
statements_push before (x ∷ xs) s = rw (statements_push (before ++ x ∷ []) xs s, append_assoc) refl

pub statements_none : (before : List Statement) → statement_lines_behind before [] ≡ []
unfolding statement_lines_behind
statements_none before = refl

-- one more line
pub text_more : (first now fed text out : List ℕ) (at line : ℕ) (xs : List TextLine) → now ≡ first ++ laid_out at xs
    → fed ≡ now ++ replicate (line - last_line at xs) 10 → out ≡ fed ++ text → out ≡ first ++ laid_out at (xs ++ (line, text) ∷ [])
text_more first now fed text out at line xs a b c =
    rw (c, b, a, laid-append at xs ((line, text) ∷ []), laid_one (last_line at xs) line text) (simp append_assoc)

pub line_more : (at line : ℕ) (text : List ℕ) (xs : List TextLine) → last_line at (xs ++ (line, text) ∷ []) ≡ line
line_more at line text xs = rw (last-append at xs ((line, text) ∷ [])) refl

-- a line that may be absent
pub no_line : (now text : List ℕ) (at line : ℕ) → line ≡ 0 → now ≡ now ++ laid_out at (if_any line text)
unfolding laid_out
no_line now text at line e = rw e (sym (append-nil now))

pub one_line : (now fed out text : List ℕ) (at line : ℕ) → (line ≡ 0 → ⊥) → fed ≡ now ++ replicate (line - at) 10 → out ≡ fed ++ text
    → out ≡ now ++ laid_out at (if_any line text)
one_line now fed out text at line n a b = rw (b, a, ne_eqb line 0 n, laid_one at line text) (append_assoc now (replicate (line - at) 10) text)

-- lines behind other lines
pub more_lines : (now mid out : List ℕ) (at to : ℕ) (xs ys : List TextLine) → mid ≡ now ++ laid_out at xs → to ≡ last_line at xs → out ≡ mid ++ laid_out to ys
    → out ≡ now ++ laid_out at (xs ++ ys)
more_lines now mid out at to xs ys a b c = rw (c, a, b, laid-append at xs ys) (append_assoc now (laid_out at xs) (laid_out (last_line at xs) ys))

pub more_last : (at to end : ℕ) (xs ys : List TextLine) → to ≡ last_line at xs → end ≡ last_line to ys → end ≡ last_line at (xs ++ ys)
more_last at to end xs ys a b = rw (b, a, last-append at xs ys) refl

-- ---- slices as their first and their rest

pub none_below : {X : Type 0} (xs : List X) → length xs < 1 → xs ≡ []
none_below [] h = refl
none_below (x ∷ xs) h = absurd (omega arith)

pub parts_split : (parts : List Part) (p : Part) → 1 ≤ length parts → p ≡ get_or parts 0 p
    → flat_map lines_of_part parts ≡ lines_of_part p ++ flat_map lines_of_part (rest_of parts)
parts_split parts p h is = ap (λ l. flat_map lines_of_part l) (first_rest parts p h) ∙ rw (← is) refl

-- a line of words
pub words_more : (first mid out word : List ℕ) (words : List (List ℕ)) → mid ≡ first ++ word → out ≡ mid ++ led 32 words
    → out ≡ first ++ join_with_byte 32 (word ∷ words)
words_more first mid out word words a b = rw (b, a, joined 32 word words) (append_assoc first word (led 32 words))

pub led_more : (first mid out : List ℕ) (xs ys : List (List ℕ)) → mid ≡ first ++ led 32 xs → out ≡ mid ++ led 32 ys → out ≡ first ++ led 32 (xs ++ ys)
led_more first mid out xs ys a b = rw (b, a, led_append 32 xs ys) (append_assoc first (led 32 xs) (led 32 ys))

-- the statements up to one more
pub statements_more : (sts : List Statement) (i : ℕ) (s : Statement) → i < length sts → s ≡ get_or sts i s
    → statement_lines_behind [] (take (i + 1) sts) ≡ statement_lines_behind [] (take i sts) ++ (s.line, statement_text (take i sts) s) ∷ []
statements_more sts i s lt is =
    let more : take (i + 1) sts ≡ take i sts ++ get_or sts i s ∷ [] = take_more sts i s lt in
    rw (more, ← is) (statements_push [] (take i sts) s)

-- ==== line feeds up to a line

pub fed_more : (first now out : List ℕ) (line at : ℕ) → line ≤ at → now ≡ first ++ replicate (at - line) 10 → out ≡ now ++ 10 ∷ []
    → out ≡ first ++ replicate (at + 1 - line) 10
fed_more first now out line at e1 e2 e3 = grind (arith, nat_tests, replicate_more, append_assoc)

pub fed_all : (first now : List ℕ) (line at to : ℕ) → (at ≤ to) ⊎ (at ≡ line) → to ≤ at → line ≤ at → now ≡ first ++ replicate (at - line) 10
    → now ≡ first ++ replicate (to - line) 10
fed_all first now line at to e1 e2 e3 e4 = grind (arith, nat_tests)
