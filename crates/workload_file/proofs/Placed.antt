-- Options at their places, and words that add nothing.
use Rattle.std.proofs.lemmas.Bool.Decides.{nat_tests}
use Rattle.workload_file.proofs.Cited.{◌≡◌, ℕ, zero, suc, ◌<◌, ◌≤◌, ◌+◌, ◌-◌, ◌⊎◌, List, [], ◌∷◌, ◌++◌, length, Bool, true, false, cond, eqb, Option, Some, None, Ok, is_some, refl, sym, ap, ◌∙◌, arith, inl, inr, map, get_or, take, drop, replicate, find, list_any, list_all, bytes_eq, option_map, or_parts, and_parts, and_from, cases_Bool, Field, Key, Word, Statement, OptionValue, Reading, fields, key_text, key_of, value_of, text_of, field_of, is_known, has_twice, option_value_at, values_in, length-map, length-append, take_more, take_all, with_change, is_statement, is_comment, words_meet, word_causes, words_say, rest_of, first_rest, some_cond}
use Rattle.std.specs.Prelude.{set}
use Rattle.std.proofs.lemmas.List.{drop_all, drop_more, length-drop, map-set}
use Rattle.std.specs.Option.{option_copied}
use Rattle.workload_file.specs.Options.{opens}
use Rattle.workload_file.specs.Texts.{texts_of_words}
use Rattle.workload_file.specs.Steps.{texts_in, IsOptionAt, values_of, unless_met}
use Rattle.workload_file.proofs.Facts.{some, nothing, none_some, silent_says}
use Rattle.workload_file.proofs.Fields.{AreApart, fields_apart, option_is}
use Rattle.workload_file.proofs.Invariant.{any_push}
use Rattle.workload_file.proofs.Phrases.{none_below}
use Rattle.workload_file.proofs.Places.{bytes_are, bytes_same, apart_sym}
use Rattle.workload_file.proofs.Spelling.{spelled}
use denote.Ref.{Bor}

-- ---- a word that is a key, = and a value

shut : (b : Bool) (x : List ℕ) → (b ≡ true → ⊥) → nothing (List ℕ) ≡ cond b (Some x) None
shut b x e1 = grind (arith, nat_tests)

whole : (k : Key) (word : List ℕ) → opens word (key_text k) ≡ true → word ≡ key_text k ++ 61 ∷ value_of word
whole k word h =
    let both = and_parts (list_any (λ b. eqb b 61) word) (bytes_eq (key_text k) (key_of word)) h in
    rw (bytes_are (key_text k) (key_of word) both.1) (spelled word both.0)

get_middle : (xs ys : List ℕ) (y d : ℕ) → get_or (xs ++ y ∷ ys) (length xs) d ≡ y
get_middle [] ys y d = refl
get_middle (x ∷ xs) ys y d = get_middle xs ys y d

take_front : (xs ys : List ℕ) → take (length xs) (xs ++ ys) ≡ xs
take_front [] ys = refl
take_front (x ∷ xs) ys = ap (λ (zs : List ℕ). x ∷ zs) (take_front xs ys)

parts : (n : ℕ) (xs : List ℕ) (d : ℕ) → n < length xs → xs ≡ take n xs ++ get_or xs n d ∷ drop (n + 1) xs
parts n [] d h = absurd (omega (arith, h))
parts zero (x ∷ xs) d h = refl
parts (suc n) (x ∷ xs) d h = let next : suc n + 1 ≡ suc (n + 1) = omega arith in rw next (ap (λ (zs : List ℕ). x ∷ zs) (parts n xs d (omega (arith, h))))

pub shut_short : (k : Key) (word : List ℕ) → length word ≤ length (key_text k) → nothing (List ℕ) ≡ cond (opens word (key_text k)) (Some (value_of word)) None
shut_short k word h = shut (opens word (key_text k)) (value_of word) (λ t.
    let e : length word ≡ length (key_text k ++ 61 ∷ value_of word) = ap (λ (l : List ℕ). length l) (whole k word t) in
    omega (arith, h, e, length-append (key_text k) (61 ∷ value_of word)))

pub shut_byte : (k : Key) (word : List ℕ) (d : ℕ) → (get_or word (length (key_text k)) d ≡ 61 → ⊥)
    → nothing (List ℕ) ≡ cond (opens word (key_text k)) (Some (value_of word)) None
shut_byte k word d h = shut (opens word (key_text k)) (value_of word)
    (λ t. h (ap (λ (l : List ℕ). get_or l (length (key_text k)) d) (whole k word t) ∙ get_middle (key_text k) (value_of word) 61 d))

pub shut_key : (k : Key) (word : List ℕ) → bytes_eq (take (length (key_text k)) word) (key_text k) ≡ false
    → nothing (List ℕ) ≡ cond (opens word (key_text k)) (Some (value_of word)) None
shut_key k word h = shut (opens word (key_text k)) (value_of word) (λ t.
    let e = ap (take (length (key_text k))) (whole k word t) ∙ take_front (key_text k) (61 ∷ value_of word) in
    let same : bytes_eq (take (length (key_text k)) word) (key_text k) ≡ true = rw e (bytes_same (key_text k)) in
    cc)

gives_rest : (k : Key) (word rest : List ℕ) → word ≡ key_text k ++ 61 ∷ rest → some rest ≡ cond (opens word (key_text k)) (Some (value_of word)) None
gives_rest k word rest e = let is = option_is k rest in rw (e, is.equals, is.key, is.value, bytes_same (key_text k)) refl

pub opens_key : (k : Key) (word text : List ℕ) (d : ℕ) → text ≡ key_text k → length text < length word → get_or word (length text) d ≡ 61
    → bytes_eq (take (length text) word) text ≡ true
    → some (take (length word - (length text + 1)) (drop (length text + 1) word)) ≡ cond (opens word (key_text k)) (Some (value_of word)) None
opens_key k word text d is lt byte key =
    let rest = drop (length text + 1) word in
    let all : take (length word - (length text + 1)) rest ≡ rest =
    take_all (length word - (length text + 1)) rest (omega (arith, length-drop (length text + 1) word)) in
    rw all (gives_rest k word rest (parts (length text) word d lt
    ∙ rw (byte, bytes_are (take (length text) word) text key) (ap (λ (t : List ℕ). t ++ 61 ∷ rest) is)))

-- ---- the place of the option that a word gives

pub option_at : (fs : List Field) (word : List ℕ) (place : ℕ) (d : Field) → place < length fs → bytes_eq (key_text (get_or fs place d).key) (key_of word) ≡ true
    → (is_some (field_of fs word) ≡ true) × IsOptionAt fs word place
option_at [] word place d lt e = absurd (omega (arith, lt))
option_at (f ∷ fs) word zero d lt e = (rw e refl, bytes_are (key_text f.key) (key_of word) e)
option_at (f ∷ fs) word (suc place) d lt e = grind (arith, nat_tests, option_at fs word place d, bytes_eq, key_text, key_of)

-- the word that the key opens gives the option at its place
pub opened : (fs : List Field) (word value : List ℕ) (place : ℕ) (d : Field) → place < length fs
    → some value ≡ cond (opens word (key_text (get_or fs place d).key)) (Some (value_of word)) None → (true ≡ is_known fs word) × IsOptionAt fs word place
opened fs word value place d e1 e2 = grind
    (arith, nat_tests, key_text, get_or, and_parts, list_any, bytes_eq, key_of, some_cond, value_of, option_at, and_from, is_some, field_of)

-- no option before this place opens the word, and neither does this one
pub not_opened : (fs : List Field) (word : List ℕ) (place : ℕ) (d : Field) → place < length fs
    → list_any (λ f. opens word (key_text f.key)) (take place fs) ≡ false
    → nothing (List ℕ) ≡ cond (opens word (key_text (get_or fs place d).key)) (Some (value_of word)) None
    → list_any (λ f. opens word (key_text f.key)) (take (place + 1) fs) ≡ false
not_opened fs word place d lt before e =
    let here : opens word (key_text (get_or fs place d).key) ≡ false =
    elim (cases_Bool (opens word (key_text (get_or fs place d).key))) [ inl t ↦ absurd (none_some (value_of word) (rw t at e)) | inr n ↦ n ] in
    rw (take_more fs place d lt) (any_push (λ (f : Field). opens word (key_text f.key)) (take place fs) (get_or fs place d) before here)

pub none_known : (fs : List Field) (word : List ℕ) → list_any (λ f. opens word (key_text f.key)) fs ≡ false → is_known fs word ≡ false
none_known [] word h = elim (cases_Bool (list_any (λ b. eqb b 61) word)) [ inl t ↦ rw t refl | inr n ↦ rw n refl ]
none_known (f ∷ fs) word h = grind (arith, nat_tests, none_known fs word, or_parts, key_text)

pub option_below : (fs : List Field) (word : List ℕ) (place : ℕ) → IsOptionAt fs word place → place < length fs
option_below [] word place h = absurd h
option_below (f ∷ fs) word zero h = omega arith
option_below (f ∷ fs) word (suc place) h = let rest = option_below fs word place h in omega (arith, rest)

-- ---- the texts, with one word more

other_at : (fs : List Field) (word : List ℕ) (place : ℕ) (k : Key) → list_any (λ g. bytes_eq (key_text g.key) (key_text k)) fs ≡ false
    → IsOptionAt fs word place → bytes_eq (key_of word) (key_text k) ≡ false
other_at [] word place k h at = absurd at
other_at (f ∷ fs) word zero k h at = rw (← at) (or_parts _ _ h).0
other_at (f ∷ fs) word (suc place) k h at = other_at fs word place k (or_parts _ _ h).1 at

others : (word : List ℕ) (ws : List (List ℕ)) (k : Key) (fs : List Field) → key_text k ≡ key_of word
    → list_any (λ g. bytes_eq (key_text g.key) (key_text k)) fs ≡ false → texts_in fs (word ∷ ws) ≡ texts_in fs ws
unfolding text_of
others word ws k [] e h = refl
others word ws k (f ∷ fs) e h = grind (arith, nat_tests, others word ws k fs e, or_parts, bytes_eq, key_text, list_any, key_of, apart_sym, text_of)

pub texts_put : (word : List ℕ) (ws : List (List ℕ)) (fs : List Field) (place : ℕ) → AreApart fs → IsOptionAt fs word place
    → set (texts_in fs ws) place (Some (value_of word)) ≡ texts_in fs (word ∷ ws)
unfolding text_of
texts_put word ws [] place apart at = absurd at
texts_put word ws (f ∷ fs) zero apart at =
    let same : bytes_eq (key_of word) (key_text f.key) ≡ true = rw at (bytes_same (key_of word)) in
    let here : Some (value_of word) ≡ text_of f.key (word ∷ ws) = rw same refl in
    let rest = sym (others word ws f.key fs at apart.0) in
    λ i. here i ∷ rest i
texts_put word ws (f ∷ fs) (suc place) apart at =
    let here : text_of f.key ws ≡ text_of f.key (word ∷ ws) = rw (other_at fs word place f.key apart.0 at) refl in
    let rest = texts_put word ws fs place apart.1 at in
    λ i. here i ∷ rest i

-- ---- an option is given already where two words give it

found_any : (p : List ℕ → Bool) (ws : List (List ℕ)) → is_some (option_map value_of (find p ws)) ≡ list_any p ws
found_any p [] = refl
found_any p (w ∷ ws) = elim (cases_Bool (p w)) [ inl t ↦ rw t refl | inr n ↦ rw n (found_any p ws) ]

text_at : (fs : List Field) (ws : List (List ℕ)) (word : List ℕ) (place : ℕ) → IsOptionAt fs word place
    → is_some (get_or (texts_in fs ws) place None) ≡ list_any (λ v. bytes_eq (key_of v) (key_of word)) ws
unfolding text_of
text_at [] ws word place at = absurd at
text_at (f ∷ fs) ws word zero at = rw (← at) (found_any (λ v. bytes_eq (key_of v) (key_text f.key)) ws)
text_at (f ∷ fs) ws word (suc place) at = text_at fs ws word place at

one_copied : (x : Option (Bor (List ℕ))) → is_some x ≡ is_some (option_copied x)
one_copied x = grind (arith, nat_tests)

copied_at : (xs : List (Option (Bor (List ℕ)))) (place : ℕ) (d : Option (Bor (List ℕ))) → place < length xs
    → is_some (get_or xs place d) ≡ is_some (get_or (map option_copied xs) place None)
copied_at [] place d lt = absurd (omega (arith, lt))
copied_at (x ∷ xs) zero d lt = one_copied x
copied_at (x ∷ xs) (suc place) d lt = copied_at xs place d (omega (arith, lt))

pub texts_long : (xs : List (Option (Bor (List ℕ)))) (fs : List Field) (ws : List (List ℕ)) → map option_copied xs ≡ texts_in fs ws → length xs ≡ length fs
texts_long xs fs ws e = sym (length-map xs option_copied) ∙ (ap (λ (l : List (Option (List ℕ))). length l) e ∙ length-map fs (λ f. text_of f.key ws))

given_twice : (xs : List (Option (Bor (List ℕ)))) (fs : List Field) (ws : List (List ℕ)) (word : List ℕ) (place : ℕ) (d : Option (Bor (List ℕ)))
    → map option_copied xs ≡ texts_in fs ws → IsOptionAt fs word place → is_some (get_or xs place d) ≡ list_any (λ v. bytes_eq (key_of v) (key_of word)) ws
given_twice xs fs ws word place d e1 e2 = grind (arith, nat_tests, option_below, texts_long, copied_at, text_at)

either : (word : List ℕ) (ws : List (List ℕ)) (here twice rest : Bool) → here ≡ list_any (λ v. bytes_eq (key_of v) (key_of word)) ws → rest ≡ has_twice ws
    → ((here ≡ true) × (twice ≡ true)) ⊎ ((here ≡ false) × (twice ≡ rest)) → twice ≡ has_twice (word ∷ ws)
unfolding has_twice
either word ws here twice rest e1 e2 e3 = grind (arith, nat_tests)

-- ---- words as references

split : (words : List (Bor (List ℕ))) (d : Bor (List ℕ)) → 1 ≤ length words → texts_of_words words ≡ (get_or words 0 d).now ∷ texts_of_words (rest_of words)
split words d h = ap texts_of_words (first_rest words d h)

pub place_low : (xs : List (Option (Bor (List ℕ)))) (n : ℕ) (words : List (Bor (List ℕ))) (word : List ℕ) (w : Word) (place : ℕ) → n ≡ length xs
    → map option_copied xs ≡ texts_in (fields w) (texts_of_words words) → IsOptionAt (fields w) word place → place < n
place_low xs n words word w place e1 e2 e3 = grind (arith, nat_tests, option_below, texts_long)

-- the words from a place on, with the one before it
before : (words : List (Bor (List ℕ))) (at : ℕ) (d : Bor (List ℕ)) → 0 < at → at ≤ length words
    → texts_of_words (drop (at - 1) words) ≡ (get_or words (at - 1) d).now ∷ texts_of_words (drop at words)
before words at d e1 e2 = grind (arith, nat_tests, get_or, drop_more)

pub given_more : (xs : List (Option (Bor (List ℕ)))) (words : List (Bor (List ℕ))) (at : ℕ) (d v : Bor (List ℕ)) (w : Word) (place : ℕ) → 0 < at
    → at ≤ length words → map option_copied xs ≡ texts_in (fields w) (texts_of_words (drop at words))
    → IsOptionAt (fields w) (get_or words (at - 1) d).now place
    → v.now ≡ value_of (get_or words (at - 1) d).now → map option_copied (set xs place (Some v)) ≡ texts_in (fields w) (texts_of_words (drop (at - 1) words))
given_more xs words at d v w place e1 e2 e3 e4 e5 = grind (arith, nat_tests, get_or, map-set, option_copied, texts_in, texts_put, fields_apart, before)

pub twice_more : (xs : List (Option (Bor (List ℕ)))) (words : List (Bor (List ℕ))) (at : ℕ) (d : Bor (List ℕ)) (w : Word) (place : ℕ)
    (x : Option (Bor (List ℕ))) (here twice rest : Bool) → 0 < at → at ≤ length words
    → map option_copied xs ≡ texts_in (fields w) (texts_of_words (drop at words))
    → IsOptionAt (fields w) (get_or words (at - 1) d).now place → rest ≡ has_twice (texts_of_words (drop at words)) → x ≡ get_or xs place x → here ≡ is_some x
    → ((here ≡ true) × (twice ≡ true)) ⊎ ((here ≡ false) × (twice ≡ rest)) → twice ≡ has_twice (texts_of_words (drop (at - 1) words))
twice_more xs words at d w place x here twice rest low high is option later found e by =
    let word = (get_or words (at - 1) d).now in
    let there : here ≡ list_any (λ v. bytes_eq (key_of v) (key_of word)) (texts_of_words (drop at words)) =
    e ∙ (ap is_some found ∙ given_twice xs (fields w) (texts_of_words (drop at words)) word place x is option) in
    rw (before words at d low high) (either word (texts_of_words (drop at words)) here twice rest there later by)

pub known_more : (p : List ℕ → Bool) (words : List (Bor (List ℕ))) (at : ℕ) (d : Bor (List ℕ)) → 0 < at → at ≤ length words
    → true ≡ list_all p (texts_of_words (drop at words)) → p (get_or words (at - 1) d).now ≡ true → true ≡ list_all p (texts_of_words (drop (at - 1) words))
known_more p words at d low high all e = rw (before words at d low high, e) all

pub unknown_at : (p : List ℕ → Bool) (words : List (Bor (List ℕ))) (i : ℕ) (d : Bor (List ℕ)) → i < length words → p (get_or words i d).now ≡ false
    → false ≡ list_all p (texts_of_words words)
unknown_at p [] i d lt e = absurd (omega (arith, lt))
unknown_at p (w ∷ ws) zero d lt e = rw e refl
unknown_at p (w ∷ ws) (suc i) d lt e = elim (cases_Bool (p w.now)) [ inl t ↦ rw t (unknown_at p ws i d (omega (arith, lt)) e) | inr n ↦ rw n refl ]

pub no_words : (words : List (Bor (List ℕ))) → drop (length words) words ≡ []
no_words words = drop_all (length words) words (omega arith)

pub none_twice : (words : List (Bor (List ℕ))) → length words < 1 → false ≡ has_twice (texts_of_words words)
unfolding has_twice
none_twice words h = rw (none_below words h) refl

-- ---- the texts of no words, and what the texts give

no_texts : (fs : List Field) → map option_copied (replicate {A = Option (Bor (List ℕ))} (length fs) None) ≡ texts_in fs []
unfolding text_of
no_texts [] = refl
no_texts (f ∷ fs) = ap (λ (l : List (Option (List ℕ))). None ∷ l) (no_texts fs)

pub fresh_texts : (xs old : List (Option (Bor (List ℕ)))) (n len : ℕ) (fs : List Field) → old ≡ [] → len ≡ 0 → n ≡ length fs
    → xs ≡ take n old ++ replicate (n - len) None → map option_copied xs ≡ texts_in fs []
fresh_texts xs old n len fs none zero_len long e =
    let all : take {A = Option (Bor (List ℕ))} (length fs) [] ≡ [] = take_all (length fs) [] (omega arith) in
    let m : length fs - 0 ≡ length fs = omega arith in
    rw (e, none, zero_len, long, all, m) (no_texts fs)

pub values_given : (before : List Statement) (fs : List Field) (ws : List (List ℕ)) → values_of before fs (texts_in fs ws) ≡ values_in before ws fs
values_given before [] ws = refl
values_given before (f ∷ fs) ws = ap (λ (vs : List OptionValue). option_value_at before f (text_of f.key ws) ∷ vs) (values_given before fs ws)

pub values_read : (before : List Statement) (w : Word) (ws : List (List ℕ)) (given : List (Option (Bor (List ℕ)))) (fs : List Field) (vs : List OptionValue)
    → fs ≡ fields w → map option_copied given ≡ texts_in (fields w) ws → vs ≡ values_of before fs (map option_copied given)
    → vs ≡ values_in before ws (fields w)
values_read before w ws given fs vs e is read = rw (read, e, is) (values_given before (fields w) ws)

-- ---- words that add nothing

silent_adds : (r : Reading) (line : ℕ) (words : List (List ℕ)) → is_statement words ≡ false
    → unless_met r line (find (words_meet r words) word_causes) (words_say r line words) ≡ Ok r
unfolding with_change
silent_adds r line words h = let s = silent_says r line words h in rw (s.0, s.1) refl

pub none_adds : (r : Reading) (line : ℕ) (words : List (Bor (List ℕ))) → length words < 1
    → unless_met r line (find (words_meet r (texts_of_words words)) word_causes) (words_say r line (texts_of_words words)) ≡ Ok r
none_adds r line words h = rw (none_below words h) (silent_adds r line [] refl)

pub comment_adds : (r : Reading) (line : ℕ) (words : List (Bor (List ℕ))) (d : Bor (List ℕ)) → 1 ≤ length words → is_comment (get_or words 0 d).now ≡ true
    → unless_met r line (find (words_meet r (texts_of_words words)) word_causes) (words_say r line (texts_of_words words)) ≡ Ok r
comment_adds r line words d some c = silent_adds r line (texts_of_words words) (rw (split words d some, c) refl)
