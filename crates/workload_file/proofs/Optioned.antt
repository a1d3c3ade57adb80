-- The options that are written of values are options of the statement, and give the values.
use Rattle.std.proofs.lemmas.Bool.Decides.{nat_tests}
use Rattle.workload_file.proofs.Cited.{◌≡◌, ℕ, ◌-◌, List, [], ◌∷◌, ◌++◌, Bool, true, false, Option, Some, None, refl, sym, ap, ◌<◌, eqb, subst, inl, inr, append_assoc, arith, length, length-append, AllByRecursion, list_any, find, list_all, bytes_eq, or_parts, and_from, and_parts, or_from, cases_Bool, lt-ltb, Key, Field, key_text, key_of, value_of, gives_option, text_of, field_of, is_known, has_twice, value_text, is_default, options_words, is_some, nat_lt, option_map, OptionShape, Absent, OptionValue, Statement, value_given, value_absent, option_value_at, values_in}
use Rattle.workload_file.proofs.Facts.{some, is_sound}
use Rattle.workload_file.proofs.Finds.{find_skip, find_nothing, find_all}
use Rattle.workload_file.proofs.Invariant.{any_push}
use Rattle.workload_file.proofs.Places.{bytes_same, apart_sym}
use Rattle.workload_file.proofs.Fields.{AreApart, IsField, is_good, is_shaped, option_is, key_good}
use Rattle.workload_file.proofs.Phrases.{is_inner, is_word, all_append, all_parts}
use Rattle.workload_file.proofs.Spelling.{value_is, absent_is, spelled}

-- ==== what options that are left out or written give

abbrev pub Free : List (List ℕ) → List Field → Type 0
Free ws fs = AllByRecursion (λ f. gives_option f.key ws ≡ false) fs

pub free_push : (ws : List (List ℕ)) (word : List ℕ) (k : Key) (fs : List Field) → key_of word ≡ key_text k
    → list_any (λ g. bytes_eq (key_text g.key) (key_text k)) fs ≡ false → Free ws fs → Free (ws ++ word ∷ []) fs
free_push ws word k [] e h f = tt
free_push ws word k (g ∷ fs) e h f = grind (arith, nat_tests, free_push ws word k fs e, or_parts, bytes_eq, key_of, key_text, apart_sym, any_push)

pub text_skip : (k : Key) (xs ys : List (List ℕ)) (word text : List ℕ) → gives_option k xs ≡ false → key_of word ≡ key_text k → value_of word ≡ text
    → text_of k (xs ++ word ∷ ys) ≡ Some text
unfolding text_of
text_skip k xs ys word text e1 e2 e3 = grind (arith, nat_tests, bytes_eq, key_of, key_text, bytes_same, find_skip)

pub text_nothing : (k : Key) (xs ys : List (List ℕ)) → gives_option k xs ≡ false → gives_option k ys ≡ false → text_of k (xs ++ ys) ≡ None
unfolding text_of
text_nothing k xs ys h g = rw (find_nothing (λ (w : List ℕ). bytes_eq (key_of w) (key_text k)) xs ys h g) refl

pub free_none : (fs : List Field) → Free [] fs
free_none [] = tt
free_none (f ∷ fs) = (refl, free_none fs)

-- ==== the options that are written of values are options of the statement, and give the values

-- ---- each value that is read is left out, or was spelled by a word that was read

-- how a value is written, and what reading that gives
pub record IsSpelled (before : List Statement) (s : OptionShape) (v : OptionValue) : Type 0 where
  pub inner : list_all is_inner (value_text before v) ≡ true
  pub reads : value_given before s (value_text before v) ≡ v

-- how a value of a field is written
pub data IsWritten (before : List Statement) (f : Field) (v : OptionValue) : Type 0 where
  left : is_default f.absent v ≡ true → is_shaped f.shape v ≡ true → IsWritten before f v
  word : is_default f.absent v ≡ false → IsSpelled before f.shape v → IsWritten before f v

abbrev pub AllWritten : List Statement → List Field → List OptionValue → Type 0
AllWritten before [] [] = Unit {0}
AllWritten before (f ∷ fs) (v ∷ vs) = IsWritten before f v × AllWritten before fs vs
AllWritten before [] (v ∷ vs) = ⊥
AllWritten before (f ∷ fs) [] = ⊥

value_inner : (own : List ℕ) → list_any (λ b. eqb b 61) own ≡ true → is_word own ≡ true → list_all is_inner (value_of own) ≡ true
value_inner own k h =
    let inner = (and_parts (nat_lt 0 (length own)) (list_all is_inner own) h).1 in
    let whole = subst (λ (x : List ℕ). list_all is_inner x ≡ true) (spelled own k) inner in
    let behind = (all_parts is_inner (key_of own) (61 ∷ value_of own) whole).1 in
    (and_parts (is_inner 61) (list_all is_inner (value_of own)) behind).1

field_read : (before : List Statement) (all : List Field) (options : List (List ℕ)) (f : Field) (o : Option (List ℕ)) → is_good f.absent f.shape ≡ true
    → list_all (is_known all) options ≡ true → list_all is_word options ≡ true → find (λ w. bytes_eq (key_of w) (key_text f.key)) options ≡ o
    → is_sound (option_value_at before f (option_map value_of o)) ≡ true → IsWritten before f (option_value_at before f (option_map value_of o))
field_read before all options f None good known words is h =
    let u = absent_is before f.absent f.shape good h in
    left u.default u.shaped
field_read before all options f (Some own) good known words is h =
    let i = value_is before f.shape (value_of own) h in
    elim (cases_Bool (is_default f.absent (value_given before f.shape (value_of own)))) [
      | inl t ↦ left t i.shaped
      | inr d ↦
          let text = i.written f.absent good d in
          let k = and_parts (list_any (λ b. eqb b 61) own) (is_some (field_of all own))
          (find_all (λ w. bytes_eq (key_of w) (key_text f.key)) (is_known all) options own is known) in
          let whole = find_all (λ w. bytes_eq (key_of w) (key_text f.key)) is_word options own is words in
          word d (record { inner = rw text (value_inner own k.0 whole); reads = ap (value_given before f.shape) text })
    ]

-- each value that options give is left out, or is spelled as it was read
pub all_read : (before : List Statement) (all : List Field) (options : List (List ℕ)) (fs : List Field)
    → AllByRecursion (λ f. is_good f.absent f.shape ≡ true) fs → list_all (is_known all) options ≡ true → list_all is_word options ≡ true
    → list_all is_sound (values_in before options fs) ≡ true → AllWritten before fs (values_in before options fs)
unfolding text_of
all_read before all options [] good known words h = tt
all_read before all options (f ∷ fs) good known words h =
    grind (arith, nat_tests, all_read before all options fs good.1 known words, and_parts, is_sound, field_read)

-- ---- the words

abbrev pub opts : List Statement → List Field → List OptionValue → List (List ℕ)
opts before fs vs = options_words before fs vs

abbrev opt : List Statement → Field → OptionValue → List ℕ
opt before f v = key_text f.key ++ 61 ∷ value_text before v

opts_none : (before : List Statement) → opts before [] [] ≡ []
unfolding options_words
opts_none before = refl

opts_left : (before : List Statement) (f : Field) (fs : List Field) (v : OptionValue) (vs : List OptionValue) → is_default f.absent v ≡ true
    → opts before (f ∷ fs) (v ∷ vs) ≡ opts before fs vs
unfolding options_words
opts_left before f fs v vs d = rw d refl

opts_word : (before : List Statement) (f : Field) (fs : List Field) (v : OptionValue) (vs : List OptionValue) → is_default f.absent v ≡ false
    → opts before (f ∷ fs) (v ∷ vs) ≡ opt before f v ∷ opts before fs vs
unfolding options_words
opts_word before f fs v vs d = rw d refl

-- what holds of each word that is written
all_opts : (q : List ℕ → Bool) (P : Field → Type 0) (before : List Statement) (fs : List Field) (vs : List OptionValue)
    → ((f : Field) (v : OptionValue) → P f → IsSpelled before f.shape v → q (opt before f v) ≡ true) → AllByRecursion P fs → AllWritten before fs vs
    → list_all q (opts before fs vs) ≡ true
all_opts q P before [] [] each p h = rw (opts_none before) refl
all_opts q P before (f ∷ fs) (v ∷ vs) each p (left d shaped, h) = rw (opts_left before f fs v vs d) (all_opts q P before fs vs each p.1 h)
all_opts q P before (f ∷ fs) (v ∷ vs) each p (word d s, h) =
    rw (opts_word before f fs v vs d) (and_from _ _ (each f v p.0 s) (all_opts q P before fs vs each p.1 h))
all_opts q P before [] (v ∷ vs) each p h = absurd h
all_opts q P before (f ∷ fs) [] each p h = absurd h

field_here : (all : List Field) (f : Field) (text : List ℕ) → IsField all f → field_of all (key_text f.key ++ 61 ∷ text) ≡ Some f
field_here all f text h = let o = option_is f.key text in rw o.key h

pub known_here : (all : List Field) (f : Field) (text : List ℕ) → IsField all f → is_known all (key_text f.key ++ 61 ∷ text) ≡ true
known_here all f text h = and_from _ _ (option_is f.key text).equals (ap is_some (field_here all f text h))

word_here : (k : Key) (text : List ℕ) → list_all is_inner text ≡ true → is_word (key_text k ++ 61 ∷ text) ≡ true
word_here k text h =
    let some : 0 < length (key_text k ++ 61 ∷ text) = omega (arith, length-append (key_text k) (61 ∷ text)) in
    and_from _ _ (lt-ltb 0 (length (key_text k ++ 61 ∷ text)) some) (all_append is_inner (key_text k) (61 ∷ text) (key_good k) h)

pub opts_known : (all : List Field) (before : List Statement) (fs : List Field) (vs : List OptionValue) → AllByRecursion (IsField all) fs
    → AllWritten before fs vs → list_all (is_known all) (opts before fs vs) ≡ true
opts_known all before fs vs p h = all_opts (is_known all) (IsField all) before fs vs (λ f v i s. known_here all f (value_text before v) i) p h

pub opts_words : (all : List Field) (before : List Statement) (fs : List Field) (vs : List OptionValue) → AllByRecursion (IsField all) fs
    → AllWritten before fs vs → list_all is_word (opts before fs vs) ≡ true
opts_words all before fs vs p h = all_opts is_word (IsField all) before fs vs (λ f v i s. word_here f.key (value_text before v) s.inner) p h

-- ---- keys

no_key : (k : Key) (before : List Statement) (fs : List Field) (vs : List OptionValue) → list_any (λ g. bytes_eq (key_text g.key) (key_text k)) fs ≡ false
    → AllWritten before fs vs → gives_option k (opts before fs vs) ≡ false
no_key k before [] [] a h = rw (opts_none before) refl
no_key k before (f ∷ fs) (v ∷ vs) a (left d shaped, h) = let both = or_parts _ _ a in rw (opts_left before f fs v vs d) (no_key k before fs vs both.1 h)
no_key k before (f ∷ fs) (v ∷ vs) a (word d s, h) = grind (arith, nat_tests, no_key k before fs vs, or_parts, option_is, value_text, opts_word, or_from)
no_key k before [] (v ∷ vs) a h = absurd h
no_key k before (f ∷ fs) [] a h = absurd h

pub opts_once : (before : List Statement) (fs : List Field) (vs : List OptionValue) → AreApart fs → AllWritten before fs vs
    → has_twice (opts before fs vs) ≡ false
unfolding has_twice
opts_once before [] [] a h = rw (opts_none before) refl
opts_once before (f ∷ fs) (v ∷ vs) a (left d shaped, h) = rw (opts_left before f fs v vs d) (opts_once before fs vs a.1 h)
opts_once before (f ∷ fs) (v ∷ vs) a (word d s, h) =
    let o = option_is f.key (value_text before v) in
    rw (opts_word before f fs v vs d, o.key) (or_from _ _ (no_key f.key before fs vs a.0 h) (opts_once before fs vs a.1 h))
opts_once before [] (v ∷ vs) a h = absurd h
opts_once before (f ∷ fs) [] a h = absurd h

-- ---- values

-- an option that is left out gives its default
default_value : (a : Absent) (s : OptionShape) (v : OptionValue) → is_good a s ≡ true → is_default a v ≡ true → is_shaped s v ≡ true → value_absent a s ≡ v
unfolding value_absent is_default
default_value a s v e1 e2 e3 = grind (arith, nat_tests)

-- the values that are written are read again
pub values_from : (before : List Statement) (ws : List (List ℕ)) (fs : List Field) (vs : List OptionValue) → AllWritten before fs vs → AreApart fs
    → AllByRecursion (λ f. is_good f.absent f.shape ≡ true) fs → Free ws fs → values_in before (ws ++ opts before fs vs) fs ≡ vs
values_from before ws [] [] h a good free = refl
values_from before ws (f ∷ fs) (v ∷ vs) (left d shaped, h) a good free =
    let none = text_nothing f.key ws (opts before fs vs) free.0 (no_key f.key before fs vs a.0 h) in
    let here : option_value_at before f (text_of f.key (ws ++ opts before fs vs)) ≡ v = rw none (default_value f.absent f.shape v good.0 d shaped) in
    let rest = values_from before ws fs vs h a.1 good.1 free.1 in
    subst (λ (ps : List (List ℕ)). values_in before (ws ++ ps) (f ∷ fs) ≡ v ∷ vs) (sym (opts_left before f fs v vs d)) (λ i. here i ∷ rest i)
values_from before ws (f ∷ fs) (v ∷ vs) (word d s, h) a good free =
    let o = option_is f.key (value_text before v) in
    let text = text_skip f.key ws (opts before fs vs) (opt before f v) (value_text before v) free.0 o.key o.value in
    let here : option_value_at before f (text_of f.key (ws ++ opt before f v ∷ opts before fs vs)) ≡ v = rw text s.reads in
    let rest = values_from before (ws ++ opt before f v ∷ []) fs vs h a.1 good.1 (free_push ws (opt before f v) f.key fs o.key a.0 free.1) in
    let moved = subst (λ (ps : List (List ℕ)). values_in before ps fs ≡ vs) (append_assoc ws (opt before f v ∷ []) (opts before fs vs)) rest in
    subst (λ (ps : List (List ℕ)). values_in before (ws ++ ps) (f ∷ fs) ≡ v ∷ vs) (sym (opts_word before f fs v vs d)) (λ i. here i ∷ moved i)
values_from before ws [] (v ∷ vs) h a good free = absurd h
values_from before ws (f ∷ fs) [] h a good free = absurd h
