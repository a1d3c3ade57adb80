-- What is known of a line that was read without a fault, and the other way round.
use Rattle.std.proofs.lemmas.Bool.Decides.{nat_tests}
use Rattle.workload_file.proofs.Cited.{◌≡◌, ℕ, List, [], ◌∷◌, length, Bool, true, false, not, cond, ◌&&◌, Option, Some, None, Result, Ok, Err, refl, sym, ap, ◌∙◌, ◌||◌, ◌+◌, ◌++◌, arith, nat_le, find, list_all, list_any, not-false, or_parts, or_from, and_parts, and_from, Word, OptionValue, Cause, Reading, LineEffect, Statement, is_name, naming, fields, word_of, is_known, has_twice, has_second, name_in, options_in, use_in, is_taken, is_unbound, is_misplaced, is_ninth_caller, words_of, values_in, is_bad, is_missing, names_nothing, change_of, is_comment, is_statement, is_faulty, words_meet, statement_causes, word_causes, first_met, ◌>>=◌, unless, words_say, line_gives, at_line, with_change, line_adds, lines_add, empty_reading, finished, workload_of, refused_for, IsFirstFault, IsPlain, Fault, between}
use Rattle.workload_file.specs.declared.values.OptionValue.TheVariants as given
use Rattle.workload_file.specs.declared.faults.Cause.TheVariants as cause

-- ---- steps that did not fail

pub bind_ok : {A B E : Type 0} (r : Result A E) (f : A → Result B E) (y : B) → (r >>= f) ≡ Ok y → (x : A) × (r ≡ Ok x) × (f x ≡ Ok y)
bind_ok r f y e1 = grind (arith, nat_tests)

abbrev done : {A : Type 0} (E : Type 0) → A → Result A E
done E x = Ok x

pub ok_is : {A E : Type 0} (x y : A) → done E x ≡ done E y → x ≡ y
ok_is x y e = cc

abbrev pub some : {A : Type 0} → A → Option A
some x = Some x

pub some_is : {A : Type 0} (x y : A) → some x ≡ some y → x ≡ y
some_is x y e = cc

abbrev pub nothing : (A : Type 0) → Option A
nothing A = None

pub none_some : {A : Type 0} (x : A) → nothing A ≡ Some x → ⊥
none_some x e = cc

pub at_line_ok : {A : Type 0} (line : ℕ) (x : Result A Cause) (y : A) → at_line line x ≡ Ok y → x ≡ Ok y
at_line_ok line x y e1 = grind (arith, nat_tests)

cond_none : (b : Bool) (c : Cause) (o : Option Cause) → cond b (Some c) o ≡ None → (b ≡ false) × (o ≡ None)
cond_none b c o e1 = grind (arith, nat_tests)

-- ---- values

-- what an option gives is a value
abbrev pub is_sound : OptionValue → Bool
is_sound given.Bad = false
is_sound given.Missing = false
is_sound given.Unbound = false
is_sound _ = true

all_sound : (vs : List OptionValue) → list_any is_bad vs ≡ false → list_any is_missing vs ≡ false → list_any names_nothing vs ≡ false
    → list_all is_sound vs ≡ true
all_sound [] b m u = refl
all_sound (v ∷ vs) b m u = grind (arith, nat_tests, all_sound vs, or_parts, is_bad, is_missing, names_nothing, and_from)

none_in : (p : OptionValue → Bool) (vs : List OptionValue) → ((v : OptionValue) → is_sound v ≡ true → p v ≡ false) → list_all is_sound vs ≡ true
    → list_any p vs ≡ false
none_in p [] h s = refl
none_in p (v ∷ vs) h s = let both = and_parts (is_sound v) (list_all is_sound vs) s in or_from (p v) (list_any p vs) (h v both.0) (none_in p vs h both.1)

sound_is : (v : OptionValue) → is_sound v ≡ true → (is_bad v ≡ false) × (is_missing v ≡ false) × (names_nothing v ≡ false)
sound_is v e1 = grind (arith, nat_tests)

-- ---- a statement

abbrev pub here : Reading → List Statement
here r = r.current.statements

-- the words are a statement without a fault: its word, its name and its options
pub record IsRead (r : Reading) (first : List ℕ) (rest : List (List ℕ)) (w : Word) (name : List ℕ) (options : List (List ℕ)) : Type 0 where
  pub comment : is_comment first ≡ false
  pub word : word_of first ≡ Some w
  pub name_is : name_in (naming w) rest ≡ name
  pub options_are : options_in (naming w) rest ≡ options
  pub few : nat_le 20000 r.count ≡ false
  pub callers : is_ninth_caller r w ≡ false
  pub placed : is_misplaced r w ≡ false
  pub named : (has_second (naming w) && not (is_name name)) ≡ false
  pub known : list_all (is_known (fields w)) options ≡ true
  pub once : has_twice options ≡ false
  pub sound : list_all is_sound (values_in (here r) options (fields w)) ≡ true
  pub free : is_taken r (naming w) name ≡ false
  pub bound : is_unbound (naming w) (use_in (here r) (naming w) name) ≡ false

abbrev statement_met : Reading → Word → List ℕ → List (List ℕ) → Option Cause
statement_met r w name options = find (is_faulty r w name options) statement_causes

abbrev met_of : Reading → Word → List (List ℕ) → Option Cause
met_of r w rest = statement_met r w (name_in (naming w) rest) (options_in (naming w) rest)

read_of : (r : Reading) (first : List ℕ) (rest : List (List ℕ)) (w : Word) → is_comment first ≡ false → word_of first ≡ Some w → met_of r w rest ≡ None
    → IsRead r first rest w (name_in (naming w) rest) (options_in (naming w) rest)
unfolding is_faulty
read_of r first rest w e1 e2 e3 = grind (arith, nat_tests, cond_none, or_parts, not-false, all_sound)

of_read : (r : Reading) (w : Word) (name : List ℕ) (options : List (List ℕ)) (first : List ℕ) (rest : List (List ℕ)) → IsRead r first rest w name options
    → statement_met r w name options ≡ None
unfolding is_faulty
of_read r w name options first rest e1 = grind (arith, nat_tests, values_in, none_in, is_bad, sound_is, is_missing, names_nothing)

-- ---- words

abbrev words_met : Reading → List (List ℕ) → Option Cause
words_met r words = find (words_meet r words) word_causes

-- the words are a statement without a fault, which adds this
pub record IsStated (r : Reading) (line : ℕ) (words : List (List ℕ)) (c : LineEffect) : Type 0 where
  pub first : List ℕ
  pub rest : List (List ℕ)
  pub word : Word
  pub name : List ℕ
  pub options : List (List ℕ)
  pub are : words ≡ first ∷ rest
  pub read : IsRead r first rest word name options
  pub change : change_of r line word name options ≡ c

known_met : (r : Reading) (first : List ℕ) (rest : List (List ℕ)) (w : Word) → is_comment first ≡ false → word_of first ≡ Some w
    → words_met r (first ∷ rest) ≡ met_of r w rest
known_met r first rest w c e = rw (c, e) refl

known_says : (r : Reading) (line : ℕ) (first : List ℕ) (rest : List (List ℕ)) (w : Word) → is_comment first ≡ false → word_of first ≡ Some w
    → words_say r line (first ∷ rest) ≡ Some (change_of r line w (name_in (naming w) rest) (options_in (naming w) rest))
known_says r line first rest w c e = rw (c, e) refl

pub silent_says : (r : Reading) (line : ℕ) (words : List (List ℕ)) → is_statement words ≡ false → (words_met r words ≡ None) × (words_say r line words ≡ None)
silent_says r line words e1 = grind (arith, nat_tests)

unknown_met : (r : Reading) (first : List ℕ) (rest : List (List ℕ)) → is_comment first ≡ false → word_of first ≡ None
    → words_met r (first ∷ rest) ≡ Some cause.UnknownWord
unknown_met r first rest c e = rw (c, e) refl

by_word : (r : Reading) (line : ℕ) (first : List ℕ) (rest : List (List ℕ)) (o : Option Word) (c : LineEffect) → is_comment first ≡ false → word_of first ≡ o
    → words_met r (first ∷ rest) ≡ None → words_say r line (first ∷ rest) ≡ Some c → IsStated r line (first ∷ rest) c
by_word r line first rest None c n e m s = absurd (none_some cause.UnknownWord (sym m ∙ unknown_met r first rest n e))
by_word r line first rest (Some w) c n e m s = record {
  first = first;
  rest = rest;
  word = w;
  name = name_in (naming w) rest;
  options = options_in (naming w) rest;
  are = refl;
  read = read_of r first rest w n e (sym (known_met r first rest w n e) ∙ m);
  change = some_is _ c (sym (known_says r line first rest w n e) ∙ s);
}

words_stated : (r : Reading) (line : ℕ) (words : List (List ℕ)) (c : LineEffect) → words_met r words ≡ None → words_say r line words ≡ Some c
    → IsStated r line words c
words_stated r line words c e1 e2 = grind (arith, nat_tests, none_some, is_comment, silent_says, by_word, word_of)

words_silent : (r : Reading) (line : ℕ) (words : List (List ℕ)) → words_met r words ≡ None → words_say r line words ≡ None → is_statement words ≡ false
words_silent r line words e1 e2 = grind (arith, nat_tests)

-- ---- a line

-- what is known of a line without a fault
record IsLine (r : Reading) (line : ℕ) (text : List ℕ) (c : Option LineEffect) : Type 0 where
  plain : IsPlain text
  met : words_met r (words_of text) ≡ None
  says : words_say r line (words_of text) ≡ c

of_line : (r : Reading) (line : ℕ) (text : List ℕ) (c : Option LineEffect) → line_gives r line text ≡ Ok c → IsLine r line text c
unfolding line_gives
of_line r line text c e1 = grind (arith, nat_tests)

line_of : (r : Reading) (line : ℕ) (text : List ℕ) (c : Option LineEffect) → IsLine r line text c → line_gives r line text ≡ Ok c
unfolding line_gives
line_of r line text c e1 = grind (arith, nat_tests)

-- a line that adds something is a statement
pub stated : (r : Reading) (line : ℕ) (text : List ℕ) (c : LineEffect) → line_gives r line text ≡ Ok (Some c) → IsPlain text × IsStated r line (words_of text) c
stated r line text c e = let l = of_line r line text (Some c) e in (l.plain, words_stated r line (words_of text) c l.met l.says)

pub states : (r : Reading) (line : ℕ) (text first : List ℕ) (rest : List (List ℕ)) (w : Word) (name : List ℕ) (options : List (List ℕ)) → IsPlain text
    → words_of text ≡ first ∷ rest → IsRead r first rest w name options → line_gives r line text ≡ Ok (Some (change_of r line w name options))
states r line text first rest w name options plain are f =
    let met : met_of r w rest ≡ None = rw (f.name_is, f.options_are) (of_read r w name options first rest f) in
    let says : words_say r line (first ∷ rest) ≡ Some (change_of r line w name options) =
    known_says r line first rest w f.comment f.word ∙ rw (f.name_is, f.options_are) refl in
    line_of r line text (Some (change_of r line w name options))
    (record { plain = plain; met = rw are (known_met r first rest w f.comment f.word ∙ met); says = rw are says })

-- a line that adds nothing is none
pub silent : (r : Reading) (line : ℕ) (text : List ℕ) → line_gives r line text ≡ Ok None → IsPlain text × (is_statement (words_of text) ≡ false)
silent r line text e = let l = of_line r line text None e in (l.plain, words_silent r line (words_of text) l.met l.says)

pub silence : (r : Reading) (line : ℕ) (text : List ℕ) → IsPlain text → is_statement (words_of text) ≡ false → line_gives r line text ≡ Ok None
silence r line text e1 e2 = grind (arith, nat_tests, silent_says, words_of, line_of)

pub gives_adds : (r : Reading) (line : ℕ) (text : List ℕ) (c : Option LineEffect) → line_gives r line text ≡ Ok c
    → line_adds r line text ≡ Ok (with_change r line c)
unfolding line_adds
gives_adds r line text c e = rw e refl

-- ==== a text is refused exactly where a line is the first that meets a cause, for the first that it meets

-- ---- one line

unless_refused : {A : Type 0} (o : Option Cause) (x : A) → refused_for (unless o x) ≡ o
unless_refused o x = grind (arith, nat_tests)

pub line_refused : (r : Reading) (line : ℕ) (text : List ℕ) → refused_for (line_gives r line text) ≡ first_met r text
unfolding line_gives
line_refused r line text = unless_refused (first_met r text) (words_say r line (words_of text))

abbrev fails : {E : Type 0} (A : Type 0) → E → Result A E
fails A e = Err e

abbrev failed : Fault → Result Reading Fault
failed f = Err f

err_is : {A E : Type 0} (e f : E) → fails A e ≡ fails A f → e ≡ f
err_is e f h = cc

fault_at : (r : Reading) (line : ℕ) (x : Result (Option LineEffect) Cause) (f : Fault) → at_line line (x >>= λ c. Ok (with_change r line c)) ≡ Err f
    → (f.line ≡ line) × (refused_for x ≡ Some f.cause)
fault_at r line x f e1 = grind (arith, nat_tests)

line_fault : (r : Reading) (line : ℕ) (text : List ℕ) (f : Fault) → line_adds r line text ≡ Err f → (f.line ≡ line) × (first_met r text ≡ Some f.cause)
unfolding line_adds
line_fault r line text f e =
    let a = fault_at r line (line_gives r line text) f e in
    (a.0, sym (line_refused r line text) ∙ a.1)

-- and the other way round
met_fault : (r : Reading) (line : ℕ) (text : List ℕ) (f : Fault) → f.line ≡ line → first_met r text ≡ Some f.cause → line_adds r line text ≡ Err f
unfolding line_adds line_gives
met_fault r line text f n e = rw (e, ← n) refl

-- ---- all lines

-- behind these lines one has a fault
record IsFault (texts : List (List ℕ)) (r : Reading) (line : ℕ) (f : Fault) : Type 0 where
  before : List (List ℕ)
  text : List ℕ
  after : List (List ℕ)
  said : Reading
  lines : texts ≡ before ++ text ∷ after
  number : f.line ≡ line + length before
  read : lines_add r line before ≡ Ok said
  cause : first_met said text ≡ Some f.cause

no_lines : (r : Reading) (line : ℕ) → lines_add r line [] ≡ Ok r
unfolding lines_add
no_lines r line = refl

pub one_more : (r s : Reading) (line : ℕ) (text : List ℕ) (texts : List (List ℕ)) (t : Result Reading Fault) → line_adds r line text ≡ Ok s
    → lines_add s (line + 1) texts ≡ t → lines_add r line (text ∷ texts) ≡ t
unfolding lines_add
one_more r s line text texts t e h = rw e h

here_fails : (r : Reading) (line : ℕ) (text : List ℕ) (texts : List (List ℕ)) (f : Fault) → line_adds r line text ≡ Err f
    → lines_add r line (text ∷ texts) ≡ Err f
unfolding lines_add
here_fails r line text texts f e = rw e refl

rest_of : (r s : Reading) (line : ℕ) (text : List ℕ) (texts : List (List ℕ)) (f : Fault) → line_adds r line text ≡ Ok s
    → lines_add r line (text ∷ texts) ≡ Err f → lines_add s (line + 1) texts ≡ Err f
unfolding lines_add
rest_of r s line text texts f e h = rw e at h

nothing_read : (r : Reading) (line : ℕ) (f : Fault) → lines_add r line [] ≡ Err f → ⊥
unfolding lines_add
nothing_read r line f e = cc

fault_by : (text : List ℕ) (texts : List (List ℕ)) (r : Reading) (line : ℕ) (f : Fault) (x : Result Reading Fault)
    → ((s : Reading) → lines_add s (line + 1) texts ≡ Err f → IsFault texts s (line + 1) f) → line_adds r line text ≡ x
    → lines_add r line (text ∷ texts) ≡ Err f → IsFault (text ∷ texts) r line f
fault_by text texts r line f (Ok s) each a e =
    let h = each s (rest_of r s line text texts f a e) in
    record {
      before = text ∷ h.before;
      text = h.text;
      after = h.after;
      said = h.said;
      lines = ap (λ (l : List (List ℕ)). text ∷ l) h.lines;
      number = omega (arith, h.number);
      read = one_more r s line text h.before (Ok h.said) a h.read;
      cause = h.cause;
    }
fault_by text texts r line f (Err g) each a e =
    let same = err_is g f (sym (here_fails r line text texts g a) ∙ e) in
    let w = line_fault r line text f (a ∙ ap failed same) in
    record {
      before = [];
      text = text;
      after = texts;
      said = r;
      lines = refl;
      number = omega (arith, w.0);
      read = no_lines r line;
      cause = w.1;
    }

fault_in : (texts : List (List ℕ)) (r : Reading) (line : ℕ) (f : Fault) → lines_add r line texts ≡ Err f → IsFault texts r line f
fault_in [] r line f e = absurd (nothing_read r line f e)
fault_in (text ∷ texts) r line f e = fault_by text texts r line f (line_adds r line text) (λ s h. fault_in texts s (line + 1) f h) refl e

read_fails : (r : Reading) (f : Fault) → failed f ≡ done Fault r → ⊥
read_fails r f e = cc

fails_next : (first text : List ℕ) (before after : List (List ℕ)) (r said : Reading) (line : ℕ) (f : Fault) (x : Result Reading Fault)
    → ((s : Reading) → lines_add s (line + 1) before ≡ Ok said → lines_add s (line + 1) (before ++ text ∷ after) ≡ Err f) → line_adds r line first ≡ x
    → lines_add r line (first ∷ before) ≡ Ok said → lines_add r line (first ∷ (before ++ text ∷ after)) ≡ Err f
fails_next first text before after r said line f (Ok s) each e read =
    one_more r s line first (before ++ text ∷ after) (Err f) e (each s (sym (one_more r s line first before _ e refl) ∙ read))
fails_next first text before after r said line f (Err g) each e read = absurd (read_fails said g (sym (here_fails r line first before g e) ∙ read))

fails_behind : (before after : List (List ℕ)) (text : List ℕ) (r said : Reading) (line : ℕ) (f : Fault) → lines_add r line before ≡ Ok said
    → f.line ≡ line + length before → first_met said text ≡ Some f.cause → lines_add r line (before ++ text ∷ after) ≡ Err f
fails_behind [] after text r said line f read number met =
    let same : r ≡ said = ok_is r said (sym (no_lines r line) ∙ read) in
    here_fails r line text after f (met_fault r line text f (omega (arith, number)) (rw same met))
fails_behind (first ∷ before) after text r said line f read number met =
    fails_next first text before after r said line f (line_adds r line first)
    (λ s h. fails_behind before after text s said (line + 1) f h (omega (arith, number)) met) refl read

-- ---- the text

kept_fault : (x : Result Reading Fault) (f : Fault) → (x >>= λ r. Ok (finished r)) ≡ Err f → x ≡ Err f
kept_fault x f e1 = grind (arith, nat_tests)

pub text_refused : (bytes : List ℕ) (fault : Fault) → workload_of bytes ≡ Err fault → IsFirstFault bytes fault
unfolding workload_of
text_refused bytes fault e =
    let h = fault_in (between 10 bytes) empty_reading 1 fault (kept_fault (lines_add empty_reading 1 (between 10 bytes)) fault e) in
    grind (arith, nat_tests)

pub refused_text : (bytes : List ℕ) (fault : Fault) → IsFirstFault bytes fault → workload_of bytes ≡ Err fault
unfolding workload_of
refused_text bytes fault e1 = grind (arith, nat_tests, fails_behind)
