-- Comments, spaces, the order of options and written-out defaults.
use Rattle.std.proofs.lemmas.Bool.Decides.{nat_tests}
use Rattle.workload_file.proofs.Cited.{◌≡◌, ℕ, ◌≤◌, List, [], ◌∷◌, ◌++◌, length, replicate, Bool, true, false, not, cond, eqb, ◌&&◌, ◌||◌, Option, Some, None, Ok, refl, sym, ap, subst, ◌∙◌, arith, inl, inr, zero, suc, ◌+◌, map, nat_le, nat_lt, filter, is_some, option_and_then, slice_get, option_map, find, list_any, list_all, onto_first, position_or_len, bytes_eq, and_parts, or_parts, or_from, cases_Bool, le-ltb, not-false, append-nil, map-append, length-map, length-slice_split, between, Word, Naming, Key, Field, OptionValue, Statement, Workload, Reading, LineEffect, is_name, is_name_byte, begins_with_letter, words_of, naming, fields, key_text, word_of, key_of, value_of, is_known, has_twice, gives_option, text_of, has_second, name_in, options_in, use_in, is_called, bound_at, is_binding, place_of, is_taken, is_misplaced, is_ninth_caller, is_unbound, value_given, value_absent, option_value_at, values_in, change_with, change_of, or_unbound, line_gives, line_adds, lines_add, at_line, empty_reading, workload_of, with_change, finished, IsPlain, has_equals, IsSwapped, IsWrittenOut, AddsAlike, DifferAt, AddsNothing, IsInserted, still, still_part, AreStill, GivesStill, is_statement, is_printable, slice_get-map, Sort, OptionShape, Part, is_begin, length-append, length-replicate, filter-append}
use Rattle.workload_file.specs.declared.table.Naming.TheVariants as rule
use Rattle.workload_file.specs.declared.reading.LineEffect.TheVariants as change
use Rattle.workload_file.proofs.Facts.{IsRead, bind_ok, at_line_ok, here, is_sound, stated, states, silent, silence, ok_is, one_more, gives_adds}
use Rattle.workload_file.proofs.Fields.{AreApart, IsField, fields_apart, option_is}
use Rattle.workload_file.proofs.Invariant.{any_push, no_name as nameless}
use Rattle.workload_file.proofs.Phrases.{all_append}
use Rattle.workload_file.proofs.Places.{bytes_are, bytes_same, apart_sym}
use Rattle.workload_file.proofs.Optioned.{text_skip, text_nothing, known_here}

-- ---- lines that say nothing

lead_words : (a : List ℕ) → words_of (32 ∷ a) ≡ words_of a
unfolding words_of
lead_words a = refl

leads_words : (n : ℕ) (a : List ℕ) → words_of (replicate n 32 ++ a) ≡ words_of a
leads_words zero a = refl
leads_words (suc n) a = lead_words (replicate n 32 ++ a) ∙ leads_words n a

comment_words : (parts : List (List ℕ)) → is_statement (filter (λ w. nat_lt 0 (length w)) (onto_first 35 parts)) ≡ false
comment_words parts = grind (arith, nat_tests)

comment_silent : (text : List ℕ) → is_statement (words_of (35 ∷ text)) ≡ false
unfolding words_of
comment_silent text = comment_words (between 32 text)

-- a plain line without a statement adds nothing
plain_adds : (r : Reading) (line : ℕ) (text : List ℕ) → IsPlain text → is_statement (words_of text) ≡ false → line_adds r line text ≡ Ok r
unfolding line_adds with_change
plain_adds r line text plain h = rw (silence r line text plain h) refl

spaces_printable : (n : ℕ) → list_all is_printable (replicate n 32) ≡ true
spaces_printable zero = refl
spaces_printable (suc n) = spaces_printable n

end_words : words_of [] ≡ []
unfolding words_of
end_words = refl

pub blank_adds : (r : Reading) (line n : ℕ) → n ≤ 512 → line_adds r line (replicate n 32) ≡ Ok r
blank_adds r line n le =
    let words : words_of (replicate n 32) ≡ words_of [] = ap words_of (sym (append-nil (replicate n 32))) ∙ leads_words n [] in
    plain_adds r line (replicate n 32) (record { short = omega (arith, le, length-replicate {A = ℕ} n 32); printable = spaces_printable n })
    (rw (words, end_words) refl)

pub comment_adds : (r : Reading) (line n : ℕ) (text : List ℕ) → IsPlain (replicate n 32 ++ 35 ∷ text) → line_adds r line (replicate n 32 ++ 35 ∷ text) ≡ Ok r
comment_adds r line n text plain = plain_adds r line (replicate n 32 ++ 35 ∷ text) plain (rw (leads_words n (35 ∷ text)) (comment_silent text))

-- ---- spaces

cut_append : (ends : Bool) (x : ℕ) (ps qs : List (List ℕ)) → 1 ≤ length ps
    → cond ends ([] ∷ (ps ++ qs)) (onto_first x (ps ++ qs)) ≡ cond ends ([] ∷ ps) (onto_first x ps) ++ qs
cut_append ends x ps qs e1 = grind (arith, nat_tests)

between_append : (a b : List ℕ) → between 32 (a ++ 32 ∷ b) ≡ between 32 a ++ between 32 b
between_append [] b = refl
between_append (x ∷ xs) b = grind (arith, nat_tests, between_append xs b, length-slice_split, onto_first, cut_append)

words_append : (a b : List ℕ) → words_of (a ++ 32 ∷ b) ≡ words_of a ++ words_of b
unfolding words_of
words_append a b = ap (filter (λ w. nat_lt 0 (length w))) (between_append a b) ∙ filter-append (λ w. nat_lt 0 (length w)) (between 32 a) (between 32 b)

printable_space : (a b : List ℕ) → list_all is_printable (a ++ 32 ∷ b) ≡ list_all is_printable (a ++ b)
printable_space [] b = refl
printable_space (x ∷ xs) b = ap (λ (t : Bool). is_printable x && t) (printable_space xs b)

-- lines with the same words
same_words : (r : Reading) (line : ℕ) (text other : List ℕ) → words_of text ≡ words_of other → list_all is_printable text ≡ list_all is_printable other
    → length text ≤ 512 → length other ≤ 512 → line_adds r line text ≡ line_adds r line other
unfolding line_adds line_gives
same_words r line text other w p h k = rw (le-ltb 512 (length text) h, le-ltb 512 (length other) k, p, w) refl

pub inner_space : (r : Reading) (line : ℕ) (a b : List ℕ) → length (a ++ 32 ∷ (32 ∷ b)) ≤ 512
    → line_adds r line (a ++ 32 ∷ (32 ∷ b)) ≡ line_adds r line (a ++ 32 ∷ b)
inner_space r line a b e1 = grind (arith, nat_tests, words_of, words_append, lead_words, same_words, printable_space, length-append)

pub first_space : (r : Reading) (line : ℕ) (a : List ℕ) → length (32 ∷ a) ≤ 512 → line_adds r line (32 ∷ a) ≡ line_adds r line a
first_space r line a h = same_words r line (32 ∷ a) a (lead_words a) refl h (omega (arith, h))

pub last_space : (r : Reading) (line : ℕ) (a : List ℕ) → length (a ++ 32 ∷ []) ≤ 512 → line_adds r line (a ++ 32 ∷ []) ≡ line_adds r line a
last_space r line a e1 = grind (arith, nat_tests, words_append, end_words, append-nil, printable_space, same_words, length-append)

-- ---- other words that give the same

-- the words behind the first one say the same in place of those
Instead : Reading → ℕ → List ℕ → List (List ℕ) → List (List ℕ) → Type 0
Instead r line first rest others = (w : Word) (name : List ℕ) (ps : List (List ℕ)) → IsRead r first rest w name ps
    → (qs : List (List ℕ)) × IsRead r first others w name qs × (change_of r line w name qs ≡ change_of r line w name ps)

cons_is : (x y : List ℕ) (xs ys : List (List ℕ)) → x ∷ xs ≡ y ∷ ys → (x ≡ y) × (xs ≡ ys)
cons_is x y xs ys e = (cc, cc)

gives_instead : (r : Reading) (line : ℕ) (text other first : List ℕ) (rest others : List (List ℕ)) (c : Option LineEffect) → words_of text ≡ first ∷ rest
    → words_of other ≡ first ∷ others → IsPlain other → Instead r line first rest others → line_gives r line text ≡ Ok c → line_gives r line other ≡ Ok c
unfolding Instead
gives_instead r line text other first rest others None w v plain each e =
    let l = silent r line text e in
    silence r line other plain (rw v (rw w at l.1))
gives_instead r line text other first rest others (Some c) w v plain each e =
    let st = (stated r line text c e).1 in
    let same = cons_is st.first first st.rest rest (sym st.are ∙ w) in
    let i = each st.word st.name st.options (rw (same.0, same.1) at st.read) in
    states r line other first others st.word st.name i.0 plain v i.1 ∙ ap (λ (x : LineEffect). Ok (Some x)) (i.2 ∙ st.change)

line_instead : (r : Reading) (line : ℕ) (text other first : List ℕ) (rest others : List (List ℕ)) (s : Reading) → words_of text ≡ first ∷ rest
    → words_of other ≡ first ∷ others → IsPlain other → Instead r line first rest others → line_adds r line text ≡ Ok s → line_adds r line other ≡ Ok s
unfolding line_adds
line_instead r line text other first rest others s w v plain each e =
    let b = bind_ok (line_gives r line text) (λ c. Ok (with_change r line c)) s (at_line_ok line _ s e) in
    rw (gives_instead r line text other first rest others b.0 w v plain each b.1) (ap (at_line line) b.2)

-- these options may stand in place of those
record IsInstead (before : List Statement) (fs : List Field) (ps qs : List (List ℕ)) : Type 0 where
  known : list_all (is_known fs) qs ≡ true
  once : has_twice qs ≡ false
  values : values_in before qs fs ≡ values_in before ps fs

read_instead : (r : Reading) (first : List ℕ) (rest others : List (List ℕ)) (w : Word) (name : List ℕ) (ps qs : List (List ℕ)) → IsRead r first rest w name ps
    → name_in (naming w) others ≡ name → options_in (naming w) others ≡ qs → IsInstead (here r) (fields w) ps qs → IsRead r first others w name qs
read_instead r first rest others w name ps qs e1 e2 e3 e4 = grind (arith, nat_tests)

change_instead : (r : Reading) (line : ℕ) (w : Word) (name : List ℕ) (ps qs : List (List ℕ))
    → values_in (here r) qs (fields w) ≡ values_in (here r) ps (fields w) → change_of r line w name qs ≡ change_of r line w name ps
change_instead r line w name ps qs e = ap (λ (vs : List OptionValue). change_with line w name (use_in (here r) (naming w) name) vs) e

-- ---- two options in the other order

and_swap : (a b c : Bool) → (a && (b && c)) ≡ (b && (a && c))
and_swap a b c = grind (arith, nat_tests)

or_swap : (a b c : Bool) → (a || (b || c)) ≡ (b || (a || c))
or_swap a b c = grind (arith, nat_tests)

all_swap : (q : List ℕ → Bool) (front : List (List ℕ)) (x y : List ℕ) (back : List (List ℕ))
    → list_all q (front ++ x ∷ (y ∷ back)) ≡ list_all q (front ++ y ∷ (x ∷ back))
all_swap q [] x y back = and_swap (q x) (q y) (list_all q back)
all_swap q (w ∷ ws) x y back = ap (λ (t : Bool). q w && t) (all_swap q ws x y back)

any_swap : (q : List ℕ → Bool) (front : List (List ℕ)) (x y : List ℕ) (back : List (List ℕ))
    → list_any q (front ++ x ∷ (y ∷ back)) ≡ list_any q (front ++ y ∷ (x ∷ back))
any_swap q [] x y back = or_swap (q x) (q y) (list_any q back)
any_swap q (w ∷ ws) x y back = ap (λ (t : Bool). q w || t) (any_swap q ws x y back)

pick_swap : (a b : Bool) (x y : List ℕ) (o : Option (List ℕ)) → (a && b) ≡ false → cond a (Some x) (cond b (Some y) o) ≡ cond b (Some y) (cond a (Some x) o)
pick_swap a b x y o e1 = grind (arith, nat_tests)

find_swap : (q : List ℕ → Bool) (front : List (List ℕ)) (x y : List ℕ) (back : List (List ℕ)) → (q x && q y) ≡ false
    → find q (front ++ x ∷ (y ∷ back)) ≡ find q (front ++ y ∷ (x ∷ back))
find_swap q [] x y back h = pick_swap (q x) (q y) x y (find q back) h
find_swap q (w ∷ ws) x y back h = ap (λ (o : Option (List ℕ)). cond (q w) (Some w) o) (find_swap q ws x y back h)

once_swap : (front : List (List ℕ)) (x y : List ℕ) (back : List (List ℕ)) → has_twice (front ++ x ∷ (y ∷ back)) ≡ false
    → (has_twice (front ++ y ∷ (x ∷ back)) ≡ false) × (bytes_eq (key_of y) (key_of x) ≡ false)
unfolding has_twice
once_swap [] x y back h = grind (arith, nat_tests, or_parts, or_from, apart_sym, key_of)
once_swap (w ∷ ws) x y back h = grind (arith, nat_tests, once_swap ws x y back, or_parts, or_from, any_swap, bytes_eq, key_of)

not_both : (x y key : List ℕ) → bytes_eq y x ≡ false → (bytes_eq x key && bytes_eq y key) ≡ false
not_both x y key apart =
    elim (cases_Bool (bytes_eq x key)) [
      | inl a ↦ elim (cases_Bool (bytes_eq y key)) [
        | inl b ↦ absurd (
            let same : y ≡ x = bytes_are y key b ∙ sym (bytes_are x key a) in
            let yes : bytes_eq y x ≡ true = rw same (bytes_same x) in cc)
        | inr b ↦ rw (a, b) refl
      ]
      | inr a ↦ rw a refl
    ]

text_swap : (k : Key) (front : List (List ℕ)) (x y : List ℕ) (back : List (List ℕ)) → bytes_eq (key_of y) (key_of x) ≡ false
    → text_of k (front ++ y ∷ (x ∷ back)) ≡ text_of k (front ++ x ∷ (y ∷ back))
unfolding text_of
text_swap k front x y back apart = ap (option_map value_of)
    (sym (find_swap (λ w. bytes_eq (key_of w) (key_text k)) front x y back (not_both (key_of x) (key_of y) (key_text k) apart)))

values_same : (before : List Statement) (ps qs : List (List ℕ)) (fs : List Field) → ((k : Key) → text_of k qs ≡ text_of k ps)
    → values_in before qs fs ≡ values_in before ps fs
values_same before ps qs fs e1 = grind (arith, nat_tests)

byte_equals : (b : ℕ) → is_name_byte b ≡ true → eqb b 61 ≡ false
byte_equals b e1 = grind (arith, nat_tests)

bytes_equals : (bs : List ℕ) → list_all is_name_byte bs ≡ true → list_any (λ b. eqb b 61) bs ≡ false
bytes_equals [] h = refl
bytes_equals (b ∷ bs) h = let both = and_parts (is_name_byte b) (list_all is_name_byte bs) h in or_from _ _ (byte_equals b both.0) (bytes_equals bs both.1)

-- an option is no name
no_name : (word : List ℕ) → has_equals word ≡ true → is_name word ≡ true → ⊥
unfolding is_name
no_name word h n =
    let bytes = and_parts (begins_with_letter word && nat_le (length word) 16) (list_all is_name_byte word) n in
    let none = bytes_equals word bytes.1 in
    cc

-- the two options stand behind the name, where the first of them is no name
record IsBehind (n : Naming) (front : List (List ℕ)) (x y : List ℕ) (back : List (List ℕ)) : Type 0 where
  ahead : List (List ℕ)
  are : options_in n (front ++ x ∷ (y ∷ back)) ≡ ahead ++ x ∷ (y ∷ back)
  named : name_in n (front ++ y ∷ (x ∷ back)) ≡ name_in n (front ++ x ∷ (y ∷ back))
  again : options_in n (front ++ y ∷ (x ∷ back)) ≡ ahead ++ y ∷ (x ∷ back)

behind : (n : Naming) (front : List (List ℕ)) (x y : List ℕ) (back : List (List ℕ)) → has_equals x ≡ true
    → (has_second n && not (is_name (name_in n (front ++ x ∷ (y ∷ back))))) ≡ false → IsBehind n front x y back
behind rule.Bare [] x y back h good = record { ahead = []; are = refl; named = refl; again = refl }
behind rule.Bare (z ∷ zs) x y back h good = record { ahead = z ∷ zs; are = refl; named = refl; again = refl }
behind _ [] x y back h good = absurd (no_name x h (not-false (is_name x) good))
behind _ (z ∷ zs) x y back h good = record { ahead = zs; are = refl; named = refl; again = refl }

swapped : (r : Reading) (line : ℕ) (first : List ℕ) (front : List (List ℕ)) (x y : List ℕ) (back : List (List ℕ)) → has_equals x ≡ true
    → Instead r line first (front ++ x ∷ (y ∷ back)) (front ++ y ∷ (x ∷ back))
unfolding Instead
swapped r line first front x y back h = λ w name os read.
    let n = naming w in
    let b = behind n front x y back h (rw read.name_is read.named) in
    let ps = b.ahead ++ x ∷ (y ∷ back) in
    let qs = b.ahead ++ y ∷ (x ∷ back) in
    let here_ps : os ≡ ps = sym read.options_are ∙ b.are in
    let known = subst (λ (o : List (List ℕ)). list_all (is_known (fields w)) o ≡ true) here_ps read.known in
    let once = once_swap b.ahead x y back (subst (λ (o : List (List ℕ)). has_twice o ≡ false) here_ps read.once) in
    let values : values_in (here r) qs (fields w) ≡ values_in (here r) os (fields w) =
    values_same (here r) ps qs (fields w) (λ k. text_swap k b.ahead x y back once.1)
    ∙ ap (λ (o : List (List ℕ)). values_in (here r) o (fields w)) (sym here_ps) in (
      qs,
      read_instead r first (front ++ x ∷ (y ∷ back)) (front ++ y ∷ (x ∷ back)) w name os qs read (b.named
          ∙ read.name_is) b.again (record {
            known = sym (all_swap (is_known (fields w)) b.ahead x y back) ∙ known;
            once = once.0;
            values = values;
          }),
      change_instead r line w name os qs values,
    )

pub swapped_adds : (text other : List ℕ) → IsSwapped text other → IsPlain other → AddsAlike text other
swapped_adds text other w plain = λ r line s e.
    line_instead r line text other w.first (w.front ++ w.one ∷ (w.two ∷ w.back)) (w.front ++ w.two
    ∷ (w.one ∷ w.back)) s w.words w.others plain (swapped r line w.first w.front w.one w.two w.back w.option) e

-- ---- a default that is written out

name_push : (n : Naming) (rest : List (List ℕ)) (o : List ℕ) → (has_second n && not (is_name (name_in n rest))) ≡ false
    → (name_in n (rest ++ o ∷ []) ≡ name_in n rest) × (options_in n (rest ++ o ∷ []) ≡ options_in n rest ++ o ∷ [])
name_push rule.Bare [] o h = (refl, refl)
name_push rule.Bare (x ∷ xs) o h = (refl, refl)
name_push _ [] o h = absurd (nameless (not-false (is_name []) h))
name_push _ (x ∷ xs) o h = (refl, refl)

any_named : (q : List ℕ → Bool) (n : Naming) (rest : List (List ℕ)) → list_any q rest ≡ false → list_any q (options_in n rest) ≡ false
any_named q n rest e1 = grind (arith, nat_tests)

twice_push : (k : Key) (ps : List (List ℕ)) (o : List ℕ) → key_of o ≡ key_text k → has_twice ps ≡ false → gives_option k ps ≡ false
    → has_twice (ps ++ o ∷ []) ≡ false
unfolding has_twice
twice_push k [] o e h g = refl
twice_push k (p ∷ ps) o e h g = grind (arith, nat_tests, twice_push k ps o e, or_parts, bytes_eq, key_of, apart_sym, key_text, or_from, any_push)

find_push : (q : List ℕ → Bool) (ps : List (List ℕ)) (o : List ℕ) → q o ≡ false → find q (ps ++ o ∷ []) ≡ find q ps
find_push q [] o f = rw f refl
find_push q (p ∷ ps) o f = ap (λ (x : Option (List ℕ)). cond (q p) (Some p) x) (find_push q ps o f)

text_other : (k : Key) (ps : List (List ℕ)) (o : List ℕ) → bytes_eq (key_of o) (key_text k) ≡ false → text_of k (ps ++ o ∷ []) ≡ text_of k ps
unfolding text_of
text_other k ps o f = ap (option_map value_of) (find_push (λ w. bytes_eq (key_of w) (key_text k)) ps o f)

text_absent : (k : Key) (ps : List (List ℕ)) → gives_option k ps ≡ false → text_of k ps ≡ None
text_absent k ps h = ap (text_of k) (sym (append-nil ps)) ∙ text_nothing k ps [] h refl

-- an option that is written out, and what it gives
record IsOut (before : List Statement) (f : Field) (ps : List (List ℕ)) (o value : List ℕ) : Type 0 where
  key : key_of o ≡ key_text f.key
  text : value_of o ≡ value
  absent : gives_option f.key ps ≡ false
  reads : value_given before f.shape value ≡ value_absent f.absent f.shape

values_other : (before : List Statement) (ps : List (List ℕ)) (o : List ℕ) (k : Key) (fs : List Field) → key_of o ≡ key_text k
    → list_any (λ g. bytes_eq (key_text g.key) (key_text k)) fs ≡ false → values_in before (ps ++ o ∷ []) fs ≡ values_in before ps fs
values_other before ps o k [] e h = refl
values_other before ps o k (g ∷ gs) e h =
    grind (arith, nat_tests, values_other before ps o k gs e, or_parts, bytes_eq, key_text, list_any, key_of, apart_sym, option_value_at, text_other)

values_out : (before : List Statement) (ps : List (List ℕ)) (o value : List ℕ) (f : Field) (fs : List Field) → IsOut before f ps o value → AreApart fs
    → IsField fs f → values_in before (ps ++ o ∷ []) fs ≡ values_in before ps fs
values_out before ps o value f [] out apart is = absurd cc
values_out before ps o value f (g ∷ gs) out apart is =
    elim (cases_Bool (bytes_eq (key_text g.key) (key_text f.key))) [
      | inl t ↦
          let found = rw t at is in
          let same : g ≡ f = cc in
          let with_it : option_value_at before f (text_of f.key (ps ++ o ∷ [])) ≡ value_given before f.shape value =
          ap (option_value_at before f) (text_skip f.key ps [] o value out.absent out.key out.text) in
          let without : option_value_at before f (text_of f.key ps) ≡ value_absent f.absent f.shape =
          ap (option_value_at before f) (text_absent f.key ps out.absent) in
          let first : option_value_at before g (text_of g.key (ps ++ o ∷ [])) ≡ option_value_at before g (text_of g.key ps) =
          rw same (with_it ∙ (out.reads ∙ sym without)) in
          let rest = values_other before ps o f.key gs out.key
          (subst (λ (x : Field). list_any (λ h. bytes_eq (key_text h.key) (key_text x.key)) gs ≡ false) same apart.0) in
          λ i. first i ∷ rest i
      | inr n ↦
          let other : bytes_eq (key_of o) (key_text g.key) ≡ false = rw out.key (apart_sym (key_text g.key) (key_text f.key) n) in
          let first = ap (option_value_at before g) (text_other g.key ps o other) in
          let rest = values_out before ps o value f gs out apart.1 (rw n at is) in
          λ i. first i ∷ rest i
    ]

written_out : (r : Reading) (line : ℕ) (first : List ℕ) (rest : List (List ℕ)) (w : Word) (f : Field) (value : List ℕ) → word_of first ≡ Some w
    → IsField (fields w) f → gives_option f.key rest ≡ false → value_given (here r) f.shape value ≡ value_absent f.absent f.shape
    → Instead r line first rest (rest ++ (key_text f.key ++ 61 ∷ value) ∷ [])
unfolding Instead
written_out r line first rest w f value e1 e2 e3 e4 =
    grind (arith, nat_tests, option_is, any_named, values_out, fields_apart, name_push, read_instead, all_append, known_here, twice_push, change_instead)

pub written_adds : (text other : List ℕ) → IsWrittenOut text other → IsPlain other → AddsAlike text other
written_adds text other w plain = λ r line s e.
    line_instead r line text other w.first w.rest (w.rest ++ (key_text w.field.key ++ 61 ∷ w.value) ∷ []) s w.words w.others plain
    (written_out r line w.first w.rest w.word w.field w.value w.statement w.option w.absent (w.reads (here r) ∙ sym w.usual)) e

-- ---- texts

lines_alike : (before after : List (List ℕ)) (text other : List ℕ) → AddsAlike text other → (r : Reading) (line : ℕ) (s : Reading)
    → lines_add r line (before ++ text ∷ after) ≡ Ok s → lines_add r line (before ++ other ∷ after) ≡ Ok s
unfolding lines_add
lines_alike [] after text other a r line s e = grind (arith, nat_tests, bind_ok, line_adds, one_more)
lines_alike (x ∷ xs) after text other a r line s e = grind (arith, nat_tests, lines_alike xs after text other a, bind_ok, line_adds, one_more)

pub texts_alike : (bytes others text other : List ℕ) (load : Workload) → DifferAt bytes others text other → AddsAlike text other → workload_of bytes ≡ Ok load
    → workload_of others ≡ Ok load
unfolding workload_of
texts_alike bytes others text other load e1 e2 e3 = grind (arith, nat_tests, bind_ok, lines_add, lines_alike)

-- ==== a line more that adds nothing moves the numbers of the lines behind it, and nothing else

-- ---- what is found in statements without their numbers

same_length : {X Y : Type 0} (f : X → Y) (xs ys : List X) → map f xs ≡ map f ys → length xs ≡ length ys
same_length f xs ys e = sym (length-map xs f) ∙ (ap (λ (l : List _). length l) e ∙ length-map ys f)

place_still : (name : List ℕ) (sts : List Statement)
    → position_or_len (λ s. is_called name s.name) (map still sts) ≡ position_or_len (λ s. is_called name s.name) sts
place_still name [] = refl
place_still name (s ∷ ss) = grind (arith, nat_tests, place_still name ss, is_called)

bound_still : (name : List ℕ) (sts : List Statement) → bound_at name (map still sts) ≡ bound_at name sts
bound_still name sts = rw (place_still name sts, length-map sts still) refl

binding_still : (s : Sort) (o : Option Statement) → is_binding s (option_map still o) ≡ is_binding s o
binding_still s o = grind (arith, nat_tests)

found_still : (s : Sort) (sts : List Statement) (o : Option ℕ)
    → option_and_then (λ place. cond (is_binding s (slice_get (map still sts) place)) (Some place) None) o
    ≡ option_and_then (λ place. cond (is_binding s (slice_get sts place)) (Some place) None) o
found_still s sts o = grind (arith, nat_tests, slice_get-map, binding_still)

named_still : (s : Sort) (name : List ℕ) (sts : List Statement) → place_of s name (map still sts) ≡ place_of s name sts
unfolding place_of
named_still s name sts = ap (option_and_then (λ place. cond (is_binding s (slice_get (map still sts) place)) (Some place) None)) (bound_still name sts)
    ∙ found_still s sts (bound_at name sts)

begins_still : (sts : List Statement) → list_any (λ s. is_begin s.deed) (map still sts) ≡ list_any (λ s. is_begin s.deed) sts
begins_still [] = refl
begins_still (s ∷ ss) = ap (λ (t : Bool). is_begin s.deed || t) (begins_still ss)

names_still : (name : List ℕ) (ps : List Part) → list_any (λ p. bytes_eq p.name name) (map still_part ps) ≡ list_any (λ p. bytes_eq p.name name) ps
names_still name [] = refl
names_still name (p ∷ ps) = ap (λ (t : Bool). bytes_eq p.name name || t) (names_still name ps)

-- ---- two states that are the same but for the numbers of their lines

record AreAlike (r q : Reading) : Type 0 where
  settings : r.settings ≡ q.settings
  count : r.count ≡ q.count
  before : map still_part r.before ≡ map still_part q.before
  name : r.current.name ≡ q.current.name
  statements : map still r.current.statements ≡ map still q.current.statements

place_alike : (r q : Reading) → AreAlike r q → (s : Sort) (name : List ℕ) → place_of s name (here r) ≡ place_of s name (here q)
place_alike r q a s name = sym (named_still s name (here r)) ∙ (ap (place_of s name) a.statements ∙ named_still s name (here q))

callers_alike : (r q : Reading) (w : Word) → AreAlike r q → is_ninth_caller r w ≡ is_ninth_caller q w
unfolding is_ninth_caller
callers_alike r q w e1 = grind (arith, nat_tests, nat_le, same_length, still_part)

begin_alike : (r q : Reading) → AreAlike r q → list_any (λ s. is_begin s.deed) (here r) ≡ list_any (λ s. is_begin s.deed) (here q)
begin_alike r q a = sym (begins_still (here r)) ∙ (ap (list_any (λ s. is_begin s.deed)) a.statements ∙ begins_still (here q))

placed_alike : (r q : Reading) (w : Word) → AreAlike r q → is_misplaced r w ≡ is_misplaced q w
unfolding is_misplaced
placed_alike r q w e1 = grind (arith, nat_tests, same_length, still_part, begin_alike)

taken_alike : (r q : Reading) (n : Naming) (name : List ℕ) → AreAlike r q → is_taken r n name ≡ is_taken q n name
unfolding is_taken
taken_alike r q (rule.Binds s) name a = ap is_some (sym (bound_still name (here r)) ∙ (ap (bound_at name) a.statements ∙ bound_still name (here q)))
taken_alike r q rule.Caller name a = grind (arith, nat_tests, bytes_eq, names_still)
taken_alike r q rule.Bare name a = refl
taken_alike r q (rule.Uses s) name a = refl

given_alike : (r q : Reading) (s : OptionShape) (text : List ℕ) → AreAlike r q → value_given (here r) s text ≡ value_given (here q) s text
unfolding value_given
given_alike r q s text e1 = grind (arith, nat_tests, is_name, or_unbound, place_alike)

value_alike : (r q : Reading) (f : Field) (o : Option (List ℕ)) → AreAlike r q → option_value_at (here r) f o ≡ option_value_at (here q) f o
value_alike r q f o e1 = grind (arith, nat_tests, given_alike)

values_alike : (r q : Reading) (options : List (List ℕ)) (fs : List Field) → AreAlike r q → values_in (here r) options fs ≡ values_in (here q) options fs
values_alike r q options [] a = refl
values_alike r q options (f ∷ fs) a = grind (arith, nat_tests, values_alike r q options fs a, value_alike, text_of)

used_alike : (r q : Reading) (n : Naming) (name : List ℕ) → AreAlike r q → use_in (here r) n name ≡ use_in (here q) n name
used_alike r q n name e1 = grind (arith, nat_tests, place_alike)

-- ---- one line

-- the line at another number
abbrev moved : ℕ → LineEffect → LineEffect
moved line (change.Node s) = change.Node s
moved line (change.Caller name) = change.Caller name
moved line (change.Statement s) = change.Statement (record s { line = line })

read_alike : (r q : Reading) (first : List ℕ) (rest : List (List ℕ)) (w : Word) (name : List ℕ) (options : List (List ℕ)) → AreAlike r q
    → IsRead r first rest w name options → IsRead q first rest w name options
read_alike r q first rest w name options e1 e2 =
    grind (arith, nat_tests, nat_le, callers_alike, placed_alike, list_all, is_sound, values_alike, taken_alike, is_unbound, used_alike)

moved_is : (line at : ℕ) (w : Word) (name : List ℕ) (place : Option ℕ) (vs : List OptionValue)
    → change_with at w name place vs ≡ moved at (change_with line w name place vs)
unfolding change_with
moved_is line at w name place vs = grind (arith, nat_tests)

change_alike : (r q : Reading) (line at : ℕ) (w : Word) (name : List ℕ) (options : List (List ℕ)) → AreAlike r q
    → change_of q at w name options ≡ moved at (change_of r line w name options)
change_alike r q line at w name options e1 = grind (arith, nat_tests, used_alike, values_alike, moved_is, use_in, values_in)

abbrev moved_if : ℕ → Option LineEffect → Option LineEffect
moved_if at None = None
moved_if at (Some c) = Some (moved at c)

gives_alike : (r q : Reading) (line at : ℕ) (text : List ℕ) (c : Option LineEffect) → AreAlike r q → line_gives r line text ≡ Ok c
    → line_gives q at text ≡ Ok (moved_if at c)
gives_alike r q line at text None a e = let l = silent r line text e in silence q at text l.0 l.1
gives_alike r q line at text (Some c) a e =
    let l = stated r line text c e in
    let st = l.1 in
    let same : change_of q at st.word st.name st.options ≡ moved at c = change_alike r q line at st.word st.name st.options a ∙ ap (moved at) st.change in
    states q at text st.first st.rest st.word st.name st.options l.0 st.are (read_alike r q st.first st.rest st.word st.name st.options a st.read)
    ∙ ap (λ (x : LineEffect). Ok (Some x)) same

push_alike : (xs ys : List Statement) (s t : Statement) → map still xs ≡ map still ys → still s ≡ still t → map still (xs ++ s ∷ []) ≡ map still (ys ++ t ∷ [])
push_alike xs ys s t e h = rw (map-append still xs (s ∷ []), map-append still ys (t ∷ []), e, h) refl

parts_alike : (r q : Reading) → AreAlike r q → map still_part (r.before ++ r.current ∷ []) ≡ map still_part (q.before ++ q.current ∷ [])
parts_alike r q a = rw (map-append still_part r.before (r.current ∷ []), map-append still_part q.before (q.current ∷ []), a.before, a.name, a.statements) refl

count_more : (r q : Reading) → AreAlike r q → r.count + 1 ≡ q.count + 1
count_more r q a = ap (λ (n : ℕ). n + 1) a.count

with_alike : (r q : Reading) (line at : ℕ) (c : Option LineEffect) → AreAlike r q → AreAlike (with_change r line c) (with_change q at (moved_if at c))
unfolding with_change
with_alike r q line at c e1 = grind (arith, nat_tests, count_more, parts_alike, push_alike)

-- ---- all lines

record AddsStill (q : Reading) (at : ℕ) (texts : List (List ℕ)) (s : Reading) : Type 0 where
  state : Reading
  adds : lines_add q at texts ≡ Ok state
  alike : AreAlike s state

lines_still : (texts : List (List ℕ)) (r q s : Reading) (line at : ℕ) → AreAlike r q → lines_add r line texts ≡ Ok s → AddsStill q at texts s
unfolding lines_add line_adds
lines_still [] r q s line at a e = record { state = q; adds = refl; alike = subst (λ (x : Reading). AreAlike x q) (ok_is r s e) a }
lines_still (text ∷ texts) r q s line at a e =
    let b = bind_ok (line_adds r line text) _ s e in
    let d = bind_ok (line_gives r line text) _ b.0 (at_line_ok line _ b.0 b.1) in
    let t = with_change q at (moved_if at d.0) in
    let next : AreAlike b.0 t = subst (λ (x : Reading). AreAlike x t) (ok_is (with_change r line d.0) b.0 d.2) (with_alike r q line at d.0 a) in
    let rest = lines_still texts b.0 t s (line + 1) (at + 1) next b.2 in
    record {
      state = rest.state;
      adds = one_more q t at text texts (Ok rest.state)
          (gives_adds q at text (moved_if at d.0) (gives_alike r q line at text d.0 a d.1)) rest.adds;
      alike = rest.alike;
    }

same_alike : (r : Reading) → AreAlike r r
same_alike r = record { settings = refl; count = refl; before = refl; name = refl; statements = refl }

lines_inserted : (before after : List (List ℕ)) (text : List ℕ) (r s : Reading) (line : ℕ) → AddsNothing text → lines_add r line (before ++ after) ≡ Ok s
    → AddsStill r line (before ++ text ∷ after) s
unfolding lines_add
lines_inserted [] after text r s line none e =
    let rest = lines_still after r r s line (line + 1) (same_alike r) e in
    record { state = rest.state; adds = one_more r r line text after (Ok rest.state) (none r line) rest.adds; alike = rest.alike }
lines_inserted (x ∷ xs) after text r s line none e =
    let b = bind_ok (line_adds r line x) _ s e in
    let rest = lines_inserted xs after text b.0 s (line + 1) none b.2 in
    record { state = rest.state; adds = one_more r b.0 line x (xs ++ text ∷ after) (Ok rest.state) b.1 rest.adds; alike = rest.alike }

pub text_inserted : (bytes others text : List ℕ) (load : Workload) → IsInserted bytes others text → AddsNothing text → workload_of bytes ≡ Ok load
    → GivesStill others load
unfolding workload_of
text_inserted bytes others text load i none e =
    let b = bind_ok (lines_add empty_reading 1 (between 10 bytes)) _ load e in
    let h = lines_inserted i.before i.after text empty_reading b.0 1 none (subst (λ (ts : List (List ℕ)). lines_add empty_reading 1 ts ≡ Ok b.0) i.lines b.1) in
    record {
      given = finished h.state;
      gives = rw (i.other_lines, h.adds) refl;
      same = subst (λ (l : Workload). AreStill l (finished h.state)) (ok_is (finished b.0) load b.2)
          (record { settings = h.alike.settings; parts = parts_alike b.0 h.state h.alike });
    }
