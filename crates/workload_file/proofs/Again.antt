-- The canonical text of what a text gives, read again.
use Rattle.std.proofs.lemmas.Bool.Decides.{nat_tests}
use Rattle.workload_file.proofs.Cited.{◌≡◌, ℕ, ◌+◌, ◌≤◌, List, [], ◌∷◌, ◌++◌, length, true, false, eqb, Some, Ok, refl, sym, ap, subst, ◌∙◌, arith, length-append, All, ◌-◌, Option, None, ◌⊎◌, inl, inr, map, append_assoc, list_all, flat_map, bytes_eq, and_parts, and_from, ne_eqb, eqb-true, cases_Bool, eq-eqb, not-false, NodeSettings, Word, Naming, OptionValue, Statement, Reading, LineEffect, statement_row, word_text, word_of, words, naming, fields, setting_values, place_of, use_in, is_unbound, name_in, options_in, is_misplaced, line_gives, with_change, line_adds, lines_add, empty_reading, finished, workload_of, bound_name, values_in, change_of, number_or_zero, change_with, value_text, options_words, bound_words, used_words, line_text, statement_text, node_text, caller_text, TextLine, if_any, statement_lines_behind, lines_of_part, workload_lines, laid_out, canonical, led, between, led_append, append-nil, slice_split_at, slice_split_none, Part, Workload, words_of, statement_lines, line_if_any, part_lines}
use Rattle.workload_file.specs.declared.table.Word.TheVariants as word
use Rattle.workload_file.specs.declared.table.Naming.TheVariants as rule
use Rattle.workload_file.specs.declared.reading.LineEffect.TheVariants as change
use Rattle.workload_file.proofs.Facts.{IsRead, stated, states, here, is_sound, bind_ok, ok_is, at_line_ok, one_more, gives_adds}
use Rattle.workload_file.proofs.Fields.{is_deed, IsEffectOf, says_node, says_caller, says_deed, says, fields_apart, fields_found, fields_good, place_at, made, deed_said}
use Rattle.workload_file.proofs.Finds.{find_passes}
use Rattle.workload_file.proofs.Optioned.{all_read, opts_known, opts_words, opts_once, values_from, free_none}
use Rattle.workload_file.proofs.Invariant.{flat_push, splits, deed_given, node_given, named, IsFormed, adds_keeps, start_formed}
use Rattle.workload_file.proofs.Phrases.{is_word, all_append, all_parts, words_good, words_again, line_printable, printable_lacks, led_length, words_shorter, statements_push, statements_none, laid_none, text_led}
use Rattle.workload_file.proofs.Spelling.{picks_short, place_is, place_found}
use Rattle.workload_file.proofs.Places.{bytes_are}

-- ==== a line that is written again is no longer than the line that was read

-- ---- the text of what a line gave

abbrev pub text_of_change : Reading → LineEffect → List ℕ
text_of_change r (change.Node settings) = node_text settings
text_of_change r (change.Caller name) = caller_text name
text_of_change r (change.Statement s) = statement_text r.current.statements s

word_spelled : (first : List ℕ) (w : Word) → word_of first ≡ Some w → word_text w ≡ first
unfolding word_of
word_spelled first w e = bytes_are (word_text w) first (find_passes (λ w. bytes_eq (word_text w) first) words w e)

pub deed_naming : (w : Word) → is_deed w ≡ true → naming w ≡ rule.Caller → ⊥
unfolding statement_row
deed_naming w e1 e2 = grind (arith, nat_tests)

-- the words between the first one and the options
names_written : (before : List Statement) (n : Naming) (name : List ℕ) (ps : List (List ℕ)) → (n ≡ rule.Caller → ⊥)
    → is_unbound n (use_in before n name) ≡ false
    → bound_words (bound_name n name) ++ (used_words before (place_at n (number_or_zero (use_in before n name))) ++ ps) ≡ named n name ++ ps
names_written before rule.Caller name ps c u = absurd (c refl)
names_written before (rule.Uses s) name ps c u = let p = place_found (place_of s name before) u in rw (p.1, (place_is s name before p.0 p.1).1) refl
names_written before _ name ps c u = refl

node_options : (before : List Statement) (settings : NodeSettings)
    → options_words [] (fields word.Node) (setting_values settings) ≡ options_words before (fields word.Node) (setting_values settings)
unfolding options_words statement_row value_text
node_options before settings = refl

split_again : (n : Naming) (rest : List (List ℕ)) (name : List ℕ) (ps : List (List ℕ)) → name_in n rest ≡ name
    → (name_in n (named n name ++ ps) ≡ name) × (options_in n (named n name ++ ps) ≡ ps)
split_again n rest name ps e1 = grind (arith, nat_tests)

node_named : (name : List ℕ) → named (naming word.Node) name ≡ []
unfolding statement_row
node_named name = refl

caller_named : (name : List ℕ) → named (naming word.Caller) name ≡ name ∷ []
unfolding statement_row
caller_named name = refl

-- a caller line has no options
caller_options : (before : List Statement) (options : List (List ℕ))
    → options_words before (fields word.Caller) (values_in before options (fields word.Caller)) ≡ []
unfolding statement_row options_words
caller_options before options = refl

-- ---- the words of the line that is written

-- the options that are written are a statement that gives the values that were read
record IsChosen (r : Reading) (first : List ℕ) (w : Word) (name : List ℕ) (options : List (List ℕ)) : Type 0 where
  words : List (List ℕ)
  are : words ≡ options_words (here r) (fields w) (values_in (here r) options (fields w))
  short : length (led 32 words) ≤ length (led 32 options)
  good : list_all is_word words ≡ true
  read : IsRead r first (named (naming w) name ++ words) w name words
  values : values_in (here r) words (fields w) ≡ values_in (here r) options (fields w)

chosen : (r : Reading) (first : List ℕ) (rest : List (List ℕ)) (w : Word) (name : List ℕ) (options : List (List ℕ)) → IsRead r first rest w name options
    → list_all is_word options ≡ true → IsChosen r first w name options
chosen r first rest w name options read words =
    let fs = fields w in
    let vs = values_in (here r) options fs in
    let h = all_read (here r) fs options fs (fields_good w) read.known words read.sound in
    let again = values_from (here r) [] fs vs h (fields_apart w) (fields_good w) (free_none fs) in
    let split = split_again (naming w) rest name (options_words (here r) fs vs) read.name_is in
    record {
      words = options_words (here r) fs vs;
      are = refl;
      short = picks_short (here r) options fs (fields_apart w) (fields_good w) read.known read.sound;
      good = opts_words fs (here r) fs vs (fields_found w) h;
      read = record {
        comment = read.comment;
        word = read.word;
        name_is = split.0;
        options_are = split.1;
        few = read.few;
        callers = read.callers;
        placed = read.placed;
        named = read.named;
        known = opts_known fs (here r) fs vs (fields_found w) h;
        once = opts_once (here r) fs vs (fields_apart w) h;
        sound = ap (list_all is_sound) again ∙ read.sound;
        free = read.free;
        bound = read.bound;
      };
      values = again;
    }

-- the line that is written of what was read
written_as : (r : Reading) (line : ℕ) (first : List ℕ) (rest : List (List ℕ)) (w : Word) (name : List ℕ) (options : List (List ℕ)) (c : LineEffect)
    → IsRead r first rest w name options → IsEffectOf r line w name options c
    → text_of_change r c ≡ line_text (first ∷ (named (naming w) name ++ options_words (here r) (fields w) (values_in (here r) options (fields w))))
written_as r line first rest w name options c e1 e2 =
    grind (arith, nat_tests, node_given, node_named, word_spelled, node_options, caller_named, caller_options, deed_given, names_written, deed_naming)

-- ---- the line

-- what is written is no longer than what was read, and gives the same
pub record IsAgain (r : Reading) (line : ℕ) (text : List ℕ) (c : LineEffect) : Type 0 where
  pub shorter : length (text_of_change r c) ≤ length text
  pub adds : line_adds r line (text_of_change r c) ≡ Ok (with_change r line (Some c))
  pub lacks : All (λ b. eqb b 10 ≡ false) (text_of_change r c)

shorter_words : (first : List ℕ) (named rest options ps : List (List ℕ)) (text : List ℕ) → rest ≡ named ++ options
    → length (led 32 ps) ≤ length (led 32 options) → length (led 32 (first ∷ rest)) ≤ length text + 1 → length (line_text (first ∷ (named ++ ps))) ≤ length text
shorter_words first named rest options ps text is le fit =
    let a = led_length 32 first (named ++ ps) in
    let b = length-append first (led 32 (named ++ ps)) in
    let c : length (led 32 (named ++ ps)) ≡ length (led 32 named) + length (led 32 ps) =
    ap (λ (l : List ℕ). length l) (led_append 32 named ps) ∙ length-append (led 32 named) (led 32 ps) in
    let d : length (led 32 rest) ≡ length (led 32 named) + length (led 32 options) =
    ap (λ (l : List (List ℕ)). length (led 32 l)) is
    ∙ (ap (λ (l : List ℕ). length l) (led_append 32 named options) ∙ length-append (led 32 named) (led 32 options)) in
    let e = length-append first (led 32 rest) in
    omega (arith, a, b, c, d, e, le, fit)

pub line_again : (r : Reading) (line : ℕ) (text : List ℕ) (c : LineEffect) → line_gives r line text ≡ Ok (Some c) → IsAgain r line text c
line_again r line text c e =
    let l = stated r line text c e in
    let st = l.1 in
    let n = naming st.word in
    let is : st.rest ≡ named n st.name ++ st.options =
    subst (λ (x : List ℕ). st.rest ≡ named n x
    ++ st.options) st.read.name_is (subst (λ (x : List (List ℕ)). st.rest
    ≡ named n (name_in n st.rest) ++ x) st.read.options_are (splits n st.rest (rw st.read.name_is st.read.named))) in
    let whole = and_parts (is_word st.first) (list_all is_word st.rest)
    (subst (λ (x : List (List ℕ)). list_all is_word x ≡ true) st.are (words_good text l.0.printable)) in
    let parts = all_parts is_word (named n st.name) st.options (subst (λ (x : List (List ℕ)). list_all is_word x ≡ true) is whole.1) in
    let again = chosen r st.first st.rest st.word st.name st.options st.read parts.1 in
    let written = written_as r line st.first st.rest st.word st.name st.options c st.read (says r line st.word st.name st.options c st.change) in
    let behind = named n st.name ++ again.words in
    let shows : text_of_change r c ≡ line_text (st.first ∷ behind) =
    written ∙ ap (λ (ps : List (List ℕ)). line_text (st.first ∷ (named n st.name ++ ps))) (sym again.are) in
    let good : list_all is_word (st.first ∷ behind) ≡ true =
    and_from (is_word st.first) (list_all is_word behind) whole.0 (all_append is_word (named n st.name) again.words parts.0 again.good) in
    let printable = line_printable st.first behind good in
    let fit = rw st.are at (words_shorter text) in
    let shorter = shorter_words st.first (named n st.name) st.rest st.options again.words text is again.short fit in
    let gives = states r line (line_text (st.first ∷ behind)) st.first behind st.word st.name again.words
    (record { short = omega (arith, shorter, l.0.short); printable = printable }) (words_again st.first behind good) again.read in
    let same : change_of r line st.word st.name again.words ≡ c =
    ap (λ (vs : List OptionValue). change_with line st.word st.name (use_in (here r) n st.name) vs) again.values ∙ st.change in
    record {
      shorter = rw shows shorter;
      adds = rw shows (gives_adds r line (line_text (st.first ∷ behind)) (Some c) (gives ∙ ap (λ (x : LineEffect). Ok (Some x)) same));
      lacks = rw shows (printable_lacks (line_text (st.first ∷ behind)) printable);
    }

-- ==== the canonical text of what a text gives, read again

-- ---- the lines of what is read so far

abbrev shown : Reading → List TextLine
shown r = workload_lines (finished r)

pub line_shown : (line : ℕ) (text : List ℕ) → 1 ≤ line → if_any line text ≡ (line, text) ∷ []
line_shown line text le = let n : line ≡ 0 → ⊥ = λ (e : line ≡ 0). omega arith in rw (ne_eqb line 0 n) refl

statement_shown : (r : Reading) (s : Statement)
    → shown (with_change r s.line (Some (change.Statement s))) ≡ shown r ++ (s.line, statement_text r.current.statements s) ∷ []
unfolding with_change
statement_shown r s = grind (arith, nat_tests, flat_push, lines_of_part, statements_push, append_assoc)

caller_shown : (r : Reading) (line : ℕ) (name : List ℕ) → 1 ≤ line
    → shown (with_change r line (Some (change.Caller name))) ≡ shown r ++ (line, caller_text name) ∷ []
unfolding with_change
caller_shown r line name e1 = grind (arith, nat_tests, flat_push, lines_of_part, line_shown, caller_text, statements_none, if_any)

-- as many lines as statements
statements_count : (before xs : List Statement) → length (statement_lines_behind before xs) ≡ length (map (λ (s : Statement). s.line) xs)
unfolding statement_lines_behind
statements_count before [] = refl
statements_count before (x ∷ xs) = let rest = statements_count (before ++ x ∷ []) xs in omega (arith, rest)

any_count : (line : ℕ) (text : List ℕ) → length (if_any line text) ≡ length (line_if_any line)
any_count line text = elim (cases_Bool (eqb line 0)) [ inl t ↦ rw t refl | inr f ↦ rw f refl ]

pub part_count : (p : Part) → length (lines_of_part p) ≡ length (part_lines p)
part_count p = grind (arith, nat_tests, length-append, if_any, caller_text, statement_lines_behind, line_if_any, any_count, statements_count)

pub parts_count : (ps : List Part) → length (flat_map lines_of_part ps) ≡ length (flat_map part_lines ps)
parts_count [] = refl
parts_count (p ∷ ps) = grind (arith, nat_tests, parts_count ps, length-append, lines_of_part, flat_map, part_lines, part_count)

pub lines_count : (load : Workload) → length (workload_lines load) ≡ length (statement_lines load)
lines_count load = grind (arith, nat_tests, length-append, if_any, node_text, flat_map, lines_of_part, line_if_any, part_lines, any_count, parts_count)

empty_back : (xs ys : List TextLine) → length (xs ++ ys) ≡ 0 → (xs ++ ys ≡ []) × (ys ≡ [])
empty_back [] [] h = (refl, refl)
empty_back [] (y ∷ ys) h = absurd (omega arith)
empty_back (x ∷ xs) ys h = absurd (omega arith)

node_shown : (r : Reading) (line : ℕ) (settings : _) → IsFormed r line → 1 ≤ line → r.count ≡ 0
    → shown (with_change r line (Some (change.Node settings))) ≡ shown r ++ (line, node_text settings) ∷ []
unfolding with_change
node_shown r line settings f le none =
    let e = empty_back (if_any r.node_line (node_text r.settings)) (flat_map lines_of_part (r.before ++ r.current ∷ [])) (lines_count (finished r)
    ∙ (f.count ∙ none)) in
    rw (line_shown line (node_text settings) le, e.0, e.1) refl

count_zero : (r : Reading) → is_misplaced r word.Node ≡ false → r.count ≡ 0
unfolding is_misplaced
count_zero r h = eqb-true r.count 0 (not-false _ h)

-- what a line gave, by its kind: a node line is the first one, and a statement has its number
change_at : (r : Reading) (line : ℕ) (first : List ℕ) (rest : List (List ℕ)) (w : Word) (name : List ℕ) (options : List (List ℕ)) (c : LineEffect)
    → IsFormed r line → 1 ≤ line → IsRead r first rest w name options → IsEffectOf r line w name options c
    → shown (with_change r line (Some c)) ≡ shown r ++ (line, text_of_change r c) ∷ []
change_at r line first rest w name options c f le read (says_node is change) = rw change (node_shown r line _ f le (count_zero r (rw is at read.placed)))
change_at r line first rest w name options c f le read (says_caller is change) = rw change (caller_shown r line name le)
change_at r line first rest w name options c f le read (says_deed h change) = rw change (statement_shown r (made line w name (deed_said r w name options)))

pub change_shown : (r : Reading) (line : ℕ) (text : List ℕ) (c : LineEffect) → IsFormed r line → 1 ≤ line → line_gives r line text ≡ Ok (Some c)
    → shown (with_change r line (Some c)) ≡ shown r ++ (line, text_of_change r c) ∷ []
change_shown r line text c f le e =
    let st = (stated r line text c e).1 in
    change_at r line st.first st.rest st.word st.name st.options c f le st.read (says r line st.word st.name st.options c st.change)

-- ---- the lines read again

-- a line without words gives nothing
pub empty_adds : (r : Reading) (line : ℕ) → line_adds r line [] ≡ Ok r
unfolding line_adds line_gives words_of with_change
empty_adds r line = refl

unfoldable pub From : ℕ → List TextLine → Type 0
From line [] = Unit {0}
From line (l ∷ ls) = line ≤ l.0

from_less : (line : ℕ) (ls : List TextLine) → From (line + 1) ls → From line ls
unfolding From
from_less line ls e1 = grind (arith, nat_tests)

pub laid_step : (line : ℕ) (l : TextLine) (ls : List TextLine) → line + 1 ≤ l.0 → laid_out line (l ∷ ls) ≡ 10 ∷ laid_out (line + 1) (l ∷ ls)
unfolding laid_out
laid_step line l ls e1 = grind (arith, nat_tests)

pub laid_here : (line : ℕ) (text : List ℕ) (ls : List TextLine) → laid_out line ((line, text) ∷ ls) ≡ text ++ laid_out line ls
unfolding laid_out
laid_here line text ls = let n : line - line ≡ 0 = omega arith in rw n refl

pub one_adds : (r s : Reading) (line : ℕ) (text : List ℕ) → line_adds r line text ≡ Ok s → lines_add r line (text ∷ []) ≡ Ok s
unfolding lines_add
one_adds r s line text e = rw e refl

empty_more : (r end : Reading) (line : ℕ) → lines_add r line ([] ∷ []) ≡ Ok end → r ≡ end
unfolding lines_add
empty_more r end line h = ok_is r end (rw (empty_adds r line) at h)

-- a line, and the lines behind it
pub next_adds : (r s end : Reading) (line : ℕ) (text : List ℕ) (ls : List TextLine) → All (λ b. eqb b 10 ≡ false) text → From (line + 1) ls
    → line_adds r line text ≡ Ok s → lines_add s (line + 1) (between 10 (laid_out (line + 1) ls)) ≡ Ok end
    → lines_add r line (between 10 (text ++ laid_out line ls)) ≡ Ok end
unfolding From
next_adds r s end line text ls e1 e2 e3 e4 =
    grind (arith, nat_tests, laid_out, laid_none, append-nil, slice_split_none, empty_more, lines_add, one_adds, laid_step, slice_split_at, eq-eqb, one_more)

laid_less : (line : ℕ) (ls : List TextLine) → From (line + 1) ls → length (laid_out line ls) ≤ length (laid_out (line + 1) ls) + 1
unfolding From
laid_less line ls e1 = grind (arith, nat_tests, laid_none, laid_step)

-- the lines that are written of the lines from this one on
record IsReread (r s : Reading) (line : ℕ) (texts : List (List ℕ)) : Type 0 where
  lines : List TextLine
  shows : shown s ≡ shown r ++ lines
  from : From line lines
  read : lines_add r line (between 10 (laid_out line lines)) ≡ Ok s
  short : (length (laid_out line lines) + 1 ≤ length (led 10 texts)) ⊎ ((texts ≡ []) × (lines ≡ []))

-- how long the lines behind one line are
behind : (line : ℕ) (text written : List ℕ) (texts : List (List ℕ)) (ls : List TextLine) → From (line + 1) ls → length written ≤ length text
    → (length (laid_out (line + 1) ls) + 1 ≤ length (led 10 texts)) ⊎ ((texts ≡ []) × (ls ≡ []))
    → length (written ++ laid_out line ls) + 1 ≤ length (led 10 (text ∷ texts))
behind line text written texts ls e1 e2 e3 = grind (arith, nat_tests, laid_less, length-append, laid_out, laid_none)

pub nothing_lacks : All (λ b. eqb b 10 ≡ false) []
nothing_lacks = λ k d lt. absurd (omega arith)

skipped : (r mid s : Reading) (line : ℕ) (text : List ℕ) (texts : List (List ℕ)) → r ≡ mid → IsReread mid s (line + 1) texts → IsReread r s line (text ∷ texts)
skipped r mid s line text texts e h = record {
  lines = h.lines;
  shows = rw e h.shows;
  from = from_less line h.lines h.from;
  read = next_adds r mid s line [] h.lines nothing_lacks h.from (empty_adds r line ∙ ap Ok e) h.read;
  short = inl (behind line text [] texts h.lines h.from (omega arith) h.short);
}

given_line : (r mid s : Reading) (line : ℕ) (text written : List ℕ) (texts : List (List ℕ)) → shown mid ≡ shown r ++ (line, written) ∷ []
    → length written ≤ length text → line_adds r line written ≡ Ok mid → All (λ b. eqb b 10 ≡ false) written → IsReread mid s (line + 1) texts
    → IsReread r s line (text ∷ texts)
unfolding From
given_line r mid s line text written texts e1 e2 e3 e4 e5 = grind (arith, nat_tests, append_assoc, lines_add, laid_here, next_adds, behind)

none_is : (r : Reading) (line : ℕ) → with_change r line None ≡ r
unfolding with_change
none_is r line = refl

by_change : (r mid s : Reading) (line : ℕ) (text : List ℕ) (texts : List (List ℕ)) (c : Option LineEffect) → IsFormed r line → 1 ≤ line
    → line_gives r line text ≡ Ok c → with_change r line c ≡ mid → IsReread mid s (line + 1) texts → IsReread r s line (text ∷ texts)
by_change r mid s line text texts None f le e is h = skipped r mid s line text texts (sym (none_is r line) ∙ is) h
by_change r mid s line text texts (Some c) f le e is h = grind (arith, nat_tests, line_again, change_shown, given_line)

nothing_read : (r s : Reading) (line : ℕ) → r ≡ s → lines_add r line (between 10 (laid_out line [])) ≡ Ok s
nothing_read r s line e = subst (λ (t : List ℕ). lines_add r line (between 10 t)
    ≡ Ok s) (sym (laid_none line)) (one_adds r s line [] (empty_adds r line ∙ ap Ok e))

reread : (texts : List (List ℕ)) (r s : Reading) (line : ℕ) → IsFormed r line → 1 ≤ line → lines_add r line texts ≡ Ok s → IsReread r s line texts
unfolding lines_add line_adds From
reread [] r s line f le e = record {
  lines = [];
  shows = ap shown (sym (ok_is r s e)) ∙ sym (append-nil (shown r));
  from = tt;
  read = nothing_read r s line (ok_is r s e);
  short = inr (refl, refl);
}
reread (text ∷ texts) r s line f le e =
    let b = bind_ok (line_adds r line text) _ s e in
    let d = bind_ok (line_gives r line text) _ b.0 (at_line_ok line _ b.0 b.1) in
    let rest = reread texts b.0 s (line + 1) (adds_keeps r b.0 line text f le b.1) (omega arith) b.2 in
    by_change r b.0 s line text texts d.0 f le d.1 (ok_is _ b.0 d.2) rest

nothing_shown : shown empty_reading ≡ []
unfolding empty_reading statement_lines_behind
nothing_shown = refl

-- the canonical text gives the same workload, and is no longer than the text
record IsSame (bytes : List ℕ) (load : Workload) : Type 0 where
  again : workload_of (canonical load) ≡ Ok load
  short : length (canonical load) ≤ length bytes

whole_short : (bytes : List ℕ) (lines : List TextLine)
    → (length (laid_out 1 lines) + 1 ≤ length (led 10 (between 10 bytes))) ⊎ ((between 10 bytes ≡ []) × (lines ≡ [])) → length (laid_out 1 lines) ≤ length bytes
whole_short bytes lines (inl h) = omega (arith, h, text_led 10 bytes)
whole_short bytes lines (inr h) = grind (arith, nat_tests, laid_out, laid_none)

read_whole : (lines : List TextLine) (end : Reading) → lines_add empty_reading 1 (between 10 (laid_out 1 lines)) ≡ Ok end
    → workload_of (laid_out 1 lines) ≡ Ok (finished end)
unfolding workload_of
read_whole lines end e = rw e refl

same_load : (bytes : List ℕ) (load : Workload) → workload_of bytes ≡ Ok load → IsSame bytes load
unfolding workload_of
same_load bytes load e =
    let b = bind_ok (lines_add empty_reading 1 (between 10 bytes)) _ load e in
    let h = reread (between 10 bytes) empty_reading b.0 1 start_formed (omega arith) b.1 in
    let shows : shown b.0 ≡ h.lines = h.shows ∙ ap (λ (l : List TextLine). l ++ h.lines) nothing_shown in
    subst (λ (l : Workload). IsSame bytes l) (ok_is (finished b.0) load b.2) (record {
      again = subst (λ (l : List TextLine). workload_of (laid_out 1 l) ≡ Ok (finished b.0)) (sym shows) (read_whole h.lines b.0 h.read);
      short = subst (λ (l : List TextLine). length (laid_out 1 l) ≤ length bytes) (sym shows) (whole_short bytes h.lines h.short);
    })

pub canonical_short : (bytes : List ℕ) (load : Workload) → workload_of bytes ≡ Ok load → length (canonical load) ≤ length bytes
canonical_short bytes load e = (same_load bytes load e).short

pub canonical_again : (bytes : List ℕ) (load : Workload) → workload_of bytes ≡ Ok load → workload_of (canonical load) ≡ Ok load
canonical_again bytes load e = (same_load bytes load e).again
