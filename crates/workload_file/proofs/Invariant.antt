-- Each line keeps what is read well formed.
use Rattle.std.proofs.lemmas.Bool.Decides.{nat_tests}
use Rattle.workload_file.proofs.Cited.{◌≡◌, ℕ, ◌+◌, ◌≤◌, ◌<◌, List, [], ◌∷◌, ◌++◌, length, Bool, true, false, not, cond, Option, Some, refl, sym, ap, arith, inl, inr, append_assoc, ◌&&◌, None, Ok, subst, ◌∙◌, ◌⊎◌, is_some, IfSome, AllByRecursion, list_any, flat_map, position_or_len, list_all, bytes_eq, or_parts, or_from, eqb-true, lt-ltb, not-false, leb-false, ne_eqb, append-nil, length_push, map-append, NodeSettings, Word, Naming, Deed, Statement, Part, Reading, is_name, statement_row, naming, fields, deed_spelled, word_for, used_place, values, used_with, setting_values, is_begin, number_given, Spelled, is_called, bound_at, is_taken, is_misplaced, place_of, has_second, name_in, options_in, use_in, is_unbound, is_ninth_caller, finished, with_change, line_gives, line_adds, lines_add, empty_reading, workload_of, with_node_setting, usual_settings, bound_name, values_in, settings_by, number_or_zero, AllFit, IsBoundAt, has_name, IsNew, IsStatement, AreStatements, begins, IsPart, IsMain, IsFurther, MainFirst, HaveDifferentNames, statement_lines, Rise, line_if_any, part_lines, WellFormed, Workload, LineEffect, between}
use Rattle.workload_file.specs.declared.table.Word.TheVariants as word
use Rattle.workload_file.specs.declared.table.Naming.TheVariants as rule
use Rattle.workload_file.proofs.Facts.{IsRead, here, is_sound, bind_ok, ok_is, at_line_ok, stated}
use Rattle.workload_file.proofs.Fields.{is_deed, made, fields_good, deed_said, deed_is, node_values, place_at, IsEffectOf, says_node, says_caller, says_deed, says}
use Rattle.workload_file.proofs.Spelling.{values_are, place_is, any_place, place_found}

-- ---- lists that end with a part or a statement

pub push_all : {X : Type 0} (P : X → Type 0) (xs : List X) (y : X) → AllByRecursion P xs → P y → AllByRecursion P (xs ++ y ∷ [])
push_all P [] y h p = (p, tt)
push_all P (x ∷ xs) y h p = (h.0, push_all P xs y h.1 p)

pub last_all : {X : Type 0} (P : X → Type 0) (xs : List X) (y z : X) → AllByRecursion P (xs ++ y ∷ []) → (P y → P z) → AllByRecursion P (xs ++ z ∷ [])
last_all P [] y z h p = (p h.0, tt)
last_all P (x ∷ xs) y z h p = (h.0, last_all P xs y z h.1 p)

pub push_statement : (before xs : List Statement) (s : Statement) → AreStatements before xs → IsStatement (before ++ xs) s → AreStatements before (xs ++ s ∷ [])
push_statement before [] s h u = (rw append-nil at u, tt)
push_statement before (x ∷ xs) s h u = (h.0, push_statement (before ++ x ∷ []) xs s h.1 (rw append_assoc u))

pub main_last : (before : List Part) (p q : Part) → MainFirst (before ++ p ∷ []) → (length before ≡ 0 → IsMain p → IsMain q)
    → (1 ≤ length before → IsFurther p → IsFurther q) → MainFirst (before ++ q ∷ [])
main_last [] p q h m f = (m refl h.0, tt)
main_last (b ∷ bs) p q h m f = (h.0, last_all IsFurther bs p q h.1 (f (omega arith)))

pub main_push : (xs : List Part) (p q : Part) → MainFirst (xs ++ p ∷ []) → IsFurther q → MainFirst ((xs ++ p ∷ []) ++ q ∷ [])
main_push xs p q e1 e2 = grind (arith, nat_tests, push_all)

pub any_push : {X : Type 0} (t : X → Bool) (xs : List X) (y : X) → list_any t xs ≡ false → t y ≡ false → list_any t (xs ++ y ∷ []) ≡ false
any_push t [] y h e = or_from (t y) false e refl
any_push t (x ∷ xs) y h e = let both = or_parts (t x) (list_any t xs) h in or_from (t x) (list_any t (xs ++ y ∷ [])) both.0 (any_push t xs y both.1 e)

any_last : (name : List ℕ) (xs : List Part) (p q : Part) → q.name ≡ p.name → list_any (λ q. bytes_eq name q.name) (xs ++ p ∷ []) ≡ false
    → list_any (λ q. bytes_eq name q.name) (xs ++ q ∷ []) ≡ false
any_last name [] p q e h = rw e h
any_last name (x ∷ xs) p q e h = grind (arith, nat_tests, any_last name xs p q, or_parts, bytes_eq)

pub names_last : (xs : List Part) (p q : Part) → q.name ≡ p.name → HaveDifferentNames (xs ++ p ∷ []) → HaveDifferentNames (xs ++ q ∷ [])
names_last [] p q e h = (refl, tt)
names_last (x ∷ xs) p q e h = (any_last x.name xs p q e h.0, names_last xs p q e h.1)

pub names_push : (xs : List Part) (q : Part) → HaveDifferentNames xs → list_any (λ p. bytes_eq p.name q.name) xs ≡ false → HaveDifferentNames (xs ++ q ∷ [])
names_push [] q h e = (refl, tt)
names_push (x ∷ xs) q h e = grind (arith, nat_tests, names_push xs q h.1, or_parts, bytes_eq, any_push)

pub begins_push : (xs : List Statement) (s : Statement) → begins (xs ++ s ∷ []) ≡ begins xs + cond (is_begin s.deed) 1 0
begins_push [] s = omega arith
begins_push (x ∷ xs) s = let e = begins_push xs s in omega (arith, e)

no_begins : (xs : List Statement) → list_any (λ s. is_begin s.deed) xs ≡ false → begins xs ≡ 0
no_begins [] h = refl
no_begins (x ∷ xs) h = grind (arith, nat_tests, no_begins xs, or_parts)

pub flat_push : {A : Type 0} (f : Part → List A) (xs : List Part) (p : Part) → flat_map f (xs ++ p ∷ []) ≡ flat_map f xs ++ f p
flat_push f [] p = append-nil (f p)
flat_push f (x ∷ xs) p = rw (flat_push f xs p) (sym (append_assoc (f x) (flat_map f xs) (f p)))

-- ---- lines that rise

abbrev pub Below : ℕ → List ℕ → Type 0
Below line xs = AllByRecursion (λ l. l < line) xs

pub below_more : (line : ℕ) (xs : List ℕ) → Below line xs → Below (line + 1) xs
below_more line [] h = tt
below_more line (x ∷ xs) h = let lt : x < line = h.0 in (omega arith, below_more line xs h.1)

pub below_push : (line : ℕ) (xs : List ℕ) → Below line xs → Below (line + 1) (xs ++ line ∷ [])
below_push line xs h = push_all (λ l. l < line + 1) xs line (below_more line xs h) (omega arith)

pub rise_push : (last line : ℕ) (xs : List ℕ) → last < line → Rise last xs → Below line xs → Rise last (xs ++ line ∷ [])
rise_push last line [] lt h b = (lt, tt)
rise_push last line (x ∷ xs) lt h b = (h.0, rise_push x line xs b.0 h.1 b.1)

-- ---- the invariant

-- what the lines before this one say is well formed, and its lines stand before this one
pub record IsFormed (r : Reading) (line : ℕ) : Type 0 where
  pub callers : length r.before ≤ 8
  pub main : MainFirst (r.before ++ r.current ∷ [])
  pub names : HaveDifferentNames (r.before ++ r.current ∷ [])
  pub parts : AllByRecursion IsPart (r.before ++ r.current ∷ [])
  pub count : length (statement_lines (finished r)) ≡ r.count
  pub few : r.count ≤ 20000
  pub rise : Rise 0 (statement_lines (finished r))
  pub below : Below line (statement_lines (finished r))
  pub usual : r.node_line ≡ 0 → r.settings ≡ usual_settings
  pub settings : AllFit [] (fields word.Node) (setting_values r.settings)

-- ---- a statement's own points

-- the words between the first one and the options
abbrev pub named : Naming → List ℕ → List (List ℕ)
named n name = cond (has_second n) (name ∷ []) []

pub no_name : is_name [] ≡ true → ⊥
unfolding is_name
no_name e = cc

-- the words behind the first one are the name and the options
pub splits : (n : Naming) (rest : List (List ℕ)) → (has_second n && not (is_name (name_in n rest))) ≡ false
    → rest ≡ named n (name_in n rest) ++ options_in n rest
splits n rest e1 = grind (arith, nat_tests, no_name, not-false, is_name)

unbound_any : (name : List ℕ) (xs : List Statement) → is_some (bound_at name xs) ≡ false → list_any (λ s. is_called name s.name) xs ≡ false
unbound_any name xs e1 = grind (arith, nat_tests, is_called, any_place, bound_at, position_or_len, lt-ltb)

bound_named : (n : Naming) (name : List ℕ) → is_some (bound_name n name) ≡ has_name n
bound_named n name = grind (arith, nat_tests)

new_name : (r : Reading) (n : Naming) (name : List ℕ) → (has_second n && not (is_name name)) ≡ false → is_taken r n name ≡ false
    → IfSome (bound_name n name) (IsNew r.current.statements)
unfolding is_taken
new_name r n name e1 e2 = grind (arith, nat_tests, not-false, is_name, unbound_any)

-- the name that a statement uses is bound
pub use_is : (before : List Statement) (n : Naming) (name : List ℕ) → is_unbound n (use_in before n name) ≡ false
    → IfSome (used_with n (place_at n (number_or_zero (use_in before n name)))) (λ u. IsBoundAt u.0 before u.1)
use_is before (rule.Uses s) name h = let p = place_found (place_of s name before) h in rw p.1 (place_is s name before p.0 p.1).0
use_is before _ name h = tt

-- what is known of the deed of a statement that was read
pub record IsGiven (before : List Statement) (w : Word) (place : Option ℕ) (d : Deed) : Type 0 where
  pub word : word_for d ≡ w
  pub used : used_place d ≡ place
  pub bound : IfSome (used_with (naming w) place) (λ u. IsBoundAt u.0 before u.1)
  pub fits : AllFit before (fields w) (values d)

pub deed_given : (r : Reading) (first : List ℕ) (rest : List (List ℕ)) (w : Word) (name : List ℕ) (options : List (List ℕ)) → is_deed w ≡ true
    → IsRead r first rest w name options → IsGiven (here r) w (place_at (naming w) (number_or_zero (use_in (here r) (naming w) name)))
    (deed_said r w name options)
    × (values (deed_said r w name options) ≡ values_in (here r) options (fields w))
deed_given r first rest w name options h read =
    let vs = values_in (here r) options (fields w) in
    let are = values_are (here r) options (fields w) (fields_good w) read.sound in
    let is = deed_is w (number_or_zero (use_in (here r) (naming w) name)) vs h are.1 in
    let same : values (deed_said r w name options) ≡ vs = ap (λ (x : Spelled). x.values) is in (
      record {
        word = ap (λ (x : Spelled). x.word) is;
        used = ap (λ (x : Spelled). x.place) is;
        bound = use_is (here r) (naming w) name read.bound;
        fits = rw same are.0;
      },
      same,
    )

pub statement_formed : (r : Reading) (line : ℕ) (first : List ℕ) (rest : List (List ℕ)) (w : Word) (name : List ℕ) (options : List (List ℕ)) (place : Option ℕ)
    (d : Deed) → IsRead r first rest w name options → IsGiven r.current.statements w place d → IsStatement r.current.statements (made line w name d)
statement_formed r line first rest w name options place d e1 e2 = grind (arith, nat_tests, bound_named, new_name)

-- ---- begin

pub begin_word : (d : Deed) → is_begin d ≡ true → word_for d ≡ word.Begin
unfolding is_begin deed_spelled
begin_word d e1 = grind (arith, nat_tests)

pub begin_free : (r : Reading) (w : Word) → w ≡ word.Begin → is_misplaced r w ≡ false → (length r.before ≡ 0) × (begins r.current.statements ≡ 0)
unfolding is_misplaced
begin_free r w e1 e2 = grind (arith, nat_tests, or_parts, is_begin, eqb-true, not-false, no_begins)

-- ---- node

-- the settings whose values fit are given by their values
pub node_settings : (before : List Statement) (s : NodeSettings) → AllFit before (fields word.Node) (setting_values s) → settings_by (setting_values s) ≡ s
unfolding statement_row settings_by number_given with_node_setting
node_settings before s fit = grind (arith, nat_tests)

-- the settings of a node line fit, and their values are those of its options
pub node_given : (before : List Statement) (options : List (List ℕ)) → list_all is_sound (values_in before options (fields word.Node)) ≡ true
    → (setting_values (settings_by (values_in before options (fields word.Node))) ≡ values_in before options (fields word.Node))
    × AllFit before (fields word.Node) (setting_values (settings_by (values_in before options (fields word.Node))))
node_given before options sound =
    let vs = values_in before options (fields word.Node) in
    let are = values_are before options (fields word.Node) (fields_good word.Node) sound in
    let n = node_values vs are.1 in
    let fit : AllFit before (fields word.Node) (setting_values n.0) = rw n.1 are.0 in
    let set : settings_by vs ≡ n.0 = rw n.1 at (node_settings before n.0 fit) in
    rw set (n.1, fit)

-- ==== each line keeps the invariant, and what all lines give is well formed

-- ---- the lines of the statements so far

abbrev lines_so_far : Reading → List ℕ
lines_so_far r = statement_lines (finished r)

abbrev with_statement : Reading → Statement → Reading
with_statement r s = record r { current = record r.current { statements = r.current.statements ++ s ∷ [] }; count = r.count + 1 }

lines_statement : (r : Reading) (s : Statement) → lines_so_far (with_statement r s) ≡ lines_so_far r ++ s.line ∷ []
lines_statement r s = grind (arith, nat_tests, flat_push, part_lines, map-append, append_assoc)

line_there : (line : ℕ) → 1 ≤ line → line_if_any line ≡ line ∷ []
line_there line le = let n : line ≡ 0 → ⊥ = λ (e : line ≡ 0). omega arith in rw (ne_eqb line 0 n) refl

abbrev new_part : ℕ → List ℕ → Part
new_part line name = record { line = line; name = name; statements = [] }

abbrev with_caller : Reading → ℕ → List ℕ → Reading
with_caller r line name = record r { before = r.before ++ r.current ∷ []; current = new_part line name; count = r.count + 1 }

lines_caller : (r : Reading) (line : ℕ) (name : List ℕ) → 1 ≤ line → lines_so_far (with_caller r line name) ≡ lines_so_far r ++ line ∷ []
lines_caller r line name e1 = grind (arith, nat_tests, flat_push, part_lines, line_there, append-nil, line_if_any, flat_map)

-- ---- a statement

begins_more : (r : Reading) (w : Word) (s : Statement) → word_for s.deed ≡ w → is_misplaced r w ≡ false
    → (begins (r.current.statements ++ s ∷ []) ≡ begins r.current.statements) ⊎ ((length r.before ≡ 0) × (begins (r.current.statements ++ s ∷ []) ≡ 1))
begins_more r w s e1 e2 = grind (arith, nat_tests, begins_push, is_begin, begin_free, begin_word)

statement_keeps : (r : Reading) (line : ℕ) (first : List ℕ) (rest : List (List ℕ)) (w : Word) (name : List ℕ) (options : List (List ℕ)) (place : Option ℕ)
    (d : Deed) → IsFormed r line → 1 ≤ line → IsRead r first rest w name options → IsGiven r.current.statements w place d
    → IsFormed (with_statement r (made line w name d)) (line + 1)
statement_keeps r line first rest w name options place d f le read g =
    let s = made line w name d in
    let p : Part = record r.current { statements = r.current.statements ++ s ∷ [] } in
    let lines = lines_statement r s in
    let fewer = leb-false 20000 r.count read.few in
    let b = begins_more r w s g.word read.placed in
    record {
      callers = f.callers;
      main = main_last r.before r.current p f.main
          (λ (e : length r.before ≡ 0) (m : IsMain r.current). record {
            line = m.line;
            name = m.name;
            begin = elim b [ inl same ↦ rw same m.begin | inr one ↦ rw one.1 (omega arith) ];
          })
          (λ (ge : 1 ≤ length r.before) (m : IsFurther r.current). record {
            line = m.line;
            begin = elim b [ inl same ↦ rw same m.begin | inr one ↦ absurd (omega (arith, ge, one.0)) ];
          });
      names = names_last r.before r.current p refl f.names;
      parts = last_all IsPart r.before r.current p f.parts
          (λ (q : IsPart r.current). record {
            name = q.name;
            statements = push_statement [] r.current.statements s q.statements (statement_formed r line first rest w name options place d read g);
          });
      count = rw lines (length_push (lines_so_far r) line ∙ rw f.count refl);
      few = omega (arith, fewer);
      rise = rw lines (rise_push 0 line (lines_so_far r) (omega arith) f.rise f.below);
      below = rw lines (below_push line (lines_so_far r) f.below);
      usual = f.usual;
      settings = f.settings;
    }

-- ---- a caller line

caller_keeps : (r : Reading) (line : ℕ) (first : List ℕ) (rest : List (List ℕ)) (name : List ℕ) (options : List (List ℕ)) → IsFormed r line → 1 ≤ line
    → IsRead r first rest word.Caller name options → IsFormed (with_caller r line name) (line + 1)
unfolding is_taken is_ninth_caller statement_row
caller_keeps r line first rest name options e1 e2 e3 =
    grind (arith, nat_tests, not-false, lines_caller, leb-false, or_parts, length_push, main_push, names_push, any_push, push_all, rise_push, below_push)

-- ---- a node line

abbrev with_node : Reading → ℕ → NodeSettings → Reading
with_node r line settings = record r { node_line = line; settings = settings; count = r.count + 1 }

empty_parts : (xs ys : List ℕ) → length (xs ++ ys) ≡ 0 → ys ≡ []
empty_parts [] [] h = refl
empty_parts [] (y ∷ ys) h = absurd (omega arith)
empty_parts (x ∷ xs) ys h = absurd (omega arith)

node_fits : (before : List Statement) (settings : NodeSettings) → AllFit before (fields word.Node) (setting_values settings)
    → AllFit [] (fields word.Node) (setting_values settings)
unfolding statement_row
node_fits before settings h = h

node_keeps : (r : Reading) (line : ℕ) (settings : NodeSettings) → IsFormed r line → 1 ≤ line → is_misplaced r word.Node ≡ false
    → AllFit r.current.statements (fields word.Node) (setting_values settings) → IsFormed (with_node r line settings) (line + 1)
unfolding is_misplaced
node_keeps r line settings e1 e2 e3 e4 = grind (arith, nat_tests, eqb-true, not-false, empty_parts, line_if_any, flat_map, part_lines, line_there, node_fits)

-- ---- every line

keeps : (r : Reading) (line : ℕ) (first : List ℕ) (rest : List (List ℕ)) (w : Word) (name : List ℕ) (options : List (List ℕ)) (c : LineEffect) → IsFormed r line
    → 1 ≤ line → IsRead r first rest w name options → IsEffectOf r line w name options c → IsFormed (with_change r line (Some c)) (line + 1)
unfolding with_change
keeps r line first rest w name options c f le read (says_node is change) =
    rw (change, is) (node_keeps r line _ f le (rw is at read.placed) (node_given r.current.statements options (rw is at read.sound)).1)
keeps r line first rest w name options c f le read (says_caller is change) =
    rw change (caller_keeps r line first rest name options f le (rw is at read))
keeps r line first rest w name options c f le read (says_deed h change) =
    rw change (statement_keeps r line first rest w name options _ _ f le read (deed_given r first rest w name options h read).0)

none_keeps : (r : Reading) (line : ℕ) → IsFormed r line → IsFormed (with_change r line None) (line + 1)
unfolding with_change
none_keeps r line e1 = grind (arith, nat_tests, below_more)

pub line_keeps : (r : Reading) (line : ℕ) (text : List ℕ) (c : Option LineEffect) → IsFormed r line → 1 ≤ line → line_gives r line text ≡ Ok c
    → IsFormed (with_change r line c) (line + 1)
line_keeps r line text None f le e = none_keeps r line f
line_keeps r line text (Some c) f le e =
    let st = (stated r line text c e).1 in
    keeps r line st.first st.rest st.word st.name st.options c f le st.read (says r line st.word st.name st.options c st.change)

pub adds_keeps : (r s : Reading) (line : ℕ) (text : List ℕ) → IsFormed r line → 1 ≤ line → line_adds r line text ≡ Ok s → IsFormed s (line + 1)
unfolding line_adds
adds_keeps r s line text f le e =
    let b = bind_ok (line_gives r line text) _ s (at_line_ok line _ s e) in
    subst (λ (x : Reading). IsFormed x (line + 1)) (ok_is _ s b.2) (line_keeps r line text b.0 f le b.1)

lines_keep : (texts : List (List ℕ)) (r s : Reading) (line : ℕ) → IsFormed r line → 1 ≤ line → lines_add r line texts ≡ Ok s → (end : ℕ) × IsFormed s end
unfolding lines_add
lines_keep [] r s line f le e = (line, subst (λ (x : Reading). IsFormed x line) (ok_is r s e) f)
lines_keep (text ∷ texts) r s line f le e = grind (arith, nat_tests, lines_keep texts, bind_ok, line_adds, adds_keeps)

usual_fit : AllFit [] (fields word.Node) (setting_values usual_settings)
unfolding statement_row
usual_fit = grind (arith, nat_tests)

pub start_formed : IsFormed empty_reading 1
unfolding empty_reading is_name
start_formed = grind (arith, nat_tests, usual_fit)

formed_load : (r : Reading) (line : ℕ) → IsFormed r line → WellFormed (finished r)
formed_load r line e1 = grind (arith, nat_tests, length_push)

pub workload_formed : (bytes : List ℕ) (load : Workload) → workload_of bytes ≡ Ok load → WellFormed load
unfolding workload_of
workload_formed bytes load e =
    let b = bind_ok (lines_add empty_reading 1 (between 10 bytes)) _ load e in
    let f = lines_keep (between 10 bytes) empty_reading b.0 1 start_formed (omega arith) b.1 in
    subst WellFormed (ok_is (finished b.0) load b.2) (formed_load b.0 f.0 f.1)
