-- The fields of a statement, the kinds of statements, and what each kind says.
use Rattle.std.proofs.lemmas.Bool.Decides.{nat_tests}
use Rattle.std.proofs.Common.{arith}
use Rattle.workload_file.proofs.Cited.{◌≡◌, List, [], ◌∷◌, Bool, true, Some, refl, ℕ, false, None, subst, ◌&&◌, ◌||◌, not, ℤ, Option, ◌++◌, eqb, AllByRecursion, find, list_all, list_any, bytes_eq, and_parts, or_parts, not-true, Word, Field, statement_row, word_text, words, word_of, naming, fields, key_text, nat_le, OptionShape, Absent, OptionValue, Deed, Statement, Reading, LineEffect, use_in, deed_with, deed_spelled, queue_deed, lock_deed, segment_deed, setting_values, number_given, whole_in, args_in, cores_in, kind_in, flag_in, mode_in, timeout_in, place_in, place_there, values_in, number_or_zero, bound_name, settings_by, change_with, change_of, Kind, Timeout, Args, Mask, NodeSettings, Key, Naming, key_of, value_of}
use Rattle.workload_file.specs.declared.table.Word.TheVariants as word
use Rattle.workload_file.specs.declared.table.OptionShape.TheVariants as shape
use Rattle.workload_file.specs.declared.table.Absent.TheVariants as absent
use Rattle.workload_file.specs.declared.values.OptionValue.TheVariants as given
use Rattle.workload_file.specs.declared.reading.LineEffect.TheVariants as change
use Rattle.workload_file.specs.declared.table.Naming.TheVariants as rule
use Rattle.workload_file.specs.Indexed.{name_in_effect}
use Rattle.workload_file.proofs.Finds.{find_all}
use Rattle.workload_file.proofs.Facts.{here}
use Rattle.workload_file.proofs.Places.{bytes_same, apart_sym}
use Rattle.workload_file.proofs.Phrases.{is_inner}

-- ==== what holds of each row of the table, tested row by row

pub word_found : (w : Word) → word_of (word_text w) ≡ Some w
unfolding word_of statement_row
word_found w = grind (arith, nat_tests)

first_word : (w : Word) → find (λ x. bytes_eq (word_text x) (word_text w)) words ≡ Some w
unfolding word_of
first_word w = word_found w

pub each_word : (q : Word → Bool) → list_all q words ≡ true → (w : Word) → q w ≡ true
each_word q h w = find_all (λ x. bytes_eq (word_text x) (word_text w)) q words w (first_word w) h

pub each_field : (q : Field → Bool) (fs : List Field) → list_all q fs ≡ true → AllByRecursion (λ f. q f ≡ true) fs
each_field q [] h = tt
each_field q (f ∷ fs) h = let both = and_parts (q f) (list_all q fs) h in (both.0, each_field q fs both.1)

-- ==== the fields of a statement, the kinds of statements, and what each kind says

-- a statement that is a deed
abbrev pub is_deed : Word → Bool
is_deed word.Node = false
is_deed word.Caller = false
is_deed _ = true

-- ---- what a statement says

-- the statement that does this
abbrev pub made : ℕ → Word → List ℕ → Deed → Statement
made line w name d = record { line = line; name = bound_name (naming w) name; deed = d }

-- the deed that is said
abbrev pub deed_said : Reading → Word → List ℕ → List (List ℕ) → Deed
deed_said r w name options = deed_with w (number_or_zero (use_in (here r) (naming w) name)) (values_in (here r) options (fields w))

-- what a statement that was read says, by its kind
pub data IsEffectOf (r : Reading) (line : ℕ) (w : Word) (name : List ℕ) (options : List (List ℕ)) (c : LineEffect) : Type 0 where
  says_node : w ≡ word.Node → c ≡ change.Node (settings_by (values_in (here r) options (fields w))) → IsEffectOf r line w name options c
  says_caller : w ≡ word.Caller → c ≡ change.Caller name → IsEffectOf r line w name options c
  says_deed : is_deed w ≡ true → c ≡ change.Statement (made line w name (deed_said r w name options)) → IsEffectOf r line w name options c

said : (r : Reading) (line : ℕ) (w : Word) (name : List ℕ) (options : List (List ℕ)) → IsEffectOf r line w name options (change_of r line w name options)
unfolding change_with
said r line w name options = grind (arith, nat_tests)

pub says : (r : Reading) (line : ℕ) (w : Word) (name : List ℕ) (options : List (List ℕ)) (c : LineEffect) → change_of r line w name options ≡ c
    → IsEffectOf r line w name options c
says r line w name options c e = subst (IsEffectOf r line w name options) e (said r line w name options)

-- the name that a statement binds
pub name_changed : (line : ℕ) (w : Word) (name : List ℕ) (place : Option ℕ) (vs : List OptionValue)
    → name_in_effect (change_with line w name place vs) ≡ bound_name (naming w) name
unfolding change_with statement_row
name_changed line w name place vs = grind (arith, nat_tests)

-- ---- the fields of a statement

-- the fields of a statement have different keys
abbrev pub AreApart : List Field → Type 0
AreApart [] = Unit {0}
AreApart (f ∷ fs) = (list_any (λ g. bytes_eq (key_text g.key) (key_text f.key)) fs ≡ false) × AreApart fs

abbrev are_apart : List Field → Bool
are_apart [] = true
are_apart (f ∷ fs) = not (list_any (λ g. bytes_eq (key_text g.key) (key_text f.key)) fs) && are_apart fs

apart_from : (fs : List Field) → are_apart fs ≡ true → AreApart fs
apart_from [] h = tt
apart_from (f ∷ fs) h = grind (arith, nat_tests, apart_from fs, and_parts, bytes_eq, key_text, not-true)

every_apart : list_all (λ w. are_apart (fields w)) words ≡ true
unfolding statement_row key_text
every_apart = refl

pub fields_apart : (w : Word) → AreApart (fields w)
fields_apart w = apart_from (fields w) (each_word (λ w. are_apart (fields w)) every_apart w)

-- the field is found by its key
abbrev pub IsField : List Field → Field → Type 0
IsField fs f = find (λ g. bytes_eq (key_text g.key) (key_text f.key)) fs ≡ Some f

found_behind : (f : Field) (all gs : List Field) → list_any (λ g. bytes_eq (key_text g.key) (key_text f.key)) gs ≡ false → AllByRecursion (IsField all) gs
    → AllByRecursion (IsField (f ∷ all)) gs
found_behind f all [] h p = tt
found_behind f all (g ∷ gs) h p = grind (arith, nat_tests, found_behind f all gs, or_parts, bytes_eq, key_text, list_any, apart_sym)

found_each : (fs : List Field) → AreApart fs → AllByRecursion (IsField fs) fs
found_each [] a = tt
found_each (f ∷ fs) a = (rw (bytes_same (key_text f.key)) refl, found_behind f fs fs a.0 (found_each fs a.1))

pub fields_found : (w : Word) → AllByRecursion (IsField (fields w)) (fields w)
fields_found w = found_each (fields w) (fields_apart w)

-- an absent option stands for a value of its shape, and what isn't left out can be written
abbrev pub is_good : Absent → OptionShape → Bool
is_good absent.Refused (shape.Number low high) = nat_le high 4294967295
is_good absent.Refused shape.Cores = false
is_good absent.Refused shape.Args = false
is_good absent.Refused s = true
is_good (absent.Number d) (shape.Number low high) = nat_le high 4294967295 && (nat_le low d && nat_le d high)
is_good absent.Usual shape.Args = true
is_good absent.Usual shape.Cores = true
is_good absent.Usual shape.Flag = true
is_good absent.Usual (shape.Named s) = true
is_good _ _ = false

every_good : list_all (λ w. list_all (λ f. is_good f.absent f.shape) (fields w)) words ≡ true
unfolding statement_row
every_good = refl

pub fields_good : (w : Word) → AllByRecursion (λ f. is_good f.absent f.shape ≡ true) (fields w)
fields_good w = each_field (λ f. is_good f.absent f.shape) (fields w) (each_word (λ w. list_all (λ f. is_good f.absent f.shape) (fields w)) every_good w)

-- ---- values of fields

-- the value is of this shape
abbrev pub is_shaped : OptionShape → OptionValue → Bool
is_shaped (shape.Number low high) (given.Number n) = true
is_shaped shape.Whole (given.Whole z) = true
is_shaped shape.Args (given.Args zs) = true
is_shaped shape.Cores (given.Cores mask) = true
is_shaped shape.Kind (given.Kind kind) = true
is_shaped shape.Flag (given.Flag b) = true
is_shaped shape.Mode (given.Mode b) = true
is_shaped shape.Timeout (given.Timeout t) = true
is_shaped (shape.Named sort) (given.Place place) = true
is_shaped _ _ = false

-- the option may not be absent
abbrev pub is_refused : Absent → Bool
is_refused absent.Refused = true
is_refused absent.Usual = false
is_refused (absent.Number n) = false

-- the value is no name that is absent
abbrev pub is_there : OptionValue → Bool
is_there (given.Place None) = false
is_there _ = true

-- a value for this field: a name that has to be there is there
abbrev pub is_filled : Field → OptionValue → Bool
is_filled f v = is_shaped f.shape v && (not (is_refused f.absent) || is_there v)

abbrev pub are_filled : List Field → List OptionValue → Bool
are_filled [] [] = true
are_filled (f ∷ fs) (v ∷ vs) = is_filled f v && are_filled fs vs
are_filled _ _ = false

-- ==== what values hold that fill the fields of a statement: one case for each shape, in place of one for each field of each statement

-- what a value of this shape holds; of a name that has to be there it is the place
abbrev pub Held : OptionShape → Bool → Type 0
Held (shape.Number low high) must = ℕ
Held shape.Whole must = ℤ
Held shape.Args must = Args
Held shape.Cores must = Mask
Held shape.Kind must = Kind
Held shape.Flag must = Bool
Held shape.Mode must = Bool
Held shape.Timeout must = Timeout
Held (shape.Named sort) true = ℕ
Held (shape.Named sort) false = Option ℕ

abbrev pub value_with : (s : OptionShape) (must : Bool) → Held s must → OptionValue
value_with (shape.Number low high) must n = given.Number n
value_with shape.Whole must z = given.Whole z
value_with shape.Args must zs = given.Args zs
value_with shape.Cores must mask = given.Cores mask
value_with shape.Kind must kind = given.Kind kind
value_with shape.Flag must b = given.Flag b
value_with shape.Mode must b = given.Mode b
value_with shape.Timeout must t = given.Timeout t
value_with (shape.Named sort) true place = given.Place (Some place)
value_with (shape.Named sort) false place = given.Place place

abbrev IsHeld : OptionShape → Bool → OptionValue → Type 0
IsHeld s must v = (x : Held s must) × (v ≡ value_with s must x)

held_in : (s : OptionShape) (must : Bool) (v : OptionValue) → is_shaped s v ≡ true → (not must || is_there v) ≡ true → IsHeld s must v
held_in (shape.Number low high) must (given.Number n) is there = (n, refl)
held_in shape.Whole must (given.Whole z) is there = (z, refl)
held_in shape.Args must (given.Args zs) is there = (zs, refl)
held_in shape.Cores must (given.Cores mask) is there = (mask, refl)
held_in shape.Kind must (given.Kind kind) is there = (kind, refl)
held_in shape.Flag must (given.Flag b) is there = (b, refl)
held_in shape.Mode must (given.Mode b) is there = (b, refl)
held_in shape.Timeout must (given.Timeout t) is there = (t, refl)
held_in (shape.Named sort) true (given.Place (Some place)) is there = (place, refl)
held_in (shape.Named sort) true (given.Place None) is there = absurd cc
held_in (shape.Named sort) false (given.Place place) is there = (place, refl)
held_in _ _ _ is there = absurd cc

-- ---- all fields

abbrev pub AllHeld : List Field → Type 0
AllHeld [] = Unit {0}
AllHeld (f ∷ fs) = Held f.shape (is_refused f.absent) × AllHeld fs

abbrev pub all_with : (fs : List Field) → AllHeld fs → List OptionValue
all_with [] _ = []
all_with (f ∷ fs) x = value_with f.shape (is_refused f.absent) x.0 ∷ all_with fs x.1

pub all_held : (fs : List Field) (vs : List OptionValue) → are_filled fs vs ≡ true → (x : AllHeld fs) × (vs ≡ all_with fs x)
all_held [] [] is = (tt, refl)
all_held (f ∷ fs) (v ∷ vs) is =
    let both = and_parts (is_filled f v) (are_filled fs vs) is in
    let one = and_parts (is_shaped f.shape v) (not (is_refused f.absent) || is_there v) both.0 in
    let first = held_in f.shape (is_refused f.absent) v one.0 one.1 in
    let rest = all_held fs vs both.1 in
    ((first.0, rest.0), λ i. first.1 i ∷ rest.1 i)
all_held _ _ is = absurd cc

-- ==== what the table says of each word, each key and each deed, read off case by case

-- ---- keys

-- a word `key=value` has this key and this value
pub record IsOption (word : List ℕ) (k : Key) (text : List ℕ) : Type 0 where
  pub key : key_of word ≡ key_text k
  pub value : value_of word ≡ text
  pub equals : list_any (λ b. eqb b 61) word ≡ true

pub option_is : (k : Key) (text : List ℕ) → IsOption (key_text k ++ 61 ∷ text) k text
unfolding key_text
option_is k text = grind (arith, nat_tests)

pub key_good : (k : Key) → list_all is_inner (key_text k) ≡ true
unfolding key_text
key_good k = grind (arith, nat_tests)

-- ---- deeds

-- the place of a deed: there is one exactly where a name is used
abbrev pub place_at : Naming → ℕ → Option ℕ
place_at (rule.Uses sort) place = Some place
place_at rule.Bare place = None
place_at rule.Caller place = None
place_at (rule.Binds sort) place = None

deed_held : (w : Word) (place : ℕ) (x : AllHeld (fields w)) → is_deed w ≡ true
    → deed_spelled (deed_with w place (all_with (fields w) x)) ≡ record { word = w; place = place_at (naming w) place; values = all_with (fields w) x }
unfolding statement_row deed_spelled deed_with queue_deed lock_deed segment_deed number_given whole_in args_in cores_in kind_in flag_in mode_in timeout_in
    place_in
    place_there
deed_held w place x e1 = grind (arith, nat_tests)

-- a deed is spelled by the word, the place and the values of which it was made
pub deed_is : (w : Word) (place : ℕ) (vs : List OptionValue) → is_deed w ≡ true → are_filled (fields w) vs ≡ true
    → deed_spelled (deed_with w place vs) ≡ record { word = w; place = place_at (naming w) place; values = vs }
deed_is w place vs h f = let held = all_held (fields w) vs f in rw held.1 (deed_held w place held.0 h)

-- ---- settings

node_held : (x : AllHeld (fields word.Node)) → (s : NodeSettings) × (setting_values s ≡ all_with (fields word.Node) x)
unfolding statement_row
node_held (a, (b, (c, (d, (e, (f, (g, (h, _)))))))) =
    (record { workers = a; tasks = b; actions = c; groups = d; queues = e; objects = f; priorities = g; generations = h }, refl)

-- there are settings of the values of a node line
pub node_values : (vs : List OptionValue) → are_filled (fields word.Node) vs ≡ true → (s : NodeSettings) × (setting_values s ≡ vs)
node_values vs is =
    let held = all_held (fields word.Node) vs is in
    rw held.1 (node_held held.0)
