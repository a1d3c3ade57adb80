-- A value that was read is in its range, and is written as it was read.
use Rattle.std.proofs.lemmas.Bool.Decides.{nat_tests}
use Rattle.workload_file.proofs.Cited.{some_cond, ◌≡◌, ℕ, ◌+◌, ◌-◌, ◌^◌, ◌≤◌, ◌<◌, List, [], ◌∷◌, ◌++◌, length, Bool, true, false, not, cond, ◌&&◌, eqb, Option, Some, None, refl, sym, ap, subst, ◌∙◌, arith, ◌⊎◌, inl, inr, get_or, zero, suc, length-append, nat_le, is_some, option_and_then, slice_get, codes, list_any, position_or_len, AllByRecursion, find, list_all, decimal, bytes_eq, eqb-true, and_parts, cases_Bool, and_from, or_parts, or_left, or_right, position-Some, split_at_first, passes_at_first, Kind, Timeout, kind_all, kind_word, kind_named, list_of, led, cores_text, cores_fit, bind_some, whole_fits, list_fits, number_spelled, cores_spelled, whole_spelled, list_spelled, Sort, Statement, number_in_32, number_from_to, cores_of, timeout_of, flag_of, mode_of, is_name, key_of, value_of, is_known, text_of, place_of, bound_at, is_called, is_binding, name_text, timeout_text, name_at, name_of, value_text, is_default, option_words, options_words, IsBoundAt, IsTimeout, FitsShape, AllFit, option_map, whole_number, led_append, OptionShape, Absent, Key, Field, OptionValue, key_text, or_bad, or_unbound, value_given, value_absent, option_value_at, values_in}
use Rattle.number_text.specs.Lists.{◌>>=◌}
use Rattle.mtapi_values.specs.declared.timeouts.Timeout.TheVariants as timeout
use Rattle.number_text.specs.Cores.{cores_in_text as listed_cores}
use Rattle.number_text.proofs.Reading.{within_is as wide_is}
use Rattle.workload_file.specs.declared.table.OptionShape.TheVariants as shape
use Rattle.workload_file.specs.declared.values.OptionValue.TheVariants as given
use Rattle.workload_file.proofs.Facts.{some_is, is_sound}
use Rattle.workload_file.proofs.Finds.{find_passes, find_all}
use Rattle.workload_file.proofs.Places.{bytes_are, apart_sym}
use Rattle.workload_file.proofs.Fields.{AreApart, is_good, is_refused, is_shaped, is_there, is_filled, are_filled}

pub any_place : {X : Type 0} (p : X → Bool) (xs : List X) → list_any p xs ≡ true → position_or_len p xs < length xs
any_place p [] h = absurd cc
any_place p (x ∷ xs) h = grind (arith, nat_tests, any_place p xs, position_or_len)

-- a word with = is its key, = and its value
pub spelled : (word : List ℕ) → list_any (λ b. eqb b 61) word ≡ true → word ≡ key_of word ++ 61 ∷ value_of word
spelled word h =
    let lt = any_place (λ b. eqb b 61) word h in
    let at = passes_at_first (λ b. eqb b 61) word 0 lt in
    let is : get_or word (position_or_len (λ b. eqb b 61) word) 0 ≡ 61 = eqb-true _ _ at in
    let all = split_at_first (λ b. eqb b 61) word 0 lt in
    rw is at all

-- ---- a choice between texts

cond_some : {A : Type 0} (b : Bool) (x y : A) (o : Option A) → cond b (Some x) o ≡ Some y → ((b ≡ true) × (x ≡ y)) ⊎ (o ≡ Some y)
cond_some b x y o e1 = grind (arith, nat_tests)

-- ---- numbers

within : (low high n : ℕ) (o : Option ℕ) → option_and_then (λ m. cond (nat_le low m && nat_le m high) (Some m) None) o ≡ Some n
    → (o ≡ Some n) × (low ≤ n) × (n ≤ high)
within low high n o e1 = grind (arith, nat_tests)

-- what a number is
pub within_is : (low high n : ℕ) (text : List ℕ) → number_from_to low high text ≡ Some n → ((low ≤ n) × (n ≤ high)) × (decimal n ≡ text)
unfolding number_from_to number_in_32
within_is low high n text e1 = grind (arith, nat_tests, within, number_spelled, wide_is)

-- ---- sets of cores, kinds, timeouts and words

-- what a set of cores is: all cores have two texts
pub cores_is : (text : List ℕ) (bits : ℕ) → cores_of text ≡ Some bits → ((0 < bits) × (bits < 2 ^ 64)) × ((bits ≡ 2 ^ 64 - 1 → ⊥) → cores_text bits ≡ text)
unfolding cores_of
cores_is text bits e1 = grind (arith, nat_tests, cond_some, bytes_eq, listed_cores, cores_fit, cores_spelled)

pub kind_text : (text : List ℕ) (k : Kind) → kind_named text ≡ Some k → kind_word k ≡ text
unfolding kind_named
kind_text text k e = bytes_are (kind_word k) text (find_passes (λ k. bytes_eq (kind_word k) text) kind_all k e)

-- one of two words
two_words : (one other text : List ℕ) (x : Bool) → cond (bytes_eq text one) (Some true) (cond (bytes_eq text other) (Some false) None) ≡ Some x
    → cond x one other ≡ text
two_words one other text x e =
    elim (cond_some (bytes_eq text one) true x (cond (bytes_eq text other) (Some false) None) e) [
      | inl h ↦ rw (← h.1) (sym (bytes_are text one h.0))
      | inr e2 ↦ let h = some_cond (bytes_eq text other) false x e2 in rw (← h.1) (sym (bytes_are text other h.0))
    ]

pub flag_text : (text : List ℕ) (b : Bool) → flag_of text ≡ Some b → cond b (codes "yes") (codes "no") ≡ text
unfolding flag_of
flag_text text b e = two_words (codes "yes") (codes "no") text b e

pub mode_text : (text : List ℕ) (b : Bool) → mode_of text ≡ Some b → cond b (codes "writer") (codes "reader") ≡ text
unfolding mode_of
mode_text text b e = two_words (codes "writer") (codes "reader") text b e

abbrev looks_of : List ℕ → Option Timeout
looks_of text = number_from_to 0 1000000 text >>= λ n. Some (timeout.Looks n)

abbrev TimeoutOf : List ℕ → Timeout → Type 0
TimeoutOf text t = IsTimeout t × (timeout_text t ≡ text)

-- what a timeout is
pub timeout_is : (text : List ℕ) (t : Timeout) → timeout_of text ≡ Some t → IsTimeout t × (timeout_text t ≡ text)
unfolding timeout_of timeout_text
timeout_is text t e =
    elim (cond_some (bytes_eq text (codes "nowait")) timeout.NoWait t (cond (bytes_eq text (codes "inf")) (Some timeout.Infinite) (looks_of text)) e) [
      | inl h ↦ subst (TimeoutOf text) h.1 (tt, sym (bytes_are text (codes "nowait") h.0))
      | inr e2 ↦
          elim (cond_some (bytes_eq text (codes "inf")) timeout.Infinite t (looks_of text) e2) [
            | inl h ↦ subst (TimeoutOf text) h.1 (tt, sym (bytes_are text (codes "inf") h.0))
            | inr e3 ↦
                let a = bind_some (number_from_to 0 1000000 text) (λ n. Some (timeout.Looks n)) t e3 in
                let w = within_is 0 1000000 a.0 text a.1 in
                subst (TimeoutOf text) (some_is (timeout.Looks a.0) t a.2) (w.0.1, w.1)
          ]
    ]

-- ---- names

bound_here : (s : Sort) (sts : List Statement) (i : ℕ) → is_binding s (slice_get sts i) ≡ true → IsBoundAt s sts i
bound_here s [] i h = absurd cc
bound_here s (x ∷ xs) zero h = (omega arith, h)
bound_here s (x ∷ xs) (suc i) h = let rest = bound_here s xs i h in (omega (arith, rest.0), rest.1)

place_cond : (s : Sort) (sts : List Statement) (o : Option ℕ) (i : ℕ)
    → option_and_then (λ place. cond (is_binding s (slice_get sts place)) (Some place) None) o ≡ Some i → IsBoundAt s sts i × (o ≡ Some i)
place_cond s sts None i e = absurd cc
place_cond s sts (Some j) i e =
    let g = some_cond (is_binding s (slice_get sts j)) j i e in
    (subst (IsBoundAt s sts) g.1 (bound_here s sts j g.0), ap Some g.1)

place_some : (s : Sort) (name : List ℕ) (sts : List Statement) (i : ℕ) → place_of s name sts ≡ Some i → IsBoundAt s sts i × (bound_at name sts ≡ Some i)
unfolding place_of
place_some s name sts i e = place_cond s sts (bound_at name sts) i e

pub place_found : {A : Type 0} (o : Option A) → not (is_some o) ≡ false → (x : A) × (o ≡ Some x)
place_found o e1 = grind (arith, nat_tests)

slice_get_is : {X : Type 0} (xs : List X) (i : ℕ) (d : X) → i < length xs → slice_get xs i ≡ Some (get_or xs i d)
slice_get_is [] i d h = absurd (omega arith)
slice_get_is (x ∷ xs) zero d h = refl
slice_get_is (x ∷ xs) (suc i) d h = slice_get_is xs i d (omega arith)

called_text : (name : List ℕ) (o : Option (List ℕ)) → is_called name o ≡ true → name_text o ≡ name
called_text name o e1 = grind (arith, nat_tests, bytes_are)

place_text : (name : List ℕ) (sts : List Statement) (i : ℕ) → bound_at name sts ≡ Some i → name_at sts (Some i) ≡ name
place_text name [] i e = absurd cc
place_text name (s ∷ ss) i e =
    let p = position-Some (λ (s : Statement). is_called name s.name) (s ∷ ss) i s e in
    ap name_of (slice_get_is (s ∷ ss) i s p.0) ∙ called_text name (get_or (s ∷ ss) i s).name p.1

-- what a name that is bound stands for
pub place_is : (s : Sort) (name : List ℕ) (sts : List Statement) (i : ℕ) → place_of s name sts ≡ Some i → IsBoundAt s sts i × (name_at sts (Some i) ≡ name)
place_is s name sts i e = let p = place_some s name sts i e in (p.0, place_text name sts i p.1)

-- ==== the values that options give fit their options, and what is written of them is no longer than the options

-- ---- one value

-- what a value that was read of a text is
pub record IsValue (before : List Statement) (s : OptionShape) (text : List ℕ) (v : OptionValue) : Type 0 where
  pub fits : FitsShape before s v
  pub shaped : is_shaped s v ≡ true
  pub there : is_there v ≡ true
  pub written : (a : Absent) → is_good a s ≡ true → is_default a v ≡ false → value_text before v ≡ text

-- all cores are the usual ones
cores_usual : (a : Absent) (mask : ℕ) → is_good a shape.Cores ≡ true → is_default a (given.Cores (record { 0 = mask })) ≡ false → mask ≡ 2 ^ 64 - 1 → ⊥
unfolding is_default
cores_usual a mask e1 e2 e3 = grind (arith, nat_tests)

read_some : {A : Type 0} (f : A → OptionValue) (o : Option A) → is_sound (or_bad f o) ≡ true → (x : A) × (o ≡ Some x)
read_some f o e1 = grind (arith, nat_tests)

bound_some : (b : Bool) (o : Option ℕ) → is_sound (cond b (or_unbound o) given.Bad) ≡ true → (b ≡ true) × (i : ℕ) × (o ≡ Some i)
bound_some b o e1 = grind (arith, nat_tests)

pub value_is : (before : List Statement) (s : OptionShape) (text : List ℕ) → is_sound (value_given before s text) ≡ true
    → IsValue before s text (value_given before s text)
unfolding value_given value_text
value_is before (shape.Number low high) text h =
    let m = read_some given.Number (number_from_to low high text) h in
    let w = within_is low high m.0 text m.1 in
    rw m.1 (record { fits = w.0; shaped = refl; there = refl; written = λ a good d. w.1 })
value_is before shape.Whole text h =
    let m = read_some given.Whole (whole_number text) h in
    rw m.1 (record { fits = whole_fits text m.0 m.1; shaped = refl; there = refl; written = λ a good d. whole_spelled text m.0 m.1 })
value_is before shape.Args text h =
    let m = read_some given.Args (list_of text) h in
    let f = list_fits text m.0 m.1 in
    rw m.1 (record { fits = (f.1, f.2); shaped = refl; there = refl; written = λ a good d. list_spelled text m.0 m.1 })
value_is before shape.Cores text h =
    let m = read_some (λ (mask : ℕ). given.Cores (record { 0 = mask })) (cores_of text) h in
    let c = cores_is text m.0 m.1 in
    rw m.1 (record { fits = c.0; shaped = refl; there = refl; written = λ a good d. c.1 (cores_usual a m.0 good d) })
value_is before shape.Kind text h =
    let m = read_some given.Kind (kind_named text) h in
    rw m.1 (record { fits = tt; shaped = refl; there = refl; written = λ a good d. kind_text text m.0 m.1 })
value_is before shape.Flag text h =
    let m = read_some given.Flag (flag_of text) h in
    rw m.1 (record { fits = tt; shaped = refl; there = refl; written = λ a good d. flag_text text m.0 m.1 })
value_is before shape.Mode text h =
    let m = read_some given.Mode (mode_of text) h in
    rw m.1 (record { fits = tt; shaped = refl; there = refl; written = λ a good d. mode_text text m.0 m.1 })
value_is before shape.Timeout text h =
    let m = read_some given.Timeout (timeout_of text) h in
    let t = timeout_is text m.0 m.1 in
    rw m.1 (record { fits = t.0; shaped = refl; there = refl; written = λ a good d. t.1 })
value_is before (shape.Named sort) text h =
    let m = bound_some (is_name text) (place_of sort text before) h in
    let p = place_is sort text before m.1 m.2 in
    rw (m.0, m.2) (record { fits = p.0; shaped = refl; there = refl; written = λ a good d. p.1 })

-- what the value of an absent option is
pub record IsUsual (before : List Statement) (a : Absent) (s : OptionShape) (v : OptionValue) : Type 0 where
  pub fits : FitsShape before s v
  pub shaped : is_shaped s v ≡ true
  pub may : is_refused a ≡ false
  pub default : is_default a v ≡ true

pub absent_is : (before : List Statement) (a : Absent) (s : OptionShape) → is_good a s ≡ true → is_sound (value_absent a s) ≡ true
    → IsUsual before a s (value_absent a s)
unfolding value_absent is_default
absent_is before a s e1 e2 = grind (arith, nat_tests)

-- ---- all values

field_is : (before : List Statement) (f : Field) (o : Option (List ℕ)) → is_good f.absent f.shape ≡ true → is_sound (option_value_at before f o) ≡ true
    → FitsShape before f.shape (option_value_at before f o) × (is_filled f (option_value_at before f o) ≡ true)
field_is before f None good h =
    let u = absent_is before f.absent f.shape good h in
    (u.fits, and_from _ _ u.shaped (or_left (not (is_refused f.absent)) (is_there (value_absent f.absent f.shape)) (ap not u.may)))
field_is before f (Some text) good h =
    let i = value_is before f.shape text h in
    (i.fits, and_from _ _ i.shaped (or_right (not (is_refused f.absent)) (is_there (value_given before f.shape text)) i.there))

abbrev Good : List Field → Type 0
Good fs = AllByRecursion (λ f. is_good f.absent f.shape ≡ true) fs

-- values that are read fit their options, and none is missing
pub values_are : (before : List Statement) (options : List (List ℕ)) (fs : List Field) → Good fs → list_all is_sound (values_in before options fs) ≡ true
    → AllFit before fs (values_in before options fs) × (are_filled fs (values_in before options fs) ≡ true)
values_are before options [] good h = (tt, refl)
values_are before options (f ∷ fs) good h =
    let both = and_parts (is_sound (option_value_at before f (text_of f.key options))) (list_all is_sound (values_in before options fs)) h in
    let first = field_is before f (text_of f.key options) good.0 both.0 in
    let rest = values_are before options fs good.1 both.1 in
    ((first.0, rest.0), and_from _ _ first.1 rest.1)

-- ---- what is written of them

-- what the words with a key need
part : Key → List (List ℕ) → ℕ
part k [] = 0
part k (w ∷ ws) = cond (bytes_eq (key_of w) (key_text k)) (length w + 1) 0 + part k ws

parts : List Field → List (List ℕ) → ℕ
unfolding part
parts [] ws = 0
parts (f ∷ fs) ws = part f.key ws + parts fs ws

-- what one word counts for
ones : List Field → List ℕ → ℕ → ℕ
ones [] w c = 0
ones (f ∷ fs) w c = cond (bytes_eq (key_of w) (key_text f.key)) c 0 + ones fs w c

found_part : (k : Key) (options : List (List ℕ)) (word : List ℕ) → find (λ w. bytes_eq (key_of w) (key_text k)) options ≡ Some word
    → length word + 1 ≤ part k options
unfolding part
found_part k [] word e = absurd cc
found_part k (w ∷ ws) word e = grind (arith, nat_tests, found_part k ws word, bytes_eq, key_of, key_text)

-- an option is left out, or is the word that gave it
picked : (before : List Statement) (all : List Field) (options : List (List ℕ)) (f : Field) (o : Option (List ℕ)) → is_good f.absent f.shape ≡ true
    → list_all (is_known all) options ≡ true → find (λ w. bytes_eq (key_of w) (key_text f.key)) options ≡ o
    → is_sound (option_value_at before f (option_map value_of o)) ≡ true
    → length (led 32 (option_words before f (option_value_at before f (option_map value_of o)))) ≤ part f.key options
picked before all options f None good known is h = rw (absent_is before f.absent f.shape good h).default (omega arith)
picked before all options f (Some word) good known is h =
    elim (cases_Bool (is_default f.absent (value_given before f.shape (value_of word)))) [
      | inl t ↦ rw t (omega arith)
      | inr d ↦
          let text = (value_is before f.shape (value_of word) h).written f.absent good d in
          let key : key_of word ≡ key_text f.key =
          bytes_are (key_of word) (key_text f.key) (find_passes (λ w. bytes_eq (key_of w) (key_text f.key)) options word is) in
          let k = and_parts _ _ (find_all (λ w. bytes_eq (key_of w) (key_text f.key)) (is_known all) options word is known) in
          let whole_number : word ≡ key_text f.key ++ 61 ∷ value_of word = rw (← key) (spelled word k.0) in
          rw (d, text, ← whole_number) (omega (arith, found_part f.key options word is, length-append word []))
    ]

options_cons : (before : List Statement) (f : Field) (fs : List Field) (v : OptionValue) (vs : List OptionValue)
    → options_words before (f ∷ fs) (v ∷ vs) ≡ option_words before f v ++ options_words before fs vs
unfolding options_words
options_cons before f fs v vs = refl

options_none : (before : List Statement) (vs : List OptionValue) → options_words before [] vs ≡ []
unfolding options_words
options_none before vs = refl

picks_parts : (before : List Statement) (all : List Field) (options : List (List ℕ)) (fs : List Field) → Good fs → list_all (is_known all) options ≡ true
    → list_all is_sound (values_in before options fs) ≡ true → length (led 32 (options_words before fs (values_in before options fs))) ≤ parts fs options
unfolding parts text_of
picks_parts before all options [] good known h = rw (options_none before []) (omega arith)
picks_parts before all options (f ∷ fs) good known h =
    grind (arith, nat_tests, picks_parts before all options fs good.1 known, and_parts, picked, options_cons, led_append, length-append)

parts_empty : (fs : List Field) → parts fs [] ≡ 0
unfolding parts part
parts_empty [] = refl
parts_empty (f ∷ fs) = omega (arith, parts_empty fs)

parts_word : (fs : List Field) (w : List ℕ) (ws : List (List ℕ)) → parts fs (w ∷ ws) ≡ ones fs w (length w + 1) + parts fs ws
unfolding parts part ones
parts_word [] w ws = refl
parts_word (f ∷ fs) w ws = omega (arith, parts_word fs w ws)

ones_none : (fs : List Field) (k : Key) (w : List ℕ) (c : ℕ) → key_of w ≡ key_text k → list_any (λ g. bytes_eq (key_text g.key) (key_text k)) fs ≡ false
    → ones fs w c ≡ 0
unfolding ones
ones_none [] k w c e h = refl
ones_none (f ∷ fs) k w c e h = grind (arith, nat_tests, ones_none fs k w c e, or_parts, bytes_eq, key_of, key_text, apart_sym)

ones_le : (fs : List Field) (w : List ℕ) (c : ℕ) → AreApart fs → ones fs w c ≤ c
unfolding ones
ones_le [] w c a = omega arith
ones_le (f ∷ fs) w c a =
    elim (cases_Bool (bytes_eq (key_of w) (key_text f.key))) [
      | inl t ↦ let none = ones_none fs f.key w c (bytes_are (key_of w) (key_text f.key) t) a.0 in rw t (omega (arith, none))
      | inr g ↦ let rest = ones_le fs w c a.1 in rw g (omega (arith, rest))
    ]

parts_le : (fs : List Field) (ws : List (List ℕ)) → AreApart fs → parts fs ws ≤ length (led 32 ws)
parts_le fs [] a = omega (arith, parts_empty fs)
parts_le fs (w ∷ ws) a = omega (arith, parts_word fs w ws, ones_le fs w (length w + 1) a, parts_le fs ws a, length-append w (led 32 ws))

-- the options that are written are no longer than those that were read
pub picks_short : (before : List Statement) (options : List (List ℕ)) (fs : List Field) → AreApart fs → Good fs → list_all (is_known fs) options ≡ true
    → list_all is_sound (values_in before options fs) ≡ true → length (led 32 (options_words before fs (values_in before options fs))) ≤ length (led 32 options)
picks_short before options fs apart good known h = omega (arith, picks_parts before fs options fs good known h, parts_le fs options apart)
