-- The levels of a bitmap after a change.
use Rattle.std.proofs.Common.{◌≡◌, ◌≢◌, ℕ, ◌/◌, ◌%◌, ◌<◌, ◌≤◌, Bool, true, false, not, nat_eq, List, length, get_or, refl, sym, ap, ◌∙◌, arith, if◌then◌else◌}
use Rattle.std.proofs.lemmas.Bool.{eqb-true, eqb-false, not-false, not-true}
use Rattle.std.proofs.lemmas.List.{get_or_past}
use Rattle.std.specs.Int.{bit_at}
use Rattle.std.proofs.lemmas.Nat.Bits.{bit_at-zero}
use Rattle.std.proofs.lemmas.Grind.{common_steps}
use Rattle.ready_index.specs.Bits.{has_bit, is_empty_word}
use Rattle.ready_index.specs.Levels.{Summarizes, AreLevels}

put_both : (t a b : Bool) → a ≡ not b → (if t then true else a) ≡ not (if t then false else b)
put_both true a b e = refl
put_both false a b e = e

taken_both : (t a b : Bool) → a ≡ not b → (if t then false else a) ≡ not (if t then true else b)
taken_both true a b e = refl
taken_both false a b e = e

-- a bit set above, and the word below it no longer empty
pub Summarizes-put : (upper lower upper' lower' : List ℕ) (i : ℕ) → Summarizes upper lower
    → ((o : ℕ) → has_bit upper' o ≡ (if nat_eq o i then true else has_bit upper o))
    → ((w : ℕ) → is_empty_word lower' w ≡ (if nat_eq w i then false else is_empty_word lower w)) → Summarizes upper' lower'
Summarizes-put upper lower upper' lower' i h above below word =
    above word ∙ put_both (nat_eq word i) (has_bit upper word) (is_empty_word lower word) (h word) ∙ ap not (sym (below word))

empty_at : (lower lower' : List ℕ) (i : ℕ) → ((w : ℕ) → w ≢ i → is_empty_word lower' w ≡ is_empty_word lower w) → is_empty_word lower' i ≡ true → (word : ℕ)
    → is_empty_word lower' word ≡ (if nat_eq word i then true else is_empty_word lower word)
empty_at lower lower' i below emptied word =
    elim (nat_eq word i) as (λ t. nat_eq word i ≡ t → is_empty_word lower' word ≡ (if t then true else is_empty_word lower word)) [
      | true ↦ λ e. ap (is_empty_word lower') (eqb-true word i e) ∙ emptied
      | false ↦ λ e. below word (eqb-false word i e)
    ] refl

-- a bit cleared above, and the word below it empty now
pub Summarizes-taken : (upper lower upper' lower' : List ℕ) (i : ℕ) → Summarizes upper lower
    → ((o : ℕ) → has_bit upper' o ≡ (if nat_eq o i then false else has_bit upper o)) → ((w : ℕ) → w ≢ i → is_empty_word lower' w ≡ is_empty_word lower w)
    → is_empty_word lower' i ≡ true → Summarizes upper' lower'
Summarizes-taken upper lower upper' lower' i h above below emptied word =
    above word ∙ taken_both (nat_eq word i) (has_bit upper word) (is_empty_word lower word) (h word) ∙ ap not (sym (empty_at lower lower' i below emptied word))

full_before : (a b : Bool) → b ≡ false → (a ≡ true → b ≡ true) → a ≡ false
full_before true b e f = sym (f refl) ∙ e
full_before false b e f = refl

-- a word that isn't empty after a bit was cleared wasn't before
pub Summarizes-kept : (upper lower lower' : List ℕ) (i : ℕ) → Summarizes upper lower → ((w : ℕ) → w ≢ i → is_empty_word lower' w ≡ is_empty_word lower w)
    → is_empty_word lower' i ≡ false → (is_empty_word lower i ≡ true → is_empty_word lower' i ≡ true) → Summarizes upper lower'
Summarizes-kept upper lower lower' i h below full shrinks word =
    h word ∙ ap not (sym (elim (nat_eq word i) as (λ t. nat_eq word i ≡ t → is_empty_word lower' word ≡ is_empty_word lower word) [
      | true ↦ λ e. ap (is_empty_word lower') (eqb-true word i e) ∙ full ∙ sym (full_before (is_empty_word lower i) (is_empty_word lower' i) full shrinks)
          ∙ ap (is_empty_word lower) (sym (eqb-true word i e))
      | false ↦ λ e. below word (eqb-false word i e)
    ] refl))

by_cases_length : (lower : List ℕ) (word : ℕ) → is_empty_word lower word ≡ false → word < length lower
by_cases_length lower word e = grind (arith, common_steps)

-- a bit of the upper level leads to a word of the lower
pub below_length : (upper lower : List ℕ) → Summarizes upper lower → (word : ℕ) → has_bit upper word ≡ true → word < length lower
below_length upper lower h word e = by_cases_length lower word (not-true (is_empty_word lower word) (sym (h word) ∙ e))

-- no bit above, none below
pub none_below : (upper lower : List ℕ) → Summarizes upper lower → ((o : ℕ) → has_bit upper o ≡ false) → (w : ℕ) → is_empty_word lower w ≡ true
none_below upper lower h none w = not-false (is_empty_word lower w) (sym (h w) ∙ none w)

-- empty words have no bit
pub no_bits : (ws : List ℕ) → ((w : ℕ) → is_empty_word ws w ≡ true) → (o : ℕ) → has_bit ws o ≡ false
no_bits ws empty o =
    let zero_word : get_or ws (o / 64) 0 ≡ 0 = eqb-true _ _ (empty (o / 64)) in
    ap (λ w. nat_eq (bit_at w (o % 64)) 1) zero_word ∙ ap (λ x. nat_eq x 1) (bit_at-zero (o % 64))

past_empty : (ws : List ℕ) (w : ℕ) → length ws ≤ w → is_empty_word ws w ≡ true
past_empty ws w past = ap (λ x. nat_eq x 0) (get_or_past ws w 0 past)

one_word : (top : List ℕ) → length top ≡ 1 → is_empty_word top 0 ≡ true → (w : ℕ) → is_empty_word top w ≡ true
one_word top one e w =
    elim (nat_eq w 0) as (λ t. nat_eq w 0 ≡ t → is_empty_word top w ≡ true) [
      | true ↦ λ z. ap (is_empty_word top) (eqb-true w 0 z) ∙ e
      | false ↦ λ z. let past : length top ≤ w = (let ne : w ≢ 0 = eqb-false w 0 z in omega arith) in past_empty top w past
    ] refl

-- where the top is empty, all is
pub none_from_top : (bits summary top : List ℕ) → AreLevels bits summary top → is_empty_word top 0 ≡ true → (number : ℕ) → has_bit bits number ≡ false
none_from_top bits summary top h e =
    no_bits bits (none_below summary bits h.words (no_bits summary (none_below top summary h.summaries (no_bits top (one_word top h.one_top e)))))

pub AreLevels-put : (bits summary top bits' summary' top' : List ℕ) (n : ℕ) → AreLevels bits summary top
    → ((w : ℕ) → is_empty_word bits' w ≡ (if nat_eq w (n / 64) then false else is_empty_word bits w)) → length bits' ≡ length bits
    → ((o : ℕ) → has_bit summary' o ≡ (if nat_eq o (n / 64) then true else has_bit summary o))
    → ((w : ℕ) → is_empty_word summary' w ≡ (if nat_eq w (n / 64 / 64) then false else is_empty_word summary w)) → length summary' ≡ length summary
    → ((o : ℕ) → has_bit top' o ≡ (if nat_eq o (n / 64 / 64) then true else has_bit top o)) → length top' ≡ length top
    → AreLevels bits' summary' top'
AreLevels-put bits summary top bits' summary' top' n h b bl s e sl t tl = record {
  words = Summarizes-put summary bits summary' bits' (n / 64) h.words s b;
  summaries = Summarizes-put top summary top' summary' (n / 64 / 64) h.summaries t e;
  summary_room = omega (arith, h.summary_room);
  top_room = omega (arith, h.top_room);
  one_top = tl ∙ h.one_top;
}

-- the number's word is empty now, its summary's word isn't
pub AreLevels-taken : (bits summary top bits' summary' : List ℕ) (n : ℕ) → AreLevels bits summary top
    → ((w : ℕ) → w ≢ n / 64 → is_empty_word bits' w ≡ is_empty_word bits w) → is_empty_word bits' (n / 64) ≡ true → length bits' ≡ length bits
    → ((o : ℕ) → has_bit summary' o ≡ (if nat_eq o (n / 64) then false else has_bit summary o))
    → ((w : ℕ) → w ≢ n / 64 / 64 → is_empty_word summary' w ≡ is_empty_word summary w) → is_empty_word summary' (n / 64 / 64) ≡ false
    → (is_empty_word summary (n / 64 / 64) ≡ true → is_empty_word summary' (n / 64 / 64) ≡ true) → length summary' ≡ length summary
    → AreLevels bits' summary' top
AreLevels-taken bits summary top bits' summary' n h b empty bl s e full shrinks sl = record {
  words = Summarizes-taken summary bits summary' bits' (n / 64) h.words s b empty;
  summaries = Summarizes-kept top summary summary' (n / 64 / 64) h.summaries e full shrinks;
  summary_room = omega (arith, h.summary_room);
  top_room = omega (arith, h.top_room);
  one_top = h.one_top;
}

-- both words are empty now
pub AreLevels-emptied : (bits summary top bits' summary' top' : List ℕ) (n : ℕ) → AreLevels bits summary top
    → ((w : ℕ) → w ≢ n / 64 → is_empty_word bits' w ≡ is_empty_word bits w) → is_empty_word bits' (n / 64) ≡ true → length bits' ≡ length bits
    → ((o : ℕ) → has_bit summary' o ≡ (if nat_eq o (n / 64) then false else has_bit summary o))
    → ((w : ℕ) → w ≢ n / 64 / 64 → is_empty_word summary' w ≡ is_empty_word summary w) → is_empty_word summary' (n / 64 / 64) ≡ true
    → length summary' ≡ length summary
    → ((o : ℕ) → has_bit top' o ≡ (if nat_eq o (n / 64 / 64) then false else has_bit top o)) → length top' ≡ length top
    → AreLevels bits' summary' top'
AreLevels-emptied bits summary top bits' summary' top' n h b empty bl s e gone sl t tl = record {
  words = Summarizes-taken summary bits summary' bits' (n / 64) h.words s b empty;
  summaries = Summarizes-taken top summary top' summary' (n / 64 / 64) h.summaries t e gone;
  summary_room = omega (arith, h.summary_room);
  top_room = omega (arith, h.top_room);
  one_top = tl ∙ h.one_top;
}
