-- Words with one bit changed.
use Rattle.std.proofs.Common.{◌≡◌, ◌≢◌, ℕ, ◌*◌, ◌/◌, ◌%◌, ◌^◌, ◌<◌, Bool, true, false, nat_eq, bit_and, bit_or, List, length, get_or, set, refl, sym, ap, ◌∙◌, w64, arith, if◌then◌else◌}
use Rattle.std.specs.Int.{bit_at, bit_not}
use Rattle.std.proofs.lemmas.Bool.{eqb-true, eqb-false, ne_eqb}
use Rattle.std.proofs.lemmas.Grind.{common_steps}
use Rattle.std.proofs.lemmas.Nat.Bits.{bit_at-zero, bit_at_set_same, bit_at_set_other, bit_at_clear_same, bit_at_clear_other}
use Rattle.ready_index.specs.Bits.{has_bit, is_empty_word}

read_same : (ws : List ℕ) (i j v : ℕ) → i < length ws → j ≡ i → get_or (set ws i v) j 0 ≡ v
read_same ws i j v lt e = grind (arith, common_steps)

read_other : (ws : List ℕ) (i j v : ℕ) → j ≢ i → get_or (set ws i v) j 0 ≡ get_or ws j 0
read_other ws i j v ne = grind (arith, common_steps)

same_place : (a b : ℕ) → a / 64 ≡ b / 64 → a % 64 ≡ b % 64 → a ≡ b
same_place a b q r = omega arith

-- the bit is on as given, and the word's other bits are as before
pub record ChangesBit (old new bit : ℕ) (on : Bool) : Type 0 where
  pub same : nat_eq (bit_at new bit) 1 ≡ on
  pub others : (i : ℕ) → i < 64 → i ≢ bit → bit_at new i ≡ bit_at old i

pub ChangesBit-set : (n k : ℕ) → k < 64 → ChangesBit n (bit_or n (1 * 2 ^ k % 2 ^ 64)) k true
ChangesBit-set n k lt = record { same = ap (λ b. nat_eq b 1) (bit_at_set_same w64 n k lt); others = λ i below ne. bit_at_set_other w64 n k lt i ne }

pub ChangesBit-clear : (n k : ℕ) → k < 64 → ChangesBit n (bit_and n (bit_not w64 (1 * 2 ^ k % 2 ^ 64))) k false
ChangesBit-clear n k lt = record { same = ap (λ b. nat_eq b 1) (bit_at_clear_same w64 n k lt); others = λ i below ne. bit_at_clear_other w64 n k lt i below ne }

-- another number in the changed word
beside : (ws : List ℕ) (b v : ℕ) (on : Bool) → b / 64 < length ws → ChangesBit (get_or ws (b / 64) 0) v (b % 64) on → (other : ℕ) → other / 64 ≡ b / 64
    → other % 64 ≢ b % 64 → has_bit (set ws (b / 64) v) other ≡ has_bit ws other
beside ws b v on lt h other q ne =
    let read : get_or (set ws (b / 64) v) (other / 64) 0 ≡ v = read_same ws (b / 64) (other / 64) v lt q in
    let below : other % 64 < 64 = omega arith in
    ap (λ w. nat_eq (bit_at w (other % 64)) 1) read
    ∙ ap (λ x. nat_eq x 1) (h.others (other % 64) below ne)
    ∙ ap (λ i. nat_eq (bit_at (get_or ws i 0) (other % 64)) 1) (sym q)

-- the number itself
has_bit_same : (ws : List ℕ) (b v : ℕ) (on : Bool) → b / 64 < length ws → ChangesBit (get_or ws (b / 64) 0) v (b % 64) on → (other : ℕ) → other ≡ b
    → has_bit (set ws (b / 64) v) other ≡ on
has_bit_same ws b v on lt h other e =
    ap (has_bit (set ws (b / 64) v)) e ∙ ap (λ w. nat_eq (bit_at w (b % 64)) 1) (read_same ws (b / 64) (b / 64) v lt refl) ∙ h.same

-- another number
has_bit_other : (ws : List ℕ) (b v : ℕ) (on : Bool) → b / 64 < length ws → ChangesBit (get_or ws (b / 64) 0) v (b % 64) on → (other : ℕ) → other ≢ b
    → has_bit (set ws (b / 64) v) other ≡ has_bit ws other
has_bit_other ws b v on lt h other ne =
    elim (nat_eq (other / 64) (b / 64)) as (λ t. nat_eq (other / 64) (b / 64) ≡ t → has_bit (set ws (b / 64) v) other ≡ has_bit ws other) [
      | true ↦ λ e. beside ws b v on lt h other (eqb-true _ _ e) (λ r. ne (same_place other b (eqb-true _ _ e) r))
      | false ↦ λ e. ap (λ w. nat_eq (bit_at w (other % 64)) 1) (read_other ws (b / 64) (other / 64) v (eqb-false _ _ e))
    ] refl

-- a set with one number put in or taken out
pub has_bit_after : (ws : List ℕ) (b v : ℕ) (on : Bool) → b / 64 < length ws → ChangesBit (get_or ws (b / 64) 0) v (b % 64) on → (other : ℕ)
    → has_bit (set ws (b / 64) v) other ≡ (if nat_eq other b then on else has_bit ws other)
has_bit_after ws b v on lt h other =
    elim (nat_eq other b) as (λ t. nat_eq other b ≡ t → has_bit (set ws (b / 64) v) other ≡ (if t then on else has_bit ws other)) [
      | true ↦ λ e. has_bit_same ws b v on lt h other (eqb-true other b e)
      | false ↦ λ e. has_bit_other ws b v on lt h other (eqb-false other b e)
    ] refl

-- a word with a bit isn't empty
pub not_empty : (n k : ℕ) → nat_eq (bit_at n k) 1 ≡ true → nat_eq n 0 ≡ false
not_empty n k h =
    ne_eqb n 0 (λ z.
    let zero_bit : bit_at n k ≡ 0 = ap (λ m. bit_at m k) z ∙ bit_at-zero k in
    let one : 0 ≡ 1 = sym zero_bit ∙ eqb-true (bit_at n k) 1 h in
    omega arith)

-- where a word with a bit stands in the place of another
pub is_empty_word_after : (ws : List ℕ) (i v : ℕ) → i < length ws → nat_eq v 0 ≡ false → (word : ℕ)
    → is_empty_word (set ws i v) word ≡ (if nat_eq word i then false else is_empty_word ws word)
is_empty_word_after ws i v lt h word =
    elim (nat_eq word i) as (λ t. nat_eq word i ≡ t → is_empty_word (set ws i v) word ≡ (if t then false else is_empty_word ws word)) [
      | true ↦ λ e. ap (λ w. nat_eq w 0) (read_same ws i word v lt (eqb-true word i e)) ∙ h
      | false ↦ λ e. ap (λ w. nat_eq w 0) (read_other ws i word v (eqb-false word i e))
    ] refl

read_value : (ws : List ℕ) (i v : ℕ) → i < length ws → v ≡ get_or ws i v → v ≡ get_or ws i 0
read_value ws i v lt e = grind (arith, common_steps)

-- the words as the code changes them, beside the set as it was
pub set_word : (items view : List ℕ) (b v : ℕ) → items ≡ view → b / 64 < length view → v ≡ get_or items (b / 64) v → (other : ℕ)
    → has_bit (set items (b / 64) (bit_or v (1 * 2 ^ (b % 64) % 2 ^ 64))) other ≡ (if nat_eq other b then true else has_bit view other)
set_word items view b v e lt r other =
    let lt' : b / 64 < length items = rw e lt in
    let read : v ≡ get_or items (b / 64) 0 = read_value items (b / 64) v lt' r in
    let below : b % 64 < 64 = omega arith in
    let change : ChangesBit (get_or items (b / 64) 0) (bit_or v (1 * 2 ^ (b % 64) % 2 ^ 64)) (b % 64) true = rw (← read) (ChangesBit-set v (b % 64) below) in
    has_bit_after items b (bit_or v (1 * 2 ^ (b % 64) % 2 ^ 64)) true lt' change other ∙ ap (λ l. if nat_eq other b then true else has_bit l other) e

pub clear_word : (items view : List ℕ) (b v : ℕ) → items ≡ view → b / 64 < length view → v ≡ get_or items (b / 64) v → (other : ℕ)
    → has_bit (set items (b / 64) (bit_and v (bit_not w64 (1 * 2 ^ (b % 64) % 2 ^ 64)))) other ≡ (if nat_eq other b then false else has_bit view other)
clear_word items view b v e lt r other =
    let lt' : b / 64 < length items = rw e lt in
    let read : v ≡ get_or items (b / 64) 0 = read_value items (b / 64) v lt' r in
    let below : b % 64 < 64 = omega arith in
    let change : ChangesBit (get_or items (b / 64) 0) (bit_and v (bit_not w64 (1 * 2 ^ (b % 64) % 2 ^ 64))) (b % 64) false =
    rw (← read) (ChangesBit-clear v (b % 64) below) in
    has_bit_after items b (bit_and v (bit_not w64 (1 * 2 ^ (b % 64) % 2 ^ 64))) false lt' change other
    ∙ ap (λ l. if nat_eq other b then false else has_bit l other) e

pub set_empty : (items view : List ℕ) (b v : ℕ) → items ≡ view → b / 64 < length view → (word : ℕ)
    → is_empty_word (set items (b / 64) (bit_or v (1 * 2 ^ (b % 64) % 2 ^ 64))) word ≡ (if nat_eq word (b / 64) then false else is_empty_word view word)
set_empty items view b v e lt word =
    let lt' : b / 64 < length items = rw e lt in
    let below : b % 64 < 64 = omega arith in
    is_empty_word_after items (b / 64) _ lt'
    (not_empty _ (b % 64) (let change : ChangesBit v (bit_or v (1 * 2 ^ (b % 64) % 2 ^ 64)) (b % 64) true = ChangesBit-set v (b % 64) below in
    change.same)) word ∙ ap (λ l. if nat_eq word (b / 64) then false else is_empty_word l word) e
