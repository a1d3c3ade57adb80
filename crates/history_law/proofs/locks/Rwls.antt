-- A reader-writer lock has one writer or readers alone.
use Rattle.history_law.proofs.Names.{◌≡◌, ℕ, zero, suc, ◌+◌, ◌<◌, ◌≤◌, Bool, true, false, cond, List, [], ◌∷◌, Some, None, refl, arith, ◌==◌, ◌||◌, not, is_some, length, slice_set, nat_tests, is_seat, marked, any_mark, how_many, Rwl, new_rwl, rwl_held, rwl_busy, rwl_taken, rwl_given, length-set}
use Rattle.history_law.proofs.Answered.{true_false, first_false, second_false}
use Rattle.history_law.proofs.lists.Counts.{one_if}
use Rattle.history_law.proofs.locks.Locks.{Lock, LockStep}
use Rattle.history_law.proofs.lists.Slots.{set_read, read_replicate}

-- Marks of seats

abbrev marks : List Bool → ℕ
marks l = how_many (λ b. b) l

marks_more : (l : List Bool) (i : ℕ) → i < length l → marked i l ≡ false → marks (slice_set l i true) ≡ marks l + 1
marks_more [] i k e = absurd (omega arith)
marks_more (true ∷ bs) zero k e = true_false refl e
marks_more (false ∷ bs) zero k e = omega arith
marks_more (b ∷ bs) (suc i) k e = let r : marks (slice_set bs i true) ≡ marks bs + 1 = marks_more bs i (omega arith) e in omega arith

marks_less : (l : List Bool) (i : ℕ) → marked i l ≡ true → marks (slice_set l i false) + 1 ≡ marks l
marks_less [] i e = true_false e refl
marks_less (true ∷ bs) zero e = omega arith
marks_less (false ∷ bs) zero e = true_false e refl
marks_less (b ∷ bs) (suc i) e = let r : marks (slice_set bs i false) + 1 ≡ marks bs = marks_less bs i e in omega arith

unset_read : (l : List Bool) (i w : ℕ) → marked w (slice_set l i false) ≡ cond (i == w) false (marked w l)
unset_read [] i w = grind (arith, nat_tests)
unset_read (c ∷ cs) zero zero = grind (arith, nat_tests)
unset_read (c ∷ cs) zero (suc w) = grind (arith, nat_tests)
unset_read (c ∷ cs) (suc i) zero = grind (arith, nat_tests)
unset_read (c ∷ cs) (suc i) (suc w) = grind (arith, nat_tests, unset_read cs i w)

no_mark : (l : List Bool) → any_mark l ≡ false → marks l ≡ 0
no_mark [] e = refl
no_mark (true ∷ bs) e = true_false refl e
no_mark (false ∷ bs) e = let r : marks bs ≡ 0 = no_mark bs e in omega arith

unmarked : (l : List Bool) (w : ℕ) → marks l ≡ 0 → marked w l ≡ false
unmarked [] w e = refl
unmarked (true ∷ bs) zero e = absurd (omega arith)
unmarked (false ∷ bs) zero e = refl
unmarked (b ∷ bs) (suc w) e = unmarked bs w (omega arith)

-- How many hold the lock in a mode, and whether a seat does

abbrev count : Bool → Rwl → ℕ
count true x = one_if (is_some x.writer)
count false x = marks x.readers

abbrev has : Bool → ℕ → Rwl → ℕ
has true w x = one_if (is_seat w x.writer)
has false w x = one_if (marked w x.readers)

pub record Fit (top : ℕ) (x : Rwl) : Type 0 where
  pub limit : x.limit ≡ top
  pub size : length x.readers ≡ 25
  pub most : marks x.readers ≤ top
  pub alone : is_some x.writer ≡ true → marks x.readers ≡ 0

abbrev pub rwl_lock : ℕ → Lock Bool Rwl
rwl_lock top = record { Fit = Fit top; count = count; has = has }

abbrev pub in_mode : Bool → Bool → Bool
in_mode m mode = cond m mode (not mode)

abbrev pub no_mode : Bool → Bool
no_mode m = false

-- a writer gets it
write_step : (top who : ℕ) (x : Rwl) → Fit top x → rwl_held x ≡ false
    → LockStep (rwl_lock top) who (Some x) (Some (rwl_taken who true x)) (λ m. in_mode m true) no_mode
write_step top who x e1 e2 = grind (arith, nat_tests, no_mark, second_false)

-- a reader gets it
read_step : (top who : ℕ) (x : Rwl) → Fit top x → who < 25 → marked who x.readers ≡ false → rwl_busy false x ≡ false
    → LockStep (rwl_lock top) who (Some x) (Some (rwl_taken who false x)) (λ m. in_mode m false) no_mode
read_step top who x e1 e2 e3 e4 = grind (arith, nat_tests, length-set, true_false, first_false, set_read, marks_more, second_false)

pub get_step : (top who : ℕ) (writer : Bool) (x : Rwl) → Fit top x → who < 25 → (is_seat who x.writer || marked who x.readers) ≡ false
    → rwl_busy writer x ≡ false
    → LockStep (rwl_lock top) who (Some x) (Some (rwl_taken who writer x)) (λ m. in_mode m writer) no_mode
get_step top who writer x e1 e2 e3 e4 = grind (arith, nat_tests, write_step top who x, read_step top who x, second_false (is_seat who x.writer), is_seat)

-- it is given back
pub give_step : (top who : ℕ) (writer : Bool) (x : Rwl) → Fit top x → cond writer (is_seat who x.writer) (marked who x.readers) ≡ true
    → LockStep (rwl_lock top) who (Some x) (Some (rwl_given who writer x)) no_mode (λ m. in_mode m writer)
give_step top who writer x e1 e2 = grind (arith, nat_tests, true_false, length-set, unset_read, marks_less)

-- it stops being live
pub leave_step : (top who : ℕ) (x : Rwl) → rwl_held x ≡ false → LockStep (rwl_lock top) who (Some x) None no_mode no_mode
leave_step top who x e1 = grind (arith, nat_tests, unmarked, no_mark, second_false)

pub new_fit : (id limit : ℕ) → Fit limit (new_rwl id limit)
new_fit id limit = record { limit = refl; size = refl; most = omega arith; alone = λ e. absurd (true_false e refl) }

pub new_free : (m : Bool) (w id limit : ℕ) → (count m (new_rwl id limit) ≡ 0) × (has m w (new_rwl id limit) ≡ 0)
new_free m w id limit = grind (arith, nat_tests, read_replicate 25 w false, one_if)
