-- When a list of seats has all of a cell's, for who closes it.
use Rattle.std.proofs.lemmas.Bool.Decides.{nat_tests}
use Rattle.turn_cell.proofs.Names.{◌≡◌, ℕ, zero, suc, ◌+◌, ◌-◌, ◌<◌, ◌≤◌, ◌==◌, ◌⊎◌, inl, inr, List, [], ◌∷◌, ◌++◌, map, take, drop, refl, ap, ◌∙◌, subst, arith, TableId, total_by, one_if, AllItems, SeatView, fresh_seat, fresh_seats, numbered, IsComplete}
use Rattle.std.specs.List.{AllZip}
use Rattle.turn_cell.proofs.Counting.{one_same, total-append}

module _ {T P Q : Type 0} where
  abbrev pub numbers : List (SeatView T P Q) → List ℕ
  numbers seats = map (λ s. s.number) seats

  by_numbers : (k : ℕ) (seats : List (SeatView T P Q)) → numbered k seats ≡ total_by (λ n. one_if (n == k)) (numbers seats)
  by_numbers k [] = refl
  by_numbers k (s ∷ seats) = let rest = by_numbers k seats in omega arith

  -- only the numbers count
  pub complete_alike : (n : ℕ) (seats others : List (SeatView T P Q)) → numbers seats ≡ numbers others → IsComplete n seats → IsComplete n others
  complete_alike n seats others same c = λ k below.
      let one = by_numbers k seats in let two = by_numbers k others in let some_seat = c k below in
      let alike = ap (total_by (λ n. one_if (n == k))) same in omega arith

fresh_has : (T P Q : Type 0) (t : T) (z : TableId) (from n k : ℕ) → from < suc k → k < from + n → 0 < numbered {P = P} {Q = Q} k (fresh_seats t z from n)
fresh_has T P Q t z from zero k low high = absurd (omega arith)
fresh_has T P Q t z from (suc n) k low high = grind (arith, nat_tests, fresh_has T P Q t z (suc from) n k, one_same)

-- the seats that a cell begins with
pub complete_fresh : (T P Q : Type 0) (t : T) (z : TableId) (n : ℕ) → IsComplete n (fresh_seats {P = P} {Q = Q} t z 0 n)
complete_fresh T P Q t z n = λ k below. fresh_has T P Q t z 0 n k (omega arith) (omega arith)

-- Seats in lists: of those that a cell begins with, and of those that came back in their place

module _ {T P Q : Type 0} where
  -- the seat is in the list
  abbrev pub Has : List (SeatView T P Q) → SeatView T P Q → Type 0
  Has [] s = ⊥
  Has (x ∷ xs) s = (x ≡ s) ⊎ Has xs s

  pub has_front : (xs ys : List (SeatView T P Q)) (s : SeatView T P Q) → Has xs s → Has (xs ++ ys) s
  has_front [] ys s h = absurd h
  has_front (x ∷ xs) ys s (inl e) = inl e
  has_front (x ∷ xs) ys s (inr h) = inr (has_front xs ys s h)

  pub has_back : (xs ys : List (SeatView T P Q)) (s : SeatView T P Q) → Has ys s → Has (xs ++ ys) s
  has_back [] ys s h = h
  has_back (x ∷ xs) ys s h = inr (has_back xs ys s h)

  pub numbered_has : (k : ℕ) (s : SeatView T P Q) (seats : List (SeatView T P Q)) → Has seats s → s.number ≡ k → 0 < numbered k seats
  numbered_has k s [] h e = absurd h
  numbered_has k s (x ∷ seats) (inl i) e = let one = one_same x.number k (ap (λ (y : SeatView T P Q). y.number) i ∙ e) in omega arith
  numbered_has k s (x ∷ seats) (inr h) e = let rest = numbered_has k s seats h e in omega arith

  pub all_has : (F : SeatView T P Q → Type 0) (seats : List (SeatView T P Q)) (s : SeatView T P Q) → AllItems F seats → Has seats s → F s
  all_has F [] s a h = absurd h
  all_has F (x ∷ seats) s a (inl e) = subst F e a.0
  all_has F (x ∷ seats) s a (inr h) = all_has F seats s a.1 h

  -- the seat that came back in the place of this one
  pub zip_has : (R : SeatView T P Q → SeatView T P Q → Type 0) (xs ys : List (SeatView T P Q)) (s : SeatView T P Q) → AllZip R xs ys → Has xs s
      → (y : SeatView T P Q) × Has ys y × R s y
  zip_has R [] ys s a h = absurd h
  zip_has R (x ∷ xs) [] s a h = absurd a
  zip_has R (x ∷ xs) (y ∷ ys) s a (inl e) = (y, inl refl, subst (λ (w : SeatView T P Q). R w y) e a.0)
  zip_has R (x ∷ xs) (y ∷ ys) s a (inr h) = let r = zip_has R xs ys s a.1 h in (r.0, inr r.1, r.2)

pub fresh_in : (T P Q : Type 0) (t : T) (z : TableId) (from n k : ℕ) → from ≤ k → k < from + n → Has {P = P} {Q = Q} (fresh_seats t z from n) (fresh_seat t z k)
fresh_in T P Q t z from zero k low high = absurd (omega arith)
fresh_in T P Q t z from (suc n) k low high = grind (arith, nat_tests, fresh_in T P Q t z (suc from) n k, fresh_seat)

-- the first m of the seats from k on, and those behind them
pub fresh-take : (T P Q : Type 0) (t : T) (z : TableId) (k m c : ℕ) → m ≤ c → take m (fresh_seats {P = P} {Q = Q} t z k c) ≡ fresh_seats t z k m
fresh-take T P Q t z k zero zero l = refl
fresh-take T P Q t z k zero (suc c) l = refl
fresh-take T P Q t z k (suc m) zero l = absurd (omega arith)
fresh-take T P Q t z k (suc m) (suc c) l = ap (λ (xs : List (SeatView T P Q)). fresh_seat t z k ∷ xs) (fresh-take T P Q t z (suc k) m c (omega arith))

pub fresh-drop : (T P Q : Type 0) (t : T) (z : TableId) (k m c : ℕ) → m ≤ c → drop m (fresh_seats {P = P} {Q = Q} t z k c) ≡ fresh_seats t z (k + m) (c - m)
fresh-drop T P Q t z k zero zero l = refl
fresh-drop T P Q t z k zero (suc c) l = let e : k ≡ k + 0 = omega arith in let f : suc c ≡ suc c - 0 = omega arith in λ i. fresh_seats t z (e i) (f i)
fresh-drop T P Q t z k (suc m) zero l = absurd (omega arith)
fresh-drop T P Q t z k (suc m) (suc c) l = grind (arith, nat_tests, fresh-drop T P Q t z (suc k) m c, fresh_seats)
