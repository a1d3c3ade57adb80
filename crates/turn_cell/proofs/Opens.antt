-- The table at the start, and the seats that it is cut into.
use Rattle.std.proofs.lemmas.Bool.Decides.{nat_tests}
use Rattle.turn_cell.proofs.Names.{◌≡◌, ℕ, zero, suc, ◌+◌, ◌-◌, ◌<◌, ◌≤◌, inl, List, [], ◌∷◌, ◌++◌, refl, ap, ◌∙◌, subst, arith, Some, dite, ℕ_discrete, some, get_elem?, Me, opening, TableId, Entry, Part, total_by, AllItems, SeatView, fresh_seat, fresh_seats, view_of, has_number, has_ticket, fresh_part, fresh_parts, foremost_part, parts_behind, FitsPart, Invariant}
use Rattle.turn_cell.proofs.Counting.{one_same, one_other}

module _ {T P Q : Type 0} where
  pub fresh_cut : (t : T) (k m : ℕ) → 0 < m
      → (foremost_part (fresh_parts {P = P} {Q = Q} t k m) ≡ fresh_part t k ∷ [])
      × (parts_behind (fresh_parts {P = P} {Q = Q} t k m) ≡ fresh_parts t (k + 1) (m - 1))
  fresh_cut t k m e1 = grind (arith, nat_tests)

  pub seats_more : (t : T) (z : TableId) (k n : ℕ) → fresh_seats {P = P} {Q = Q} t z k (n + 1) ≡ fresh_seats t z k n ++ fresh_seat t z (k + n) ∷ []
  seats_more t z k zero = let a : k ≡ k + 0 = omega arith in ap (λ (j : ℕ). fresh_seat t z j ∷ []) a
  seats_more t z k (suc n) = grind (arith, nat_tests, seats_more t z (suc k) n, fresh_seats, fresh_seat)

  -- one seat more
  pub one_more : {O : Type 0} (d t : T) (z z' : TableId) (k : ℕ) (m : Me O (List (Part T P Q))) (l l' : List (SeatView T P Q)) → m ≡ (fresh_part t k ∷ [], [])
      → z' ≡ z → l ≡ fresh_seats t z 0 k → l' ≡ l ++ view_of d z' m.0 ∷ [] → l' ≡ fresh_seats t z 0 (k + 1)
  one_more d t z z' k m l l' e1 e2 e3 e4 = grind (arith, nat_tests, view_of, fresh_seat, seats_more, fresh_seats)

  pub first_part : {O : Type 0} (t : T) (k n : ℕ) (m m' : Me O (List (Part T P Q))) → k < n → m ≡ (fresh_parts t k (n - k), []) → m' ≡ (foremost_part m.0, m.1)
      → m' ≡ (fresh_part t k ∷ [], [])
  first_part {O} t k n m m' below is now = let cut = fresh_cut t k (n - k) (omega arith) in
      now ∙ (ap (λ (m : Me O (List (Part T P Q))). (foremost_part m.0, m.1)) is ∙ (λ i. (cut.0 i, [])))

  pub other_parts : {O : Type 0} (t : T) (k n : ℕ) (m m' : Me O (List (Part T P Q))) → k < n → m ≡ (fresh_parts t k (n - k), []) → m' ≡ (parts_behind m.0, [])
      → m' ≡ (fresh_parts t (k + 1) (n - (k + 1)), [])
  other_parts {O} t k n m m' below is now =
      let cut = fresh_cut t k (n - k) (omega arith) in
      let left : (n - k) - 1 ≡ n - (k + 1) = omega arith in
      now ∙ (ap (λ (m : Me O (List (Part T P Q))). (parts_behind m.0, [])) is ∙ ((λ i. (cut.1 i, [])) ∙ (λ i. (fresh_parts t (k + 1) (left i), []))))

  pub last_part : {O : Type 0} (t : T) (k n : ℕ) (m : Me O (List (Part T P Q))) → k ≡ n - 1 → 0 < n → m ≡ (fresh_parts t k (n - k), [])
      → m ≡ (fresh_part t (n - 1) ∷ [], [])
  last_part {O} t k n m last some_seat is = let one : n - k ≡ 1 = omega arith in is ∙ (λ i. (fresh_parts t (last i) (one i), []))

module _ {T : Type 0} where
  fresh_below : (P Q : Type 0) (t : T) (j k m : ℕ) → j < k → total_by (has_number {P = P} {Q = Q} j) (fresh_parts t k m) ≡ 0
  fresh_below P Q t j k zero h = refl
  fresh_below P Q t j k (suc m) h = let a = one_other k j (λ e. omega arith) in let b = fresh_below P Q t j (suc k) m (omega arith) in omega arith

  fresh_once : (P Q : Type 0) (t : T) (j k m : ℕ) → total_by (has_number {P = P} {Q = Q} j) (fresh_parts t k m) ≤ 1
  fresh_once P Q t j k zero = omega arith
  fresh_once P Q t j k (suc m) = dite (ℕ_discrete k j) (λ e. let a = one_same k j e in let b = fresh_below P Q t j (suc k) m (omega arith) in
      omega arith) (λ ne. let a = one_other k j ne in let b = fresh_once P Q t j (suc k) m in omega arith)

  fresh_idle : (P Q : Type 0) (t : T) (j k m : ℕ) → total_by (has_ticket {P = P} {Q = Q} j) (fresh_parts t k m) ≡ 0
  fresh_idle P Q t j k zero = refl
  fresh_idle P Q t j k (suc m) = let b = fresh_idle P Q t j (suc k) m in omega arith

module _ {O T P Q : Type 0} (terms_of : O → T) (seat_count : T → ℕ) (legal : T → List (Entry P Q) → Type 0) (stands : O → List (Entry P Q) → Type 0) where
  fresh_fits : (t : T) (k m : ℕ) → k + m ≤ seat_count t → AllItems (FitsPart terms_of seat_count legal stands t [] 0) (fresh_parts t k m)
  fresh_fits t k zero h = tt
  fresh_fits t k (suc m) h = (
    record {
      terms = refl;
      number = omega arith;
      seen = ([], refl);
      mine = refl;
      seen_mine = refl;
      shown = omega arith;
      holds = λ j e. cc;
    },
    fresh_fits t (suc k) m (omega arith),
  )

  only : (x : List (Part T P Q)) (i : ℕ) (v : List (Part T P Q)) → get_elem? (x ∷ []) i ≡ some v → x ≡ v
  only x i v e1 = grind (arith, nat_tests)

  pub opens : (t : T) (o : O) → terms_of o ≡ t → stands o [] → legal t []
      → Invariant terms_of seat_count legal stands t (opening (0 ∷ 0 ∷ []) (Some o ∷ []) (fresh_parts t 0 (seat_count t)))
  opens t o is stood lawful =
      let all : List (Part T P Q) = fresh_parts t 0 (seat_count t) in
      record {
        history = [];
        tickets = 0;
        words = refl;
        order = omega arith;
        most = omega arith;
        lawful = lawful;
        place = inl (o, refl, stood, is);
        each = λ i v e. subst (AllItems (FitsPart terms_of seat_count legal stands t [] 0)) (only all i v e) (fresh_fits t 0 (seat_count t) (omega arith));
        numbers = λ k. let a = fresh_once P Q t k 0 (seat_count t) in omega arith;
        turns = λ k. let a = fresh_idle P Q t k 0 (seat_count t) in omega arith;
        in_line = λ k out. let a = fresh_idle P Q t k 0 (seat_count t) in absurd (omega arith);
      }
