-- A seat's entries in what it has seen.
use Rattle.turn_looks.proofs.Names.{◌≡◌, ℕ, true, cond, List, [], ◌∷◌, ◌++◌, Result, Ok, Err, length, length-append, refl, sym, ◌∙◌, ap, subst, arith, ◌==◌, ◌≤◌, ◌^◌, IfOk, IfErr, OnErr, nat_tests, Entry, entry, entries_of, Extends, SeatView, SameSeat, Turned, Unturned}

pub self_is : (w : ℕ) → (w == w) ≡ true
self_is w = grind (arith, nat_tests)

empty : {A : Type 0} (l : List A) → length l ≡ 0 → l ≡ []
empty [] e = refl
empty (x ∷ xs) e = absurd (omega arith)

module _ {P Q : Type 0} where
  pub entries-append : (w : ℕ) (L M : List (Entry P Q)) → entries_of w (L ++ M) ≡ entries_of w L ++ entries_of w M
  entries-append w [] M = refl
  entries-append w (e ∷ L) M = grind (arith, nat_tests, entries-append w L M)

  -- where a seat's own entries grew by its last one alone, others made those between
  between_others : (w : ℕ) (a b mine : List (Entry P Q)) (e : Entry P Q) → e.who ≡ w → entries_of w a ≡ mine
      → entries_of w ((a ++ b) ++ e ∷ []) ≡ mine ++ e ∷ [] → entries_of w b ≡ []
  between_others w a b mine e s old new =
      let one : entries_of w (e ∷ []) ≡ e ∷ [] = (λ i. cond (s i == w) (e ∷ []) []) ∙ ap (λ c. cond c (e ∷ []) []) (self_is w) in
      let all : (entries_of w a ++ entries_of w b) ++ (e ∷ []) ≡ mine ++ e ∷ [] =
      ap (λ l. (entries_of w a ++ entries_of w b) ++ l) (sym one)
      ∙ (ap (λ l. l ++ entries_of w (e ∷ [])) (sym (entries-append w a b)) ∙ (sym (entries-append w (a ++ b) (e ∷ [])) ∙ new)) in
      let n : length ((entries_of w a ++ entries_of w b) ++ (e ∷ [])) ≡ length (mine ++ e ∷ []) = ap (λ l. length l) all in
      let m : length (entries_of w a) ≡ length mine = ap (λ l. length l) old in
      empty (entries_of w b) (omega (
        arith,
        length-append (entries_of w a ++ entries_of w b) (e
            ∷ []),
        length-append (entries_of w a) (entries_of w b),
        length-append mine (e ∷ []),
      ))

  -- what a call of the cell says is a turn
  pub turned : {T : Type 0} (legal : T → List (Entry P Q) → Type 0) (old new : SeatView T P Q) (op : P) (reply : Q) → SameSeat old new
      → entries_of old.number old.seen ≡ old.mine → Extends old.seen (entry old.number op reply) new.seen
      → new.mine ≡ old.mine ++ entry old.number op reply ∷ []
      → entries_of new.number new.seen ≡ new.mine → legal new.terms new.seen → Turned legal old op reply new
  turned legal old new op reply same was x mine own lawful = grind (arith, nat_tests, between_others)

  -- the same of what a call gave, whatever that is
  pub turned_if : {T E : Type 0} (legal : T → List (Entry P Q) → Type 0) (old new : SeatView T P Q) (op : P) (r : Result Q E) → SameSeat old new
      → entries_of old.number old.seen ≡ old.mine → IfOk r (λ reply. Extends old.seen (entry old.number op reply) new.seen)
      → IfOk r (λ reply. new.mine ≡ old.mine ++ entry old.number op reply ∷ []) → entries_of new.number new.seen ≡ new.mine → legal new.terms new.seen
      → IfOk r (λ reply. Turned legal old op reply new)
  turned_if legal old new op (Ok reply) same was x mine own lawful = turned legal old new op reply same was x mine own lawful
  turned_if legal old new op (Err e) same was x mine own lawful = tt

  pub unturned_if : {T : Type 0} (old new : SeatView T P Q) (r : Result Q ℕ) → SameSeat old new → IfErr r (λ spent. (2 ^ 62 ≤ spent) × (spent ≡ new.shown))
      → OnErr r ((new.seen ≡ old.seen) × (new.mine ≡ old.mine)) → OnErr r (Unturned old new)
  unturned_if old new (Ok reply) same spent kept = tt
  unturned_if old new (Err e) same spent kept = record { same = same; mine = kept.1; seen = kept.0; shown = subst (λ (n : ℕ). 2 ^ 62 ≤ n) spent.1 spent.0 }
