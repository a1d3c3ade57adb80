-- One look more.
use Rattle.turn_looks.proofs.Names.{◌≡◌, ◌≢◌, ℕ, ◌+◌, ◌<◌, Bool, true, false, List, [], ◌∷◌, ◌++◌, Option, ◌∙◌, ap, subst, arith, append_assoc, ◌==◌, MatchOption, nat_tests, Entry, entry, SeatView, SameSeat, Turned, Unturned, pends, Pended, Looked, StillLooking}
use Rattle.std.proofs.lemmas.List.{replicate_more}

module _ {T P Q : Type 0} (legal : T → List (Entry P Q) → Type 0) (op_of : Bool → P) (waits : Q) where
  pub same_then : (a b c : SeatView T P Q) → SameSeat a b → SameSeat b c → SameSeat a c
  same_then a b c s t = record { cell = t.cell ∙ s.cell; number = t.number ∙ s.number; terms = t.terms ∙ s.terms }

  behind : (n : ℕ) (a b c : SeatView T P Q) (o : P) (r : Q) → Pended legal op_of waits a n b → Turned legal b o r c
      → c.mine ≡ a.mine ++ (pends legal op_of waits a.number n ++ entry a.number o r ∷ [])
  behind n a b c o r p t =
      t.mine ∙ (ap (λ (k : ℕ). b.mine ++ entry k o r ∷ []) p.same.number
      ∙ (ap (λ (m : List (Entry P Q)). m ++ entry a.number o r ∷ []) p.mine
      ∙ append_assoc a.mine (pends legal op_of waits a.number n) (entry a.number o r ∷ [])))

  -- a look that found the thing not ready
  pub pended_more : (n : ℕ) (a b c : SeatView T P Q) (o : P) (r : Q) → o ≡ op_of false → r ≡ waits → Pended legal op_of waits a n b → Turned legal b o r c
      → Pended legal op_of waits a (n + 1) c
  pended_more n a b c o r l e p t = record {
    same = same_then a b c p.same t.same;
    mine =
        behind n a b c o r p t
        ∙ ((λ i. a.mine ++ (pends legal op_of waits a.number n ++ entry a.number (l i) (e i) ∷ []))
        ∙ ap (λ (m : List (Entry P Q)). a.mine ++ m) (replicate_more n (entry a.number (op_of false) waits)));
  }

  -- a look that had the answer
  pub looked : (limit : Option ℕ) (n : ℕ) (a b c : SeatView T P Q) (last : Bool) (o : P) (r : Q) → o ≡ op_of last → Pended legal op_of waits a n b
      → Turned legal b o r c → MatchOption limit (last ≡ false) (λ m. (n < m) × (last ≡ (n + 1 == m))) → (last ≡ false → r ≢ waits)
      → Looked legal op_of waits limit a c r
  looked limit n a b c last o r is p t bound decides = record {
    pending = n;
    last = last;
    before = b;
    pended = p;
    turned = subst (λ (x : P). Turned legal b x r c) is t;
    mine = behind n a b c o r p t ∙ (λ i. a.mine ++ (pends legal op_of waits a.number n ++ entry a.number (is i) r ∷ []));
    bound = bound;
    decides = decides;
  }

  pub still : (limit : Option ℕ) (n : ℕ) (a b c : SeatView T P Q) → Pended legal op_of waits a n b → Unturned b c → MatchOption limit (Unit {0}) (λ m. n < m)
      → StillLooking legal op_of waits limit a c
  still limit n a b c p u bound = grind (arith, nat_tests, same_then)

pub unequal : {A : Type 0} (a b : ℕ) → a ≡ b → (a == b) ≡ false → A
unequal a b e f = absurd (grind (arith, nat_tests))

-- a test that failed
pub not_so : {A : Type 0} (b : Bool) → b ≡ false → (A → b ≡ true) → A → ⊥
not_so b e f a = let h = f a in absurd (cc)
