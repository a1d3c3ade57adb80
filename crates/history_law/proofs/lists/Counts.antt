-- How often entries pass one test and another, beside a number that a state has.
use Rattle.history_law.proofs.Names.{◌≡◌, ℕ, ◌+◌, Bool, true, false, cond, List, [], ◌∷◌, ◌++◌, refl, ap, arith, State, NodeEntry, IsNext, next, LegalFrom, after_from, some_entry, entries_that, nat_tests}
use Rattle.history_law.proofs.Answered.{on_test}

abbrev pub one_if : Bool → ℕ
one_if b = cond b 1 0

-- where each entry that passes x adds one to the number, and each that passes y takes one
pub counts_along : (V : State → ℕ) (x y : NodeEntry → Bool) (G : State → Type 0)
    → ((s : State) (e : NodeEntry) → IsNext s e → G s → G (next s e) × (V (next s e) + one_if (y e) ≡ V s + one_if (x e)))
    → (s : State) (L : List NodeEntry) → LegalFrom s L → G s → G (after_from s L) × (entries_that y L + V (after_from s L) ≡ V s + entries_that x L)
unfolding LegalFrom after_from
counts_along V x y G k s [] l g = (g, omega arith)
counts_along V x y G k s (e ∷ es) l g = grind (arith, nat_tests, k s e l.0 g, y e, x e, counts_along V x y G k (next s e) es l.1, entries_that, after_from)

-- entries behind those of which none passes are counted alone
pub counts_behind : (p : NodeEntry → Bool) (A B : List NodeEntry) (e : NodeEntry) → entries_that p A ≡ 0 → p e ≡ false
    → entries_that p (A ++ e ∷ B) ≡ entries_that p B
counts_behind p [] B e n i = let z : one_if (p e) ≡ 0 = ap one_if i in omega arith
counts_behind p (x ∷ A) B e n i = grind (arith, nat_tests, counts_behind p A B e)

-- the first entry that passes, where one does
pub record Passes (p : NodeEntry → Bool) (L : List NodeEntry) : Type 0 where
  pub before : List NodeEntry
  pub by : NodeEntry
  pub behind : List NodeEntry
  pub cut : L ≡ before ++ by ∷ behind
  pub is : p by ≡ true

pub passes : (p : NodeEntry → Bool) (L : List NodeEntry) → some_entry p L ≡ true → Passes p L
passes p [] i = absurd (cc)
passes p (e ∷ es) i = on_test (λ b. cond b true (some_entry p es) ≡ true → Passes p (e ∷ es)) (p e)
    (λ j c. record { before = []; by = e; behind = es; cut = refl; is = j })
    (λ j c. let r = passes p es c in record {
      before = e ∷ r.before;
      by = r.by;
      behind = r.behind;
      cut = ap (λ (l : List NodeEntry). e ∷ l) r.cut;
      is = r.is;
    }) i
