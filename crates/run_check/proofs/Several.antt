-- Several parts, one after another.
use Rattle.std.proofs.lemmas.Bool.Decides.{nat_tests}
use Rattle.run_check.proofs.Names.{◌≡◌, ℕ, suc, ◌+◌, ◌≤◌, Bool, List, [], ◌∷◌, length, get_or, sym, ◌∙◌, subst, arith, ◌↔◌, IsTrue, Part, Reply, CallerRan, CallersRan, MainRan, PartsRan, Line, in_lines}
use Rattle.run_check.proofs.Fronts.{at_front, behind_first}

module _ (made : ℕ → List Line) where
  abbrev pub Some : ℕ → List Part → Type 0
  Some who ps = (rss : List (List Reply)) × CallersRan in_lines made who ps rss

  pub no_callers : (who : ℕ) → Some who []
  unfolding CallersRan
  no_callers who = ([], tt)

  pub not_first : (who : ℕ) (L : List Part) (p : Part) → 1 ≤ length L → p ≡ get_or L 0 p
      → (((rs : List Reply) × CallerRan in_lines p.statements (made who) rs) → ⊥) → Some who L → ⊥
  unfolding CallersRan
  not_first who L p e1 e2 e3 e4 = grind (arith, nat_tests, at_front, behind_first)

  -- a part that was made, and the callers of the others
  and_more : (First : List Reply → Type 0) (Whole : List (List Reply) → Type 0) (who : ℕ) (ps : List Part) (b : Bool) → (rs : List Reply) × First rs
      → ((rs : List Reply) (rss : List (List Reply)) → First rs → CallersRan in_lines made (suc who) ps rss → Whole (rs ∷ rss))
      → ((rss : List (List Reply)) → Whole rss → Some (suc who) ps) → IsTrue b ↔ Some (who + 1) ps → IsTrue b ↔ ((rss : List (List Reply)) × Whole rss)
  and_more First Whole who ps b first whole rest so =
      let one : who + 1 ≡ suc who = omega arith in
      let next = subst (λ (n : ℕ). IsTrue b ↔ Some n ps) one so in
      (λ t. let s = next.0 t in (first.0 ∷ s.0, whole first.0 s.0 first.1 s.1), λ s. next.1 (rest s.0 s.1))

  pub and_rest : (who : ℕ) (L : List Part) (p : Part) (b : Bool) → 1 ≤ length L → p ≡ get_or L 0 p
      → ((rs : List Reply) × CallerRan in_lines p.statements (made who) rs) → IsTrue b ↔ Some (who + 1) (behind_first L) → IsTrue b ↔ Some who L
  unfolding CallersRan
  and_rest who L p b some at first so =
      subst (λ (ps : List Part). IsTrue b ↔ Some who ps) (sym (at_front L p some at))
      (and_more (CallerRan in_lines p.statements (made who)) (CallersRan in_lines made who (p ∷ behind_first L)) who (behind_first L) b first
      (λ rs rss r c. (r, c)) by so)
    where
      by : (rss : List (List Reply)) → CallersRan in_lines made who (p ∷ behind_first L) rss → Some (suc who) (behind_first L)
      by [] c = absurd c
      by (rs ∷ rss) c = (rss, c.1)

  abbrev pub All : ℕ → List Part → Type 0
  All main ps = (rss : List (List Reply)) × PartsRan in_lines made main ps rss

  pub and_callers : (main : ℕ) (L : List Part) (p : Part) (b : Bool) → 1 ≤ length L → p ≡ get_or L 0 p
      → ((rs : List Reply) × MainRan in_lines p.statements (made main) rs) → IsTrue b ↔ Some (main + 1) (behind_first L) → IsTrue b ↔ All main L
  and_callers main L p b some at first so =
      subst (λ (ps : List Part). IsTrue b ↔ All main ps) (sym (at_front L p some at))
      (and_more (MainRan in_lines p.statements (made main)) (PartsRan in_lines made main (p ∷ behind_first L)) main (behind_first L) b first
      (λ rs rss r c. (r, c)) by so)
    where
      by : (rss : List (List Reply)) → PartsRan in_lines made main (p ∷ behind_first L) rss → Some (suc main) (behind_first L)
      by [] c = absurd c
      by (rs ∷ rss) c = (rss, c.1)
