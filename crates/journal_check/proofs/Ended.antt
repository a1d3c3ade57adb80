-- An entry that ends the object that it names.
use Rattle.journal_check.proofs.Names.{◌≡◌, ℕ, ◌+◌, ◌≤◌, true, false, cond, List, [], ◌∷◌, ◌++◌, sym, ◌∙◌, ap, subst, ◌==◌, ObjectKind, generation_of, Terms, State, opening, NodeEntry, next, after, after-one, is_live_of, made_in, gone_in, taken_in, AreGone, Following, Made, gone_count, freed_count, of_kind, EndsOne, Laws, HasFollowed, JudgesEntry, nat_tests, arith, eqb-true, eq-eqb}
use Rattle.journal_check.proofs.Ends.{gone_more, freed_more, told_more}

module _ (w : Laws) (f g : Following) (e : NodeEntry) (k : ObjectKind) (h last : ℕ) (made : Made) (judges : JudgesEntry f e true g) (same : g.made
    ≡ f.made) (is_last : last ≡ f.terms.settings.generations)
    (was : (L : List NodeEntry) → HasFollowed f L → is_live_of k (after f.terms L) h ≡ true)
    (isnt : (L : List NodeEntry) → HasFollowed g L → is_live_of k (after g.terms L) h ≡ false)
    (ends : EndsOne k last h g.made made) where
  one_gone : (L : List NodeEntry) → HasFollowed f L → HasFollowed g (L ++ e ∷ [])
      → AreGone (after f.terms L) (after g.terms (L ++ e ∷ [])) k (cond (generation_of h == last) 1 0) (cond (generation_of h == last) 0 1)
  one_gone L i j =
      let at : after g.terms (L ++ e ∷ []) ≡ next (after f.terms L) e =
      ap (λ (u : Terms). after u (L ++ e ∷ [])) judges.terms ∙ after-one (opening f.terms) L e in
      let none : is_live_of k (next (after f.terms L) e) h ≡ false = subst (λ (t : State). is_live_of k t h ≡ false) at (isnt (L ++ e ∷ []) j) in
      let one : AreGone (after f.terms L) (next (after f.terms L) e) k (cond (generation_of h == f.terms.settings.generations) 1 0)
      (cond (generation_of h == f.terms.settings.generations) 0 1) = w.ends f.terms L e k h (was L i) none in
      subst (λ (t : State). AreGone (after f.terms L) t k (cond (generation_of h == last) 1 0) (cond (generation_of h == last) 0 1)) (sym at)
      (subst (λ (n : ℕ). AreGone (after f.terms L) (next (after f.terms L) e) k (cond (generation_of h == n) 1 0) (cond (generation_of h == n) 0 1))
      (sym is_last) one)

  pub judged_ended : JudgesEntry f e true (record g { made = made })
  judged_ended = record {
    terms = judges.terms;
    exact = judges.exact;
    goes_on = λ L i short p.
        let j : HasFollowed g (L ++ e ∷ []) = judges.goes_on L i short p in
        let gone = one_gone L i j in
        record {
          node = j.node;
          terms = j.terms;
          follows = j.follows;
          made = told_more ends (after g.terms (L ++ e ∷ []))
              (gone_more gone (gone_count (of_kind g.made k))
              (subst (λ (m : Made). gone_count (of_kind m k) ≤ gone_in k (after f.terms L)) (sym same) (i.made.gone k)))
              (freed_more gone (freed_count (of_kind g.made k))
              (subst (λ (m : Made). freed_count (of_kind m k) + taken_in k (after f.terms L) ≤ made_in k (after f.terms L)) (sym same) (i.made.freed k)))
              j.made;
          few = j.few;
        };
  }
