-- Whether main has closed, and nobody else has an entry behind that, one entry on.
use Rattle.std.proofs.lemmas.Bool.Decides.{nat_tests}
use Rattle.run_check.proofs.Names.{◌≡◌, ℕ, ◌+◌, ◌-◌, ◌<◌, ◌≤◌, Bool, true, false, cond, List, [], ◌∷◌, ◌++◌, ◌⊎◌, inl, inr, append_assoc, refl, sym, ◌∙◌, ap, subst, length, get_or, take, arith, ◌==◌, ◌↔◌, IsTrue, take_at_read, take-length, Decides-eqb, NodeEntry, ClosesAtEnd, StaysClosed, Closes}
use Rattle.history.specs.Histories.{entry, entries_of}
use Rattle.mtapi_machine.specs.declared.ops.Op.TheVariants as ops
use Rattle.mtapi_machine.specs.declared.replies.Reply.TheVariants as replies
use Rattle.std.proofs.lemmas.Bool.{false_from_ne_true, cases_lt}

module _ {E : Type 0} where
  no_middle : (l r : List E) (c : E) → [] ≡ l ++ c ∷ r → ⊥
  no_middle [] r c e = absurd (let x = e in cc)
  no_middle (y ∷ l) r c e = absurd (let x = e in cc)

  abbrev pub Split : List E → List E → List E → E → E → Type 0
  Split L before behind e c = ((behind ≡ []) × (L ≡ before) × (e ≡ c)) ⊎ ((init : List E) × (behind ≡ init ++ e ∷ []) × (L ≡ before ++ c ∷ init))

  -- an element of a list and its last one: they are one, or the last one stands behind
  pub split : (L before behind : List E) (e c : E) → L ++ e ∷ [] ≡ before ++ c ∷ behind → Split L before behind e c
  split [] [] behind e c is = inl (sym (cc), refl, cc)
  split [] (b ∷ bs) behind e c is = absurd (no_middle bs behind c (cc))
  split (x ∷ L) [] behind e c is = grind (arith, nat_tests)
  split (x ∷ L) (b ∷ bs) behind e c is =
      let here : x ≡ b = cc in
      let more : L ++ e ∷ [] ≡ bs ++ c ∷ behind = cc in
      by here (split L bs behind e c more)
    where
      by : x ≡ b → Split L bs behind e c → Split (x ∷ L) (b ∷ bs) behind e c
      by here (inl s) = inl (s.0, (λ i. here i ∷ s.1 i), s.2)
      by here (inr s) = inr (s.0, s.1, λ i. here i ∷ s.2 i)

  pub last_same : (xs ys : List E) (x y : E) → xs ++ x ∷ [] ≡ ys ++ y ∷ [] → (xs ≡ ys) × (x ≡ y)
  last_same xs ys x y e1 = grind (arith, nat_tests, split, no_middle)

of_more : (who : ℕ) (L : List NodeEntry) (e : NodeEntry) → entries_of who (L ++ e ∷ []) ≡ entries_of who L ++ cond (e.who == who) (e ∷ []) []
of_more who [] e = refl
of_more who (x ∷ L) e = grind (arith, nat_tests, of_more who L e)

both_nil : {A : Type 0} (l r : List A) → l ++ r ≡ [] → (l ≡ []) × (r ≡ [])
both_nil [] r e = (refl, e)
both_nil (x ∷ l) r e = absurd (let y = e in cc)

nobody : (main : ℕ) → Closes main [] → ⊥
nobody main c = no_middle c.before c.behind (entry main ops.Close replies.Ok) c.closes

pub closes_none : (main : ℕ) → IsTrue false ↔ Closes main []
closes_none main = (λ t. absurd (let x = t in cc), λ c. absurd (nobody main c))

module _ (main : ℕ) (L : List NodeEntry) (e : NodeEntry) where
  abbrev pub close : NodeEntry
  close = entry main ops.Close replies.Ok

  stays : Closes main L → e.who ≤ main → Closes main (L ++ e ∷ [])
  stays e1 e2 = grind (arith, nat_tests, append_assoc, of_more, false_from_ne_true, Decides-eqb)

  begins : e ≡ close → Closes main (L ++ e ∷ [])
  begins is = record { before = L; behind = []; closes = ap (λ x. L ++ x ∷ []) is; callers_ended = λ who l. refl }

  stayed : Closes main (L ++ e ∷ []) → StaysClosed main (Closes main L) e
  stayed c = by (split L c.before c.behind e close c.closes)
    where
      low : (init : List NodeEntry) → c.behind ≡ init ++ e ∷ [] → e.who ≤ main
      low init is = by (cases_lt main e.who)
        where
          alone : (b : Bool) → b ≡ true → cond b (e ∷ []) [] ≡ [] → ⊥
          alone true t n = absurd (let x = n in cc)
          alone false t n = absurd (let x = t in cc)

          by : (main < e.who) ⊎ (e.who ≤ main) → e.who ≤ main
          by (inl high) =
              let none = both_nil (entries_of e.who init) _ (sym (of_more e.who init e) ∙ (ap (entries_of e.who) (sym is) ∙ c.callers_ended e.who high)) in
              absurd (alone (e.who == e.who) ((Decides-eqb e.who e.who).1 refl) none.1)
          by (inr l) = l

      by : Split L c.before c.behind e close → StaysClosed main (Closes main L) e
      by (inl s) = inl s.2
      by (inr s) = inr (
        record {
          before = c.before;
          behind = s.0;
          closes = s.2;
          callers_ended = λ who l. (both_nil (entries_of who s.0) _ (sym (of_more who s.0 e) ∙ (ap (entries_of who) (sym s.1) ∙ c.callers_ended who l))).0;
        },
        low s.0 s.1,
      )

  pub closes_next : (closed after : Bool) → IsTrue closed ↔ Closes main L → IsTrue after ↔ StaysClosed main (IsTrue closed) e
      → IsTrue after ↔ Closes main (L ++ e ∷ [])
  closes_next closed after e1 e2 = grind (arith, nat_tests, stayed, begins, stays)

  -- one entry on, in a longer list
  pub closes_at : (i : ℕ) (es : List NodeEntry) (closed after : Bool) → L ≡ take i es → i < length es → e ≡ get_or es i e
      → IsTrue closed ↔ Closes main (take i es) → IsTrue after ↔ StaysClosed main (IsTrue closed) e → IsTrue after ↔ Closes main (take (i + 1) es)
  closes_at i es closed after is here at so next =
      let list : take (i + 1) es ≡ L ++ e ∷ [] = (take_at_read es i e here).1 ∙ (ap (λ l. l ++ get_or es i e ∷ []) (sym is) ∙ ap (λ z. L ++ z ∷ []) (sym at)) in
      subst (λ (l : List NodeEntry). IsTrue after
      ↔ Closes main l) (sym list) (closes_next closed after (subst (λ (l : List NodeEntry). IsTrue closed ↔ Closes main l) (sym is) so) next)

-- the end of a run
pub ends_by : (main : ℕ) (before es : List NodeEntry) (last : NodeEntry) (b : Bool) → es ≡ before ++ last ∷ [] → last ≡ entry main ops.Final replies.Ok
    → IsTrue b ↔ Closes main before → IsTrue b ↔ ClosesAtEnd main es
ends_by main before es last b is final so = (λ t. there (so.0 t), λ c. so.1 (back c))
  where
    there : Closes main before → ClosesAtEnd main es
    there c = record {
      before = c.before;
      behind = c.behind;
      closes = is ∙ (ap (λ l. l ++ last ∷ []) c.closes
          ∙ (append_assoc c.before (entry main ops.Close replies.Ok ∷ c.behind) (last ∷ [])
          ∙ ap (λ x. c.before ++ entry main ops.Close replies.Ok ∷ (c.behind ++ x ∷ [])) final));
      callers_ended = c.callers_ended;
    }

    back : ClosesAtEnd main es → Closes main before
    back c =
        let all : before ++ last ∷ [] ≡ (c.before ++ entry main ops.Close replies.Ok ∷ c.behind) ++ entry main ops.Final replies.Ok ∷ [] =
        sym is ∙ (c.closes ∙ sym (append_assoc c.before (entry main ops.Close replies.Ok ∷ c.behind) (entry main ops.Final replies.Ok ∷ []))) in
        record { before = c.before; behind = c.behind; closes = (last_same before _ last _ all).0; callers_ended = c.callers_ended }

-- a list that isn't empty, from behind
pub at_last : (L : List NodeEntry) (x : NodeEntry) → 1 ≤ length L → x ≡ get_or L (length L - 1) x → L ≡ take (length L - 1) L ++ x ∷ []
at_last L x e1 e2 = grind (arith, nat_tests, take-length, take_at_read)
