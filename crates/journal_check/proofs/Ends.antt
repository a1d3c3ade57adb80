-- What was noted of objects that aren't live any more, over an entry and where more is known of them.
use Rattle.journal_check.proofs.Names.{◌≡◌, ℕ, ◌+◌, ◌≤◌, refl, sym, ◌∙◌, ap, subst, arith, ObjectKind, slot_of, State, made_in, gone_in, taken_in, AreGone, Made, MadeOfKind, made_in_slot, last_handles, made_count, gone_count, freed_count, with_gone, of_kind, EndsObjects, TellsState, nat_tests, eqb-true, eq-eqb}
use Rattle.journal_check.proofs.EachKind.{by_kind}

-- in the next state no fewer are gone, and so many more
module _ {s t : State} {k : ObjectKind} {lasts others : ℕ} (gone : AreGone s t k lasts others) where
  pub gone_more : (n : ℕ) → n ≤ gone_in k s → n + lasts ≤ gone_in k t
  gone_more n less = let a : gone_in k s + lasts ≤ gone_in k t = gone.last in omega (arith, a, less)

  pub freed_more : (n : ℕ) → n + taken_in k s ≤ made_in k s → (n + others) + taken_in k t ≤ made_in k t
  freed_more n less = let a : made_in k s + taken_in k t + others ≤ made_in k t + taken_in k s = gone.other in omega (arith, a, less)

module _ {s t : State} {k : ObjectKind} (gone : AreGone s t k 0 0) where
  pub gone_on : (n : ℕ) → n ≤ gone_in k s → n ≤ gone_in k t
  gone_on n less = let a : gone_in k s + 0 ≤ gone_in k t = gone.last in omega (arith, a, less)

  pub freed_on : (n : ℕ) → n + taken_in k s ≤ made_in k s → n + taken_in k t ≤ made_in k t
  freed_on n less = let a : made_in k s + taken_in k t + 0 ≤ made_in k t + taken_in k s = gone.other in omega (arith, a, less)

-- nothing else changes where other numbers are noted
module _ {k : ObjectKind} {gone freed : ℕ} {m n : Made} (ends : EndsObjects k gone freed m n) where
  same_of : {A : Type 0} (read : MadeOfKind → A) → ((x : MadeOfKind) → read (with_gone gone freed x) ≡ read x) → (i : ObjectKind)
      → read (of_kind n i) ≡ read (of_kind m i)
  same_of read same = by_kind (λ (i : ObjectKind). read (of_kind n i)
      ≡ read (of_kind m i)) k (ap read ends.one ∙ same (of_kind m k)) (λ i ne. ap read (ends.others i ne))

  pub same_counts : (i : ObjectKind) (slot : ℕ) → made_in_slot (of_kind n i) slot ≡ made_in_slot (of_kind m i) slot
  same_counts i slot = same_of (λ x. made_in_slot x slot) (λ x. refl) i

  pub same_lasts : (i : ObjectKind) → last_handles (of_kind n i) ≡ last_handles (of_kind m i)
  same_lasts i = same_of last_handles (λ x. refl) i

  pub same_made : (i : ObjectKind) → made_count (of_kind n i) ≡ made_count (of_kind m i)
  same_made i = same_of made_count (λ x. refl) i

  -- what is so of the state may be noted
  pub told_more : (s : State) → gone ≤ gone_in k s → freed + taken_in k s ≤ made_in k s → TellsState m s → TellsState n s
  told_more s enough free t = record {
    counts = λ i h. same_counts i (slot_of h) ∙ t.counts i h;
    lasts = λ i. same_lasts i ∙ t.lasts i;
    made = λ i. same_made i ∙ t.made i;
    gone = by_kind (λ (i : ObjectKind). gone_count (of_kind n i) ≤ gone_in i s) k (subst (λ (x : MadeOfKind). gone_count x ≤ gone_in k s) (sym ends.one) enough)
        (λ i ne. subst (λ (x : MadeOfKind). gone_count x ≤ gone_in i s) (sym (ends.others i ne)) (t.gone i));
    freed = by_kind (λ (i : ObjectKind). freed_count (of_kind n i) + taken_in i s
        ≤ made_in i s) k (subst (λ (x : MadeOfKind). freed_count x + taken_in k s ≤ made_in k s) (sym ends.one) free)
        (λ i ne. subst (λ (x : MadeOfKind). freed_count x + taken_in i s ≤ made_in i s) (sym (ends.others i ne)) (t.freed i));
  }

  -- and what was noted before, where it was no more
  pub told_less : (s : State) → gone_count (of_kind m k) ≤ gone → freed_count (of_kind m k) ≤ freed → TellsState n s → TellsState m s
  told_less s less few t = record {
    counts = λ i h. sym (same_counts i (slot_of h)) ∙ t.counts i h;
    lasts = λ i. sym (same_lasts i) ∙ t.lasts i;
    made = λ i. sym (same_made i) ∙ t.made i;
    gone = by_kind (λ (i : ObjectKind). gone_count (of_kind m i) ≤ gone_in i s) k
        (grind (arith, nat_tests, ends.one, t.gone k, less))
        (λ i ne. subst (λ (x : MadeOfKind). gone_count x ≤ gone_in i s) (ends.others i ne) (t.gone i));
    freed = by_kind (λ (i : ObjectKind). freed_count (of_kind m i) + taken_in i s ≤ made_in i s) k
        (grind (arith, nat_tests, ends.one, t.freed k, few))
        (λ i ne. subst (λ (x : MadeOfKind). freed_count x + taken_in i s ≤ made_in i s) (ends.others i ne) (t.freed i));
  }
