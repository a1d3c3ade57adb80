-- What a list of objects of layout two answers once its handles are turned.
use Rattle.mtapi_layouts.proofs.Names.{◌≡◌, ℕ, ◌+◌, ◌≤◌, true, ◌&&◌, List, [], ◌∷◌, Some, refl, sym, ap, subst, arith, ◌==◌, not, option_map, eqb-true, eq-eqb, ObjectKind, object_number, slot_of, generation_of, Listed, live_object, issued_at, retired, is_full, may_issue, Agree, same_tests, IsOther, found-renamed, found-has, found-other, inward, NamesThisKind, HasKindRoom, turned_list, AreNamed}
use Rattle.std.proofs.lemmas.Bool.Decides.{nat_tests}
use Rattle.handle_pool.proofs.InsideLemmas.{count-inside}
use Rattle.mtapi_renaming.proofs.Pairs.{listed-renamed}
use Rattle.mtapi_renaming.proofs.Steps.{same_length}
use Rattle.mtapi_layouts.proofs.Handles.{inward-one, inward-parts, inward-room}

-- a handle that may be issued has a generation
pub may_issue-generation : {T : Type 0} (last h : ℕ) (l : List (Listed T)) → may_issue last h l ≡ true → 1 ≤ generation_of h
unfolding may_issue
may_issue-generation last h l e = grind (arith, nat_tests)

module _ {T : Type 0} (k : ObjectKind) (f : T → T) (P : T → Type 0) where
  -- the live object of a handle
  pub found-turned : (h : ℕ) (l : List (Listed T)) → AreNamed k P l → live_object (turned_list k f l) (inward k h) ≡ option_map f (live_object l h)
  found-turned h l n = found-renamed inward inward-one k f P h l n

  -- the live object of a handle is named
  pub found-named : (h : ℕ) (x : T) (l : List (Listed T)) → AreNamed k P l → live_object l h ≡ Some x → NamesThisKind k h × P x
  found-named h x l n e = found-has inward k P h x l n e

  -- a handle of the turned list leaves room for the number of the kind
  pub found-room : (h : ℕ) (x : T) (l : List (Listed T)) → AreNamed k P l → live_object (turned_list k f l) h ≡ Some x → HasKindRoom h
  found-room h x l n e = let o : IsOther inward k h = found-other inward k P f h x l n e in
      subst (λ (y : ℕ). HasKindRoom y) (sym o.is) (inward-room k o.own o.has)

  same_issued_at : (h : ℕ) (l : List (Listed T)) → NamesThisKind k h → AreNamed k P l → issued_at (inward k h) (turned_list k f l) ≡ issued_at h l
  unfolding issued_at
  same_issued_at h l some n = count-inside (inward k) (λ i x. f x) (λ r. slot_of r.handle == slot_of (inward k h)) (λ r. slot_of r.handle == slot_of h) l
      (agree l n)
    where
      by_sums : (a b c d m : ℕ) → b ≡ a + m → d ≡ c + m → (a == c) ≡ (b == d)
      by_sums a b c d m e g = grind (arith, nat_tests, same_tests (a == c) (b == d), eq-eqb b d, eqb-true a c, eq-eqb a c, eqb-true b d)

      agree : (xs : List (Listed T)) → AreNamed k P xs
          → Agree (inward k) (λ i x. f x) (λ r. slot_of r.handle == slot_of (inward k h)) (λ r. slot_of r.handle == slot_of h) xs
      agree [] n = tt
      agree (r ∷ rs) n = grind (arith, nat_tests, agree rs n.1, by_sums, slot_of, object_number, inward-parts)

  same_retired : (last : ℕ) (l : List (Listed T)) → AreNamed k P l → retired last (turned_list k f l) ≡ retired last l
  unfolding retired
  same_retired last l n = count-inside (inward k) (λ i x. f x) (λ r. not r.live && (generation_of r.handle == last)) (λ r. not r.live
      && (generation_of r.handle == last)) l (agree l n)
    where
      agree : (xs : List (Listed T)) → AreNamed k P xs
          → Agree (inward k) (λ i x. f x) (λ r. not r.live && (generation_of r.handle == last)) (λ r. not r.live && (generation_of r.handle == last)) xs
      agree [] n = tt
      agree (r ∷ rs) n = (ap (λ x. not r.live && (x == last)) (inward-parts k r.handle n.0.0).0, agree rs n.1)

  pub same_full : (last max : ℕ) (l : List (Listed T)) → AreNamed k P l → is_full last max (turned_list k f l) ≡ is_full last max l
  unfolding is_full
  same_full last max l n = rw (same_length (inward k) f l, same_retired last l n) refl

  pub same_may_issue : (last h : ℕ) (l : List (Listed T)) → NamesThisKind k h → AreNamed k P l
      → may_issue last (inward k h) (turned_list k f l) ≡ may_issue last h l
  unfolding may_issue
  same_may_issue last h l some n = rw (listed-renamed inward inward-one k f P h l n, same_issued_at h l some n, (inward-parts k h some).0) refl
