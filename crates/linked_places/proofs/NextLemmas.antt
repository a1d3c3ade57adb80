-- What follows a handle in its list.
use Rattle.linked_places.proofs.Names.{◌≡◌, ℕ, zero, suc, ◌+◌, ◌<◌, true, List, [], ◌∷◌, map, Option, Some, None, slice_get, length, refl, sym, ap, subst, arith, add-one, ◌==◌, false≢true, nat_tests, slice_get_within, slot_of, Link, Ends, HandleLists, list_at, has_handle, linked_handles, first_of, IsChain, IsLinked, same_Some, cases_eq, inl, inr}
use Rattle.linked_places.proofs.LinkedLemmas.{list_at-past}

-- the place after a link, if there is one, has the handle that comes next
abbrev pub NextIs : List Link → Option ℕ → Option ℕ → Type 0
NextIs links None o = o ≡ None
NextIs links (Some place) o = (l : Link) × (slice_get links place ≡ Some l) × (o ≡ Some l.handle)

pub record Follows (links : List Link) (h : ℕ) (o : Option ℕ) : Type 0 where
  pub link : Link
  pub read : slice_get links (slot_of h) ≡ Some link
  pub next : NextIs links link.next o

run-next : (links : List Link) (previous : Option ℕ) (hs : List ℕ) (i h : ℕ) → IsChain links previous hs None → slice_get hs i ≡ Some h
    → Follows links h (slice_get hs (suc i))
run-next links previous [] i h run at = absurd (cc)
run-next links previous (x ∷ hs) zero h run at =
    subst (λ (k : ℕ). Follows links k (slice_get hs 0)) (same_Some _ _ at) (record { link = _; read = run.0; next = first hs run.1 })
  where
    first : (ys : List ℕ) → IsChain links (Some (slot_of x)) ys None → NextIs links (first_of ys None) (slice_get ys 0)
    first [] r = refl
    first (y ∷ ys) r = (_, r.0, refl)
run-next links previous (x ∷ hs) (suc i) h run at = run-next links (Some (slot_of x)) hs i h run.1 at

-- a handle of a list has a number there
pub has-index : (h : ℕ) (hs : List ℕ) → has_handle h hs ≡ true → (i : ℕ) × (slice_get hs i ≡ Some h)
has-index h [] has = absurd (false≢true has)
has-index h (x ∷ hs) has = elim (cases_eq x h) [
  | inl is ↦ (0, ap Some is)
  | inr d ↦ let more = has-index h hs (grind (arith, nat_tests)) in (suc more.0, more.1)
]

pub index-has : (h i : ℕ) (hs : List ℕ) → slice_get hs i ≡ Some h → has_handle h hs ≡ true
index-has h i [] at = absurd (cc)
index-has h zero (x ∷ hs) at = let same : (x == h) ≡ true = let is : x ≡ h = same_Some _ _ at in grind (arith, nat_tests) in rw same refl
index-has h (suc i) (x ∷ hs) at = grind (arith, nat_tests, index-has h i hs at)

-- what the links say of a handle of a list
pub followed : (links : List Link) (ends : List Ends) (old : HandleLists) (h list i : ℕ)
    → record { places = length links; lists = map (linked_handles links) ends } ≡ old → IsLinked links ends (map (linked_handles links) ends)
    → slice_get (list_at old.lists list) i ≡ Some h → Follows links h (slice_get (list_at old.lists list) (i + 1))
followed links ends old h list i is linked at =
    let P : HandleLists → Type 0 = λ o. slice_get (list_at o.lists list) i ≡ Some h in
    let Q : HandleLists → Type 0 = λ o. Follows links h (slice_get (list_at o.lists list) (i + 1)) in
    subst Q is (by_ends (slice_get ends list) refl (subst P (sym is) at))
  where
    lists : List (List ℕ)
    lists = map (linked_handles links) ends

    by_ends : (o : Option Ends) → slice_get ends list ≡ o → slice_get (list_at lists list) i ≡ Some h → Follows links h (slice_get (list_at lists list) (i + 1))
    by_ends (Some e) found at = rw add-one (run-next links None (list_at lists list) i h (linked.each list e found).run at)
    by_ends None past at =
        let none : list_at lists list ≡ [] = list_at-past links ends list past in
        absurd (empty (subst (λ (hs : List ℕ). slice_get hs i ≡ Some h) none at))
      where
        empty : slice_get [] i ≡ Some h → ⊥
        empty e = cc

-- the same, where the handle is in some list
pub followed-in : (links : List Link) (ends : List Ends) (old : HandleLists) (h : ℕ)
    → record { places = length links; lists = map (linked_handles links) ends } ≡ old → IsLinked links ends (map (linked_handles links) ends)
    → ((list : ℕ) × (has_handle h (list_at old.lists list) ≡ true)) → (o : Option ℕ) × Follows links h o
followed-in links ends old h is linked in_list =
    let at = has-index h (list_at old.lists in_list.0) in_list.1 in
    (_, followed links ends old h in_list.0 at.0 is linked at.1)

-- as the code reads it
pub within-link : (links : List Link) (h : ℕ) (o : Option ℕ) → Follows links h o → slot_of h < length links
within-link links h o f = slice_get_within links (slot_of h) f.link f.read

pub within-next : (links : List Link) (h : ℕ) (o : Option ℕ) (place : ℕ) (f : Follows links h o) → f.link.next ≡ Some place → place < length links
within-next links h o place f e = grind (arith, nat_tests, slice_get_within links place)

pub next-none : (links : List Link) (h : ℕ) (o : Option ℕ) (f : Follows links h o) → f.link.next ≡ None → None ≡ o
next-none links h o f e1 = grind (arith, nat_tests)

pub next-some : (links : List Link) (h : ℕ) (o : Option ℕ) (place : ℕ) (l : Link) (f : Follows links h o) → f.link.next ≡ Some place
    → slice_get links place ≡ Some l → Some l.handle ≡ o
next-some links h o place l f e1 e2 = grind (arith, nat_tests)
