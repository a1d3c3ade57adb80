-- Runs of links, and what writes leave of them.
use Rattle.linked_places.proofs.Names.{nat_tests, ◌≡◌, ◌≢◌, ℕ, zero, suc, ◌<◌, true, false, List, [], ◌∷◌, ◌++◌, length, Option, Some, None, set, slice_get, refl, sym, ap, subst, ◌∙◌, arith, length-set, false≢true, slice_get_within, slot_of, slice_get-set_same, slice_get-set_other, stands_at, link_of, walk, first_of, last_of, IsChain, AreApart, followed_at, links_followed, following_at, links_following, links_with, links_without, Link}
use Rattle.linked_places.proofs.HandleLemmas.{absent-head, absent-tail, stands-head, stands-tail, AreApart-left, AreApart-right, AreApart-across}

pub slice_get-set_in : {X : Type 0} (xs : List X) (i : ℕ) (y : X) → i < length xs → slice_get (set xs i y) i ≡ Some y
slice_get-set_in [] i y within = absurd (omega arith)
slice_get-set_in (x ∷ xs) zero y within = refl
slice_get-set_in (x ∷ xs) (suc i) y within = slice_get-set_in xs i y (omega arith)

-- a place, if there is one, that doesn't stand in the list
abbrev pub Avoids : Option ℕ → List ℕ → Type 0
Avoids None hs = Unit {0}
Avoids (Some place) hs = stands_at place hs ≡ false

-- a place, if there is one, that stands in the list
abbrev pub StandsIn : Option ℕ → List ℕ → Type 0
StandsIn None hs = Unit {0}
StandsIn (Some place) hs = stands_at place hs ≡ true

first_of-append : (xs ys : List ℕ) (next : Option ℕ) → first_of (xs ++ ys) next ≡ first_of xs (first_of ys next)
first_of-append xs ys next = grind (arith, nat_tests)

pub last_of-append : (previous : Option ℕ) (xs ys : List ℕ) → last_of previous (xs ++ ys) ≡ last_of (last_of previous xs) ys
last_of-append previous [] ys = refl
last_of-append previous (x ∷ xs) ys = last_of-append (Some (slot_of x)) xs ys

pub first_of-stands : (xs : List ℕ) → StandsIn (first_of xs None) xs
first_of-stands [] = tt
first_of-stands (x ∷ xs) = stands-head x xs

-- the last place of a list that isn't empty
pub record Last (previous : Option ℕ) (xs : List ℕ) : Type 0 where
  pub place : ℕ
  pub is : last_of previous xs ≡ Some place
  pub stands : stands_at place xs ≡ true

pub last : (previous : Option ℕ) (x : ℕ) (xs : List ℕ) → Last previous (x ∷ xs)
last previous x [] = record { place = slot_of x; is = refl; stands = stands-head x [] }
last previous x (y ∷ ys) = grind (arith, nat_tests, last (Some (slot_of x)) y ys, stands-tail)

pub last_of-stands : (xs : List ℕ) → StandsIn (last_of None xs) xs
last_of-stands [] = tt
last_of-stands (x ∷ xs) = let end = last None x xs in rw end.is end.stands

pub IsRun-append : (links : List Link) (previous : Option ℕ) (xs ys : List ℕ) (next : Option ℕ) → IsChain links previous xs (first_of ys next)
    → IsChain links (last_of previous xs) ys next → IsChain links previous (xs ++ ys) next
IsRun-append links previous [] ys next left right = right
IsRun-append links previous (x ∷ xs) ys next left right = (
  left.0 ∙ ap (λ (after : Option ℕ). Some (link_of x previous after)) (sym (first_of-append xs ys next)),
  IsRun-append links
      (Some (slot_of x)) xs ys next left.1 right,
)

pub IsRun-left : (links : List Link) (previous : Option ℕ) (xs ys : List ℕ) (next : Option ℕ) → IsChain links previous (xs ++ ys) next
    → IsChain links previous xs (first_of ys next)
IsRun-left links previous [] ys next run = tt
IsRun-left links previous (x ∷ xs) ys next run = grind (arith, nat_tests, first_of-append xs ys next, IsRun-left links (Some (slot_of x)) xs ys next run.1)

pub IsRun-right : (links : List Link) (previous : Option ℕ) (xs ys : List ℕ) (next : Option ℕ) → IsChain links previous (xs ++ ys) next
    → IsChain links (last_of previous xs) ys next
IsRun-right links previous [] ys next run = run
IsRun-right links previous (x ∷ xs) ys next run = IsRun-right links (Some (slot_of x)) xs ys next run.1

-- the places of a run are within the links
pub IsRun-within : (links : List Link) (previous : Option ℕ) (hs : List ℕ) (next : Option ℕ) (place : ℕ) → IsChain links previous hs next
    → stands_at place hs ≡ true → place < length links
IsRun-within links previous [] next place run stands = absurd (false≢true stands)
IsRun-within links previous (h ∷ hs) next place run stands =
    let within = slice_get_within links (slot_of h) (link_of h previous (first_of hs next)) run.0 in
    grind (arith, nat_tests, IsRun-within links (Some (slot_of h)) hs next place run.1)

-- a write elsewhere leaves a run
pub IsRun-set : (links : List Link) (place : ℕ) (link : Link) (previous : Option ℕ) (hs : List ℕ) (next : Option ℕ) → stands_at place hs ≡ false
    → IsChain links previous hs next → IsChain (set links place link) previous hs next
IsRun-set links place link previous [] next absent run = tt
IsRun-set links place link previous (h ∷ hs) next absent run =
    let apart = absent-head place h hs absent in
    let rest = IsRun-set links place link (Some (slot_of h)) hs next (absent-tail place h hs absent) run.1 in
    (slice_get-set_other links place (slot_of h) link apart ∙ run.0, rest)

pub IsRun-followed : (links : List Link) (place after previous : Option ℕ) (hs : List ℕ) (next : Option ℕ) → Avoids place hs → IsChain links previous hs next
    → IsChain (links_followed links place after) previous hs next
IsRun-followed links None after previous hs next avoids run = run
IsRun-followed links (Some place) after previous hs next avoids run = by_link (slice_get links place)
  where
    by_link : (o : Option Link) → IsChain (followed_at links place after o) previous hs next
    by_link None = run
    by_link (Some link) = IsRun-set links place (record link { next = after }) previous hs next avoids run

pub IsRun-following : (links : List Link) (place before previous : Option ℕ) (hs : List ℕ) (next : Option ℕ) → Avoids place hs → IsChain links previous hs next
    → IsChain (links_following links place before) previous hs next
IsRun-following links None before previous hs next avoids run = run
IsRun-following links (Some place) before previous hs next avoids run = by_link (slice_get links place)
  where
    by_link : (o : Option Link) → IsChain (following_at links place before o) previous hs next
    by_link None = run
    by_link (Some link) = IsRun-set links place (record link { previous = before }) previous hs next avoids run

pub length-followed : (links : List Link) (place after : Option ℕ) → length (links_followed links place after) ≡ length links
length-followed links None after = refl
length-followed links (Some place) after = grind (arith, nat_tests, length-set {A = Link})

pub length-following : (links : List Link) (place before : Option ℕ) → length (links_following links place before) ≡ length links
length-following links None before = refl
length-following links (Some place) before = grind (arith, nat_tests, length-set {A = Link})

-- a run with another place after it
pub IsRun-followed_last : (links : List Link) (previous : Option ℕ) (xs : List ℕ) (next after : Option ℕ) → AreApart xs → IsChain links previous xs next
    → IsChain (links_followed links (last_of previous xs) after) previous xs after
IsRun-followed_last links previous [] next after apart run = tt
IsRun-followed_last links previous (x ∷ []) next after apart run =
    (rw run.0 (slice_get-set_same links (slot_of x) (link_of x previous after) (link_of x previous next) run.0), tt)
IsRun-followed_last links previous (x ∷ y ∷ ys) next after apart run =
    let end = last (Some (slot_of x)) y ys in
    (head end, IsRun-followed_last links (Some (slot_of x)) (y ∷ ys) next after apart.1 run.1)
  where
    kept : (place : ℕ) → slot_of x ≢ place → slice_get (links_followed links (Some place) after) (slot_of x) ≡ slice_get links (slot_of x)
    kept place differs = by_link (slice_get links place)
      where
        by_link : (o : Option Link) → slice_get (followed_at links place after o) (slot_of x) ≡ slice_get links (slot_of x)
        by_link None = refl
        by_link (Some link) = slice_get-set_other links place (slot_of x) (record link { next = after }) differs

    moved : (end : Last (Some (slot_of x)) (y ∷ ys)) → slot_of x ≡ end.place → stands_at (slot_of x) (y ∷ ys) ≡ true
    moved end same = let P : ℕ → Type 0 = λ q. stands_at q (y ∷ ys) ≡ true in subst P (sym same) end.stands

    head : Last (Some (slot_of x)) (y ∷ ys)
        → slice_get (links_followed links (last_of (Some (slot_of x)) (y ∷ ys)) after) (slot_of x) ≡ Some (link_of x previous (Some (slot_of y)))
    head end = rw end.is (kept end.place (λ same. false≢true (sym apart.0 ∙ moved end same)) ∙ run.0)

-- a run with another place before it
pub IsRun-following_first : (links : List Link) (previous before : Option ℕ) (xs : List ℕ) (next : Option ℕ) → AreApart xs → IsChain links previous xs next
    → IsChain (links_following links (first_of xs None) before) before xs next
IsRun-following_first links previous before [] next apart run = tt
IsRun-following_first links previous before (x ∷ xs) next apart run =
    let link = link_of x before (first_of xs next) in
    let is : links_following links (Some (slot_of x)) before ≡ set links (slot_of x) link = rw run.0 refl in
    let P : List Link → Type 0 = λ ls. IsChain ls before (x ∷ xs) next in
    subst P (sym is) (
      slice_get-set_same links (slot_of x) link (link_of x previous (first_of xs next)) run.0,
      IsRun-set links (slot_of x) link
          (Some (slot_of x)) xs next apart.0 run.1,
    )

-- what stands in a part of a list avoids the other part
avoids_right : (place : Option ℕ) (xs ys : List ℕ) → AreApart (xs ++ ys) → StandsIn place xs → Avoids place ys
avoids_right None xs ys apart stands = tt
avoids_right (Some place) xs ys apart stands = AreApart-across place xs ys apart stands

avoids_left : (place : Option ℕ) (xs ys : List ℕ) → AreApart (xs ++ ys) → StandsIn place ys → Avoids place xs
avoids_left None xs ys apart stands = tt
avoids_left (Some place) xs ys apart stands = grind (arith, nat_tests, AreApart-across place xs ys apart)

-- a handle at the end of a run
pub IsRun-push : (links : List Link) (hs : List ℕ) (h : ℕ) → AreApart hs → stands_at (slot_of h) hs ≡ false → slot_of h < length links
    → IsChain links None hs None → IsChain (links_with links (last_of None hs) h) None (hs ++ h ∷ []) None
IsRun-push links hs h apart absent within run =
    let before = IsRun-followed_last links None hs None (Some (slot_of h)) apart run in
    let size = length-followed links (last_of None hs) (Some (slot_of h)) in
    grind (arith, nat_tests, IsRun-append, IsRun-set, slice_get-set_in)

-- a run without one of its handles
pub IsRun-remove : (links : List Link) (xs : List ℕ) (h : ℕ) (ys : List ℕ) → AreApart (xs ++ h ∷ ys) → AreApart (xs ++ ys)
    → IsChain links None (xs ++ h ∷ ys) None → IsChain (links_without links (last_of None xs) (first_of ys None)) None (xs ++ ys) None
IsRun-remove links xs h ys whole rest run =
    let left = IsRun-left links None xs (h ∷ ys) None run in
    let right = IsRun-right links None xs (h ∷ ys) None run in
    let followed = links_followed links (last_of None xs) (first_of ys None) in
    let left_followed = IsRun-followed_last links None xs (Some (slot_of h)) (first_of ys None) (AreApart-left xs ys rest) left in
    let right_followed = IsRun-followed links (last_of None xs) (first_of ys None) (Some (slot_of h)) ys None
    (avoids_right (last_of None xs) xs ys rest (last_of-stands xs)) right.1 in
    IsRun-append (links_without links (last_of None xs) (first_of ys None)) None xs ys None
    (IsRun-following followed (first_of ys None) (last_of None xs) None xs (first_of ys None)
    (avoids_left (first_of ys None) xs ys rest (first_of-stands ys)) left_followed)
    (IsRun-following_first followed (Some (slot_of h)) (last_of None xs) ys None (AreApart-right xs ys rest) right_followed)

-- the link of a handle in a run
pub IsRun-link : (links : List Link) (xs : List ℕ) (h : ℕ) (ys : List ℕ) → IsChain links None (xs ++ h ∷ ys) None
    → slice_get links (slot_of h) ≡ Some (link_of h (last_of None xs) (first_of ys None))
IsRun-link links xs h ys run = (IsRun-right links None xs (h ∷ ys) None run).0

-- a walk along a run finds its handles
pub walk-run : (links : List Link) (previous : Option ℕ) (hs : List ℕ) (next : Option ℕ) → IsChain links previous hs next
    → walk links (length hs) (first_of hs next) ≡ hs
walk-run links previous [] next run = refl
walk-run links previous (h ∷ hs) next run = rw run.0 (ap (λ (ys : List ℕ). h ∷ ys) (walk-run links (Some (slot_of h)) hs next run.1))
