-- Lists of handles, and which places stand in them.
use Rattle.linked_places.proofs.Names.{cases_Bool, nat_tests, arith, ◌≡◌, ◌≢◌, ◌⊎◌, ℕ, ◌<◌, ◌≤◌, true, false, List, [], ◌∷◌, ◌++◌, length, map, Some, set, slice_get, refl, sym, ap, ◌∙◌, inl, inr, eqb, ◌||◌, ◌==◌, false≢true, eqb_tells, get_or-set_same, get_or-set_other, length-map, slot_of, list_at, stands_at, has_handle, without_handle, AreApart, or_parts}
use Rattle.std.specs.List.{IsDistinct, AllByRecursion, list_any}
use Rattle.std.proofs.lemmas.Map.Steps.{length-le_from_distinct_below}

pub list_at-set_same : (lists : List (List ℕ)) (number : ℕ) (list : List ℕ) → number < length lists → list_at (set lists number list) number ≡ list
list_at-set_same lists number list within = get_or-set_same lists number list [] within

pub list_at-set_other : (lists : List (List ℕ)) (number other : ℕ) (list : List ℕ) → other ≢ number
    → list_at (set lists number list) other ≡ list_at lists other
list_at-set_other lists number other list differs = get_or-set_other lists number other list [] differs

pub stands_at-append : (place : ℕ) (xs ys : List ℕ) → stands_at place (xs ++ ys) ≡ (stands_at place xs || stands_at place ys)
stands_at-append place [] ys = refl
stands_at-append place (x ∷ xs) ys = grind (arith, nat_tests, stands_at-append place xs ys)

-- the head of a list in which a place doesn't stand has another place
pub absent-head : (place x : ℕ) (xs : List ℕ) → stands_at place (x ∷ xs) ≡ false → slot_of x ≢ place
absent-head place x xs absent same = grind (arith, nat_tests)

pub absent-tail : (place x : ℕ) (xs : List ℕ) → stands_at place (x ∷ xs) ≡ false → stands_at place xs ≡ false
absent-tail place x xs absent = (or_parts (slot_of x == place) (stands_at place xs) absent).1

pub absent-left : (place : ℕ) (xs ys : List ℕ) → stands_at place (xs ++ ys) ≡ false → stands_at place xs ≡ false
absent-left place xs ys absent = (or_parts (stands_at place xs) (stands_at place ys) (sym (stands_at-append place xs ys) ∙ absent)).0

pub absent-right : (place : ℕ) (xs ys : List ℕ) → stands_at place (xs ++ ys) ≡ false → stands_at place ys ≡ false
absent-right place xs ys absent = (or_parts (stands_at place xs) (stands_at place ys) (sym (stands_at-append place xs ys) ∙ absent)).1

pub absent-append : (place : ℕ) (xs ys : List ℕ) → stands_at place xs ≡ false → stands_at place ys ≡ false → stands_at place (xs ++ ys) ≡ false
absent-append place xs ys left right = stands_at-append place xs ys ∙ rw (left, right) refl

-- a place stands in the list, or it doesn't
pub stands_cases : (place : ℕ) (xs : List ℕ) → (stands_at place xs ≡ true) ⊎ (stands_at place xs ≡ false)
stands_cases place xs = cases_Bool (stands_at place xs)

pub stands-left : (place : ℕ) (xs ys : List ℕ) → stands_at place xs ≡ true → stands_at place (xs ++ ys) ≡ true
stands-left place xs ys left = stands_at-append place xs ys ∙ rw left refl

pub stands-right : (place : ℕ) (xs ys : List ℕ) → stands_at place ys ≡ true → stands_at place (xs ++ ys) ≡ true
stands-right place xs ys right = grind (arith, nat_tests, stands_at-append place xs ys)

pub stands-head : (x : ℕ) (xs : List ℕ) → stands_at (slot_of x) (x ∷ xs) ≡ true
stands-head x xs = grind (arith, nat_tests)

pub stands-tail : (place x : ℕ) (xs : List ℕ) → stands_at place xs ≡ true → stands_at place (x ∷ xs) ≡ true
stands-tail place x xs e1 = grind (arith, nat_tests)

-- what stands in one place of two parts
pub stands-either : (place : ℕ) (xs ys : List ℕ) → stands_at place (xs ++ ys) ≡ true → (stands_at place xs ≡ true) ⊎ (stands_at place ys ≡ true)
stands-either place xs ys stands = grind (arith, nat_tests, stands_cases place xs, stands_at-append place xs ys)

-- a list with a handle in it is what comes before, the handle, and what comes after
pub record Split (handle : ℕ) (hs : List ℕ) : Type 0 where
  pub before : List ℕ
  pub after : List ℕ
  pub whole : hs ≡ before ++ handle ∷ after
  pub rest : without_handle handle hs ≡ before ++ after

pub split : (handle : ℕ) (hs : List ℕ) → has_handle handle hs ≡ true → Split handle hs
split handle [] has = absurd (false≢true has)
split handle (x ∷ hs) has =
    elim (eqb_tells x handle) [
      | inl is ↦ record { before = []; after = hs; whole = ap (λ (y : ℕ). y ∷ hs) is.1; rest = rw is.0 refl }
      | inr apart ↦
          let tail = split handle hs (rw apart.0 at has) in
          record {
            before = x ∷ tail.before;
            after = tail.after;
            whole = ap (λ (ys : List ℕ). x ∷ ys) tail.whole;
            rest = rw apart.0 (ap (λ (ys : List ℕ). x ∷ ys) tail.rest);
          }
    ]

pub AreApart-left : (xs ys : List ℕ) → AreApart (xs ++ ys) → AreApart xs
AreApart-left [] ys apart = tt
AreApart-left (x ∷ xs) ys apart = (absent-left (slot_of x) xs ys apart.0, AreApart-left xs ys apart.1)

pub AreApart-right : (xs ys : List ℕ) → AreApart (xs ++ ys) → AreApart ys
AreApart-right [] ys apart = apart
AreApart-right (x ∷ xs) ys apart = AreApart-right xs ys apart.1

-- what stands in the one part stands not in the other
pub AreApart-across : (place : ℕ) (xs ys : List ℕ) → AreApart (xs ++ ys) → stands_at place xs ≡ true → stands_at place ys ≡ false
AreApart-across place [] ys apart stands = absurd (false≢true stands)
AreApart-across place (x ∷ xs) ys apart stands = grind (arith, nat_tests, absent-right place xs ys, AreApart-across place xs ys apart.1)

pub AreApart-push : (xs : List ℕ) (h : ℕ) → AreApart xs → stands_at (slot_of h) xs ≡ false → AreApart (xs ++ h ∷ [])
AreApart-push [] h apart absent = (refl, tt)
AreApart-push (x ∷ xs) h apart absent = (
  absent-append (slot_of x) xs (h ∷ []) apart.0 (other_head (absent-head (slot_of h) x xs absent)),
  AreApart-push xs h apart.1
      (absent-tail (slot_of h) x xs absent),
)
  where
    other_head : slot_of x ≢ slot_of h → stands_at (slot_of x) (h ∷ []) ≡ false
    other_head differs = elim (eqb_tells (slot_of h) (slot_of x)) [ inl is ↦ absurd (differs (sym is.1)) | inr apart ↦ rw apart.0 refl ]

pub AreApart-without : (xs : List ℕ) (h : ℕ) (ys : List ℕ) → AreApart (xs ++ h ∷ ys) → AreApart (xs ++ ys)
AreApart-without [] h ys apart = apart.1
AreApart-without (x ∷ xs) h ys apart = (
  absent-append (slot_of x) xs ys (absent-left (slot_of x) xs (h ∷ ys) apart.0)
      (absent-tail (slot_of x) h ys (absent-right (slot_of x) xs (h ∷ ys) apart.0)),
  AreApart-without xs h ys apart.1,
)

-- a place that doesn't stand in a list is none of its places
others_of : (place : ℕ) (hs : List ℕ) → stands_at place hs ≡ false → AllByRecursion (λ other. eqb place other ≡ false) (map slot_of hs)
others_of place [] absent = tt
others_of place (h ∷ hs) absent = grind (arith, nat_tests, others_of place hs (absent-tail place h hs absent))

distinct_of : (hs : List ℕ) → AreApart hs → IsDistinct eqb (map slot_of hs)
unfolding IsDistinct
distinct_of [] apart = tt
distinct_of (h ∷ hs) apart = (others_of (slot_of h) hs apart.0, distinct_of hs apart.1)

stands_of : (hs : List ℕ) (place : ℕ) → list_any (eqb place) (map slot_of hs) ≡ true → stands_at place hs ≡ true
stands_of [] place has = has
stands_of (h ∷ hs) place has = grind (arith, nat_tests, stands-head h hs, stands-tail place h hs, stands_of hs place)

-- handles with places below a bound, no two alike, are at most so many
pub length-apart : (hs : List ℕ) (bound : ℕ) → AreApart hs → ((place : ℕ) → stands_at place hs ≡ true → place < bound) → length hs ≤ bound
length-apart hs bound apart below =
    let few = length-le_from_distinct_below (map slot_of hs) bound (distinct_of hs apart) (λ place has. below place (stands_of hs place has)) in
    rw (length-map hs slot_of) at few

-- a handle of a list stands there at its place
pub stands-has : (h : ℕ) (hs : List ℕ) → has_handle h hs ≡ true → stands_at (slot_of h) hs ≡ true
stands-has h [] has = has
stands-has h (x ∷ hs) has = grind (arith, nat_tests, stands-head x hs, stands-tail (slot_of h) x hs, stands-has h hs)

-- the first handle of a list is in it
pub has-first : (h : ℕ) (hs : List ℕ) → slice_get hs 0 ≡ Some h → has_handle h hs ≡ true
has-first h [] first = absurd (cc)
has-first h (x ∷ hs) first = grind (arith, nat_tests)
