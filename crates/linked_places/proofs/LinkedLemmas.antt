-- Links and ends that stand for lists, and what each move leaves of that.
use Rattle.linked_places.proofs.Names.{nat_tests, ◌≡◌, ◌≢◌, ◌⊎◌, ℕ, zero, suc, ◌<◌, ◌≤◌, true, false, List, [], ◌∷◌, ◌++◌, length, map, replicate, Option, Some, None, is_none, set, slice_get, get_or, refl, sym, ap, subst, ◌∙◌, inl, inr, arith, length-set, length-append, if◌then◌else◌, option_or, false≢true, cases_eq, length-replicate, length-map, slice_get_within, slice_get_read, slot_of, slice_get-set_other, HandleLists, list_at, stands_at, has_handle, without_handle, NowhereAt, with_list, link_of, linked_handles, first_of, last_of, IsChain, AreApart, IsList, IsLinked, links_followed, links_with, ends_with, links_without, ends_without, IsBelow, Link, Ends, append-nil}
use Rattle.linked_places.proofs.HandleLemmas.{list_at-set_same, list_at-set_other, absent-append, stands-left, stands-right, stands-head, stands-tail, stands-either, Split, split, AreApart-right, AreApart-across, AreApart-push, AreApart-without, length-apart}
use Rattle.linked_places.proofs.RunLemmas.{slice_get-set_in, last, Avoids, StandsIn, last_of-append, first_of-stands, last_of-stands, IsRun-within, IsRun-set, IsRun-followed, IsRun-following, length-followed, length-following, IsRun-push, IsRun-remove, IsRun-link, walk-run}

-- the ends of no handle
abbrev pub no_ends : Ends
no_ends = record { first = None; last = None; count = 0 }

pub IsList-empty : (links : List Link) → IsList links no_ends []
IsList-empty links = record { first = refl; last = refl; count = refl; run = tt; apart = tt }

-- what the ends of a list walk to
pub handles_of-list : (links : List Link) (e : Ends) (hs : List ℕ) → IsList links e hs → linked_handles links e ≡ hs
handles_of-list links e hs list = rw (list.count, list.first) (walk-run links None hs None list.run)

same_lists : (links : List Link) (ends : List Ends) (lists : List (List ℕ)) → length lists ≡ length ends
    → ((number : ℕ) (e : Ends) → slice_get ends number ≡ Some e → IsList links e (list_at lists number)) → map (linked_handles links) ends ≡ lists
same_lists links [] [] size each = refl
same_lists links [] (l ∷ ls) size each = absurd (omega (arith, size))
same_lists links (e ∷ es) [] size each = absurd (omega (arith, size))
same_lists links (e ∷ es) (l ∷ ls) size each =
    let head : linked_handles links e ≡ l = handles_of-list links e l (each 0 e refl) in
    let tail : map (linked_handles links) es ≡ ls = same_lists links es ls (omega (arith, size)) (λ number f at. each (suc number) f at) in
    rw (head, tail) refl

-- the lists that the links and the ends stand for are those that they are seen as
pub lists-view : (links : List Link) (ends : List Ends) (lists : List (List ℕ)) → IsLinked links ends lists → map (linked_handles links) ends ≡ lists
lists-view links ends lists linked = same_lists links ends lists linked.size linked.each

pub IsLinked-view : (links : List Link) (ends : List Ends) (lists : List (List ℕ)) → IsLinked links ends lists
    → IsLinked links ends (map (linked_handles links) ends)
IsLinked-view links ends lists linked = grind (arith, nat_tests, lists-view links ends lists linked)

-- one list becomes another, whose places stood in it before or stood in none
pub IsLinked-set : (links after : List Link) (ends : List Ends) (lists : List (List ℕ)) (number : ℕ) (e : Ends) (list : List ℕ) → IsLinked links ends lists
    → number < length lists → length after ≡ length links → IsList after e list
    → ((other : ℕ) (f : Ends) → other ≢ number → IsList links f (list_at lists other) → IsList after f (list_at lists other))
    → ((place : ℕ) → stands_at place list ≡ true → (stands_at place (list_at lists number) ≡ true) ⊎ NowhereAt place lists)
    → IsLinked after (set ends number e) (set lists number list)
IsLinked-set links after ends lists number e list linked within size new kept grown = record {
  size = length-set lists number list ∙ (linked.size ∙ sym (length-set ends number e));
  each = each;
  apart = apart;
  few = rw size linked.few;
}
  where
    there : number < length ends
    there = rw (← linked.size) within

    each : (other : ℕ) (f : Ends) → slice_get (set ends number e) other ≡ Some f → IsList after f (list_at (set lists number list) other)
    each other f at =
        elim (cases_eq other number) [
          | inl same ↦
              let P : ℕ → Type 0 = λ n. slice_get (set ends number e) n ≡ Some f in
              let found : slice_get (set ends number e) number ≡ Some f = subst P same at in
              let read = slice_get-set_in ends number e there in
              let is : e ≡ f = grind (arith, found, read) in
              let Q : Ends → Type 0 = λ g. IsList after g list in
              rw same (rw (list_at-set_same lists number list within) (subst Q is new))
          | inr differs ↦
              rw (list_at-set_other lists number other list differs)
              (kept other f differs (linked.each other f (sym (slice_get-set_other ends number other e differs) ∙ at)))
        ]

    -- a place of the new list that stands in another one
    crossed : (other place : ℕ) → other ≢ number → stands_at place list ≡ true → stands_at place (list_at lists other) ≡ true → number ≡ other
    crossed other place differs one two = elim (grown place one) [
      | inl before ↦ linked.apart number other place before two
      | inr nowhere ↦ absurd (false≢true (sym (nowhere other) ∙ two))
    ]

    apart : (i j place : ℕ) → stands_at place (list_at (set lists number list) i) ≡ true → stands_at place (list_at (set lists number list) j) ≡ true → i ≡ j
    apart i j place one two =
        let same = list_at-set_same lists number list within in
        elim (cases_eq i number) [
          | inl here ↦ elim (cases_eq j number) [
            | inl there ↦ here ∙ sym there
            | inr away ↦ here ∙ crossed j place away (rw (here, same) at one) (rw (list_at-set_other lists number j list away) at two)
          ]
          | inr off ↦ elim (cases_eq j number) [
            | inl there ↦ sym (crossed i place off (rw (there, same) at two) (rw (list_at-set_other lists number i list off) at one)) ∙ sym there
            | inr away ↦ linked.apart i j place (rw (list_at-set_other lists number i list off) at one) (rw (list_at-set_other lists number j list away) at two)
          ]
        ]

pub IsLinked-clear : (links : List Link) (ends : List Ends) (lists : List (List ℕ)) (number : ℕ) → IsLinked links ends lists → number < length lists
    → IsLinked links (set ends number no_ends) (set lists number [])
IsLinked-clear links ends lists number linked within =
    IsLinked-set links links ends lists number no_ends [] linked within refl (IsList-empty links) (λ other f differs list. list)
    (λ place stands. absurd (false≢true stands))

-- a place of one list stands in no other
avoids_other : (lists : List (List ℕ)) (number other : ℕ) (place : Option ℕ)
    → ((i j q : ℕ) → stands_at q (list_at lists i) ≡ true → stands_at q (list_at lists j) ≡ true → i ≡ j) → other ≢ number
    → StandsIn place (list_at lists number) → Avoids place (list_at lists other)
avoids_other lists number other None apart differs stands = tt
avoids_other lists number other (Some q) apart differs stands = grind (arith, nat_tests, apart number other q stands)

place_within : (links : List Link) (hs : List ℕ) (place : Option ℕ) → IsChain links None hs None → StandsIn place hs → IsBelow (length links) place
place_within links hs None run stands = tt
place_within links hs (Some q) run stands = IsRun-within links None hs None q run stands

-- the last place of a list is within the links
pub last-within : (links : List Link) (e : Ends) (hs : List ℕ) → IsList links e hs → IsBelow (length links) e.last
last-within links e hs list = rw list.last (place_within links hs (last_of None hs) list.run (last_of-stands hs))

-- a list has no more handles than there are links
pub count-within : (links : List Link) (e : Ends) (hs : List ℕ) → IsList links e hs → e.count ≤ length links
count-within links e hs list = rw list.count (length-apart hs (length links) list.apart (λ place stands. IsRun-within links None hs None place list.run stands))

first_of-push : (hs : List ℕ) (h : ℕ) → option_or (first_of hs None) (Some (slot_of h)) ≡ first_of (hs ++ h ∷ []) None
first_of-push hs h = grind (arith, nat_tests)

pub IsList-push : (links : List Link) (e : Ends) (hs : List ℕ) (h : ℕ) → IsList links e hs → stands_at (slot_of h) hs ≡ false → slot_of h < length links
    → IsList (links_with links e.last h) (ends_with e (slot_of h)) (hs ++ h ∷ [])
IsList-push links e hs h list absent within =
    let P : Option ℕ → Type 0 = λ place. IsChain (links_with links place h) None (hs ++ h ∷ []) None in
    record {
      first = rw list.first (first_of-push hs h);
      last = sym (last_of-append None hs (h ∷ []));
      count = omega (arith, list.count, length-append hs (h ∷ []));
      run = subst P (sym list.last) (IsRun-push links hs h list.apart absent within list.run);
      apart = AreApart-push hs h list.apart absent;
    }

-- the one place of a list of one handle
pub alone : (place h : ℕ) → stands_at place (h ∷ []) ≡ true → place ≡ slot_of h
alone place h e1 = grind (arith, nat_tests)

pub IsLinked-push : (links : List Link) (ends : List Ends) (lists : List (List ℕ)) (number : ℕ) (e : Ends) (h : ℕ) → IsLinked links ends lists
    → slice_get ends number ≡ Some e → slot_of h < length links → NowhereAt (slot_of h) lists
    → IsLinked (links_with links e.last h) (set ends number (ends_with e (slot_of h))) (set lists number (list_at lists number ++ h ∷ []))
IsLinked-push links ends lists number e h linked at within nowhere =
    IsLinked-set links (links_with links e.last h) ends lists number (ends_with e (slot_of h)) (hs ++ h
    ∷ []) linked there size (IsList-push links e hs h list (nowhere number) within) kept grown
  where
    hs : List ℕ
    hs = list_at lists number

    list : IsList links e hs
    list = linked.each number e at

    there : number < length lists
    there = rw linked.size (slice_get_within ends number e at)

    followed : List Link
    followed = links_followed links e.last (Some (slot_of h))

    size : length (links_with links e.last h) ≡ length links
    size = length-set followed (slot_of h) (link_of h e.last None) ∙ length-followed links e.last (Some (slot_of h))

    stands : StandsIn e.last hs
    stands = rw list.last (last_of-stands hs)

    kept : (other : ℕ) (f : Ends) → other ≢ number → IsList links f (list_at lists other) → IsList (links_with links e.last h) f (list_at lists other)
    kept other f differs old = record {
      first = old.first;
      last = old.last;
      count = old.count;
      run = IsRun-set followed (slot_of h) (link_of h e.last None) None (list_at lists other) None (nowhere other)
          (IsRun-followed links e.last (Some (slot_of h)) None (list_at lists other) None
          (avoids_other lists number other e.last linked.apart differs stands) old.run);
      apart = old.apart;
    }

    grown : (place : ℕ) → stands_at place (hs ++ h ∷ []) ≡ true → (stands_at place hs ≡ true) ⊎ NowhereAt place lists
    grown place stands =
        elim (stands-either place hs (h ∷ []) stands) [
          | inl old ↦ inl old
          | inr new ↦ let P : ℕ → Type 0 = λ q. NowhereAt q lists in inr (subst P (sym (alone place h new)) nowhere)
        ]

-- the first place of a list once a handle has left it
first_of-without : (xs : List ℕ) (h : ℕ) (ys : List ℕ) (first : Option ℕ) → first ≡ first_of (xs ++ h ∷ ys) None
    → (if is_none (last_of None xs) then first_of ys None else first) ≡ first_of (xs ++ ys) None
first_of-without [] h ys first is = refl
first_of-without (x ∷ xs) h ys first is = let end = last None x xs in rw end.is is

-- the last place of a list once a handle has left it
last_of-without : (xs : List ℕ) (h : ℕ) (ys : List ℕ) (end : Option ℕ) → end ≡ last_of None (xs ++ h ∷ ys)
    → (if is_none (first_of ys None) then last_of None xs else end) ≡ last_of None (xs ++ ys)
last_of-without xs h [] end is = ap (λ (zs : List ℕ). last_of None zs) (sym (append-nil xs))
last_of-without xs h (y ∷ ys) end is = is ∙ (last_of-append None xs (h ∷ y ∷ ys) ∙ sym (last_of-append None xs (y ∷ ys)))

-- the link of a handle between what comes before it and what comes after
abbrev pub link_in : List ℕ → ℕ → List ℕ → Link
link_in xs h ys = link_of h (last_of None xs) (first_of ys None)

pub IsList-remove : (links : List Link) (e : Ends) (xs : List ℕ) (h : ℕ) (ys : List ℕ) → IsList links e (xs ++ h ∷ ys)
    → IsList (links_without links (last_of None xs) (first_of ys None)) (ends_without e (link_in xs h ys)) (xs ++ ys)
IsList-remove links e xs h ys list =
    let rest = AreApart-without xs h ys list.apart in
    record {
      first = first_of-without xs h ys e.first list.first;
      last = last_of-without xs h ys e.last list.last;
      count = omega (arith, list.count, length-append xs (h ∷ ys), length-append xs ys);
      run = IsRun-remove links xs h ys list.apart rest list.run;
      apart = rest;
    }

stands_before : (place : Option ℕ) (xs ys : List ℕ) → StandsIn place xs → StandsIn place (xs ++ ys)
stands_before None xs ys stands = tt
stands_before (Some q) xs ys stands = stands-left q xs ys stands

stands_after : (place : Option ℕ) (xs : List ℕ) (h : ℕ) (ys : List ℕ) → StandsIn place ys → StandsIn place (xs ++ h ∷ ys)
stands_after None xs h ys stands = tt
stands_after (Some q) xs h ys stands = stands-right q xs (h ∷ ys) (stands-tail q h ys stands)

-- the removal of a handle between what comes before it and what comes after
pub IsLinked-without : (links : List Link) (ends : List Ends) (lists : List (List ℕ)) (number : ℕ) (e : Ends) (xs : List ℕ) (h : ℕ) (ys : List ℕ)
    → IsLinked links ends lists → slice_get ends number ≡ Some e → list_at lists number ≡ xs ++ h ∷ ys
    → IsLinked (links_without links (last_of None xs) (first_of ys None)) (set ends number (ends_without e (link_in xs h ys))) (set lists number (xs ++ ys))
IsLinked-without links ends lists number e xs h ys linked at whole =
    IsLinked-set links after ends lists number (ends_without e (link_in xs h ys)) (xs ++ ys) linked there size (IsList-remove links e xs h ys list) kept grown
  where
    after : List Link
    after = links_without links (last_of None xs) (first_of ys None)

    followed : List Link
    followed = links_followed links (last_of None xs) (first_of ys None)

    list : IsList links e (xs ++ h ∷ ys)
    list = let P : List ℕ → Type 0 = λ zs. IsList links e zs in subst P whole (linked.each number e at)

    there : number < length lists
    there = rw linked.size (slice_get_within ends number e at)

    size : length after ≡ length links
    size = length-following followed (first_of ys None) (last_of None xs) ∙ length-followed links (last_of None xs) (first_of ys None)

    before_stands : StandsIn (last_of None xs) (list_at lists number)
    before_stands = rw whole (stands_before (last_of None xs) xs (h ∷ ys) (last_of-stands xs))

    after_stands : StandsIn (first_of ys None) (list_at lists number)
    after_stands = rw whole (stands_after (first_of ys None) xs h ys (first_of-stands ys))

    kept : (other : ℕ) (f : Ends) → other ≢ number → IsList links f (list_at lists other) → IsList after f (list_at lists other)
    kept other f differs old = record {
      first = old.first;
      last = old.last;
      count = old.count;
      run = IsRun-following followed (first_of ys None) (last_of None xs) None (list_at lists other) None
          (avoids_other lists number other (first_of ys None) linked.apart differs after_stands)
          (IsRun-followed links (last_of None xs) (first_of ys None) None (list_at lists other) None
          (avoids_other lists number other (last_of None xs) linked.apart differs before_stands) old.run);
      apart = old.apart;
    }

    grown : (place : ℕ) → stands_at place (xs ++ ys) ≡ true → (stands_at place (list_at lists number) ≡ true) ⊎ NowhereAt place lists
    grown place stands =
        elim (stands-either place xs ys stands) [
          | inl left ↦ inl (rw whole (stands-left place xs (h ∷ ys) left))
          | inr right ↦ inl (rw whole (stands-right place xs (h ∷ ys) (stands-tail place h ys right)))
        ]

-- what the removal of a handle needs to know
pub record Removal (links : List Link) (ends : List Ends) (lists : List (List ℕ)) (number : ℕ) (e : Ends) (h : ℕ) : Type 0 where
  pub link : Link
  pub read : slice_get links (slot_of h) ≡ Some link
  pub within : slot_of h < length links
  pub previous : IsBelow (length links) link.previous
  pub next : IsBelow (length links) link.next
  pub some : 0 < e.count
  pub linked : IsLinked (links_without links link.previous link.next) (set ends number (ends_without e link))
      (set lists number (without_handle h (list_at lists number)))

pub removal : (links : List Link) (ends : List Ends) (lists : List (List ℕ)) (number : ℕ) (e : Ends) (h : ℕ) → IsLinked links ends lists
    → slice_get ends number ≡ Some e → has_handle h (list_at lists number) ≡ true → Removal links ends lists number e h
removal links ends lists number e h linked at has = record {
  link = link_in parts.before h parts.after;
  read = read;
  within = slice_get_within links (slot_of h) (link_in parts.before h parts.after) read;
  previous = place_within links (parts.before ++ h
      ∷ parts.after) (last_of None parts.before) list.run
      (stands_before (last_of None parts.before) parts.before (h ∷ parts.after) (last_of-stands parts.before));
  next = place_within links (parts.before ++ h
      ∷ parts.after) (first_of parts.after None) list.run (stands_after (first_of parts.after None) parts.before h parts.after (first_of-stands parts.after));
  some = omega (arith, list.count, length-append parts.before (h ∷ parts.after));
  linked = rw parts.rest (IsLinked-without links ends lists number e parts.before h parts.after linked at parts.whole);
}
  where
    parts : Split h (list_at lists number)
    parts = split h (list_at lists number) has

    list : IsList links e (parts.before ++ h ∷ parts.after)
    list = let P : List ℕ → Type 0 = λ zs. IsList links e zs in subst P parts.whole (linked.each number e at)

    read : slice_get links (slot_of h) ≡ Some (link_in parts.before h parts.after)
    read = IsRun-link links parts.before h parts.after list.run

list_at-replicate : (count number : ℕ) → list_at (replicate count []) number ≡ []
list_at-replicate zero number = refl
list_at-replicate (suc count) zero = refl
list_at-replicate (suc count) (suc number) = list_at-replicate count number

replicate-read : (count number : ℕ) (x y : Ends) → slice_get (replicate count x) number ≡ Some y → x ≡ y
replicate-read zero number x y found = absurd (cc)
replicate-read (suc count) zero x y found = cc
replicate-read (suc count) (suc number) x y found = replicate-read count number x y found

pub list_at-past : (links : List Link) (ends : List Ends) (number : ℕ) → slice_get ends number ≡ None → list_at (map (linked_handles links) ends) number ≡ []
list_at-past links [] number past = refl
list_at-past links (e ∷ es) zero past = absurd (cc)
list_at-past links (e ∷ es) (suc number) past = list_at-past links es number past

-- new links and ends stand for empty lists
pub IsLinked-new : (links : List Link) (count : ℕ) → length links ≤ 65536 → IsLinked links (replicate count no_ends) (replicate count [])
IsLinked-new links count few = record {
  size = length-replicate count [] ∙ sym (length-replicate count no_ends);
  each = λ number e at. grind (arith, nat_tests, Ends, list_at-replicate count number, replicate-read count number no_ends e, IsList-empty links);
  apart = λ i j place one two. absurd (false≢true (rw (list_at-replicate count i) at one));
  few = few;
}

-- what links and ends are seen as
abbrev pub view_of : List Link → List Ends → HandleLists
view_of links ends = record { places = length links; lists = map (linked_handles links) ends }

-- the same once one list has become another
pub view-with_list : (links after : List Link) (ends es : List Ends) (old : HandleLists) (number : ℕ) (f : HandleLists → List ℕ) → view_of links ends ≡ old
    → length after ≡ length links → IsLinked after es (set (map (linked_handles links) ends) number (f (view_of links ends)))
    → view_of after es ≡ with_list old number (f old)
view-with_list links after ends es old number f is size linked =
    let P : HandleLists → Type 0 = λ o. view_of after es ≡ with_list o number (f o) in
    subst P is (rw (size, lists-view after es (set (map (linked_handles links) ends) number (f (view_of links ends))) linked) refl)

-- the ends that were read
pub read_ends : (links : List Link) (ends : List Ends) (old : HandleLists) (number : ℕ) (e : Ends) → view_of links ends ≡ old → number < length old.lists
    → e ≡ get_or ends number e → slice_get ends number ≡ Some e
read_ends links ends old number e is within read =
    let P : HandleLists → Type 0 = λ o. number < length o.lists in
    slice_get_read ends (length ends) number e refl (rw (← (length-map ends (linked_handles links))) (subst P (sym is) within)) read

-- a push, by what was required of it
pub pushed : (links : List Link) (ends : List Ends) (old : HandleLists) (number : ℕ) (e : Ends) (h : ℕ) → view_of links ends ≡ old
    → IsLinked links ends (map (linked_handles links) ends) → slice_get ends number ≡ Some e → slot_of h < old.places → NowhereAt (slot_of h) old.lists
    → IsLinked (links_with links e.last h) (set ends number (ends_with e (slot_of h)))
    (set (map (linked_handles links) ends) number (list_at (map (linked_handles links) ends) number ++ h ∷ []))
pushed links ends old number e h is linked at within nowhere =
    let P : HandleLists → Type 0 = λ o. slot_of h < o.places in
    let Q : HandleLists → Type 0 = λ o. NowhereAt (slot_of h) o.lists in
    IsLinked-push links ends (map (linked_handles links) ends) number e h linked at (subst P (sym is) within) (subst Q (sym is) nowhere)

-- a removal, by what was required of it
pub removed : (links : List Link) (ends : List Ends) (old : HandleLists) (number : ℕ) (h : ℕ) → view_of links ends ≡ old
    → IsLinked links ends (map (linked_handles links) ends) → has_handle h (list_at old.lists number) ≡ true
    → (e : Ends) × (slice_get ends number ≡ Some e) × Removal links ends (map (linked_handles links) ends) number e h
removed links ends old number h is linked has = by_ends (slice_get ends number) refl
  where
    there : has_handle h (list_at (map (linked_handles links) ends) number) ≡ true
    there = let P : HandleLists → Type 0 = λ o. has_handle h (list_at o.lists number) ≡ true in subst P (sym is) has

    by_ends : (o : Option Ends) → slice_get ends number ≡ o
        → (e : Ends) × (slice_get ends number ≡ Some e) × Removal links ends (map (linked_handles links) ends) number e h
    by_ends (Some e) at = (e, at, removal links ends (map (linked_handles links) ends) number e h linked at there)
    by_ends None past = grind (arith, nat_tests, list_at-past links ends number past, there)

-- a handle that has left its list stands in no list
pub removed_gone : (links : List Link) (ends : List Ends) (old : HandleLists) (number : ℕ) (h : ℕ) → view_of links ends ≡ old
    → IsLinked links ends (map (linked_handles links) ends) → has_handle h (list_at old.lists number) ≡ true
    → NowhereAt (slot_of h) (with_list old number (without_handle h (list_at old.lists number))).lists
removed_gone links ends old number h is linked has =
    let found = removed links ends old number h is linked has in
    let P : HandleLists → Type 0 = λ o. NowhereAt (slot_of h) (with_list o number (without_handle h (list_at o.lists number))).lists in
    let Q : HandleLists → Type 0 = λ o. has_handle h (list_at o.lists number) ≡ true in
    subst P is (gone found.0 found.1 (split h (list_at (map (linked_handles links) ends) number) (subst Q (sym is) has)))
  where
    lists : List (List ℕ)
    lists = map (linked_handles links) ends

    absent_before : (xs ys : List ℕ) → AreApart (xs ++ h ∷ ys) → stands_at (slot_of h) xs ≡ false
    absent_before xs ys apart = grind (arith, nat_tests, AreApart-across (slot_of h) xs (h ∷ ys) apart, stands-head h ys)

    gone : (e : Ends) → slice_get ends number ≡ Some e → Split h (list_at lists number)
        → NowhereAt (slot_of h) (set lists number (without_handle h (list_at lists number)))
    gone e at parts other =
        let list : IsList links e (parts.before ++ h ∷ parts.after) = rw parts.whole at (linked.each number e at) in
        let absent = absent-append (slot_of h) parts.before parts.after (absent_before parts.before parts.after list.apart)
        (AreApart-right parts.before (h ∷ parts.after) list.apart).0 in
        let here : stands_at (slot_of h) (list_at lists number) ≡ true =
        rw parts.whole (stands-right (slot_of h) parts.before (h ∷ parts.after) (stands-head h parts.after)) in
        let left = without_handle h (list_at lists number) in
        let within = slice_get_within ends number e at in
        let apart = linked.apart number other (slot_of h) here in
        grind (arith, nat_tests, list_at-set_same lists number left, list_at-set_other lists number other left)

-- what stands in a list without a handle stood in it before
pub stands-without : (place h : ℕ) (hs : List ℕ) → stands_at place (without_handle h hs) ≡ true → stands_at place hs ≡ true
stands-without place h [] stands = stands
stands-without place h (x ∷ hs) stands = grind (arith, nat_tests, stands-without place h hs)
