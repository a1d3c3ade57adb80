-- What a list of handles in the order of a number keeps as what is kept of one handle changes.
use Rattle.task_board.proofs.Names.{◌≡◌, ◌≢◌, ℕ, ◌<◌, true, false, List, [], ◌∷◌, ◌++◌, Option, Some, None, refl, sym, ◌∙◌, ap, subst, inl, inr, arith, ◌||◌, nat_tests, cases_eq, has_handle, without_handle, RisesByNumber, ListsBy, AreKeyed, cases_Bool}

-- the value of one handle has become this, and all else is as it was
pub record Put {A : Type 0} (at : ℕ → A) (h : ℕ) (x : A) (after : ℕ → A) : Type 0 where
  pub here : after h ≡ x
  pub others : (k : ℕ) → k ≢ h → after k ≡ at k

-- what is read of the values
pub put-by : {A B : Type 0} (f : A → B) (at after : ℕ → A) (h : ℕ) (x : A) → Put at h x after → Put (λ k. f (at k)) h (f x) (λ k. f (after k))
put-by f at after h x m = record { here = ap f m.here; others = λ k d. ap f (m.others k d) }

-- what was there before is put back
pub put-same : {A : Type 0} (at after : ℕ → A) (h : ℕ) (x : A) → Put at h x after → x ≡ at h → (k : ℕ) → after k ≡ at k
put-same at after h x e1 e2 k = grind (arith, nat_tests)

-- Handles in a list

pub has-append : (h : ℕ) (xs ys : List ℕ) → has_handle h (xs ++ ys) ≡ (has_handle h xs || has_handle h ys)
has-append h [] ys = refl
has-append h (x ∷ xs) ys = grind (arith, has-append h xs ys)

pub has-self : (x : ℕ) (xs : List ℕ) → has_handle x (x ∷ xs) ≡ true
has-self x xs = grind (arith, nat_tests)

pub has-later : (k x : ℕ) (xs : List ℕ) → has_handle k xs ≡ true → has_handle k (x ∷ xs) ≡ true
has-later k x xs e = grind arith

pub has-behind : (k x : ℕ) (xs : List ℕ) → x ≢ k → has_handle k (x ∷ xs) ≡ true → has_handle k xs ≡ true
has-behind k x xs d e = grind (arith, nat_tests)

pub has-sub : (k h : ℕ) (hs : List ℕ) → has_handle k (without_handle h hs) ≡ true → has_handle k hs ≡ true
has-sub k h [] e = e
has-sub k h (x ∷ xs) e = grind (arith, has-sub k h xs)

pub has-without : (h k : ℕ) (hs : List ℕ) → k ≢ h → has_handle k (without_handle h hs) ≡ has_handle k hs
has-without h k [] d = refl
has-without h k (x ∷ xs) d = grind (arith, nat_tests, has-without h k xs d)

pub without-absent : (h : ℕ) (hs : List ℕ) → has_handle h hs ≡ false → without_handle h hs ≡ hs
without-absent h [] e = refl
without-absent h (x ∷ xs) e = grind (arith, without-absent h xs)

pub without-first : (h : ℕ) (hs : List ℕ) → without_handle h (h ∷ hs) ≡ hs
without-first h hs = grind (arith, nat_tests)

pub without-middle : (h : ℕ) (xs ys : List ℕ) → has_handle h xs ≡ false → without_handle h (xs ++ h ∷ ys) ≡ xs ++ ys
without-middle h [] ys e = without-first h ys
without-middle h (x ∷ xs) ys e = grind (arith, without-middle h xs ys)

pub has-itself : (h : ℕ) (xs ys : List ℕ) → has_handle h (xs ++ h ∷ ys) ≡ true
has-itself h xs ys = grind (arith, nat_tests, has-append h xs (h ∷ ys))

module _ {A : Type 0} (number : A → ℕ) where
  -- what is kept has the numbers that it had
  pub rises-as : (at after : ℕ → Option A) (hs : List ℕ)
      → ((k : ℕ) (s : A) → has_handle k hs ≡ true → after k ≡ Some s → (u : A) × (at k ≡ Some u) × (number u ≡ number s)) → RisesByNumber number at hs
      → RisesByNumber number after hs
  rises-as at after [] agree o = tt
  rises-as at after (x ∷ xs) agree o = grind (arith, nat_tests, rises-as at after xs, has-self, has-later)

  pub rises-same : (at after : ℕ → Option A) (hs : List ℕ) → ((k : ℕ) → has_handle k hs ≡ true → after k ≡ at k) → RisesByNumber number at hs
      → RisesByNumber number after hs
  rises-same at after hs agree = rises-as at after hs (λ k s e f. (s, sym (agree k e) ∙ f, refl))

  pub rises-push : (at after : ℕ → Option A) (h : ℕ) (s : A) (hs : List ℕ) → ((k : ℕ) → has_handle k hs ≡ true → after k ≡ at k) → after h ≡ Some s
      → ((k : ℕ) (u : A) → at k ≡ Some u → number u < number s) → RisesByNumber number at hs → RisesByNumber number after (hs ++ h ∷ [])
  rises-push at after h s [] agree here below o = (λ k a u e f g. absurd (cc), tt)
  rises-push at after h s (x ∷ xs) agree here below o = grind (arith, nat_tests, rises-push at after h s xs, has-self, has_handle, has-later, has-append)

  pub rises-without : (at : ℕ → Option A) (h : ℕ) (hs : List ℕ) → RisesByNumber number at hs → RisesByNumber number at (without_handle h hs)
  rises-without at h [] o = tt
  rises-without at h (x ∷ xs) o =
      let front = λ (k : ℕ) (s u : A) (e : has_handle k (without_handle h xs) ≡ true). o.0 k s u (has-sub k h xs e) in
      grind (arith, nat_tests, rises-without at h xs o.1)

  -- a handle of which something is kept stands once in a list that rises
  pub not-twice : (at : ℕ → Option A) (h : ℕ) (s : A) (hs : List ℕ) → at h ≡ Some s → RisesByNumber number at (h ∷ hs) → has_handle h hs ≡ true → ⊥
  not-twice at h s hs e o on = let less = o.0 h s s on e e in omega (arith, less)

  pub once : (at : ℕ → Option A) (h : ℕ) (s : A) (hs : List ℕ) → at h ≡ Some s → RisesByNumber number at hs → has_handle h (without_handle h hs) ≡ true → ⊥
  once at h s [] e o on = absurd (cc)
  once at h s (x ∷ xs) e o on = elim (cases_eq x h) [
    | inl is ↦ not-twice at h s xs e (subst (λ (z : ℕ). RisesByNumber number at (z ∷ xs)) is o) (grind (arith, nat_tests))
    | inr away ↦ once at h s xs e o.1 (grind (arith, nat_tests))
  ]

  -- no handle in front of one of which something is kept is this one again
  pub not-before : (at : ℕ → Option A) (h : ℕ) (s : A) (xs ys : List ℕ) → at h ≡ Some s → RisesByNumber number at (xs ++ h ∷ ys) → has_handle h xs ≡ false
  not-before at h s [] ys e o = refl
  not-before at h s (x ∷ xs) ys e o =
      let apart : x ≡ h → ⊥ = λ is. not-twice at h s (xs ++ h
      ∷ ys) e (subst (λ (z : ℕ). RisesByNumber number at (z ∷ xs ++ h ∷ ys)) is o) (has-append h xs (h ∷ ys)
      ∙ grind (arith, nat_tests)) in
      grind (arith, nat_tests, apart, not-before at h s xs ys e o.1)

  -- two lists that rise and have the same handles are the same
  pub same-order : (at : ℕ → Option A) (xs ys : List ℕ) → ((h : ℕ) → has_handle h xs ≡ true → (s : A) × (at h ≡ Some s)) → RisesByNumber number at xs
      → RisesByNumber number at ys → ((h : ℕ) → has_handle h xs ≡ true → has_handle h ys ≡ true) → ((h : ℕ) → has_handle h ys ≡ true → has_handle h xs ≡ true)
      → xs ≡ ys
  same-order at [] [] live a b there back = refl
  same-order at [] (y ∷ ys) live a b there back = absurd (cc (back y (has-self y ys)))
  same-order at (x ∷ xs) [] live a b there back = absurd (cc (there x (has-self x xs)))
  same-order at (x ∷ xs) (y ∷ ys) live a b there back =
      let rest = same-order at xs ys (λ h e. live h (has-later h x xs e)) a.1 b.1 on off in
      λ i. first i ∷ rest i
    where
      sx : (s : A) × (at x ≡ Some s)
      sx = live x (has-self x xs)

      sy : (s : A) × (at y ≡ Some s)
      sy = live y (back y (has-self y ys))

      first : x ≡ y
      first = elim (cases_eq x y) [
        | inl e ↦ e
        | inr d ↦
            let p = a.0 y sx.0 sy.0 (has-behind y x xs d (back y (has-self y ys))) sx.1 sy.1 in
            let q = b.0 x sy.0 sx.0 (has-behind x y ys (λ z. d (sym z)) (there x (has-self x xs))) sy.1 sx.1 in
            absurd (omega (arith, p, q))
      ]

      on : (h : ℕ) → has_handle h xs ≡ true → has_handle h ys ≡ true
      on h e = elim (cases_eq y h) [
        | inl z ↦ absurd (not-twice at x sx.0 xs sx.1 a (ap (λ (k : ℕ). has_handle k xs) (first ∙ z) ∙ e))
        | inr d ↦ has-behind h y ys d (there h (has-later h x xs e))
      ]

      off : (h : ℕ) → has_handle h ys ≡ true → has_handle h xs ≡ true
      off h e = elim (cases_eq x h) [
        | inl z ↦ absurd (not-twice at y sy.0 ys sy.1 b (ap (λ (k : ℕ). has_handle k ys) (sym first ∙ z) ∙ e))
        | inr d ↦ has-behind h x xs d (back h (has-later h y ys e))
      ]

  module _ (Passes : A → Type 0) where
    -- what is kept of a handle of the list is now kept of another one too, or of none
    pub lists-push : (at after : ℕ → Option A) (h : ℕ) (s : A) (hs : List ℕ) → Put at h (Some s) after → at h ≡ None → Passes s
        → ((k : ℕ) (u : A) → at k ≡ Some u → number u < number s) → ListsBy number Passes at hs → ListsBy number Passes after (hs ++ h ∷ [])
    lists-push at after h s hs move none is less old = record {
      ordered = rises-push at after h s hs (λ k e. move.others k (apart k e)) move.here less old.ordered;
      listed = λ k u e n. grind (arith, nat_tests, has-append k hs (h ∷ []), old.listed k u, move.others k);
      is_seen = λ k e. grind (arith, nat_tests, has-append k hs (h ∷ []), old.is_seen k, move.others k);
    }
      where
        apart : (k : ℕ) → has_handle k hs ≡ true → k ≢ h
        apart k e z = let u = old.is_seen k e in absurd (cc (sym none ∙ ap at (sym z) ∙ u.1))

    pub lists-leave : (at after : ℕ → Option A) (h : ℕ) (x : Option A) (hs : List ℕ) → Put at h x after → ((s : A) → x ≡ Some s → Passes s → ⊥)
        → ListsBy number Passes at hs → ListsBy number Passes after (without_handle h hs)
    lists-leave at after h x hs move left old = record {
      ordered = rises-same at after (without_handle h hs) (λ k e. move.others k (apart k e)) (rises-without at h hs old.ordered);
      listed = λ k u e n. grind (arith, nat_tests, left u, has-without h k hs, old.listed k u, move.others k);
      is_seen = λ k e. grind (arith, nat_tests, has-without h k hs, apart k e, old.is_seen k, move.others k);
    }
      where
        apart : (k : ℕ) → has_handle k (without_handle h hs) ≡ true → k ≢ h
        apart k e z =
            let on = ap (λ (j : ℕ). has_handle j (without_handle h hs)) (sym z) ∙ e in
            let was = old.is_seen h (has-sub h h hs on) in
            once at h was.0 hs was.1 old.ordered on

    -- what was kept of the handle didn't pass, nor does what is kept now
    pub lists-aside : (at after : ℕ → Option A) (h : ℕ) (x : Option A) (hs : List ℕ) → Put at h x after → ((s : A) → at h ≡ Some s → Passes s → ⊥)
        → ((s : A) → x ≡ Some s → Passes s → ⊥) → ListsBy number Passes at hs → ListsBy number Passes after hs
    lists-aside at after h x hs move was is old =
        subst (λ (l : List ℕ). ListsBy number Passes after l) (without-absent h hs off) (lists-leave at after h x hs move is old)
      where
        off : has_handle h hs ≡ false
        off = elim (cases_Bool (has_handle h hs)) [ inl e ↦ let s = old.is_seen h e in absurd (was s.0 s.1 s.2) | inr e ↦ e ]

    -- the one in the middle leaves
    pub lists-middle : (at after : ℕ → Option A) (h : ℕ) (xs ys : List ℕ) → Put at h None after → ListsBy number Passes at (xs ++ h ∷ ys)
        → ListsBy number Passes after (xs ++ ys)
    lists-middle at after h xs ys move old =
        let s = old.is_seen h (has-itself h xs ys) in
        subst (λ (l : List ℕ). ListsBy number Passes after l) (without-middle h xs ys (not-before at h s.0 xs ys s.1 old.ordered))
        (lists-leave at after h None (xs ++ h ∷ ys) move (λ u e n. absurd (cc)) old)

    pub lists-once : (at : ℕ → Option A) (xs ys : List ℕ) → ListsBy number Passes at xs → ListsBy number Passes at ys → xs ≡ ys
    lists-once at xs ys a b =
        same-order at xs ys (λ h e. let s = a.is_seen h e in (s.0, s.1)) a.ordered b.ordered
        (λ h e. let s = a.is_seen h e in b.listed h s.0 s.1 s.2) (λ h e. let s = b.is_seen h e in a.listed h s.0 s.1 s.2)

-- The handles that have a number

numbered : (key : ℕ → Option ℕ) (hs : List ℕ) → AreKeyed key hs → ListsBy (λ n. n) (λ n. Unit {0}) key hs
numbered key hs old = record { listed = λ h a e u. old.listed h a e; is_seen = λ h e. let a = old.has_key h e in (a.0, a.1, tt); ordered = old.rises }

are-keyed : (key : ℕ → Option ℕ) (hs : List ℕ) → ListsBy (λ n. n) (λ n. Unit {0}) key hs → AreKeyed key hs
are-keyed key hs new = record { listed = λ h a e. new.listed h a e tt; has_key = λ h e. let a = new.is_seen h e in (a.0, a.1); rises = new.ordered }

-- the same numbers
pub keyed-same : (key after : ℕ → Option ℕ) (hs : List ℕ) → ((h : ℕ) → after h ≡ key h) → AreKeyed key hs → AreKeyed after hs
keyed-same key after hs same old = subst (λ (f : ℕ → Option ℕ). AreKeyed f hs) (sym (λ i h. same h i)) old

-- a handle gets a number that is greater than all others
pub keyed-push : (key after : ℕ → Option ℕ) (h n : ℕ) (hs : List ℕ) → Put key h (Some n) after → key h ≡ None → ((k b : ℕ) → key k ≡ Some b → b < n)
    → AreKeyed key hs → AreKeyed after (hs ++ h ∷ [])
keyed-push key after h n hs move new below old =
    are-keyed after _ (lists-push (λ n. n) (λ n. Unit {0}) key after h n hs move new tt below (numbered key hs old))

-- a handle has no number any more
pub keyed-leave : (key after : ℕ → Option ℕ) (h : ℕ) (hs : List ℕ) → Put key h None after → AreKeyed key hs → AreKeyed after (without_handle h hs)
keyed-leave key after h hs move old = are-keyed after _
    (lists-leave (λ n. n) (λ n. Unit {0}) key after h None hs move (λ n e u. absurd (cc)) (numbered key hs old))

-- the first has no number any more
pub keyed-first : (key after : ℕ → Option ℕ) (h : ℕ) (hs : List ℕ) → Put key h None after → AreKeyed key (h ∷ hs) → AreKeyed after hs
keyed-first key after h hs move old = subst (λ (l : List ℕ). AreKeyed after l) (without-first h hs) (keyed-leave key after h (h ∷ hs) move old)
