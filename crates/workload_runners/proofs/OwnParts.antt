-- Where a seat's own entries stand in a history that goes on behind what the seat has seen.
use Rattle.workload_runners.proofs.Names.{[], ◌++◌, ◌<◌, ◌==◌, ◌∙◌, ◌∷◌, ◌≡◌, ◌≤◌, BySeats, Close, Final, HasSeenMore, List, NodeEntry, Op, Reply, Seat, StartsWith, NodeTurned, ap, append-nil, append_assoc, arith, cond, entries-append, entries_of, entry, false, nat_tests, refl, self_is, subst, sym, ℕ}
use Rattle.workload_runners.proofs.TurnMarks.{Cut, first_own}

pub own_one : (w : ℕ) (e : NodeEntry) → e.who ≡ w → entries_of w (e ∷ []) ≡ e ∷ []
own_one w e s = (λ i. cond (s i == w) (e ∷ []) []) ∙ ap (λ c. cond c (e ∷ []) []) (self_is w)

-- where an entry of the seat stands, behind these of its own
pub own_at : (w : ℕ) (xs H : List NodeEntry) (e : NodeEntry) (ys : List NodeEntry) → entries_of w H ≡ xs ++ e ∷ ys
    → (A : List NodeEntry) × (B : List NodeEntry) × (H ≡ A ++ e ∷ B)
own_at w [] H e ys k = let c : Cut w H e ys = first_own w H e ys k in (c.before, c.behind, c.is)
own_at w (x ∷ xs) H e ys k =
    let c : Cut w H x (xs ++ e ∷ ys) = first_own w H x (xs ++ e ∷ ys) k in
    let r = own_at w xs c.behind e ys c.rest in
    (c.before ++ x ∷ r.0, r.1, c.is ∙ (ap (λ (L : List NodeEntry). c.before ++ x ∷ L) r.2 ∙ sym (append_assoc c.before (x ∷ r.0) (e ∷ r.1))))

same_back : (xs ys zs : List NodeEntry) → xs ++ ys ≡ xs ++ zs → ys ≡ zs
same_back [] ys zs e = e
same_back (x ∷ xs) ys zs e = same_back xs ys zs (tail e)
  where
    tail : x ∷ (xs ++ ys) ≡ x ∷ (xs ++ zs) → xs ++ ys ≡ xs ++ zs
    tail i = cc

nothing_more : (xs ys : List NodeEntry) → xs ++ ys ≡ xs → ys ≡ []
nothing_more xs ys e = same_back xs ys [] (e ∙ sym (append-nil xs))

pub no_front : (xs ys : List NodeEntry) → xs ++ ys ≡ [] → xs ≡ []
no_front [] ys e = refl
no_front (x ∷ xs) ys e = absurd (cc)

no_back : (xs ys : List NodeEntry) → xs ++ ys ≡ [] → ys ≡ []
no_back [] ys e = e
no_back (x ∷ xs) ys e = absurd (cc)

-- where a prefix has all entries of the seat, the rest has none
pub prefix_rest : (w : ℕ) (H F R mine : List NodeEntry) → H ≡ F ++ R → entries_of w F ≡ mine → entries_of w H ≡ mine → entries_of w R ≡ []
prefix_rest w H F R mine is own all =
    nothing_more mine (entries_of w R) (ap (λ (l : List NodeEntry). l ++ entries_of w R) (sym own)
    ∙ (sym (entries-append w F R) ∙ (ap (λ (l : List NodeEntry). entries_of w l) (sym is) ∙ all)))

pub others_front : (w : ℕ) (A B : List NodeEntry) → entries_of w (A ++ B) ≡ [] → entries_of w A ≡ []
others_front w A B n = no_front (entries_of w A) (entries_of w B) (sym (entries-append w A B) ∙ n)

pub others_back : (w : ℕ) (A B : List NodeEntry) → entries_of w (A ++ B) ≡ [] → entries_of w B ≡ []
others_back w A B n = no_back (entries_of w A) (entries_of w B) (sym (entries-append w A B) ∙ n)

pub others_tail : (w : ℕ) (e : NodeEntry) (es : List NodeEntry) → entries_of w (e ∷ es) ≡ [] → entries_of w es ≡ []
others_tail w e es n = others_back w (e ∷ []) es n

-- a part that begins with all entries of the seat has them, and the rest has none
pub record HasAll (w : ℕ) (S R mine : List NodeEntry) : Type 0 where
  pub there : entries_of w S ≡ mine
  pub none : entries_of w R ≡ []

pub known_front : (w : ℕ) (H S R F mine : List NodeEntry) → StartsWith S F → entries_of w F ≡ mine → H ≡ S ++ R → entries_of w H ≡ mine → HasAll w S R mine
known_front w H S R F mine begins own is all =
    let more = begins.0 in
    let whole : H ≡ F ++ (more ++ R) = is ∙ (ap (λ (l : List NodeEntry). l ++ R) begins.1 ∙ append_assoc F more R) in
    let none = others_back w more R (prefix_rest w H F (more ++ R) mine whole own all) in
    let sum : entries_of w S ++ entries_of w R ≡ mine = sym (entries-append w S R) ∙ (ap (λ (l : List NodeEntry). entries_of w l) (sym is) ∙ all) in
    record { there = (sym (append-nil (entries_of w S)) ∙ ap (λ (l : List NodeEntry). entries_of w S ++ l) (sym none)) ∙ sum; none = none }

-- the same, where what others did follows
pub has_longer : (w : ℕ) (S M R mine : List NodeEntry) → HasAll w S (M ++ R) mine → HasAll w (S ++ M) R mine
has_longer w S M R mine h = record {
  there = entries-append w S M ∙ ((λ i. h.there i ++ others_front w M R h.none i) ∙ append-nil mine);
  none = others_back w M R h.none;
}

-- Seats out of range

differ : (a b : ℕ) → a < b → (a == b) ≡ false
differ a b l = grind (arith, nat_tests)

pub beyond : (n who : ℕ) (L : List NodeEntry) → BySeats n L → n ≤ who → entries_of who L ≡ []
beyond n who [] b l = refl
beyond n who (e ∷ es) b l =
    (let low : e.who < who = (let x = b.0 in omega arith) in λ i. cond (differ e.who who low i) (e ∷ entries_of who es) (entries_of who es))
    ∙ beyond n who es b.1 l

pub by_back : (n : ℕ) (A B : List NodeEntry) → BySeats n (A ++ B) → BySeats n B
by_back n [] B b = b
by_back n (e ∷ A) B b = by_back n A B b.1

-- a list of which no seat has an entry is empty
pub nobody : (n : ℕ) (L : List NodeEntry) → BySeats n L → ((k : ℕ) → k < n → entries_of k L ≡ []) → L ≡ []
nobody n [] b f = refl
nobody n (e ∷ es) b f =
    absurd (no_entry (ap (λ c. cond c (e ∷ entries_of e.who es) (entries_of e.who es)) (sym (self_is e.who)) ∙ f e.who b.0))
  where
    no_entry : e ∷ entries_of e.who es ≡ [] → ⊥
    no_entry i = cc

-- How main ended: what it knew before it closed, and what stands behind

pub own_after : (old new : Seat) (o : Op) (r : Reply) → NodeTurned old o r new → entries_of old.number new.seen ≡ new.mine
own_after old new o r t =
    let n = old.number in let e = entry n o r in
    ap (λ (l : List NodeEntry). entries_of n l) t.seen
    ∙ (entries-append n (old.seen ++ t.between) (e ∷ [])
    ∙ ((λ i. entries-append n old.seen t.between i ++ own_one n e refl i)
    ∙ ((λ i. (t.before i ++ t.others i) ++ e ∷ []) ∙ (ap (λ (l : List NodeEntry). l ++ e ∷ []) (append-nil old.mine) ∙ sym t.mine))))

pub record MainCuts (w : ℕ) (H own : List NodeEntry) (a b : Reply) : Type 0 where
  pub before : List NodeEntry
  pub behind : List NodeEntry
  pub rest : List NodeEntry
  pub is : H ≡ before ++ entry w Close a ∷ (behind ++ entry w Final b ∷ rest)
  pub main_before : entries_of w before ≡ own
  pub main_behind : entries_of w behind ≡ []
  pub main_rest : entries_of w rest ≡ []

regroup : (p x y r : List NodeEntry) (c f : NodeEntry) → ((((p ++ c ∷ []) ++ x) ++ y) ++ f ∷ []) ++ r ≡ p ++ c ∷ ((x ++ y) ++ f ∷ r)
regroup p x y r c f = simp append_assoc

regroup_front : (p x y : List NodeEntry) (c : NodeEntry) → ((p ++ c ∷ []) ++ x) ++ y ≡ p ++ c ∷ (x ++ y)
regroup_front p x y c = simp append_assoc

regroup_back : (p y r : List NodeEntry) (f : NodeEntry) → ((p ++ y) ++ f ∷ []) ++ r ≡ p ++ (y ++ f ∷ r)
regroup_back p y r f = simp append_assoc

-- main met others and closed; it met others again, and made its final call
pub record Ending (w : ℕ) (m1 m2 m3 m4 : Seat) (a b : Reply) : Type 0 where
  pub number : m1.number ≡ w
  pub closed : NodeTurned m1 Close a m2
  pub more : HasSeenMore m2 m3
  pub final : NodeTurned m3 Final b m4

module _ (w : ℕ) (m1 m2 m3 m4 : Seat) (a b : Reply) (x : Ending w m1 m2 m3 m4 a b) (H : List NodeEntry) (begins : StartsWith H m4.seen)
    (all : entries_of m4.number H ≡ m4.mine) where
  pub third : m3.number ≡ w
  third = x.more.number ∙ (x.closed.same.number ∙ x.number)

  pub fourth : m4.number ≡ w
  fourth = x.final.same.number ∙ third

  -- what main had seen when it met the others for the last time
  pub seen_then_closed : m3.seen ≡ ((m1.seen ++ x.closed.between) ++ entry w Close a ∷ []) ++ x.more.seen.0
  seen_then_closed = x.more.seen.1 ∙ ap (λ (l : List NodeEntry). l ++ x.more.seen.0) (x.closed.seen
      ∙ ap (λ (n : ℕ). (m1.seen ++ x.closed.between) ++ entry n Close a ∷ []) x.number)

  pub whole_is : H ≡ ((m3.seen ++ x.final.between) ++ entry w Final b ∷ []) ++ begins.0
  whole_is = begins.1 ∙ ap (λ (l : List NodeEntry). l ++ begins.0) (x.final.seen ∙ ap (λ (n : ℕ). (m3.seen ++ x.final.between) ++ entry n Final b ∷ []) third)

  pub main_before : entries_of w (m1.seen ++ x.closed.between) ≡ m1.mine
  main_before =
      subst (λ (n : ℕ). entries_of n (m1.seen ++ x.closed.between) ≡ m1.mine) x.number
      (entries-append m1.number m1.seen x.closed.between ∙ ((λ i. x.closed.before i ++ x.closed.others i) ∙ append-nil m1.mine))

  -- between the two calls main made none
  pub none_more : entries_of w x.more.seen.0 ≡ []
  none_more =
      let own : entries_of w m2.seen ≡ m2.mine = subst (λ (n : ℕ). entries_of n m2.seen ≡ m2.mine) x.number (own_after m1 m2 Close a x.closed) in
      let now : entries_of w m3.seen ≡ m2.mine = subst (λ (n : ℕ). entries_of n m3.seen ≡ m3.mine) third x.final.before ∙ x.more.mine in
      prefix_rest w m3.seen m2.seen x.more.seen.0 m2.mine x.more.seen.1 own now

  pub none_between : entries_of w x.final.between ≡ []
  none_between = subst (λ (n : ℕ). entries_of n x.final.between ≡ []) third x.final.others

  pub none_behind : entries_of w (x.more.seen.0 ++ x.final.between) ≡ []
  none_behind = entries-append w x.more.seen.0 x.final.between ∙ (λ i. none_more i ++ none_between i)

  pub none_rest : entries_of w begins.0 ≡ []
  none_rest =
      prefix_rest w H m4.seen begins.0 m4.mine begins.1
      (subst (λ (n : ℕ). entries_of n m4.seen ≡ m4.mine) third (own_after m3 m4 Final b x.final))
      (subst (λ (n : ℕ). entries_of n H ≡ m4.mine) fourth all)

  pub in_order : H ≡ (m1.seen ++ x.closed.between) ++ entry w Close a ∷ ((x.more.seen.0 ++ x.final.between) ++ entry w Final b ∷ begins.0)
  in_order =
      whole_is
      ∙ (ap (λ (l : List NodeEntry). ((l ++ x.final.between) ++ entry w Final b ∷ []) ++ begins.0) seen_then_closed
      ∙ regroup (m1.seen ++ x.closed.between) x.more.seen.0 x.final.between begins.0 (entry w Close a) (entry w Final b))

  -- what main had seen before its final call
  pub before_final : m3.seen ++ x.final.between ≡ (m1.seen ++ x.closed.between) ++ entry w Close a ∷ (x.more.seen.0 ++ x.final.between)
  before_final = ap (λ (l : List NodeEntry). l ++ x.final.between) seen_then_closed
      ∙ regroup_front (m1.seen ++ x.closed.between) x.more.seen.0 x.final.between (entry w Close a)

  pub whole_from : H ≡ m3.seen ++ (x.final.between ++ entry w Final b ∷ begins.0)
  whole_from = whole_is ∙ regroup_back m3.seen x.final.between begins.0 (entry w Final b)

  abbrev pub main_cuts : MainCuts w H m1.mine a b
  main_cuts = record {
    before = m1.seen ++ x.closed.between;
    behind = x.more.seen.0 ++ x.final.between;
    rest = begins.0;
    is = in_order;
    main_before = main_before;
    main_behind = none_behind;
    main_rest = none_rest;
  }
