-- How many entries of a run ask for an op of some class: the statements bound it.
use Rattle.settled_runs.proofs.Names.{Each, ◌≡◌, ℕ, suc, ◌+◌, ◌≤◌, Bool, true, false, List, [], ◌∷◌, ◌++◌, length, refl, ◌∙◌, ap, subst, arith, ◌==◌, ◌&&◌, ◌||◌, nat_le, map, flat_map, nat_tests, eq-eqb, both_true, snd_true, how_many, Deed, Statement, Part, Workload, Op, Reply, handle_of, NodeEntry, Call, Once, Looking, call_of, Line, MadeLines, entries_that, BySeats, true_false, lines_of, Carried, all_statements, Layout, entry}
use Rattle.settled_runs.proofs.{Along.Step, Along.along, Along.Cut, Granted.bit}
use Rattle.settled_runs.proofs.Each.{AllSeats, CallEach, OnlyBy, PartAt, each_map, each_of, is_outside, run_each, run_parts, work_outside, RanSettled, each_op, map_run, seats_are}

-- How many pass

module _ {X : Type 0} where
  pub many_append : (p : X → Bool) (xs ys : List X) → how_many p (xs ++ ys) ≡ how_many p xs + how_many p ys
  many_append p [] ys = omega arith
  many_append p (x ∷ xs) ys = let k : how_many p (xs ++ ys) ≡ how_many p xs + how_many p ys = many_append p xs ys in omega arith

  pub many_none : (p : X → Bool) (xs : List X) → Each (λ x. p x ≡ false) xs → how_many p xs ≡ 0
  many_none p [] a = refl
  many_none p (x ∷ xs) a = let e : bit (p x) ≡ 0 = ap bit a.0 in let k : how_many p xs ≡ 0 = many_none p xs a.1 in omega arith

  -- what passes the first test passes one of the others
  pub many_or : (p q r : X → Bool) (xs : List X) → Each (λ x. p x ≡ true → (q x || r x) ≡ true) xs → how_many p xs ≤ how_many q xs + how_many r xs
  many_or p q r [] a = omega arith
  many_or p q r (x ∷ xs) a = grind (arith, a.0, many_or p q r xs a.1)

  pub many_within : (p q : X → Bool) (xs : List X) → Each (λ x. p x ≡ true → q x ≡ true) xs → how_many p xs ≤ how_many q xs
  many_within p q [] a = omega arith
  many_within p q (x ∷ xs) a = grind (arith, a.0, many_within p q xs a.1)

pub entries_are : (p : NodeEntry → Bool) (es : List NodeEntry) → entries_that p es ≡ how_many p es
entries_are p es = grind (arith, nat_tests)

-- Entries and lines that ask for such an op

abbrev pub asks : (Op → Bool) → List NodeEntry → ℕ
asks p es = how_many (λ e. p e.op) es

abbrev pub asked : (Op → Bool) → List Line → ℕ
asked p ls = how_many (λ l. p l.op) ls

-- entries that pass ask for it, so they are no more than those that ask
pub entries_asks : (p : Op → Bool) (q : NodeEntry → Bool) → ((e : NodeEntry) → q e ≡ true → p e.op ≡ true) → (L : List NodeEntry) → entries_that q L ≤ asks p L
entries_asks p q f L = omega (arith, many_within q (λ e. p e.op) L (each_of (λ (e : NodeEntry). q e ≡ true → p e.op ≡ true) f L), entries_are q L)

-- the lines of a seat are its entries
own_asks : (p : Op → Bool) (who : ℕ) (es : List NodeEntry) (ns : List ℕ) → length es ≡ length ns
    → how_many (λ e. (e.who == who) && p e.op) es ≡ asked p (lines_of who es ns)
unfolding lines_of
own_asks p who [] ns l = refl
own_asks p who (e ∷ es) [] l = absurd (omega arith)
own_asks p who (e ∷ es) (m ∷ ns) l = grind (arith, own_asks p who es ns (omega arith))

-- so they ask no more often than all entries
pub seat_asks : (p : Op → Bool) (who : ℕ) (L : List NodeEntry) (ks : List ℕ) → length L ≡ length ks → asked p (lines_of who L ks) ≤ asks p L
seat_asks p who L ks l = omega (
  arith,
  many_within (λ e. (e.who == who)
      && p e.op) (λ e. p e.op) L (each_of (λ (e : NodeEntry). ((e.who == who) && p e.op) ≡ true
      → p e.op ≡ true) (λ e i. snd_true (e.who == who) _ i) L),
  own_asks p who L ks l,
)

-- where only this seat asks for it, the entries ask no more often than its lines
pub only_asks : (who : ℕ) (p : Op → Bool) (L : List NodeEntry) (ks : List ℕ) → length L ≡ length ks → OnlyBy who p L → asks p L ≤ asked p (lines_of who L ks)
only_asks who p L ks l o = omega (
  arith,
  many_within (λ e. p e.op) (λ e. (e.who == who)
      && p e.op) L (each_map (λ (e : NodeEntry). p e.op ≡ true → e.who ≡ who) (λ (e : NodeEntry). p e.op ≡ true
      → ((e.who == who) && p e.op) ≡ true) (λ e f i. both_true _ _ (eq-eqb e.who who (f i)) i) L o),
  own_asks p who L ks l,
)

-- the entries before a line's, its own and those behind it
pub cut_asks : {who : ℕ} {es : List NodeEntry} {ns : List ℕ} {A : List Line} {l : Line} {B : List Line} (c : Cut who es ns A l B) (p : Op → Bool)
    → asks p es ≡ asks p c.before + (bit (p l.op) + asks p c.behind)
cut_asks {who} {l} c p = ap (asks p) c.is ∙ many_append (λ e. p e.op) c.before (entry who l.op l.reply ∷ c.behind)

-- how often a call may ask for it
abbrev pub CallAsks : (Op → Bool) → ℕ → Call → Type 0
CallAsks p n (Once o) = bit (p o) ≤ n
CallAsks p n (Looking waits o timeout) = bit (p (o false)) + bit (p (o true)) ≡ 0

pub no_bit : (b : Bool) → bit b ≡ 0 → b ≡ false
no_bit b e1 = grind (arith, nat_tests)

module _ (p : Op → Bool) where
  made_asks : (c : Call) (n : ℕ) (ls : List Line) (r : Reply) → CallAsks p n c → MadeLines c ls r → asked p ls ≤ n
  made_asks c n ls r e1 e2 = grind (arith, nat_tests)

  -- a call that may not ask for it does not
  pub calls_none : (c : Call) (b : Bool) → CallAsks p (bit b) c → b ≡ false → CallEach (λ o. p o ≡ false) c
  calls_none c b e1 e2 = grind (arith, nat_tests)

  -- where each statement of a class asks for it once at most, and no other does
  pub statements_ask : (q : Deed → Bool) (all : List Statement) (ls : List Line) (rs : List Reply) → Carried MadeLines [] all ls rs
      → ((s : Statement) (x : Step all ls rs s) → CallAsks p (bit (q s.deed)) (call_of (map handle_of x.replies) s.deed))
      → asked p ls ≤ how_many (λ s. q s.deed) all
  statements_ask q all ls rs c per =
      along all ls rs (λ b l r. asked p l ≤ how_many (λ s. q s.deed) b) (λ s x i.
      let j : asked p x.front ≤ bit (q s.deed) = made_asks (call_of (map handle_of x.replies) s.deed) (bit (q s.deed)) x.front x.reply (per s x) x.made in
      omega (arith, i, j, many_append (λ l. p l.op) x.first x.front, many_append (λ z. q z.deed) x.before (s ∷ []))) c (omega arith)

-- but for the ops at the begin and at the end of a seat, only statements of the second class ask for ops of the first, one each
pub record IsClass (p : Op → Bool) (q : Deed → Bool) : Type 0 where
  pub calls : (bound : List ℕ) (d : Deed) → CallAsks p (bit (q d)) (call_of bound d)
  pub outside : (o : Op) → is_outside o ≡ true → p o ≡ false

pub outside_none : (p : Op → Bool) → ((o : Op) → is_outside o ≡ true → p o ≡ false) → (ls : List Line) → Each (λ l. is_outside l.op ≡ true) ls → asked p ls ≡ 0
outside_none p out ls a = many_none (λ l. p l.op) ls (each_op (λ o. is_outside o ≡ true) (λ o. p o ≡ false) out ls a)

module _ {p : Op → Bool} {q : Deed → Bool} (k : IsClass p q) {layout : Layout} {load : Workload} {es : List NodeEntry} {ns : List ℕ}
    (u : RanSettled layout load es ns) where
  seat_class : (w : ℕ) (x : Part) (rs : List Reply) → PartAt load es ns w x rs → asked p (lines_of w es ns) ≤ how_many (λ s. q s.deed) x.statements
  seat_class w x rs y =
      let a : asked p y.start ≡ 0 = outside_none p k.outside y.start y.first in
      let b : asked p y.body ≤ how_many (λ s. q s.deed) x.statements =
      statements_ask p q x.statements y.body rs y.carried (λ s z. k.calls (map handle_of z.replies) s.deed) in
      let c : asked p y.finish ≡ 0 = outside_none p k.outside y.finish y.last in
      let d : asked p (lines_of w es ns) ≡ asked p y.start + asked p (y.body ++ y.finish) =
      ap (asked p) y.is ∙ many_append (λ l. p l.op) y.start (y.body ++ y.finish) in
      let e : asked p (y.body ++ y.finish) ≡ asked p y.body + asked p y.finish = many_append (λ l. p l.op) y.body y.finish in
      omega arith

  -- the entries of seats from this one on
  abbrev later : ℕ → NodeEntry → Bool
  later first e = nat_le first e.who && p e.op

  none_later : (n : ℕ) (L : List NodeEntry) → BySeats n L → Each (λ e. later n e ≡ false) L
  none_later n [] b = tt
  none_later n (e ∷ es) b = (grind (arith, nat_tests, b.0), none_later n es b.1)

  seats_ask : (first : ℕ) (ps : List Part) (rss : List (List Reply)) → AllSeats (PartAt load es ns) first ps rss → BySeats (first + length ps) es
      → how_many (later first) es ≤ how_many (λ s. q s.deed) (flat_map (λ x. x.statements) ps)
  seats_ask first [] rss a b = let z : how_many (later first) es ≡ 0 =
      many_none (later first) es (none_later first es (subst (λ (n : ℕ). BySeats n es) (let e : first + 0 ≡ first = omega arith in e) b)) in omega arith
  seats_ask first (x ∷ ps) [] a b = absurd a
  seats_ask first (x ∷ ps) (rs ∷ rss) a b =
      let c : how_many (later first) es ≤ how_many (λ e. (e.who == first) && p e.op) es + how_many (later (suc first)) es =
      many_or (later first) (λ e. (e.who == first)
      && p e.op) (later (suc first)) es (each_of (λ (e : NodeEntry). later first e ≡ true
      → (((e.who == first) && p e.op) || later (suc first) e) ≡ true) (λ e i. grind (arith, nat_tests)) es) in
      let d : how_many (λ e. (e.who == first) && p e.op) es ≡ asked p (lines_of first es ns) = own_asks p first es ns u.same in
      let f : asked p (lines_of first es ns) ≤ how_many (λ s. q s.deed) x.statements = seat_class first x rs a.0 in
      let g : how_many (later (suc first)) es ≤ how_many (λ s. q s.deed) (flat_map (λ y. y.statements) ps) =
      seats_ask (suc first) ps rss a.1 (subst (λ (n : ℕ). BySeats n es) (let e : first + suc (length ps) ≡ suc first + length ps = omega arith in e) b) in
      let h : how_many (λ s. q s.deed) (x.statements ++ flat_map (λ y. y.statements) ps)
      ≡ how_many (λ s. q s.deed) x.statements + how_many (λ s. q s.deed) (flat_map (λ y. y.statements) ps) =
      many_append (λ s. q s.deed) x.statements (flat_map (λ y. y.statements) ps) in
      omega arith

  -- the entries of a run that ask for it are no more than the statements
  pub run_asks : asks p es ≤ how_many (λ s. q s.deed) (all_statements load)
  run_asks =
      let a : asks p es ≤ how_many (later load.settings.workers) es =
      many_within (λ e. p e.op) (later load.settings.workers) es
      (run_each u (λ e. p e.op ≡ true → later load.settings.workers e ≡ true) (λ w o r i j. true_false j (k.outside o (work_outside o i)))
      (map_run u (PartAt load es ns) (λ w x rs. Each (λ l. p l.op ≡ true → (nat_le load.settings.workers w && p l.op) ≡ true) (lines_of w es ns))
      (λ w x rs i y. each_of (λ (l : Line). p l.op ≡ true
      → (nat_le load.settings.workers w && p l.op)
      ≡ true) (λ l j. both_true _ _ (let n : nat_le load.settings.workers w ≡ true = grind (arith, nat_tests) in n) j)
      (lines_of w es ns)) (run_parts u))) in
      let c : how_many (later load.settings.workers) es ≤ how_many (λ s. q s.deed) (all_statements load) =
      seats_ask load.settings.workers load.parts u.run.replies (run_parts u) (seats_are u) in
      omega arith
