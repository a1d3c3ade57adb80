-- Where a line of a seat stands among the entries of a run, and one walk along the statements of a part, with their lines and replies.
use Rattle.settled_runs.proofs.Names.{nat_tests, ◌≡◌, ◌⊎◌, inl, inr, ℕ, Bool, true, false, cond, List, [], ◌∷◌, ◌++◌, length, refl, sym, ◌∙◌, ap, arith, ◌==◌, eqb-true, entry, NodeEntry, Line, line_with, lines_of, IfSome, map, slice_get, append-nil, append_assoc, suc, zero, Option, Some, ◌<◌, subst, MadeLines, Sort, Action, AreStatements, IsBoundAt, IsStatement, NodeSettings, Reply, Statement, call_of, handle_at, fst_true, snd_true, handle_of, some_same, AllGranted, GrantedTo, actions_in, Carried, binds, are_settled, is_settled_deed, ◌+◌, length-append, length_push, map_push, map-append, get_or_at, get_or_append_left, length-map, slice_get_cases}

pub same_head : {X : Type 0} (x y : X) (xs ys : List X) → x ∷ xs ≡ y ∷ ys → x ≡ y
same_head x y xs ys e = cc

pub same_tail : {X : Type 0} (x y : X) (xs ys : List X) → x ∷ xs ≡ y ∷ ys → xs ≡ ys
same_tail x y xs ys e = cc

pub no_end : {X : Type 0} (A : List X) (x : X) (B : List X) → [] ≡ A ++ x ∷ B → ⊥
no_end [] x B e = cc
no_end (a ∷ A) x B e = cc

-- of two places in one list the first one stands before the other, or they are one, or it stands behind it
pub record Earlier {X : Type 0} (A : List X) (x : X) (B C : List X) (y : X) (D : List X) : Type 0 where
  pub between : List X
  pub front : C ≡ A ++ x ∷ between
  pub back : B ≡ between ++ y ∷ D

pub record AtOne {X : Type 0} (A : List X) (x : X) (B C : List X) (y : X) (D : List X) : Type 0 where
  pub front : A ≡ C
  pub here : x ≡ y
  pub back : B ≡ D

abbrev pub Placed : {X : Type 0} → List X → X → List X → List X → X → List X → Type 0
Placed A x B C y D = Earlier A x B C y D ⊎ (AtOne A x B C y D ⊎ Earlier C y D A x B)

pub placed : {X : Type 0} (A : List X) (x : X) (B C : List X) (y : X) (D : List X) → A ++ x ∷ B ≡ C ++ y ∷ D → Placed A x B C y D
placed [] x B [] y D e = inr (inl (record { front = refl; here = same_head x y B D e; back = same_tail x y B D e }))
placed [] x B (c ∷ C) y D e = inl (record { between = C; front = λ i. sym (same_head x c B (C ++ y ∷ D) e) i ∷ C; back = same_tail x c B (C ++ y ∷ D) e })
placed (a ∷ A) x B [] y D e = inr (inr (record { between = A; front = λ i. same_head a y (A ++ x ∷ B) D e i ∷ A; back = sym (same_tail a y (A ++ x ∷ B) D e) }))
placed (a ∷ A) x B (c ∷ C) y D e = deeper (same_head a c _ _ e) (placed A x B C y D (same_tail a c _ _ e))
  where
    deeper : a ≡ c → Placed A x B C y D → Placed (a ∷ A) x B (c ∷ C) y D
    deeper h (inl p) = inl (record { between = p.between; front = λ i. sym h i ∷ p.front i; back = p.back })
    deeper h (inr (inl p)) = inr (inl (record { front = λ i. h i ∷ p.front i; here = p.here; back = p.back }))
    deeper h (inr (inr p)) = inr (inr (record { between = p.between; front = λ i. h i ∷ p.front i; back = p.back }))

-- Lines

pub lines_append : (who : ℕ) (P M : List NodeEntry) (ps ms : List ℕ) → length P ≡ length ps
    → lines_of who (P ++ M) (ps ++ ms) ≡ lines_of who P ps ++ lines_of who M ms
unfolding lines_of
lines_append who [] M [] ms l = refl
lines_append who (e ∷ P) M (n ∷ ps) ms l = grind (arith, lines_append who P M ps ms (omega arith))
lines_append who _ M _ ms l = absurd (omega arith)

-- the entry of a line, with the seat's lines before it and behind it
pub record Cut (who : ℕ) (es : List NodeEntry) (ns : List ℕ) (A : List Line) (l : Line) (B : List Line) : Type 0 where
  pub before : List NodeEntry
  pub behind : List NodeEntry
  pub first : List ℕ
  pub rest : List ℕ
  pub is : es ≡ before ++ entry who l.op l.reply ∷ behind
  pub numbers : ns ≡ first ++ l.beside ∷ rest
  pub same : length before ≡ length first
  pub alike : length es ≡ length ns → length behind ≡ length rest
  pub done : lines_of who before first ≡ A
  pub left : lines_of who behind rest ≡ B

pub cut : (who : ℕ) (es : List NodeEntry) (ns : List ℕ) (A : List Line) (l : Line) (B : List Line) → lines_of who es ns ≡ A ++ l ∷ B → Cut who es ns A l B
unfolding lines_of
cut who [] ns A l B i = absurd (no_end A l B i)
cut who (e ∷ es) [] A l B i = absurd (no_end A l B i)
cut who (e ∷ es) (n ∷ ns) A l B i = by (e.who == who) refl i (cut who es ns)
  where
    later : (C : List Line) → lines_of who (e ∷ []) (n ∷ []) ++ C ≡ A → Cut who es ns C l B → Cut who (e ∷ es) (n ∷ ns) A l B
    later C f c = record {
      before = e ∷ c.before;
      behind = c.behind;
      first = n ∷ c.first;
      rest = c.rest;
      is = λ j. e ∷ c.is j;
      numbers = λ j. n ∷ c.numbers j;
      same = omega arith;
      alike = λ k. c.alike (omega arith);
      done = lines_append who (e ∷ []) c.before (n ∷ []) c.first refl ∙ ap (λ (x : List Line). lines_of who (e ∷ []) (n ∷ []) ++ x) c.done ∙ f;
      left = c.left;
    }

    here : (e.who == who) ≡ true → line_with e.op e.reply n ≡ l → lines_of who es ns ≡ B → A ≡ [] → Cut who (e ∷ es) (n ∷ ns) A l B
    here w h r a = record {
      before = [];
      behind = es;
      first = [];
      rest = ns;
      is = λ j. entry (eqb-true e.who who w j) (h j).op (h j).reply ∷ es;
      numbers = λ j. (h j).beside ∷ ns;
      same = refl;
      alike = λ k. omega arith;
      done = sym a;
      left = r;
    }

    by : (b : Bool) → (e.who == who) ≡ b → cond b (line_with e.op e.reply n ∷ lines_of who es ns) (lines_of who es ns) ≡ A ++ l ∷ B
        → ((C : List Line) (x : Line) (D : List Line) → lines_of who es ns ≡ C ++ x ∷ D → Cut who es ns C x D) → Cut who (e ∷ es) (n ∷ ns) A l B
    by false w f k = later A (ap (λ (b : Bool). cond b (line_with e.op e.reply n ∷ []) [] ++ A) w) (k A l B f)
    by true w f k = first A refl f
      where
        first : (C : List Line) → C ≡ A → line_with e.op e.reply n ∷ lines_of who es ns ≡ C ++ l ∷ B → Cut who (e ∷ es) (n ∷ ns) A l B
        first [] c g = here w (same_head _ _ _ _ g) (same_tail _ _ _ _ g) (sym c)
        first (a ∷ C) c g = later C (ap (λ (b : Bool). cond b (line_with e.op e.reply n ∷ []) [] ++ C) w ∙ (λ j. same_head _ _ _ _ g j ∷ C)
            ∙ c) (k C l B (same_tail _ _ _ _ g))

-- the lines of any seat in two, and those of its own
pub cut_split : {who : ℕ} {es : List NodeEntry} {ns : List ℕ} {A : List Line} {l : Line} {B : List Line} (c : Cut who es ns A l B) (v : ℕ)
    → lines_of v es ns ≡ lines_of v c.before c.first ++ lines_of v (entry who l.op l.reply ∷ c.behind) (l.beside ∷ c.rest)
cut_split {who} {es} {ns} {A} {l} {B} c v = (λ i. lines_of v (c.is i) (c.numbers i))
    ∙ lines_append v c.before (entry who l.op l.reply ∷ c.behind) c.first (l.beside ∷ c.rest) c.same

-- Statements

pub get_front : {X : Type 0} (xs ys : List X) (n : ℕ) → n < length xs → slice_get (xs ++ ys) n ≡ slice_get xs n
get_front [] ys n l = absurd (omega arith)
get_front (x ∷ xs) ys zero l = refl
get_front (x ∷ xs) ys (suc n) l = get_front xs ys n (omega arith)

pub get_at : {X : Type 0} (xs : List X) (y : X) (ys : List X) → slice_get (xs ++ y ∷ ys) (length xs) ≡ Some y
get_at [] y ys = refl
get_at (x ∷ xs) y ys = get_at xs y ys

-- fronts of one length are one
pub same_front : {X : Type 0} (A : List X) (x : X) (B C : List X) (y : X) (D : List X) → A ++ x ∷ B ≡ C ++ y ∷ D → length A ≡ length C → A ≡ C
same_front [] x B [] y D e l = refl
same_front (a ∷ A) x B (c ∷ C) y D e l = λ i. same_head a c _ _ e i ∷ same_front A x B C y D (same_tail a c _ _ e) (omega arith) i
same_front _ x B _ y D e l = absurd (omega arith)

-- what stands at a place of a list with one more
get_last : {X : Type 0} (xs : List X) (x y : X) (n : ℕ) → slice_get (xs ++ x ∷ []) n ≡ Some y → (slice_get xs n ≡ Some y) ⊎ ((x ≡ y) × (length xs ≡ n))
get_last [] x y zero e = inr (some_same e, refl)
get_last [] x y (suc n) e = inl e
get_last (z ∷ xs) x y zero e = inl e
get_last (z ∷ xs) x y (suc n) e = grind (arith, nat_tests, get_last xs x y n)

-- the handle that a reply binds is that of its place
bound_here : (rs : List Reply) (r : Reply) (qs : List Reply) (n : ℕ) → length rs ≡ n → handle_at (map handle_of (rs ++ r ∷ qs)) n ≡ handle_of r
bound_here rs r qs n e = ap (λ (z : List ℕ). handle_at z n) (map-append handle_of rs (r ∷ qs))
    ∙ get_or_at (map handle_of rs) (handle_of r) (map handle_of qs) 0 n (length-map rs handle_of ∙ e)

pub handles_front : (rs : List Reply) (qs : List Reply) (n : ℕ) → n < length rs → handle_at (map handle_of (rs ++ qs)) n ≡ handle_at (map handle_of rs) n
handles_front rs qs n l = ap (λ (z : List ℕ). handle_at z n) (map-append handle_of rs qs)
    ∙ get_or_append_left (map handle_of rs) (map handle_of qs) 0 n (let m : length (map handle_of rs) ≡ length rs = length-map rs handle_of in omega arith)

-- Carried lists in pieces

pub carried_more : (bound : List ℕ) (ss ts : List Statement) (ls ks : List Line) (rs qs : List Reply) → Carried MadeLines bound ss ls rs
    → Carried MadeLines (bound ++ map handle_of rs) ts ks qs → Carried MadeLines bound (ss ++ ts) (ls ++ ks) (rs ++ qs)
unfolding Carried
carried_more bound [] ts ls ks [] qs a b =
    subst (λ (x : List Line). Carried MadeLines bound ts (x ++ ks) qs) (sym a) (subst (λ (x : List ℕ). Carried MadeLines x ts ks qs) (append-nil bound) b)
carried_more bound (s ∷ ss) ts ls ks (r ∷ rs) qs a b = (
  a.0,
  a.1 ++ ks,
  (ap (λ (x : List Line). x ++ ks) a.2 ∙ append_assoc a.0 a.1 ks),
  a.3,
  carried_more (bound ++ handle_of r ∷ []) ss ts a.1 ks rs qs a.4
      (subst (λ (x : List ℕ). Carried MadeLines x ts ks qs) (sym (append_assoc bound (handle_of r ∷ []) (map handle_of rs))) b),
)
carried_more bound _ ts ls ks _ qs a b = absurd a

-- a statement of a part, with its lines and its reply, and what stands before it and behind it
pub record Step (all : List Statement) (ls : List Line) (rs : List Reply) (s : Statement) : Type 0 where
  pub before : List Statement
  pub first : List Line
  pub replies : List Reply
  pub front : List Line
  pub reply : Reply
  pub rest : List Statement
  pub more : List Line
  pub others : List Reply
  pub parted : all ≡ before ++ s ∷ rest
  pub is : ls ≡ first ++ (front ++ more)
  pub told : rs ≡ replies ++ reply ∷ others
  pub carried : Carried MadeLines [] before first replies
  pub many : length replies ≡ length before
  pub made : MadeLines (call_of (map handle_of replies) s.deed) front reply

-- what holds before all statements, and is kept by each, holds behind them
module _ (all : List Statement) (ls : List Line) (rs : List Reply) (I : List Statement → List Line → List Reply → Type 0)
    (step : (s : Statement) (x : Step all ls rs s) → I x.before x.first x.replies
    → I (x.before ++ s ∷ []) (x.first ++ x.front) (x.replies ++ x.reply ∷ [])) where
  along_from : (before : List Statement) (l1 : List Line) (r1 : List Reply) (ss : List Statement) (ks : List Line) (qs : List Reply)
      → Carried MadeLines [] before l1 r1 → length r1 ≡ length before → Carried MadeLines (map handle_of r1) ss ks qs → all ≡ before ++ ss → ls ≡ l1 ++ ks
      → rs ≡ r1 ++ qs
      → I before l1 r1 → I all ls rs
  unfolding Carried
  along_from before l1 r1 [] ks [] c1 n c a e t i =
      subst (λ (x : List Statement). I x ls rs) (sym (a ∙ append-nil before))
      (subst (λ (x : List Line). I before x rs) (sym (e ∙ ap (λ (z : List Line). l1 ++ z) c ∙ append-nil l1))
      (subst (λ (x : List Reply). I before l1 x) (sym (t ∙ append-nil r1)) i))
  along_from before l1 r1 (s ∷ ss) ks (r ∷ qs) c1 n c a e t i =
      let e2 : ls ≡ l1 ++ (c.0 ++ c.1) = e ∙ ap (λ (z : List Line). l1 ++ z) c.2 in
      along_from (before ++ s ∷ []) (l1 ++ c.0) (r1 ++ r ∷ []) ss c.1 qs
      (carried_more [] before (s ∷ []) l1 c.0 r1 (r ∷ []) c1 (c.0, [], sym (append-nil c.0), c.3, refl))
      (length_push r1 r ∙ ap (λ (k : ℕ). k + 1) n
      ∙ sym (length_push before s)) (subst (λ (x : List ℕ). Carried MadeLines x ss c.1 qs) (sym (map_push handle_of r1 r)) c.4)
      (a ∙ sym (append_assoc before (s ∷ []) ss)) (e2 ∙ sym (append_assoc l1 c.0 c.1)) (t ∙ sym (append_assoc r1 (r ∷ []) qs))
      (step s (record {
        before = before;
        first = l1;
        replies = r1;
        front = c.0;
        reply = r;
        rest = ss;
        more = c.1;
        others = qs;
        parted = a;
        is = e2;
        told = t;
        carried = c1;
        many = n;
        made = c.3;
      }) i)
  along_from before l1 r1 _ ks _ c1 n c a e t i = absurd c

  pub along : Carried MadeLines [] all ls rs → I [] [] [] → I all ls rs
  unfolding Carried
  along c i = along_from [] [] [] all ls rs refl refl c refl refl refl i

-- What holds of all statements holds of the one of a step

pub are_front : (pre ss ts : List Statement) → AreStatements pre (ss ++ ts) → AreStatements pre ss
are_front pre [] ts a = tt
are_front pre (s ∷ ss) ts a = (a.0, are_front (pre ++ s ∷ []) ss ts a.1)

pub statement_at : (pre before : List Statement) (s : Statement) (rest : List Statement) → AreStatements pre (before ++ s ∷ rest)
    → IsStatement (pre ++ before) s
statement_at pre [] s rest a = subst (λ (x : List Statement). IsStatement x s) (sym (append-nil pre)) a.0
statement_at pre (t ∷ before) s rest a =
    subst (λ (x : List Statement). IsStatement x s) (append_assoc pre (t ∷ []) before) (statement_at (pre ++ t ∷ []) before s rest a.1)

pub deed_at : (settings : NodeSettings) (known : List Action) (all pre before : List Statement) (s : Statement) (rest : List Statement)
    → are_settled settings known all pre (before ++ s ∷ rest) ≡ true
    → is_settled_deed settings (known ++ actions_in (pre ++ before)) (pre ++ before) all s.deed ≡ true
unfolding are_settled
deed_at settings known all pre [] s rest e =
    subst (λ (x : List Statement). is_settled_deed settings (known ++ actions_in x) x all s.deed
    ≡ true) (sym (append-nil pre)) (fst_true _ (are_settled settings known all (pre ++ s ∷ []) rest) e)
deed_at settings known all pre (t ∷ before) s rest e =
    subst (λ (x : List Statement). is_settled_deed settings (known ++ actions_in x) x all s.deed ≡ true) (append_assoc pre (t ∷ []) before)
    (deed_at settings known all (pre ++ t ∷ []) before s rest (snd_true (is_settled_deed settings (known ++ actions_in pre) pre all t.deed) _ e))

-- and so it is of the statements before a place
pub deed_in : (settings : NodeSettings) (known : List Action) (all before more : List Statement) → all ≡ before ++ more
    → are_settled settings known all [] all ≡ true → (b : List Statement) (t : Statement) (rest : List Statement) → before ≡ b ++ t ∷ rest
    → is_settled_deed settings (known ++ actions_in b) b all t.deed ≡ true
deed_in settings known all before more i e b t rest j =
    deed_at settings known all [] b t (rest
    ++ more) (subst (λ (z : List Statement). are_settled settings known all [] z
    ≡ true) (i ∙ ap (λ (z : List Statement). z ++ more) j ∙ append_assoc b (t ∷ rest) more) e)

pub granted_at : (before : List Statement) (s : Statement) (rest : List Statement) (r1 : List Reply) (r : Reply) (others : List Reply)
    → length r1 ≡ length before → AllGranted (before ++ s ∷ rest) (r1 ++ r ∷ others) → AllGranted before r1 × GrantedTo s.deed r
granted_at [] s rest [] r others n a = (tt, a.0)
granted_at (t ∷ before) s rest (q ∷ r1) r others n a = let x = granted_at before s rest r1 r others (omega arith) a.1 in ((a.0, x.0), x.1)
granted_at _ s rest _ r others n a = absurd (omega arith)

pub granted_more : (before : List Statement) (r1 : List Reply) (s : Statement) (r : Reply) → AllGranted before r1 → length r1 ≡ length before
    → GrantedTo s.deed r → AllGranted (before ++ s ∷ []) (r1 ++ r ∷ [])
granted_more [] [] s r a l g = (g, tt)
granted_more (t ∷ before) (x ∷ r1) s r a l g = (a.0, granted_more before r1 s r a.1 (omega arith) g)
granted_more _ _ s r a l g = absurd (omega arith)

module _ {all : List Statement} {ls : List Line} {rs : List Reply} {s : Statement} (x : Step all ls rs s) where
  pub step_granted : AllGranted all rs → AllGranted x.before x.replies × GrantedTo s.deed x.reply
  step_granted g = granted_at x.before s x.rest x.replies x.reply x.others x.many
      (subst (λ (z : List Statement). AllGranted z (x.replies ++ x.reply ∷ x.others)) x.parted (subst (AllGranted all) x.told g))

  pub step_statement : AreStatements [] all → IsStatement x.before s
  step_statement a = statement_at [] x.before s x.rest (subst (AreStatements []) x.parted a)

  pub step_before : AreStatements [] all → AreStatements [] x.before
  step_before a = are_front [] x.before (s ∷ x.rest) (subst (AreStatements []) x.parted a)

  pub step_settled : (settings : NodeSettings) (known : List Action) → are_settled settings known all [] all ≡ true
      → is_settled_deed settings (known ++ actions_in x.before) x.before all s.deed ≡ true
  step_settled settings known e = deed_in settings known all all [] (sym (append-nil all)) e x.before s x.rest x.parted

-- The statement that a place stands for

pub record BoundBy (t : Sort) (before : List Statement) (place : ℕ) : Type 0 where
  pub statement : Statement
  pub found : slice_get before place ≡ Some statement
  pub binding : binds t statement.deed ≡ true
  pub early : place < length before

some_within : {X : Type 0} (xs : List X) (n : ℕ) → n < length xs → (x : X) × (slice_get xs n ≡ Some x)
some_within {X} xs n l = elim (slice_get_cases xs n).1 as (λ z. (x : X) × (slice_get xs n ≡ Some x)) [ inl x ↦ (x.0, x.2) | inr x ↦ absurd (omega arith) ]

pub bound_by : (t : Sort) (before : List Statement) (place : ℕ) → IsBoundAt t before place → BoundBy t before place
bound_by t before place b =
    let x = some_within before place b.0 in
    record { statement = x.0; found = x.1; binding = subst (λ (o : Option Statement). IfSome o (λ s. binds t s.deed ≡ true)) x.1 b.1; early = b.0 }

module _ {all : List Statement} {ls : List Line} {rs : List Reply} {s : Statement} (x : Step all ls rs s) where
  pub step_found : (t : Sort) (place : ℕ) (b : BoundBy t x.before place) → slice_get all place ≡ Some b.statement
  step_found t place b = ap (λ (z : List Statement). slice_get z place) x.parted ∙ get_front x.before (s ∷ x.rest) place b.early ∙ b.found

  pub step_longer : (t : Sort) (place : ℕ) → BoundBy t x.before place → BoundBy t all place
  step_longer t place b = record {
    statement = b.statement;
    found = step_found t place b;
    binding = b.binding;
    early = (let k : place < length x.before = b.early in let n : length all ≡ length x.before + length (s ∷ x.rest) = ap length x.parted
        ∙ length-append x.before (s ∷ x.rest) in omega arith);
  }

  pub step_shorter : (t : Sort) (place : ℕ) → place < length x.before → BoundBy t all place → BoundBy t x.before place
  step_shorter t place l b = record {
    statement = b.statement;
    found = sym (get_front x.before (s ∷ x.rest) place l) ∙ ap (λ (z : List Statement). slice_get z place) (sym x.parted) ∙ b.found;
    binding = b.binding;
    early = l;
  }

  pub step_handle : (place : ℕ) → place < length x.before → handle_at (map handle_of rs) place ≡ handle_at (map handle_of x.replies) place
  step_handle place l = ap (λ (z : List Reply). handle_at (map handle_of z) place) x.told
      ∙ handles_front x.replies (x.reply ∷ x.others) place (let n : length x.replies ≡ length x.before = x.many in omega arith)

  -- a place that is bound behind some statements is bound behind all, with the same handle
  pub step_bound : (t : Sort) (place : ℕ) → IsBoundAt t x.before place
      → BoundBy t all place × (handle_at (map handle_of rs) place ≡ handle_at (map handle_of x.replies) place)
  step_bound t place b = (step_longer t place (bound_by t x.before place b), step_handle place b.0)

pub record Found (all : List Statement) (ls : List Line) (rs : List Reply) (place : ℕ) (s : Statement) : Type 0 where
  pub step : Step all ls rs s
  pub early : length step.before ≡ place

pub found : (all : List Statement) (ls : List Line) (rs : List Reply) → Carried MadeLines [] all ls rs → (place : ℕ) (s : Statement)
    → slice_get all place ≡ Some s
    → Found all ls rs place s
found all ls rs c =
    along all ls rs (λ b l r. (place : ℕ) (s : Statement) → slice_get b place ≡ Some s → Found all ls rs place s)
    (λ t x i place s e. elim (get_last x.before t s place e) as (λ k. Found all ls rs place s) [
      | inl k ↦ i place s k
      | inr k ↦
          subst (Found all ls rs place) k.0 (record { step = x; early = k.1 })
    ]) c (λ place s e. absurd (cc))

module _ {all : List Statement} {ls : List Line} {rs : List Reply} {place : ℕ} {s : Statement} (f : Found all ls rs place s) where
  pub found_bound : handle_at (map handle_of rs) place ≡ handle_of f.step.reply
  found_bound = ap (λ (x : List Reply). handle_at (map handle_of x) place) f.step.told
      ∙ bound_here f.step.replies f.step.reply f.step.others place (f.step.many ∙ f.early)

  pub found_granted : AllGranted all rs → GrantedTo s.deed f.step.reply
  found_granted g = (step_granted f.step g).1
