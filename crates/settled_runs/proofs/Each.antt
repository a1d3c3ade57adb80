-- What holds of each line of a seat, and of each entry of a run.
use Rattle.settled_runs.proofs.Names.{Each, list_any, list_all, flat_map, ap, append_assoc, arith, cond, refl, suc, sym, ◌∙◌, Bool, List, Option, [], false, length, true, ℕ, ◌++◌, ◌+◌, ◌<◌, ◌∷◌, ◌≡◌, ◌≤◌, subst, append-nil, eq-eqb, eqb-true, or_left, or_right, list_any-append, nat_lt, not, ◌==◌, nat_tests, MadeLines, line_with, Line, before_it, head_lines, in_lines, tail_of_main, Action, BySeats, Call, Looking, Once, CallerRan, MainRan, PartsRan, NodeEntry, NodeSettings, Op, Part, Reply, RunOf, WorkerRan, is_work, Statement, Workload, entry, fst_true, not_true, snd_true, true_false, has_room, are_settled_parts, has_one_fault_a_group, is_settled_further, is_settled_part, set_up, action_in, actions_in, all_statements, lines_of, CallersRan, Carried, has_begin, all_work, are_settled, has_different_ids, has_one_kind_a_job, is_settled, keep_limits, sets_up_first, inl, inr, cases_eq, Timeout, LookedLines, whether, Layout, Legal, SettledRun, by_seats, call_of, handle_of, map, opening, run_terms}
use Rattle.settled_runs.proofs.Along.{Cut, Step, along}

module _ {X : Type 0} (P : X → Type 0) where
  pub each_both : (xs ys : List X) → Each P xs → Each P ys → Each P (xs ++ ys)
  each_both [] ys a b = b
  each_both (x ∷ xs) ys a b = (a.0, each_both xs ys a.1 b)

  pub each_front : (xs ys : List X) → Each P (xs ++ ys) → Each P xs
  each_front [] ys a = tt
  each_front (x ∷ xs) ys a = (a.0, each_front xs ys a.1)

  pub each_behind : (xs ys : List X) → Each P (xs ++ ys) → Each P ys
  each_behind [] ys a = a
  each_behind (x ∷ xs) ys a = each_behind xs ys a.1

  pub each_of : ((x : X) → P x) → (xs : List X) → Each P xs
  each_of f [] = tt
  each_of f (x ∷ xs) = (f x, each_of f xs)

pub each_map : {X : Type 0} (P Q : X → Type 0) → ((x : X) → P x → Q x) → (xs : List X) → Each P xs → Each Q xs
each_map P Q f [] a = tt
each_map P Q f (x ∷ xs) a = (f x a.0, each_map P Q f xs a.1)

-- Calls

-- each op of the call
abbrev pub CallEach : (Op → Type 0) → Call → Type 0
CallEach P (Once o) = P o
CallEach P (Looking waits o timeout) = (last : Bool) → P (o last)

module _ (P : Op → Type 0) where
  pub made_each : (c : Call) (ls : List Line) (r : Reply) → CallEach P c → MadeLines c ls r → Each (λ l. P l.op) ls
  made_each c ls r e1 e2 = grind (arith, nat_tests)

  pub step_each : {all : List Statement} {ls : List Line} {rs : List Reply} {s : Statement} (x : Step all ls rs s)
      → CallEach P (call_of (map handle_of x.replies) s.deed) → Each (λ l. P l.op) x.front
  step_each {s} x e = made_each (call_of (map handle_of x.replies) s.deed) x.front x.reply e x.made

  -- the lines of statements
  pub statements_each : (all : List Statement) (ls : List Line) (rs : List Reply) → Carried MadeLines [] all ls rs
      → ((s : Statement) (x : Step all ls rs s) → Each (λ l. P l.op) x.front) → Each (λ l. P l.op) ls
  statements_each all ls rs c per = along all ls rs (λ b l r. Each (λ k. P k.op) l) (λ s x i. each_both (λ (k : Line). P k.op) x.first x.front i (per s x)) c tt

-- a call that keeps no look has one line
pub one_look : (o : Bool → Op) (t : Timeout) (ls : List Line) (r : Reply) (m : LookedLines false o t ls r) → ls ≡ line_with (o m.last) r m.beside ∷ []
one_look o t ls r m = m.is ∙ ap (λ (x : Option ℕ). before_it (o false) x ++ line_with (o m.last) r m.beside ∷ []) (m.none_kept refl)

-- what each line of these asks for
pub each_op : (P Q : Op → Type 0) → ((o : Op) → P o → Q o) → (ls : List Line) → Each (λ l. P l.op) ls → Each (λ l. Q l.op) ls
each_op P Q f ls a = each_map (λ (l : Line). P l.op) (λ (l : Line). Q l.op) (λ l e. f l.op e) ls a

-- Workers

-- the op is one of a worker
abbrev pub is_at_work : Op → Bool
is_at_work Op.Pick = true
is_at_work (Op.Finish t done) = true
is_at_work (Op.Asked t) = true
is_at_work (Op.WatchEnd t) = true
is_at_work (Op.TallyLock t) = true
is_at_work (Op.TallyRead t) = true
is_at_work (Op.TallyWrite t value) = true
is_at_work (Op.TallyEnd t) = true
is_at_work _ = false

-- the op is one of a worker, or one that moves the phase
abbrev pub is_outside : Op → Bool
is_outside Op.Initialize = true
is_outside Op.Release = true
is_outside Op.Enter = true
is_outside Op.Close = true
is_outside Op.Final = true
is_outside o = is_at_work o

pub work_outside : (o : Op) → is_at_work o ≡ true → is_outside o ≡ true
work_outside o e1 = grind (arith, nat_tests)

at_work : (o : Op) (r : Reply) → is_work o r ≡ true → is_at_work o ≡ true
at_work o r e1 = grind (arith, nat_tests)

all_at_work : (ls : List Line) → all_work ls ≡ true → Each (λ l. is_at_work l.op ≡ true) ls
unfolding all_work
all_at_work [] e = tt
all_at_work (l ∷ ls) e = (at_work l.op l.reply (fst_true _ (all_work ls) e), all_at_work ls (snd_true (is_work l.op l.reply) _ e))

pub worker_each : (ls : List Line) → WorkerRan ls → Each (λ l. is_at_work l.op ≡ true) ls
worker_each ls x = subst (Each (λ (l : Line). is_at_work l.op ≡ true)) (sym x.is)
    (each_both (λ (l : Line). is_at_work l.op ≡ true) x.work (line_with Op.Pick Reply.Stop x.beside ∷ []) (all_at_work x.work x.works) (refl, tt))

-- Entries

-- what each seat's lines are, the entries are
entries_each : (Q : NodeEntry → Type 0) (n : ℕ) (es : List NodeEntry) (ns : List ℕ) → length es ≡ length ns → BySeats n es
    → ((w : ℕ) → w < n → Each (λ l. Q (entry w l.op l.reply)) (lines_of w es ns)) → Each Q es
unfolding lines_of
entries_each Q n [] ns l b k = tt
entries_each Q n (e ∷ es) [] l b k = absurd (omega arith)
entries_each Q n (e ∷ es) (m ∷ ns) l b k = (
  (subst (λ (c : Bool). Each (λ x. Q (entry e.who x.op x.reply)) (cond c (line_with e.op e.reply m ∷ lines_of e.who es ns) (lines_of e.who es ns)))
      (eq-eqb e.who e.who refl) (k e.who b.0)).0,
  entries_each Q n es ns (omega arith) b.1
      (λ w i. grind (arith, nat_tests, k w i)),
)

-- only this seat asks for such an op
abbrev pub IsBy : ℕ → (Op → Bool) → NodeEntry → Type 0
IsBy who p e = p e.op ≡ true → e.who ≡ who

abbrev pub OnlyBy : ℕ → (Op → Bool) → List NodeEntry → Type 0
OnlyBy who p es = Each (IsBy who p) es

-- what each entry is, those before a line's and those behind it are
module _ {who : ℕ} {es : List NodeEntry} {ns : List ℕ} {A : List Line} {l : Line} {B : List Line} (c : Cut who es ns A l B) (Q : NodeEntry → Type 0)
    (a : Each Q es) where
  pub cut_before : Each Q c.before
  cut_before = each_front Q c.before (entry who l.op l.reply ∷ c.behind) (subst (Each Q) c.is a)

  pub cut_behind : Each Q c.behind
  cut_behind = (each_behind Q c.before (entry who l.op l.reply ∷ c.behind) (subst (Each Q) c.is a)).1

-- so what its lines are, the entries are, if those are that don't ask for it
pub own_each : (who : ℕ) (p : Op → Bool) (Q : NodeEntry → Type 0) (L : List NodeEntry) (ks : List ℕ) → length L ≡ length ks → OnlyBy who p L
    → ((e : NodeEntry) → p e.op ≡ false → Q e) → Each (λ l. Q (entry who l.op l.reply)) (lines_of who L ks) → Each Q L
unfolding lines_of
own_each who p Q [] ks n o f k = tt
own_each who p Q (e ∷ es) [] n o f k = absurd (omega arith)
own_each who p Q (e ∷ es) (m ∷ ks) n o f k = grind (arith, nat_tests, o.0, f e, own_each who p Q es ks (omega arith) o.1 f)

-- The seats of parts

abbrev pub AllSeats : (ℕ → Part → List Reply → Type 0) → ℕ → List Part → List (List Reply) → Type 0
AllSeats R first [] rss = Unit {0}
AllSeats R first (p ∷ ps) [] = ⊥
AllSeats R first (p ∷ ps) (rs ∷ rss) = R first p rs × AllSeats R (suc first) ps rss

-- what holds of no seats, and of one more before others, holds of these
pub fold_seats : (R : ℕ → Part → List Reply → Type 0) (F : ℕ → List Part → List (List Reply) → Type 0) (base : ℕ)
    → ((w : ℕ) (rss : List (List Reply)) → F w [] rss)
    → ((w : ℕ) (p : Part) (rs : List Reply) (ps : List Part) (rss : List (List Reply)) → base ≤ w → R w p rs → F (suc w) ps rss → F w (p ∷ ps) (rs ∷ rss))
    → (first : ℕ) (ps : List Part) (rss : List (List Reply)) → base ≤ first → AllSeats R first ps rss → F first ps rss
fold_seats R F base z f first [] rss l a = z first rss
fold_seats R F base z f first (p ∷ ps) [] l a = absurd a
fold_seats R F base z f first (p ∷ ps) (rs ∷ rss) l a = f first p rs ps rss l a.0 (fold_seats R F base z f (suc first) ps rss (omega arith) a.1)

pub map_seats : (R S : ℕ → Part → List Reply → Type 0) (base : ℕ) → ((w : ℕ) (p : Part) (rs : List Reply) → base ≤ w → R w p rs → S w p rs)
    → (first : ℕ) (ps : List Part) (rss : List (List Reply)) → base ≤ first → AllSeats R first ps rss → AllSeats S first ps rss
map_seats R S base f = fold_seats R (AllSeats S) base (λ w rss. tt) (λ w p rs ps rss l x a. (f w p rs l x, a))

pub with_each : (R : ℕ → Part → List Reply → Type 0) (P : Part → Type 0) (first : ℕ) (ps : List Part) (rss : List (List Reply)) → AllSeats R first ps rss
    → Each P ps → AllSeats (λ w p rs. R w p rs × P p) first ps rss
with_each R P first [] rss a e = tt
with_each R P first (p ∷ ps) [] a e = absurd a
with_each R P first (p ∷ ps) (rs ∷ rss) a e = ((a.0, e.0), with_each R P (suc first) ps rss a.1 e.1)

seat_of : (R : ℕ → Type 0) (first : ℕ) (ps : List Part) (rss : List (List Reply)) → AllSeats (λ w p rs. R w) first ps rss → (w : ℕ) → first ≤ w
    → w < first + length ps → R w
seat_of R first [] rss a w l k = absurd (omega arith)
seat_of R first (p ∷ ps) [] a w l k = absurd a
seat_of R first (p ∷ ps) (rs ∷ rss) a w l k =
    elim (cases_eq w first) as (λ z. R w) [ inl i ↦ subst R (sym i) a.0 | inr n ↦ seat_of R (suc first) ps rss a.1 w (omega (arith, n)) (omega arith) ]

-- each action that passes among the first passes among the second
abbrev pub Within : List Action → List Action → Type 0
Within xs ys = (p : Action → Bool) → list_any p xs ≡ true → list_any p ys ≡ true

pub any_left : {X : Type 0} (p : X → Bool) (xs ys : List X) → list_any p xs ≡ true → list_any p (xs ++ ys) ≡ true
any_left p xs ys e = list_any-append p xs ys ∙ or_left _ _ e

any_right : {X : Type 0} (p : X → Bool) (xs ys : List X) → list_any p ys ≡ true → list_any p (xs ++ ys) ≡ true
any_right p xs ys e = list_any-append p xs ys ∙ or_right _ _ e

pub actions_append : (ss ts : List Statement) → actions_in (ss ++ ts) ≡ actions_in ss ++ actions_in ts
actions_append [] ts = refl
actions_append (s ∷ ss) ts = ap (λ x. action_in s.deed ++ x) (actions_append ss ts) ∙ sym (append_assoc (action_in s.deed) (actions_in ss) (actions_in ts))

pub within_front : (ss ts : List Statement) (ys : List Action) → Within (actions_in (ss ++ ts)) ys → Within (actions_in ss) ys
within_front ss ts ys w p e = w p (ap (list_any p) (actions_append ss ts) ∙ any_left p (actions_in ss) (actions_in ts) e)

pub within_behind : (ss ts : List Statement) (ys : List Action) → Within (actions_in (ss ++ ts)) ys → Within (actions_in ts) ys
within_behind ss ts ys w p e = w p (ap (list_any p) (actions_append ss ts) ∙ any_right p (actions_in ss) (actions_in ts) e)

-- What a settled workload keeps

pub record Whole (load : Workload) : Type 0 where
  pub parts : are_settled_parts load.settings load.parts ≡ true
  pub kinds : has_one_kind_a_job (actions_in (all_statements load)) ≡ true
  pub ids : has_different_ids (all_statements load) ≡ true
  pub room : has_room load.settings (all_statements load) ≡ true
  pub limits : list_all (λ p. keep_limits p.statements 0 p.statements) load.parts ≡ true
  pub faults : list_all (has_one_fault_a_group (actions_in (all_statements load))) load.parts ≡ true

pub settled_whole : (load : Workload) → is_settled load ≡ true → Whole load
unfolding is_settled
settled_whole load e1 = grind (arith, nat_tests)

-- the settled parts
pub record Parts (settings : NodeSettings) (p : Part) (ps : List Part) : Type 0 where
  pub main : are_settled settings [] p.statements [] p.statements ≡ true
  pub first : (x : Part) (xs : List Part) → ps ≡ x ∷ xs → sets_up_first p.statements ≡ true
  pub further : list_all (is_settled_further settings (actions_in p.statements)) ps ≡ true

pub parts_are : (settings : NodeSettings) (p : Part) (ps : List Part) → are_settled_parts settings (p ∷ ps) ≡ true → Parts settings p ps
parts_are settings p ps e1 = grind (arith, nat_tests)

module _ (load : Workload) (es : List NodeEntry) (ns : List ℕ) where
  -- the lines of a seat that runs a part
  pub record PartAt (w : ℕ) (p : Part) (rs : List Reply) : Type 0 where
    pub start : List Line
    pub body : List Line
    pub finish : List Line
    pub known : List Action
    pub is : lines_of w es ns ≡ start ++ (body ++ finish)
    pub carried : Carried MadeLines [] p.statements body rs
    pub first : Each (λ l. is_outside l.op ≡ true) start
    pub last : Each (λ l. is_outside l.op ≡ true) finish
    -- a further caller enters, and asks for nothing else outside its statements
    pub enters : load.settings.workers < w → Each (λ l. l.op ≡ Op.Enter) (start ++ finish)
    pub settled : are_settled load.settings known p.statements [] p.statements ≡ true
    pub no_set_up : load.settings.workers < w → set_up p.statements ≡ false
    pub within : Within (actions_in p.statements) (actions_in (all_statements load))

  pub main_first : (b : Bool) → Each (λ l. is_outside l.op ≡ true) (head_lines b)
  main_first b = grind (arith, nat_tests)

  abbrev pub main_at : (p : Part) (rs : List Reply) → MainRan in_lines p.statements (lines_of load.settings.workers es ns) rs
      → are_settled load.settings [] p.statements [] p.statements ≡ true → Within (actions_in p.statements) (actions_in (all_statements load))
      → PartAt load.settings.workers p rs
  main_at p rs x e w = record {
    start = head_lines (has_begin p.statements);
    body = x.body;
    finish = tail_of_main;
    known = [];
    is = x.is;
    carried = x.carried;
    first = main_first (has_begin p.statements);
    last = (refl, (refl, tt));
    enters = λ k. absurd (omega arith);
    settled = e;
    no_set_up = λ k. absurd (omega arith);
    within = w;
  }

  abbrev pub caller_at : (known : List Action) (w : ℕ) (p : Part) (rs : List Reply) → CallerRan in_lines p.statements (lines_of w es ns) rs
      → is_settled_further load.settings known p ≡ true → Within (actions_in p.statements) (actions_in (all_statements load)) → PartAt w p rs
  caller_at known w p rs x e v = record {
    start = line_with Op.Enter Reply.Ok x.entered.0 ∷ [];
    body = x.body;
    finish = [];
    known = known;
    is = x.is ∙ (λ i. x.entered.1 i ++ sym (append-nil x.body) i);
    carried = x.carried;
    first = (refl, tt);
    last = tt;
    enters = λ k. (refl, tt);
    settled = snd_true (not (set_up p.statements)) _ e;
    no_set_up = λ k. not_true _ (fst_true _ (is_settled_part load.settings known p) e);
    within = v;
  }

  pub callers_at : (known : List Action) (first : ℕ) (ps : List Part) (rss : List (List Reply)) → CallersRan in_lines (λ who. lines_of who es ns) first ps rss
      → list_all (is_settled_further load.settings known) ps ≡ true → Within (actions_in (flat_map (λ p. p.statements) ps)) (actions_in (all_statements load))
      → AllSeats PartAt first ps rss
  unfolding CallersRan
  callers_at known first [] rss c e w = tt
  callers_at known first (p ∷ ps) [] c e w = absurd c
  callers_at known first (p ∷ ps) (rs ∷ rss) c e w = (
    caller_at known first p rs c.0 (fst_true _ (list_all (is_settled_further load.settings known) ps) e)
        (within_front p.statements (flat_map (λ q. q.statements) ps) _ w),
    callers_at known (suc first) ps rss c.1 (snd_true (is_settled_further load.settings known p) _ e)
        (within_behind p.statements (flat_map (λ q. q.statements) ps) _ w),
  )

  parts_at : (ps : List Part) (rss : List (List Reply)) → PartsRan in_lines (λ who. lines_of who es ns) load.settings.workers ps rss
      → are_settled_parts load.settings ps ≡ true → Within (actions_in (flat_map (λ p. p.statements) ps)) (actions_in (all_statements load))
      → AllSeats PartAt load.settings.workers ps rss
  parts_at (p ∷ ps) (rs ∷ rss) c e w =
      let x : Parts load.settings p ps = parts_are load.settings p ps e in (
        main_at p rs c.0 x.main (within_front p.statements (flat_map (λ q. q.statements) ps) _ w),
        callers_at (actions_in p.statements) (suc load.settings.workers) ps rss c.1 x.further
            (within_behind p.statements (flat_map (λ q. q.statements) ps) _ w),
      )
  parts_at _ _ c e w = absurd c

-- a run of a settled workload, of whose form nothing is said
pub record RanSettled (layout : Layout) (load : Workload) (es : List NodeEntry) (ns : List ℕ) : Type 0 where
  pub settled : is_settled load ≡ true
  pub legal : Legal (run_terms layout load) es
  pub same : length es ≡ length ns
  pub run : RunOf load es ns

abbrev pub ran : {layout : Layout} {load : Workload} {es : List NodeEntry} {ns : List ℕ} → SettledRun layout load es ns → RanSettled layout load es ns
ran u = record { settled = u.settled; legal = u.legal; same = u.same; run = u.run }

module _ {layout : Layout} {load : Workload} {es : List NodeEntry} {ns : List ℕ} (u : RanSettled layout load es ns) where
  pub seats_are : BySeats (load.settings.workers + length load.parts) es
  seats_are = by_seats (opening (run_terms layout load)) es u.legal.from

  -- this holds of each seat that runs a part
  abbrev pub OfSeats : (ℕ → Part → List Reply → Type 0) → Type 0
  OfSeats R = AllSeats R load.settings.workers load.parts u.run.replies

  pub map_run : (R S : ℕ → Part → List Reply → Type 0) → ((w : ℕ) (p : Part) (rs : List Reply) → load.settings.workers ≤ w → R w p rs → S w p rs) → OfSeats R
      → OfSeats S
  map_run R S f = map_seats R S load.settings.workers f load.settings.workers load.parts u.run.replies (omega arith)

  pub run_parts : OfSeats (PartAt load es ns)
  run_parts = parts_at load es ns load.parts u.run.replies u.run.parts (settled_whole load u.settled).parts (λ p i. i)

  pub run_each : (Q : NodeEntry → Type 0) → ((w : ℕ) (o : Op) (r : Reply) → is_at_work o ≡ true → Q (entry w o r))
      → OfSeats (λ w p rs. Each (λ l. Q (entry w l.op l.reply)) (lines_of w es ns)) → Each Q es
  run_each Q out parts = entries_each Q (load.settings.workers + length load.parts) es ns u.same seats_are (λ w i. whether (nat_lt w load.settings.workers)
      (λ j. each_map (λ (l : Line). is_at_work l.op
      ≡ true) (λ (l : Line). Q (entry w l.op l.reply)) (λ l k. out w l.op l.reply k) (lines_of w es ns)
      (worker_each (lines_of w es ns) (u.run.workers w (grind (arith, nat_tests)))))
      (λ j. seat_of (λ v. Each (λ l. Q (entry v l.op l.reply)) (lines_of v es ns)) load.settings.workers load.parts u.run.replies parts w
      (grind (arith, nat_tests)) i))

  -- where no other seat's lines ask for it, only this seat does
  pub only_by : (who : ℕ) (p : Op → Bool) → ((o : Op) → is_at_work o ≡ true → p o ≡ false)
      → OfSeats (λ w q rs. (w == who) ≡ false → Each (λ l. p l.op ≡ false) (lines_of w es ns)) → OnlyBy who p es
  only_by who p out parts =
      run_each (IsBy who p) (λ w o r k i. true_false i (out o k))
      (map_run (λ w q rs. (w == who) ≡ false
      → Each (λ l. p l.op ≡ false) (lines_of w es ns)) (λ w q rs. Each (λ l. p l.op ≡ true → w ≡ who) (lines_of w es ns))
      (λ w q rs l x. whether (w == who) (λ i. each_of (λ (l : Line). p l.op ≡ true → w ≡ who) (λ l j. eqb-true w who i) (lines_of w es ns))
      (λ i. each_op (λ o. p o ≡ false) (λ o. p o ≡ true → w ≡ who) (λ o k j. true_false j k) (lines_of w es ns) (x i))) parts)

module _ {load : Workload} {es : List NodeEntry} {ns : List ℕ} {w : ℕ} {p : Part} {rs : List Reply} (x : PartAt load es ns w p rs) where
  -- where the lines of a step stand among the seat's
  pub step_lines : {s : Statement} (y : Step p.statements x.body rs s) → lines_of w es ns ≡ (x.start ++ y.first) ++ (y.front ++ (y.more ++ x.finish))
  step_lines y =
      x.is ∙ ap (λ (z : List Line). x.start ++ (z ++ x.finish)) y.is
      ∙ ap (λ (z : List Line). x.start ++ z) (append_assoc y.first (y.front ++ y.more) x.finish
      ∙ ap (λ (z : List Line). y.first ++ z) (append_assoc y.front y.more x.finish))
      ∙ sym (append_assoc x.start y.first (y.front ++ (y.more ++ x.finish)))

  -- what holds of the lines outside the statements, and of each statement's, holds of the seat's
  pub seat_each : (P : Op → Type 0) → Each (λ l. P l.op) x.start → Each (λ l. P l.op) x.finish
      → ((s : Statement) (y : Step p.statements x.body rs s) → Each (λ l. P l.op) y.front) → Each (λ l. P l.op) (lines_of w es ns)
  seat_each P a b per =
      subst (Each (λ (l : Line). P l.op)) (sym x.is)
      (each_both (λ (l : Line). P l.op) x.start (x.body
      ++ x.finish) a (each_both (λ (l : Line). P l.op) x.body x.finish (statements_each P p.statements x.body rs x.carried per) b))

  pub seat_within : (P : Op → Type 0) → ((o : Op) → is_outside o ≡ true → P o)
      → ((s : Statement) (y : Step p.statements x.body rs s) → Each (λ l. P l.op) y.front) → Each (λ l. P l.op) (lines_of w es ns)
  seat_within P out = seat_each P (each_op (λ o. is_outside o ≡ true) P out x.start x.first) (each_op (λ o. is_outside o ≡ true) P out x.finish x.last)
