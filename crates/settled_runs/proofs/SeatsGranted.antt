-- In a run of a settled workload main and each further caller are given what they ask for.
use Rattle.settled_runs.proofs.Names.{Each, ◌≡◌, inr, ℕ, Bool, true, false, List, ◌∷◌, ◌++◌, refl, ◌∙◌, subst, arith, slice_get, list_all, NodeSettings, Layout, Action, Deed, Statement, Part, Workload, IsPart, NodeEntry, fst_true, call_of, head_lines, tail_of_main, true_false, puts, actions_in, set_up, are_settled_parts, AllGranted, SettledRun, has_begin, task_in, is_settled_deed, keep_limits, [], sym, append-nil, inl, suc, ◌<◌, length, ap, append_assoc, ◌||◌, not, map, list_any, flat_map, entry, begins, Reply, handle_of, Legal, snd_true, not_true, Line, line_with, MadeLines, in_lines, is_release_op, is_released, run_terms, action_in, all_statements, is_settled_part, is_settled_further, PartsGranted, SettledStatementsAreGranted, is_begin, lines_of, Carried, CallersRan, sets_up_first, or_left, or_right, some_entry, Op, cond_both, enter_behind, MadeBy, nat_tests, closes}
use Rattle.settled_runs.proofs.{Granted.bit, Counted.calls_none, Counted.asks}
use Rattle.settled_runs.proofs.Places.{Has, has_more, action_map, action_has}
use Rattle.settled_runs.proofs.Walk.{puts_outside, sets_all, Seat, seat_granted, MadeAction, Finds}
use Rattle.settled_runs.proofs.Along.{same_head, same_tail, Cut, cut, cut_split, Found, get_at, same_front, step_granted, found, Step, step_settled}
use Rattle.settled_runs.proofs.Opened.{main_unclosed, first_head, is_opened, first_of, only_main, all_at, legal_before, further_unclosed, begin_none, release_calls, releases_main}
use Rattle.settled_runs.proofs.Each.{settled_whole, OnlyBy, Parts, main_at, parts_are, work_outside, actions_append, AllSeats, Within, caller_at, statements_each, within_behind, within_front, fold_seats, IsBy, OfSeats, cut_before, ran, step_each}

-- Further callers put no task into a queue

abbrev is_put : Deed → Bool
is_put (Deed.Enqueue queue args cores detached group) = true
is_put _ = false

-- where a part sets nothing up, it puts no task into a queue
not_put : (settings : NodeSettings) (known : List Action) (before all : List Statement) (d : Deed) → set_up all ≡ false
    → is_settled_deed settings known before all d ≡ true → is_put d ≡ false
unfolding is_settled_deed task_in
not_put settings known before all d n e = grind (arith, nat_tests, sets_all all)

-- Statements that set up before they begin

pub record SetUp (ss : List Statement) : Type 0 where
  pub before : List Statement
  pub begin : Statement
  pub behind : List Statement
  pub is : ss ≡ before ++ begin ∷ behind
  pub starts : is_begin begin.deed ≡ true
  pub none : set_up behind ≡ false
  pub first : begins before ≡ 0

pub set_up_split : (ss : List Statement) → sets_up_first ss ≡ true → SetUp ss
unfolding sets_up_first
set_up_split [] e = true_false e refl
set_up_split (s ∷ ss) e = cond_both (is_begin s.deed) (not (set_up ss)) (sets_up_first ss) (λ b. b ≡ true
    → SetUp (s ∷ ss)) (λ i f. record { before = []; begin = s; behind = ss; is = refl; starts = i; none = not_true _ f; first = refl })
    (λ i f.
    let x = set_up_split ss f in
    let z : bit (is_begin s.deed) ≡ 0 = ap bit i in
    let n : begins x.before ≡ 0 = x.first in
    record { before = s ∷ x.before; begin = x.begin; behind = x.behind; is = λ j. s ∷ x.is j; starts = x.starts; none = x.none; first = omega arith }) e

-- the actions of the statements are those before `begin`
no_actions : (ss : List Statement) → set_up ss ≡ false → actions_in ss ≡ []
no_actions [] e = refl
no_actions (s ∷ ss) e = grind (arith, nat_tests, no_actions ss)

begin_acts : (d : Deed) → is_begin d ≡ true → action_in d ≡ []
unfolding is_begin
begin_acts d e1 = grind (arith, nat_tests)

pub first_actions : (ss : List Statement) (x : SetUp ss) → actions_in ss ≡ actions_in x.before
first_actions ss x =
    ap actions_in x.is ∙ actions_append x.before (x.begin ∷ x.behind)
    ∙ ap (λ (z : List Action). actions_in x.before ++ z) ((λ i. begin_acts x.begin.deed x.starts i ++ actions_in x.behind) ∙ no_actions x.behind x.none)
    ∙ append-nil (actions_in x.before)

pub has_one_begin : (before : List Statement) (s : Statement) (behind : List Statement) → is_begin s.deed ≡ true → has_begin (before ++ s ∷ behind) ≡ true
unfolding has_begin
has_one_begin [] s behind e = or_left _ _ e
has_one_begin (t ∷ before) s behind e = or_right (is_begin t.deed) _ (has_one_begin before s behind e)

-- What main's lines are until it lets the others begin

abbrev opening_line : Line
opening_line = line_with Op.Initialize Reply.Ok 0

pub record Began (ss : List Statement) (x : SetUp ss) (M : List Line) : Type 0 where
  pub first : List Line
  pub replies : List Reply
  pub release : Line
  pub rest : List Line
  pub is : M ≡ (opening_line ∷ first) ++ release ∷ rest
  pub carried : Carried MadeLines [] x.before first replies
  pub granted : AllGranted x.before replies
  pub none : Each (λ l. is_release_op l.op ≡ false) first

begin_released : (d : Deed) (bound : List ℕ) (front : List Line) (r : Reply) → is_begin d ≡ true → MadeLines (call_of bound d) front r
    → front ≡ line_with Op.Release r 0 ∷ []
unfolding is_begin
begin_released d bound front r e1 e2 = grind (arith, nat_tests)

began : (ss : List Statement) (x : SetUp ss) (M body : List Line) (rs : List Reply) → M ≡ head_lines (has_begin ss) ++ (body ++ tail_of_main)
    → Carried MadeLines [] ss body rs → AllGranted ss rs → Began ss x M
began ss x M body rs i c g =
    let f : Found ss body rs (length x.before) x.begin =
    found ss body rs c (length x.before) x.begin (ap (λ (z : List Statement). slice_get z (length x.before)) x.is ∙ get_at x.before x.begin x.behind) in
    let y : Step ss body rs x.begin = f.step in
    let same : y.before ≡ x.before = same_front y.before x.begin y.rest x.before x.begin x.behind (sym y.parted ∙ x.is) f.early in
    let carried : Carried MadeLines [] x.before y.first y.replies = subst (λ (z : List Statement). Carried MadeLines [] z y.first y.replies) same y.carried in
    record {
      first = y.first;
      replies = y.replies;
      release = line_with Op.Release y.reply 0;
      rest = y.more ++ tail_of_main;
      is = i ∙ (λ j. head_lines ((ap has_begin x.is ∙ has_one_begin x.before x.begin x.behind x.starts) j)
          ++ ((y.is ∙ ap (λ (z : List Line). y.first
          ++ (z ++ y.more)) (begin_released x.begin.deed (map handle_of y.replies) y.front y.reply x.starts y.made)) j ++ tail_of_main))
          ∙ ap (λ (z : List Line). opening_line ∷ z) (append_assoc y.first (line_with Op.Release y.reply 0 ∷ y.more) tail_of_main);
      carried = carried;
      granted = subst (λ (z : List Statement). AllGranted z y.replies) same (step_granted y g).0;
      none = statements_each (λ o. is_release_op o ≡ false) x.before y.first y.replies carried (λ s z. step_each (λ o. is_release_op o ≡ false) z
          (calls_none is_release_op (call_of (map handle_of z.replies) s.deed) (is_begin s.deed) (release_calls (map handle_of z.replies) s.deed)
          (begin_none z.before s z.rest (ap begins (sym z.parted) ∙ x.first))));
    }

-- Lines of which one passes go past those of which none does
past : (p : Line → Bool) (A X Y R : List Line) → Each (λ l. p l ≡ false) A → list_any p X ≡ true → X ++ Y ≡ A ++ R → (Z : List Line) × (X ≡ A ++ Z)
past p [] X Y R a e i = (X, refl)
past p (l ∷ A) [] Y R a e i = true_false e refl
past p (l ∷ A) (x ∷ X) Y R a e i =
    let h : x ≡ l = same_head x l _ _ i in
    let z = past p A X Y R a.1 (ap (λ (b : Bool). b || list_any p X) (sym (ap p h ∙ a.0)) ∙ e) (same_tail x l _ _ i) in
    (z.0, λ j. h j ∷ z.1 j)

-- where only this seat asks for it and some entry does, some line of the seat does
some_line : (who : ℕ) (p : Op → Bool) (q : NodeEntry → Bool) → ((e : NodeEntry) → q e ≡ true → p e.op ≡ true) → (L : List NodeEntry) (ks : List ℕ)
    → length L ≡ length ks → OnlyBy who p L → some_entry q L ≡ true → list_any (λ l. p l.op) (lines_of who L ks) ≡ true
unfolding lines_of
some_line who p q f [] ks n o e = true_false e refl
some_line who p q f (e ∷ es) [] n o k = absurd (omega arith)
some_line who p q f (e ∷ es) (m ∷ ks) n o k = grind (arith, nat_tests, f e, o.0, some_line who p q f es ks (omega arith) o.1)

-- Main's part

module _ {layout : Layout} {load : Workload} {es : List NodeEntry} {ns : List ℕ} (u : SettledRun layout load es ns) where
  abbrev main : ℕ
  main = load.settings.workers

  abbrev part : Part
  part = (first_of u).part

  abbrev others : List Part
  others = (first_of u).others

  settled_parts : Parts load.settings (first_of u).part (first_of u).others
  settled_parts = parts_are load.settings part others
      (subst (λ (x : List Part). are_settled_parts load.settings x ≡ true) (first_of u).are (settled_whole load u.settled).parts)

  all_parts : Each IsPart (part ∷ others)
  all_parts = subst (Each IsPart) (first_of u).are u.formed.parts

  all_limits : list_all (λ p. keep_limits p.statements 0 p.statements) (part ∷ others) ≡ true
  all_limits = subst (λ (x : List Part). list_all (λ p. keep_limits p.statements 0 p.statements) x
      ≡ true) (first_of u).are (settled_whole load u.settled).limits

  puts_main : (h : ℕ) → OnlyBy main (puts h) es
  puts_main h =
      only_main u (puts h) is_put (λ bound d. grind (arith, nat_tests)) (λ o k. puts_outside h o (work_outside o k)) refl
      (λ w x rs l y i s z. not_put load.settings (y.known ++ actions_in z.before) z.before x.statements s.deed (y.no_set_up l)
      (step_settled z load.settings y.known y.settled))

  main_seat : Seat layout load es ns main part (first_of u).replies
  main_seat = record {
    at = main_at load es ns part (first_of u).replies (first_of u).ran settled_parts.main (all_at u).0.within;
    finds = λ A l B c.
        let x = first_head (has_begin part.statements) A in
        let n : asks closes c.before ≡ 0 = main_unclosed u c B refl in
        record { opened = is_opened main c.before c.first x.0 (c.done ∙ x.1) n; unclosed = n; acts = λ p e. true_false e refl };
    alone = inr puts_main;
    limits = fst_true _ (list_all (λ p. keep_limits p.statements 0 p.statements) others) all_limits;
    are = all_parts.0.statements;
  }

  -- The others

  module _ (x : SetUp part.statements) where
    began_main : Began part.statements x (lines_of main es ns)
    began_main = began part.statements x (lines_of main es ns) (first_of u).ran.body (first_of u).replies (first_of u).ran.is (first_of u).ran.carried
        (seat_granted u main_seat)

    module _ (who : ℕ) (late : main < who) (looks : ℕ) where
      abbrev entrance : List Line
      entrance = line_with Op.Enter Reply.Ok looks ∷ []

      module _ (A : List Line) (l : Line) (B : List Line) (c : Cut who es ns (entrance ++ A) l (B ++ [])) where
        abbrev entered : Cut who c.before c.first [] (line_with Op.Enter Reply.Ok looks) A
        entered = cut who c.before c.first [] (line_with Op.Enter Reply.Ok looks) A c.done

        legal_cut : Legal (run_terms layout load) (entered.before ++ entry who Op.Enter Reply.Ok ∷ entered.behind)
        legal_cut = subst (Legal (run_terms layout load)) entered.is (legal_before u c)

        abbrev later : List Line
        later = lines_of main (entry who Op.Enter Reply.Ok ∷ entered.behind) (looks ∷ entered.rest)

        -- main's lines before the caller entered
        seen : (Z : List Line) × (lines_of main entered.before entered.first ≡ (opening_line ∷ began_main.first) ++ Z)
        seen = past (λ l. is_release_op l.op) (opening_line ∷ began_main.first) (lines_of main entered.before entered.first) (later
            ++ lines_of main (entry who l.op l.reply ∷ c.behind) (l.beside ∷ c.rest)) (began_main.release ∷ began_main.rest) (refl, began_main.none)
            (some_line main is_release_op is_released (λ e i. fst_true (is_release_op e.op) _ i) entered.before entered.first entered.same
            (cut_before entered (IsBy main is_release_op) (cut_before c (IsBy main is_release_op) (releases_main u)))
            (enter_behind (run_terms layout load) entered.before entered.behind who legal_cut))
            (sym (append_assoc (lines_of main entered.before entered.first) later _)
            ∙ ap (λ (z : List Line). z ++ lines_of main (entry who l.op l.reply ∷ c.behind) (l.beside ∷ c.rest)) (sym (cut_split entered main))
            ∙ sym (cut_split c main) ∙ began_main.is)

        -- and before the line
        all_seen : lines_of main c.before c.first ≡ (opening_line ∷ began_main.first) ++ (seen.0 ++ later)
        all_seen = cut_split entered main ∙ ap (λ (z : List Line). z ++ later) seen.1 ∙ append_assoc (opening_line ∷ began_main.first) seen.0 later

        made_late : (p : Action → Bool) → list_any p (actions_in part.statements) ≡ true → MadeAction c.before p
        made_late p e =
            action_map (Has began_main.first) (λ o h. MadeBy o h c.before) p (λ o h v.
            let z : Has (lines_of main c.before c.first) o h =
            subst (λ (ls : List Line). Has ls o h) (sym all_seen) (has_more (opening_line ∷ []) began_main.first (seen.0 ++ later) o h v) in
            let d = cut main c.before c.first z.before (line_with o (Reply.Handle h) z.beside) z.behind z.is in
            record { before = d.before; who = main; behind = d.behind; is = d.is })
            (action_has x.before began_main.first began_main.replies p began_main.carried began_main.granted
            (subst (λ (z : List Action). list_any p z ≡ true) (first_actions part.statements x) e))

        further_finds : Finds (actions_in part.statements) c.before
        further_finds = record {
          opened = is_opened main c.before c.first (began_main.first ++ (seen.0 ++ later)) all_seen (further_unclosed u c late);
          unclosed = further_unclosed u c late;
          acts = made_late;
        }

    -- The further callers

    callers_seats : (first : ℕ) → main < first → (ps : List Part) (rss : List (List Reply)) → CallersRan in_lines (λ who. lines_of who es ns) first ps rss
        → list_all (is_settled_further load.settings (actions_in part.statements)) ps ≡ true
        → list_all (λ p. keep_limits p.statements 0 p.statements) ps ≡ true → Each IsPart ps
        → Within (actions_in (flat_map (λ p. p.statements) ps)) (actions_in (all_statements load)) → AllSeats (Seat layout load es ns) first ps rss
    unfolding CallersRan
    callers_seats first late [] rss c e l a w = tt
    callers_seats first late (p ∷ ps) [] c e l a w = absurd c
    callers_seats first late (p ∷ ps) (rs ∷ rss) c e l a w =
        let here : is_settled_further load.settings (actions_in part.statements) p ≡ true =
        fst_true _ (list_all (is_settled_further load.settings (actions_in part.statements)) ps) e in (
          record {
            at = caller_at load es ns (actions_in part.statements) first p rs c.0 here (within_front p.statements (flat_map (λ q. q.statements) ps) _ w);
            finds = further_finds first late c.0.entered.0;
            alone = inl (not_true _ (fst_true _ (is_settled_part load.settings (actions_in part.statements) p) here));
            limits = fst_true _ (list_all (λ y. keep_limits y.statements 0 y.statements) ps) l;
            are = a.0.statements;
          },
          callers_seats (suc first) (omega arith) ps rss c.1 (snd_true (is_settled_further load.settings (actions_in part.statements) p) _ e)
              (snd_true (keep_limits p.statements 0 p.statements) _ l) a.1 (within_behind p.statements (flat_map (λ q. q.statements) ps) _ w),
        )

  seats_of_parts : AllSeats (Seat layout load es ns) main (part ∷ others) ((first_of u).replies ∷ (first_of u).further)
  seats_of_parts = (main_seat, by others refl)
    where
      by : (ps : List Part) → others ≡ ps → AllSeats (Seat layout load es ns) (suc main) others (first_of u).further
      by [] i = subst (λ (z : List Part). AllSeats (Seat layout load es ns) (suc main) z (first_of u).further) (sym i) tt
      by (p ∷ ps) i =
          callers_seats (set_up_split part.statements (settled_parts.first p ps i)) (suc main) (omega arith) others (first_of u).further (first_of u).callers
          settled_parts.further (snd_true (keep_limits part.statements 0 part.statements) _ all_limits) all_parts.1
          (within_behind part.statements (flat_map (λ q. q.statements) others) _
          (λ q k. subst (λ (z : List Part). list_any q (actions_in (flat_map (λ v. v.statements) z)) ≡ true) (sym (first_of u).are) k))

  pub seats : OfSeats (ran u) (Seat layout load es ns)
  seats =
      subst (λ (ps : List Part). AllSeats (Seat layout load es ns) main ps u.run.replies) (sym (first_of u).are)
      (subst (AllSeats (Seat layout load es ns) main (part ∷ others)) (sym (first_of u).told) seats_of_parts)

pub settled_statements_are_granted : SettledStatementsAreGranted
settled_statements_are_granted layout load es ns u =
    fold_seats (Seat layout load es ns) (λ w ps rss. PartsGranted ps rss) 0 (λ w rss. tt) (λ w p rs ps rss l x a. (seat_granted u x, a)) load.settings.workers
    load.parts u.run.replies (omega arith) (seats u)
