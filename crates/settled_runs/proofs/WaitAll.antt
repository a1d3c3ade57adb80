-- In a run of a settled workload each wait for all tasks of a group is told the fault that the plain report tells of it.
use Rattle.settled_runs.proofs.Names.{nat_tests, ◌≡◌, ℕ, Bool, true, false, cond, List, [], ◌∷◌, ◌++◌, length, Option, Some, None, refl, sym, ◌∙◌, ap, subst, arith, append_assoc, ℤ, ◌==◌, map, option_and_then, IfSome, option_map, option_or, flat_map, eq-eqb, eqb-true, holds, TaskEnd, Mask, Timeout, MtapiStatus, entry, Action, NewTask, fault_of, Queue, Deed, Statement, fields, word_for, values, place_used, AllFit, IsBoundAt, IsStatement, AreStatements, Op, Reply, handle_of, some_same, handle_at, group_at, call_of, Line, line_with, MadeLines, LookedLines, true_false, queue_at, Faults, with_group_fault, with_task_asked, no_faults, IsPlainTask, fault_in, members_behind, deed_spelled, Carried, task_in, plain_end, plain_fault, faults_behind, ArePlain, IsPlainReply, inl, inr, or_cases, none_some, Call, Each, ◌⊎◌, ◌+◌, ◌<◌, append-nil, Layout, Workload, Terms, is_pending, verdict, NodeEntry, Legal, after, closes, NoClose, front_stays, run_terms, AreQuiet, all_statements, actions_in, AllGranted, SettledRun, GoOn, IsGroupVerdict, end_at, members_of, word_row as row, Sort, both_ways, Part, has_one_fault_a_group}
use Rattle.settled_runs.proofs.{Counted.asks, Counted.cut_asks, Stays.quiet_front, Stays.quiet_rest, Verdicts.has, Verdicts.quiet_verdicts, RunEnds.go_on}
use Rattle.settled_runs.proofs.{RunEnds.IsPlanned, RunEnds.planned, Opened.legal_here, Opened.quiet_before, Opened.no_close, Places.at_group}
use Rattle.settled_runs.proofs.Places.{group_front, groups_handed}
use Rattle.settled_runs.proofs.Each.{CallEach, made_each, statements_each, one_look, IsBy, cut_before, cut_behind, ran, step_each}
use Rattle.settled_runs.proofs.Owners.{uses, members_in, members_append, unused_lines, one_uses, uses_call, members_lines}
use Rattle.settled_runs.proofs.OneFault.{has_fault, fault_there, Matches, no_member, more_member, one_status, one_verdict}
use Rattle.settled_runs.proofs.Along.{Cut, cut, BoundBy, along, step_bound, step_statement, Found, bound_by, Step, step_before, step_handle, step_longer}
use Rattle.settled_runs.proofs.Walk.{Seat, cut_here, gave_here, handle, one_handle, put_task}

-- The tasks that were put into a group, along the statements of a part

module _ (actions : List Action) (all : List Statement) where
  -- the faults behind statements
  abbrev pub faults_after : Faults → List Statement → Faults
  faults_after faults [] = faults
  faults_after faults (s ∷ ss) = faults_after (faults_behind actions all faults s.deed) ss

  pub after_both : (faults : Faults) (ss ts : List Statement) → faults_after faults (ss ++ ts) ≡ faults_after (faults_after faults ss) ts
  after_both faults [] ts = refl
  after_both faults (s ∷ ss) ts = after_both (faults_behind actions all faults s.deed) ss ts

  -- plain replies, with one more, and the one of a place
  pub plain_more : (ends : ℕ → Option TaskEnd) (faults : Faults) (ss : List Statement) (rs : List Reply) (s : Statement) (r : Reply) → length rs ≡ length ss
      → ArePlain actions all ends faults ss rs → IsPlainReply actions all ends (faults_after faults ss) s.deed r
      → ArePlain actions all ends faults (ss ++ s ∷ []) (rs ++ r ∷ [])
  unfolding ArePlain
  plain_more ends faults [] [] s r l a x = (x, tt)
  plain_more ends faults (t ∷ ss) (q ∷ rs) s r l a x = (a.0, plain_more ends (faults_behind actions all faults t.deed) ss rs s r (omega arith) a.1 x)
  plain_more ends faults _ _ s r l a x = absurd (omega arith)

  plain_at : (ends : ℕ → Option TaskEnd) (faults : Faults) (ss : List Statement) (s : Statement) (ts : List Statement) (rs : List Reply) (r : Reply)
      (qs : List Reply) → length rs ≡ length ss → ArePlain actions all ends faults (ss ++ s ∷ ts) (rs ++ r ∷ qs)
      → IsPlainReply actions all ends (faults_after faults ss) s.deed r
  unfolding ArePlain
  plain_at ends faults [] s ts [] r qs l a = a.0
  plain_at ends faults (t ∷ ss) s ts (q ∷ rs) r qs l a = plain_at ends (faults_behind actions all faults t.deed) ss s ts rs r qs (omega arith) a.1
  plain_at ends faults _ s ts _ r qs l a = absurd (omega arith)

-- the faults of all tasks of the part that are in groups
abbrev pub faults_of : List Action → List Statement → List (ℕ × MtapiStatus)
faults_of actions all = flat_map (λ z. fault_in actions (task_in all z.deed)) all

-- these tasks of a group have the fault, and each fault of one is one of the part
pub record Fit (actions : List Action) (all : List Statement) (fault_of_task : ℕ
    → Option MtapiStatus) (place : ℕ) (hs : List ℕ) (fault : Option MtapiStatus) : Type 0 where
  pub matches : Matches fault_of_task hs fault
  pub among : (j : ℕ) (c : MtapiStatus) → has hs j ≡ true → fault_of_task j ≡ Some c → has_fault (faults_of actions all) place c ≡ true

pub fit_none : (actions : List Action) (all : List Statement) (F : ℕ → Option MtapiStatus) (place : ℕ) → Fit actions all F place [] None
fit_none actions all F place = record { matches = no_member F; among = λ j c h e. true_false h refl }

module _ (actions : List Action) (all : List Statement) (ends : ℕ → Option TaskEnd) (place h : ℕ) where
  abbrev F : ℕ → Option MtapiStatus
  F j = option_and_then fault_of (ends j)

  abbrev Fits : List ℕ → Option MtapiStatus → Type 0
  Fits hs fault = Fit actions all F place hs fault

  choose : (a b : Bool) → a ≡ b → (X Y : List ℕ) (U V : Option MtapiStatus) → (b ≡ true → Fits X U) → Fits Y V → Fits (cond a X Y) (cond b U V)
  choose a b e X Y U V t f = subst (λ (c : Bool). Fits (cond c X Y) (cond b U V)) (sym e)
      ((elim b as (λ c. b ≡ c → Fits (cond c X Y) (cond c U V)) [ true ↦ λ i. t i | false ↦ λ i. f ]) refl)

  -- one more task of the group
  more_fits : (j : ℕ) (x : Option MtapiStatus) (hs : List ℕ) (fault : Option MtapiStatus) → F j ≡ x
      → ((c : MtapiStatus) → x ≡ Some c → has_fault (faults_of actions all) place c ≡ true) → Fits hs fault → Fits (j ∷ hs) (option_or fault x)
  more_fits j x hs fault e there f = record {
    matches = more_member F j x hs fault e f.matches;
    among = λ k c i y. grind (arith, nat_tests, or_cases (j == k) (has hs k) i, there c, f.among k c, e, y);
  }

  module _ (before rest : List Statement) (s : Statement) (bound : List ℕ) (within : all ≡ before ++ s ∷ rest) (same : (g : ℕ) → IsBoundAt Sort.Group before g
      → (handle_at bound g == h) ≡ (place == g)) (faults : Faults) (hs : List ℕ) (f : Fits hs (faults place)) where
    -- a task of the statement
    task_fits : (t : NewTask) (j : ℕ) → task_in all s.deed ≡ Some t → ends j ≡ plain_end actions t → IfSome t.group (IsBoundAt Sort.Group before)
        → Fits (cond (holds (λ x. x.0 == h) (option_map (group_at bound) t.group)) (j ∷ hs) hs) (with_group_fault t.group (plain_fault actions t) faults place)
    unfolding plain_fault
    task_fits t j e k o = by t.group refl o
      where
        fault_is : F j ≡ plain_fault actions t
        fault_is = ap (option_and_then fault_of) k

        by : (group : Option ℕ) → t.group ≡ group → IfSome group (IsBoundAt Sort.Group before)
            → Fits (cond (holds (λ x. x.0 == h) (option_map (group_at bound) group)) (j ∷ hs) hs) (with_group_fault group (plain_fault actions t) faults place)
        by None i o = f
        by (Some g) i o =
            choose (handle_at bound g == h) (place == g) (same g o) (j ∷ hs) hs (option_or (faults g) (plain_fault actions t)) (faults place)
            (λ y. let q : place ≡ g = eqb-true place g y in
            more_fits j (plain_fault actions t) hs (faults g) fault_is
            (λ c z. subst (λ (w : List Statement). has_fault (flat_map (λ v. fault_in actions (task_in all v.deed)) w) place c
            ≡ true) (sym within) (fault_there actions all before s rest t place c e (i ∙ ap Some (sym q)) z))
            (subst (λ (n : ℕ). Fits hs (faults n)) q f))
            f

    -- a wait for all tasks of a group
    wait_fits : (g : ℕ) (t : Timeout) (front : List Line) (r : Reply) → IsBoundAt Sort.Group before g
        → LookedLines false (λ last. Op.AllLook (record { 0 = handle_at bound g }) last) t front r
        → Fits (members_in h hs front) (cond (place == g) None (faults place))
    wait_fits g t front r o m =
        let told : members_in h hs front ≡ cond (handle_at bound g == h) [] hs =
        ap (members_in h hs) (one_look (λ last. Op.AllLook (record { 0 = handle_at bound g }) last) t front r m)
        ∙ ap (λ (b : Bool). cond (handle_at bound g == h) (cond b hs []) hs) m.decides in
        subst (λ (x : List ℕ). Fits x (cond (place == g) None (faults place))) (sym told)
        (choose (handle_at bound g == h) (place == g) (same g o) [] hs None (faults place) (λ y. fit_none actions all F place) f)

    -- a statement that doesn't use the group
    kept : (c : Call) (front : List Line) (r : Reply) → MadeLines c front r → CallEach (λ o. uses h o ≡ false) c → Fits (members_in h hs front) (faults place)
    kept c front r m u = subst (λ (x : List ℕ). Fits x (faults place)) (sym (unused_lines h hs front (made_each (λ o. uses h o ≡ false) c front r u m))) f

    -- a statement that asks for a task
    asked_fits : (o : Op) (front : List Line) (r : Reply) (t u : NewTask) → task_in all s.deed ≡ Some u → t ≡ u → (j : ℕ) → r ≡ Reply.Handle j
        → ends j ≡ plain_end actions u → IfSome t.group (IsBoundAt Sort.Group before) → front ≡ line_with o r 0 ∷ []
        → members_behind h hs (entry 0 o (Reply.Handle j)) ≡ cond (holds (λ x. x.0 == h) (option_map (group_at bound) t.group)) (j ∷ hs) hs
        → Fits (members_in h hs front) (with_group_fault t.group (plain_fault actions t) faults place)
    asked_fits o front r t u e q j k n b i a =
        subst (λ (y : List Line). Fits (members_in h hs y) (with_group_fault t.group (plain_fault actions t) faults place)) (sym i)
        (subst (λ (y : Reply). Fits (members_behind h hs (entry 0 o y)) (with_group_fault t.group (plain_fault actions t) faults place)) (sym k)
        (subst (λ (x : List ℕ). Fits x (with_group_fault t.group (plain_fault actions t) faults place)) (sym a)
        (subst (λ (x : NewTask). Fits (cond (holds (λ v. v.0 == h) (option_map (group_at bound) x.group)) (j ∷ hs) hs)
        (with_group_fault x.group (plain_fault actions x) faults place)) (sym q)
        (task_fits u j e n (subst (λ (x : NewTask). IfSome x.group (IsBoundAt Sort.Group before)) q b)))))

    -- the statement keeps the group fit
    pub statement_fits : (front : List Line) (r : Reply) → IsStatement before s → MadeLines (call_of bound s.deed) front r
        → IsPlainReply actions all ends faults s.deed r → Fits (members_in h hs front) (faults_behind actions all faults s.deed place)
    unfolding IsPlainReply faults_behind task_in row deed_spelled
    statement_fits front r st m p = by s.deed refl st.options st.uses m p
      where
        by_queue : (queue : ℕ) (args : List ℤ) (cores : Mask) (detached : Bool) (group : Option ℕ) (q : Option Queue)
            → IfSome group (IsBoundAt Sort.Group before) → task_in all s.deed ≡ option_map (put_task queue args cores detached group) q
            → IsPlainTask actions ends (option_map (put_task queue args cores detached group) q) r
            → front ≡ line_with (Op.TaskEnqueue (record { 0 = handle_at bound queue }) args cores detached (option_map (group_at bound) group)) r 0 ∷ []
            → Fits (members_in h hs front) (with_task_asked actions (option_map (put_task queue args cores detached group) q) faults place)
        by_queue queue args cores detached group None o i w n = none_some w.1
        by_queue queue args cores detached group (Some x) o i w n =
            asked_fits (Op.TaskEnqueue (record { 0 = handle_at bound queue }) args cores detached (option_map (group_at bound) group)) front r
            (put_task queue args cores detached group x) w.0 (i ∙ w.1) (some_same w.1) w.2 w.3 w.4 o n refl

        by : (d : Deed) → s.deed ≡ d → AllFit before (fields (word_for d)) (values d) → IfSome (place_used d) (λ v. IsBoundAt v.0 before v.1)
            → MadeLines (call_of bound d) front r → IsPlainReply actions all ends faults d r
            → Fits (members_in h hs front) (faults_behind actions all faults d place)
        by (Deed.Start job args priority cores detached group) i o v n w =
            asked_fits (Op.TaskStart job args priority cores detached (option_map (group_at bound) group)) front r
            (record { job = job; args = args; priority = priority; cores = cores.0; detached = detached; group = group; queue = None }) w.0 (ap (task_in all) i
            ∙ w.1) (some_same w.1) w.2 w.3 w.4 o.1.1.1.1.1.0 n.0 refl
        by (Deed.Enqueue queue args cores detached group) i o v n w =
            by_queue queue args cores detached group (queue_at all queue) o.1.1.1.1.0 (ap (task_in all) i) w n.0
        by Deed.Begin i o v n w = kept (call_of bound Deed.Begin) front r n refl
        by (Deed.Action job kind cores) i o v n w = kept (call_of bound (Deed.Action job kind cores)) front r n refl
        by Deed.Group i o v n w = kept (call_of bound Deed.Group) front r n refl
        by (Deed.Queue id job priority limit ordered retain) i o v n w = kept (call_of bound (Deed.Queue id job priority limit ordered retain)) front r n refl
        by (Deed.Wait p t) i o v n w = kept (call_of bound (Deed.Wait p t)) front r n (λ last. refl)
        by (Deed.WaitAll g t) i o v n w = wait_fits g t front r v n
        by _ i o v n w = absurd w

  fits_along : (ss : List Statement) (ls : List Line) (rs : List Reply) → Carried MadeLines [] ss ls rs → AreStatements [] ss → (rest : List Statement)
      → all ≡ ss ++ rest → handle_at (map handle_of rs) place ≡ h
      → ((other : ℕ) → BoundBy Sort.Group ss other → handle_at (map handle_of rs) other ≡ h → other ≡ place)
      → ArePlain actions all ends no_faults ss rs → Fits (members_in h [] ls) (faults_after actions all no_faults ss place)
  fits_along ss ls rs c a rest within own only p =
      along ss ls rs (λ b l r. Fits (members_in h [] l) (faults_after actions all no_faults b place))
      (λ s x i.
      subst (λ (y : List ℕ). Fits y (faults_after actions all no_faults (x.before ++ s ∷ []) place)) (sym (members_append h [] x.first x.front))
      (subst (λ (y : Faults). Fits (members_in h (members_in h [] x.first) x.front) (y place)) (sym (after_both actions all no_faults x.before (s ∷ [])))
      (statement_fits x.before (x.rest ++ rest) s (map handle_of x.replies)
      (within ∙ ap (λ (z : List Statement). z ++ rest) x.parted ∙ append_assoc x.before (s ∷ x.rest) rest)
      (λ g o. let v = step_bound x Sort.Group g o in
      both_ways (handle_at (map handle_of x.replies) g == h) (place == g)
      (λ e. eq-eqb place g (sym (only g v.0 (v.1 ∙ eqb-true (handle_at (map handle_of x.replies) g) h e))))
      (λ e. eq-eqb (handle_at (map handle_of x.replies) g) h (sym v.1 ∙ ap (handle_at (map handle_of rs)) (sym (eqb-true place g e)) ∙ own)))
      (faults_after actions all no_faults x.before) (members_in h [] x.first) i x.front x.reply (step_statement x a) x.made
      (plain_at actions all ends no_faults x.before s x.rest x.replies x.reply x.others x.many
      (subst (λ (z : List Statement). ArePlain actions all ends no_faults z (x.replies ++ x.reply ∷ x.others)) x.parted
      (subst (λ (z : List Reply). ArePlain actions all ends no_faults ss z) x.told p)))))) c (fit_none actions all F place)

-- The wait for all of them

module _ {layout : Layout} {load : Workload} {es : List NodeEntry} {ns : List ℕ} (u : SettledRun layout load es ns) {w : ℕ} {p : Part} {rs : List Reply}
    (x : Seat layout load es ns w p rs) {s : Statement} (y : Step p.statements x.at.body rs s) (g : AllGranted y.before y.replies) (place : ℕ)
    (bound : IsBoundAt Sort.Group y.before place) (one : has_one_fault_a_group (actions_in (all_statements load)) p ≡ true) where
  abbrev terms : Terms
  terms = run_terms layout load

  abbrev actions : List Action
  actions = actions_in (all_statements load)

  abbrev ends : ℕ → Option TaskEnd
  ends j = end_at (after terms es).tasks j

  abbrev told_fault : Option MtapiStatus
  told_fault = faults_after actions p.statements no_faults y.before place

  abbrev h : ℕ
  h = handle u x y g place

  pub group_told : ArePlain actions p.statements ends no_faults y.before y.replies
      → LookedLines false (λ last. Op.AllLook (record { 0 = h }) last) Timeout.Infinite y.front y.reply → y.reply ≡ verdict told_fault
  group_told plain m =
      let b : BoundBy Sort.Group y.before place = bound_by Sort.Group y.before place bound in
      let here : Found y.before y.first y.replies place b.statement = at_group y.before y.first y.replies y.carried g place b in
      let z : Step y.before y.first y.replies b.statement = here.step in
      let made_line : Line = line_with Op.GroupCreate (Reply.Handle h) 0 in
      let lines_are : y.first ≡ z.first ++ made_line ∷ z.more =
      z.is ∙ ap (λ (q : List Line). z.first ++ (q ++ z.more)) (group_front y.before y.first y.replies y.carried g place b) in
      let only : (other : ℕ) → BoundBy Sort.Group y.before other → handle u x y g other ≡ h → other ≡ place =
      λ other v e. one_handle u x y g groups_handed other place v b e in
      let first_unused : Each (λ l. uses h l.op ≡ false) z.first =
      statements_each (λ o. uses h o ≡ false) z.before z.first z.replies z.carried (λ t v. step_each (λ o. uses h o ≡ false) v
      (uses_call h v.before t (map handle_of v.replies) (step_statement v (step_before z (step_before y x.are))) (λ n o e. let k =
      step_bound v Sort.Group n o in
      let i : n < length z.before = k.0.early in let j : length z.before ≡ place = here.early in
      let same : n ≡ place = only n (step_longer z Sort.Group n k.0) (step_handle z n i ∙ k.1 ∙ e) in absurd (omega arith)))) in
      let fits : Fit actions p.statements (λ j. option_and_then fault_of (ends j)) place (members_in h [] z.more) told_fault =
      subst (λ (q : List ℕ). Fit actions p.statements (λ j. option_and_then fault_of (ends j)) place q told_fault) (ap (members_in h []) lines_are
      ∙ members_append h [] z.first (made_line ∷ z.more) ∙ ap (λ (q : List ℕ). members_in h q z.more) (unused_lines h [] z.first first_unused))
      (fits_along actions p.statements ends place h y.before y.first y.replies y.carried (step_before y x.are) (s ∷ y.rest) y.parted refl only plain) in
      let look : Line = line_with (Op.AllLook (record { 0 = h }) false) y.reply m.beside in
      let e1 : NodeEntry = entry w look.op y.reply in
      let e0 : NodeEntry = entry w Op.GroupCreate (Reply.Handle h) in
      let c : Cut w es ns (x.at.start ++ y.first) look (y.more ++ x.at.finish) =
      cut_here u x y g look (one_look (λ last. Op.AllLook (record { 0 = h }) last) Timeout.Infinite y.front y.reply m
      ∙ ap (λ (q : Bool). line_with (Op.AllLook (record { 0 = h }) q) y.reply m.beside ∷ []) m.within) in
      let d : Cut w c.before c.first (x.at.start ++ z.first) made_line z.more =
      cut w c.before c.first (x.at.start ++ z.first) made_line z.more
      (c.done ∙ ap (λ (q : List Line). x.at.start ++ q) lines_are ∙ sym (append_assoc x.at.start z.first (made_line ∷ z.more))) in
      let legal : Legal terms (d.before ++ e0 ∷ (d.behind ++ e1 ∷ [])) =
      subst (Legal terms) (ap (λ (q : List NodeEntry). q ++ e1 ∷ []) d.is ∙ append_assoc d.before (e0 ∷ d.behind) (e1 ∷ [])) (legal_here u c) in
      let quiet : AreQuiet (d.before ++ e0 ∷ d.behind) = subst AreQuiet d.is (quiet_before u c) in
      let members : members_of h [] d.behind ≡ members_in h [] z.more =
      members_lines w h [] d.behind d.rest (d.alike c.same) (cut_behind d (IsBy w (uses h)) (cut_before c (IsBy w (uses h))
      (one_uses u w h (gave_here u x y g groups_handed place b)))) ∙ ap (members_in h []) d.left in
      let unclosed : NoClose d.behind = let a : asks closes c.before ≡ 0 = (x.finds y.first look y.more c).unclosed in
      let v : asks closes c.before ≡ asks closes d.before + (0 + asks closes d.behind) = cut_asks d closes in no_close d.behind (omega arith) in
      let going : GoOn h d.behind =
      go_on actions h d.behind (cut_behind d (IsPlanned actions) (cut_before c (IsPlanned actions) (planned (ran u)))) unclosed in
      let told : (y.reply ≡ Reply.Pending) ⊎ IsGroupVerdict (after terms (d.before ++ e0 ∷ d.behind)) (members_of h [] d.behind) y.reply =
      quiet_verdicts terms d.before d.behind w w (record { 0 = h }) y.reply legal (quiet_front d.before (e0 ∷ d.behind) quiet)
      (quiet_rest d.before (e0 ∷ d.behind) quiet).1 going in
      let parted_here : es ≡ (d.before ++ e0 ∷ d.behind) ++ ((e1 ∷ c.behind) ++ []) =
      c.is ∙ ap (λ (q : List NodeEntry). q ++ e1 ∷ c.behind) d.is
      ∙ ap (λ (q : List NodeEntry). (d.before ++ e0 ∷ d.behind) ++ q) (sym (append-nil (e1 ∷ c.behind))) in
      let stays : (j : ℕ) (e : TaskEnd) → end_at (after terms (d.before ++ e0 ∷ d.behind)).tasks j ≡ Some e → ends j ≡ Some e =
      λ j e i. ap (λ (L : List NodeEntry). end_at (after terms L).tasks j) (parted_here
      ∙ ap (λ (q : List NodeEntry). (d.before ++ e0 ∷ d.behind) ++ q) (append-nil (e1 ∷ c.behind)))
      ∙ front_stays terms es (d.before ++ e0 ∷ d.behind) (e1 ∷ c.behind) [] j e u.legal parted_here i in
      elim told as (λ q. y.reply ≡ verdict told_fault) [
        | inl i ↦ true_false (ap is_pending i) m.decides
        | inr v ↦ one_verdict (λ j. option_and_then fault_of (ends j)) (after terms (d.before ++ e0 ∷ d.behind)) (members_of h [] d.behind) y.reply told_fault v
            (λ j k. let q = v.ended j k in ap (option_and_then fault_of) (q.1 ∙ sym (stays j q.0 q.1)))
            (subst (λ (q : List ℕ). Fit actions p.statements (λ j. option_and_then fault_of (ends j)) place q told_fault) (sym members) fits).matches
            (λ j k a o t i q r. one_status place a o (faults_of actions p.statements) one (fits.among j a (subst (λ (l : List ℕ). has l j ≡ true) members t) q)
            (fits.among k o (subst (λ (l : List ℕ). has l k ≡ true) members i) r))
      ]
