-- In a run of a settled workload each wait for a task is told its end.
use Rattle.settled_runs.proofs.Names.{arith, nat_tests, Each, ◌≡◌, ◌⊎◌, inl, inr, ℕ, Bool, true, false, List, [], ◌∷◌, ◌++◌, Option, refl, sym, ◌∙◌, ap, subst, map, slice_get, option_and_then, list_any, NodeSettings, Layout, TaskEnd, entry, Action, Deed, Statement, Workload, IsBoundAt, Op, Reply, handle_of, is_status, is_pending, NodeEntry, call_of, Line, line_with, before_it, MadeLines, true_false, run_terms, starts_alone, is_look_at, AreLeft, actions_in, is_alone, waits_for, AllGranted, SettledRun, binds, lines_of, task_in, is_settled_deed, or_parts, list_any-append, ObjectKind, Sort, MadeBy, LookedLines, Part, Timeout, append_assoc}
use Rattle.settled_runs.proofs.{Waits.quiet_looks_are_answered, Owners.one_looks, Owners.looks_call, Owners.looks_outside}
use Rattle.settled_runs.proofs.Walk.{made_before, Seat, asking, gave_here, handle, one_handle}
use Rattle.settled_runs.proofs.Each.{each_behind, each_both, each_map, is_outside, own_each, statements_each, IsBy, cut_before, each_op, step_each, step_lines}
use Rattle.settled_runs.proofs.Along.{Cut, cut, BoundBy, bound_by, Found, deed_in, found_bound, step_bound, step_statement, found, Step, step_before, step_found}
use Rattle.settled_runs.proofs.Places.{Has, has_more, MadeOne, made_there_one, tasks_handed}

-- The looks of one seat

abbrev ArePending : ℕ → List Line → Type 0
ArePending h ls = Each (λ l. is_look_at h l.op ≡ true → l.reply ≡ Reply.Pending) ls

pending_none : (h : ℕ) (ls : List Line) → Each (λ l. is_look_at h l.op ≡ false) ls → ArePending h ls
pending_none h ls a = each_map (λ (l : Line). is_look_at h l.op ≡ false) (λ (l : Line). is_look_at h l.op ≡ true
    → l.reply ≡ Reply.Pending) (λ l e t. true_false t e) ls a

abbrev IsLeftTo : ℕ → ℕ → NodeEntry → Type 0
IsLeftTo who h e = is_look_at h e.op ≡ true → (e.who ≡ who) × (e.reply ≡ Reply.Pending)

are_left : (who h : ℕ) (L : List NodeEntry) → Each (IsLeftTo who h) L → AreLeft who h L
are_left who h L e1 = grind (arith, nat_tests)

-- the line that started the task of a place
record StartedBy (ls : List Line) (h : ℕ) : Type 0 where
  op : Op
  alone : starts_alone op ≡ true
  has : Has ls op h

module _ (settings : NodeSettings) (known : List Action) (all bf : List Statement) (bound : List ℕ) (ls first front more : List Line) (is : ls
    ≡ first ++ (front ++ more)) (r : Reply) (h : ℕ) (told : r ≡ Reply.Handle h) where
  started_by : (d : Deed) → is_settled_deed settings (known ++ actions_in bf) bf all d ≡ true → is_alone (task_in all d) ≡ true → binds Sort.Task d ≡ true
      → MadeLines (call_of bound d) front r → StartedBy ls h
  unfolding is_settled_deed task_in binds
  started_by d e1 e2 e3 e4 = grind (arith, nat_tests)

none_of : (p : Statement → Bool) (before : List Statement) (s : Statement) (rest : List Statement) → list_any p (before ++ s ∷ rest) ≡ false → p s ≡ true → ⊥
none_of p before s rest e t = true_false t (or_parts (p s) _ (or_parts (list_any p before) _ (sym (list_any-append p before (s ∷ rest)) ∙ e)).1).0

module _ {layout : Layout} {load : Workload} {es : List NodeEntry} {ns : List ℕ} (u : SettledRun layout load es ns) {w : ℕ} {p : Part} {rs : List Reply}
    (x : Seat layout load es ns w p rs) {s : Statement} (y : Step p.statements x.at.body rs s) (g : AllGranted y.before y.replies) (place : ℕ)
    (bound : IsBoundAt Sort.Task y.before place) (alone : is_alone (option_and_then (λ z. task_in p.statements z.deed) (slice_get p.statements place)) ≡ true)
    (never : list_any (λ z. waits_for place z.deed) y.before ≡ false) where
  abbrev h : ℕ
  h = handle u x y g place

  pub unrefused : LookedLines true (λ last. Op.TaskLook (record { 0 = h }) last) Timeout.Infinite y.front y.reply → is_status y.reply ≡ false
  unrefused m =
      let b : BoundBy Sort.Task y.before place = bound_by Sort.Task y.before place bound in
      let here : Found y.before y.first y.replies place b.statement = found y.before y.first y.replies y.carried place b.statement b.found in
      let z : Step y.before y.first y.replies b.statement = here.step in
      let unlooked : Each (λ l. is_look_at h l.op ≡ false) y.first =
      statements_each (λ o. is_look_at h o ≡ false) y.before y.first y.replies y.carried (λ t v. step_each (λ o. is_look_at h o ≡ false) v
      (looks_call h v.before t (map handle_of v.replies) (step_statement v (step_before y x.are)) (λ other k o e. let i = step_bound v Sort.Task other o in
      none_of (λ q. waits_for place q.deed) v.before t v.rest (subst (λ (q : List Statement). list_any (λ r. waits_for place r.deed) q ≡ false) v.parted never)
      (subst (λ (n : ℕ). waits_for n t.deed ≡ true) (one_handle u x y g tasks_handed other place i.0 b (i.1 ∙ e)) k)))) in
      let start_line : StartedBy y.first h = let n : MadeOne ObjectKind.Task z.front z.reply = made_there_one tasks_handed g b here in
      started_by load.settings x.at.known p.statements z.before (map handle_of z.replies) y.first z.first z.front z.more z.is z.reply h
      (n.told ∙ ap Reply.Handle (sym (found_bound here ∙ ap handle_of n.told))) b.statement.deed
      (deed_in load.settings x.at.known p.statements y.before (s ∷ y.rest) y.parted x.at.settled z.before b.statement z.rest z.parted)
      (ap (λ (q : Option Statement). is_alone (option_and_then (λ v. task_in p.statements v.deed) q)) (sym (step_found y Sort.Task place b)) ∙ alone) b.binding
      z.made in
      let look : Line = line_with (Op.TaskLook (record { 0 = h }) false) y.reply m.beside in
      let kept : List Line = before_it look.op m.first in
      let c : Cut w es ns (x.at.start ++ (y.first ++ kept)) look (y.more ++ x.at.finish) =
      cut w es ns (x.at.start ++ (y.first ++ kept)) look (y.more ++ x.at.finish) (step_lines x.at y
      ∙ ap (λ (q : List Line). (x.at.start ++ y.first) ++ (q ++ (y.more ++ x.at.finish))) (m.is
      ∙ ap (λ (q : Bool). kept ++ line_with (Op.TaskLook (record { 0 = h }) q) y.reply m.beside ∷ []) m.within)
      ∙ ap (λ (q : List Line). (x.at.start ++ y.first) ++ q) (append_assoc kept (look ∷ []) (y.more ++ x.at.finish))
      ∙ sym (append_assoc (x.at.start ++ y.first) kept (look ∷ (y.more ++ x.at.finish)))
      ∙ ap (λ (q : List Line). q ++ look ∷ (y.more ++ x.at.finish)) (append_assoc x.at.start y.first kept)) in
      let pends : Line → Type 0 = λ l. is_look_at h l.op ≡ true → l.reply ≡ Reply.Pending in
      let pending_lines : ArePending h (lines_of w c.before c.first) =
      subst (ArePending h) (sym c.done) (each_both pends x.at.start (y.first
      ++ kept) (pending_none h x.at.start (each_op (λ o. is_outside o ≡ true) (λ o. is_look_at h o ≡ false) (looks_outside h) x.at.start x.at.first))
      (each_both pends y.first kept (pending_none h y.first unlooked) (grind (arith, nat_tests)))) in
      let left : Each (IsLeftTo w h) c.before =
      own_each w (is_look_at h) (IsLeftTo w h) c.before c.first c.same
      (cut_before c (IsBy w (is_look_at h)) (one_looks u w h (gave_here u x y g tasks_handed place b))) (λ e k t. true_false t k)
      (each_map pends (λ (l : Line). is_look_at h l.op ≡ true → (w ≡ w) × (l.reply ≡ Reply.Pending)) (λ l k t. (refl, k t)) (lines_of w c.before c.first)
      pending_lines) in
      let made : MadeBy start_line.op h c.before = made_before c start_line.op h (has_more x.at.start y.first kept start_line.op h start_line.has) in
      let answered : (y.reply ≡ Reply.Pending) ⊎ ((end : TaskEnd) × (y.reply ≡ Reply.Ended end)) =
      quiet_looks_are_answered (run_terms layout load) c.before w (record { 0 = h }) y.reply (asking u x y g (y.first ++ kept) look y.more c)
      (record {
        op = start_line.op;
        alone = start_line.alone;
        before = made.before;
        starter = made.who;
        behind = made.behind;
        is = made.is;
        left =
            (are_left w h (entry made.who start_line.op (Reply.Handle h)
            ∷ made.behind) (each_behind (IsLeftTo w h) made.before (entry made.who start_line.op (Reply.Handle h)
            ∷ made.behind) (subst (Each (IsLeftTo w h)) made.is left))).1;
      }) in
      elim answered as (λ q. is_status y.reply ≡ false) [ inl e ↦ true_false (ap is_pending e) m.decides | inr e ↦ ap is_status e.1 ]
