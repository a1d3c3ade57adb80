-- In a run of a settled workload each statement that makes an object is given its handle.
use Rattle.settled_runs.proofs.Names.{CallsAreGranted, ◌≡◌, ℕ, zero, suc, ◌+◌, ◌≤◌, Bool, true, false, List, [], ◌∷◌, Option, Some, refl, ◌∙◌, ap, subst, arith, not, nat_lt, map, slice_get, eq-eqb, eqb-true, nat_tests, how_many, Queue, Deed, Statement, fields, word_for, values, AllFit, IsBoundAt, IsStatement, AreStatements, Op, Reply, handle_of, fst_true, snd_true, handle_at, call_of, Line, MadeLines, true_false, puts, queue_in, deed_puts_into, deed_spelled, Carried, keep_limits, ◌⊎◌, inl, inr, ◌<◌, ◌++◌, None, sym, ℤ, ◌&&◌, option_and_then, IfSome, option_map, list_any, append-nil, Mask, Layout, Action, new_action, has_job, has_enabled_job, is_eligible, some_below, Workload, NodeEntry, both_true, group_at, line_with, closes, entries_that, run_terms, Part, IsOpened, HasAction, IsJobServed, GroupIsMade, Asks, IsGranted, IsQueued, actions_in, queue_at, serves, is_startable, set_up, GrantedTo, AllGranted, SettledRun, lines_of, task_in, is_settled_deed, cond_both, GroupHandle, word_row as row, in_mask, MadeBy, puts_entry, Sort, ObjectKind, ltb-true, le-leb, NewTask}
use Rattle.settled_runs.proofs.Granted.{bit, quiet_calls_are_granted}
use Rattle.settled_runs.proofs.Each.{is_outside, OnlyBy, PartAt, step_lines, IsBy, cut_before, ran}
use Rattle.settled_runs.proofs.Opened.{legal_here, quiet_before, new_id, room, rooms}
use Rattle.settled_runs.proofs.Counted.{asked, CallAsks, statements_ask, asks, many_append, only_asks, entries_asks, outside_none}
use Rattle.settled_runs.proofs.Along.{Cut, cut, BoundBy, step_bound, step_statement, bound_by, along, granted_more, step_settled, Step, step_before, step_found}
use Rattle.settled_runs.proofs.Places.{Has, has_more, HasQueue, queue_has, ActionOf, action_map, action_has, either, one_bound, Gave, Handed, at_group, bound_gave, gave_in, group_front, queues_handed, step_has}

-- How many tasks a part puts into one of its queues

module _ (h place : ℕ) where
  puts_call : (before : List Statement) (s : Statement) (bound : List ℕ) → IsStatement before s
      → ((queue : ℕ) → IsBoundAt Sort.Queue before queue → handle_at bound queue ≡ h → queue ≡ place)
      → CallAsks (puts h) (bit (deed_puts_into place s.deed)) (call_of bound s.deed)
  unfolding row deed_spelled
  puts_call before s bound e1 e2 = grind (arith, nat_tests)

  puts_carried : (all : List Statement) (ls : List Line) (rs : List Reply) → Carried MadeLines [] all ls rs → AreStatements [] all
      → ((other : ℕ) → BoundBy Sort.Queue all other → handle_at (map handle_of rs) other ≡ h → other ≡ place)
      → asked (puts h) ls ≤ how_many (λ s. deed_puts_into place s.deed) all
  puts_carried all ls rs c a only =
      statements_ask (puts h) (deed_puts_into place) all ls rs c
      (λ s x. puts_call x.before s (map handle_of x.replies) (step_statement x a) (λ queue o e. let y =
      step_bound x Sort.Queue queue o in only queue y.0 (y.1 ∙ e)))

pub puts_outside : (h : ℕ) (o : Op) → is_outside o ≡ true → puts h o ≡ false
puts_outside h o e1 = grind (arith, nat_tests)

-- and the limit of the queue

limit_from : (all : List Statement) (offset : ℕ) (ss : List Statement) (k : ℕ) (s : Statement) (x : Queue) → keep_limits all offset ss ≡ true
    → slice_get ss k ≡ Some s → queue_in s.deed ≡ Some x → how_many (λ e. deed_puts_into (offset + k) e.deed) all ≤ x.limit
unfolding keep_limits
limit_from all offset [] k s x e f q = absurd (cc)
limit_from all offset (t ∷ ss) zero s x e f q = grind (arith, nat_tests)
limit_from all offset (t ∷ ss) (suc k) s x e f q =
    subst (λ (n : ℕ). how_many (λ e. deed_puts_into n e.deed) all ≤ x.limit) (let z : (offset + 1) + k ≡ offset + suc k = omega arith in z)
    (limit_from all (offset + 1) ss k s x (snd_true _ (keep_limits all (offset + 1) ss) e) f q)

pub limit_at : (all : List Statement) (place : ℕ) (s : Statement) (x : Queue) → keep_limits all 0 all ≡ true → slice_get all place ≡ Some s
    → queue_in s.deed ≡ Some x → how_many (λ e. deed_puts_into place e.deed) all ≤ x.limit
limit_at all place s x e f q = subst (λ (n : ℕ). how_many (λ e. deed_puts_into n e.deed) all ≤ x.limit) (let z : 0 + place ≡ place = omega arith in
    z) (limit_from all 0 all place s x e f q)

-- an action that passes was made before
abbrev pub MadeAction : List NodeEntry → (Action → Bool) → Type 0
MadeAction L p = ActionOf (λ o h. MadeBy o h L) p

-- what a seat's part finds of the others before each of its lines: the node is open and was never closed, and these actions were made
pub record Finds (known : List Action) (L : List NodeEntry) : Type 0 where
  pub opened : IsOpened L
  pub unclosed : asks closes L ≡ 0
  pub acts : (p : Action → Bool) → list_any p known ≡ true → MadeAction L p

-- a seat that runs a part of the workload: no other seat puts tasks into queues, or this one doesn't
pub record Seat (layout : Layout) (load : Workload) (es : List NodeEntry) (ns : List ℕ) (w : ℕ) (p : Part) (rs : List Reply) : Type 0 where
  pub at : PartAt load es ns w p rs
  pub finds : (A : List Line) (l : Line) (B : List Line) (c : Cut w es ns (at.start ++ A) l (B ++ at.finish)) → Finds at.known c.before
  pub alone : (set_up p.statements ≡ false) ⊎ ((h : ℕ) → OnlyBy w (puts h) es)
  pub limits : keep_limits p.statements 0 p.statements ≡ true
  pub are : AreStatements [] p.statements

-- what one of the lines before another made
pub made_before : {who : ℕ} {es : List NodeEntry} {ns : List ℕ} {A : List Line} {l : Line} {B : List Line} (c : Cut who es ns A l B) (o : Op) (h : ℕ)
    → Has A o h → MadeBy o h c.before
made_before {who} c o h x =
    let d = cut who c.before c.first x.before (line_with o (Reply.Handle h) x.beside) x.behind (c.done ∙ x.is) in
    record { before = d.before; who = who; behind = d.behind; is = d.is }

some_worker : (n : ℕ) (p : ℕ → Bool) → some_below n p ≡ true → (w : ℕ) × (w < n) × (p w ≡ true)
some_worker zero p e = true_false e refl
some_worker (suc n) p e = cond_both (p n) true (some_below n p) (λ z. z ≡ true
    → (w : ℕ) × (w < suc n) × (p w ≡ true)) (λ i f. (n, omega arith, i)) (λ i f. let x = some_worker n p f in
    (x.0, (let z : x.0 < n = x.1 in omega arith), x.2)) e

-- a statement that makes a queue sets up
pub sets_all : (all : List Statement) (place : ℕ) (s : Statement) (x : Queue) → slice_get all place ≡ Some s → queue_in s.deed ≡ Some x → set_up all ≡ true
sets_all [] place s x e q = absurd (cc)
sets_all (t ∷ all) zero s x e q = grind (arith, nat_tests)
sets_all (t ∷ all) (suc place) s x e q = grind (arith, nat_tests, sets_all all place s x)

-- One statement

three_true : (a b c : Bool) → (not a && b && c) ≡ true → (a ≡ false) × (b ≡ true) × (c ≡ true)
three_true a b c e = grind (arith, nat_tests)

-- the task that an enqueue asks for
abbrev pub put_task : ℕ → List ℤ → Mask → Bool → Option ℕ → Queue → NewTask
put_task queue args cores detached group x =
    record { job = x.job; args = args; priority = x.priority; cores = cores.0; detached = detached; group = group; queue = Some queue }

module _ {layout : Layout} {load : Workload} {es : List NodeEntry} {ns : List ℕ} (u : SettledRun layout load es ns) {w : ℕ} {p : Part} {rs : List Reply}
    (x : Seat layout load es ns w p rs) {s : Statement} (y : Step p.statements x.at.body rs s) (g : AllGranted y.before y.replies) where
  -- the handle that a place stands for
  abbrev pub handle : ℕ → ℕ
  handle place = handle_at (map handle_of y.replies) place

  pub settled_here : is_settled_deed load.settings (x.at.known ++ actions_in y.before) y.before p.statements s.deed ≡ true
  settled_here = step_settled y load.settings x.at.known x.at.settled

  pub one_handle : {k : ObjectKind} {t : Sort} (z : Handed k t) (a b : ℕ) → BoundBy t y.before a → BoundBy t y.before b → handle a ≡ handle b → a ≡ b
  one_handle z a b = one_bound z (ran u) w x.at.start y.before y.first y.replies (y.front ++ (y.more ++ x.at.finish)) (step_lines x.at y) y.carried g a b

  pub gave_here : {k : ObjectKind} {t : Sort} (z : Handed k t) (place : ℕ) → BoundBy t y.before place → Gave k (handle place) (lines_of w es ns)
  gave_here z place b = gave_in (lines_of w es ns) x.at.start (y.front ++ (y.more ++ x.at.finish)) (step_lines x.at y)
      (bound_gave z y.before y.first y.replies y.carried g place b (handle place) refl)

  -- the queue of a place is as its statement made it
  queue_found : (queue : ℕ) (b : BoundBy Sort.Queue y.before queue) (q : Queue) → queue_at p.statements queue ≡ Some q → queue_in b.statement.deed ≡ Some q
  queue_found queue b q e = sym (ap (option_and_then (λ z. queue_in z.deed)) (step_found y Sort.Queue queue b)) ∙ e

  pub queue_here : (queue : ℕ) → IsBoundAt Sort.Queue y.before queue → (q : Queue) → queue_at p.statements queue ≡ Some q → HasQueue y.first (handle queue) q
  queue_here queue i q e = let b : BoundBy Sort.Queue y.before queue = bound_by Sort.Queue y.before queue i in
      queue_has y.before y.first y.replies y.carried g queue b.statement q b.found (queue_found queue b q e)

  -- where its statement has one line
  pub cut_here : (l : Line) → y.front ≡ l ∷ [] → Cut w es ns (x.at.start ++ y.first) l (y.more ++ x.at.finish)
  cut_here l e = cut w es ns (x.at.start ++ y.first) l (y.more ++ x.at.finish) (step_lines x.at y
      ∙ ap (λ (z : List Line). (x.at.start ++ y.first) ++ (z ++ (y.more ++ x.at.finish))) e)

  pub asking : (A : List Line) (l : Line) (B : List Line) (c : Cut w es ns (x.at.start ++ A) l (B ++ x.at.finish))
      → Asks (run_terms layout load) c.before w l.op l.reply
  asking A l B c = record { legal = legal_here u c; quiet = quiet_before u c; opened = (x.finds A l B c).opened }

  module _ {l : Line} (c : Cut w es ns (x.at.start ++ y.first) l (y.more ++ x.at.finish)) where
    pub made_here : (o : Op) (h : ℕ) → Has y.first o h → MadeBy o h c.before
    made_here o h v = made_before c o h (subst (λ (z : List Line). Has z o h) (ap (λ (z : List Line). x.at.start ++ z) (append-nil y.first))
        (has_more x.at.start y.first [] o h v))

    action_made : (q : Action → Bool) → list_any q (x.at.known ++ actions_in y.before) ≡ true → MadeAction c.before q
    action_made q e = elim (either q x.at.known (actions_in y.before) e) as (λ z. MadeAction c.before q) [
      | inl i ↦ (x.finds y.first l y.more c).acts q i
      | inr i ↦
          action_map (Has y.first) (λ v h. MadeBy v h c.before) q made_here (action_has y.before y.first y.replies q y.carried g i)
    ]

    has_action : (job : ℕ) → list_any (has_job job) (x.at.known ++ actions_in y.before) ≡ true → HasAction c.before job
    has_action job e =
        let v : MadeAction c.before (has_job job) = action_made (has_job job) e in
        let same : v.job ≡ job = eqb-true v.job job v.passes in
        record {
          kind = v.kind;
          mask = v.mask;
          handle = v.handle;
          made = subst (λ (j : ℕ). MadeBy (Op.ActionCreate j v.kind v.mask) v.handle c.before) same v.made;
        }

    is_served : (job cores : ℕ) → serves load.settings.workers (x.at.known ++ actions_in y.before) job cores ≡ true
        → IsJobServed (run_terms layout load) c.before job cores
    is_served job cores e =
        let n = some_worker load.settings.workers (λ v. list_any (is_eligible load.settings.workers v job cores) (x.at.known ++ actions_in y.before)) e in
        let v : MadeAction c.before (is_eligible load.settings.workers n.0 job cores) = action_made (is_eligible load.settings.workers n.0 job cores) n.2 in
        let a : (has_enabled_job job (new_action v.job v.kind v.mask.0) && nat_lt n.0 load.settings.workers && in_mask n.0 v.mask.0) ≡ true =
        fst_true _ (in_mask n.0 cores) v.passes in
        let b : (has_enabled_job job (new_action v.job v.kind v.mask.0) && nat_lt n.0 load.settings.workers) ≡ true = fst_true _ (in_mask n.0 v.mask.0) a in
        let same : v.job ≡ job = eqb-true v.job job (fst_true _ (nat_lt n.0 load.settings.workers) b) in
        record {
          kind = v.kind;
          mask = v.mask;
          handle = v.handle;
          made = subst (λ (j : ℕ). MadeBy (Op.ActionCreate j v.kind v.mask) v.handle c.before) same v.made;
          worker = n.0;
          is_worker = n.1;
          in_action = snd_true _ (in_mask n.0 v.mask.0) a;
          in_task = snd_true _ (in_mask n.0 cores) v.passes;
        }

    group_made : (group : Option ℕ) → IfSome group (IsBoundAt Sort.Group y.before)
        → GroupIsMade (option_map (group_at (map handle_of y.replies)) group) c.before
    group_made None i = tt
    group_made (Some n) i =
        let b : BoundBy Sort.Group y.before n = bound_by Sort.Group y.before n i in
        made_here Op.GroupCreate (handle n) (step_has (at_group y.before y.first y.replies y.carried g n b).step Op.GroupCreate (handle n)
        (group_front y.before y.first y.replies y.carried g n b))

    few_puts : (queue : ℕ) → IsBoundAt Sort.Queue y.before queue → (q : Queue) → queue_at p.statements queue ≡ Some q → deed_puts_into queue s.deed ≡ true
        → entries_that (puts_entry (handle queue)) c.before < q.limit
    few_puts queue i q e k = by x.alone
      where
        b : BoundBy Sort.Queue y.before queue
        b = bound_by Sort.Queue y.before queue i

        by : (set_up p.statements ≡ false) ⊎ ((h : ℕ) → OnlyBy w (puts h) es) → entries_that (puts_entry (handle queue)) c.before < q.limit
        by (inl n) = true_false (sets_all p.statements queue b.statement q (step_found y Sort.Queue queue b) (queue_found queue b q e)) n
        by (inr only) = few (handle queue) (puts_carried (handle queue) queue y.before y.first y.replies y.carried (step_before y x.are)
            (λ other z n. one_handle queues_handed other queue z b n)) (only (handle queue))
          where
            few : (j : ℕ) → asked (puts j) y.first ≤ how_many (λ z. deed_puts_into queue z.deed) y.before → OnlyBy w (puts j) es
                → entries_that (puts_entry j) c.before < q.limit
            few j n o =
                let a : asks (puts j) c.before ≤ asked (puts j) (lines_of w c.before c.first) =
                only_asks w (puts j) c.before c.first c.same (cut_before c (IsBy w (puts j)) o) in
                let d : asked (puts j) (lines_of w c.before c.first) ≡ asked (puts j) x.at.start + asked (puts j) y.first =
                ap (asked (puts j)) c.done ∙ many_append (λ z. puts j z.op) x.at.start y.first in
                let m : asked (puts j) x.at.start ≡ 0 = outside_none (puts j) (puts_outside j) x.at.start x.at.first in
                let t : entries_that (puts_entry j) c.before ≤ asks (puts j) c.before =
                entries_asks (puts j) (puts_entry j) (λ z v. fst_true (puts j z.op) _ v) c.before in
                let v : how_many (λ z. deed_puts_into queue z.deed) p.statements ≤ q.limit =
                limit_at p.statements queue b.statement q x.limits (step_found y Sort.Queue queue b) (queue_found queue b q e) in
                let z : how_many (λ z. deed_puts_into queue z.deed) p.statements
                ≡ how_many (λ z. deed_puts_into queue z.deed) y.before
                + (bit (deed_puts_into queue s.deed) + how_many (λ z. deed_puts_into queue z.deed) y.rest) =
                ap (how_many (λ z. deed_puts_into queue z.deed)) y.parted ∙ many_append (λ z. deed_puts_into queue z.deed) y.before (s ∷ y.rest) in
                let one : bit (deed_puts_into queue s.deed) ≡ 1 = ap bit k in
                let f : asked (puts j) y.first ≤ how_many (λ z. deed_puts_into queue z.deed) y.before = n in
                omega arith

    is_queued : (queue : ℕ) → IsBoundAt Sort.Queue y.before queue → (q : Queue) → queue_at p.statements queue ≡ Some q → deed_puts_into queue s.deed ≡ true
        → IsQueued c.before (handle queue) q.job q.priority
    is_queued queue i q e k =
        let v : HasQueue y.first (handle queue) q = queue_here queue i q e in
        subst (λ (z : Queue). IsQueued c.before (handle queue) z.job z.priority) v.same (record {
          id = v.id;
          limit = v.limit;
          ordered = v.ordered;
          retain = v.retain;
          made = made_here (Op.QueueCreate v.id v.job v.priority v.limit v.ordered v.retain) (handle queue) v.made;
          few = subst (λ (m : ℕ). entries_that (puts_entry (handle queue)) c.before < m) (sym (ap (λ (z : Queue). z.limit) v.same)) (few_puts queue i q e k);
        })

    calls : CallsAreGranted (run_terms layout load) c.before w l.reply
    calls = quiet_calls_are_granted (run_terms layout load) c.before w l.reply

  -- the statement is given what it asks for
  given : GrantedTo s.deed y.reply
  unfolding is_settled_deed task_in row deed_spelled
  given = by s.deed refl settled_here (step_statement y x.are).options y.made
    where
      group_of : Option ℕ → Option GroupHandle
      group_of group = option_map (group_at (map handle_of y.replies)) group

      by_queue : (queue : ℕ) (args : List ℤ) (cores : Mask) (detached : Bool) (group : Option ℕ) → (q : Option Queue) → queue_at p.statements queue ≡ q
          → is_startable load.settings (x.at.known ++ actions_in y.before) (option_map (put_task queue args cores detached group) q) ≡ true
          → AllFit y.before (fields (word_for (Deed.Enqueue queue args cores detached group))) (values (Deed.Enqueue queue args cores detached group))
          → deed_puts_into queue s.deed ≡ true → MadeLines (call_of (map handle_of y.replies) (Deed.Enqueue queue args cores detached group)) y.front y.reply
          → IsGranted y.reply
      by_queue queue args cores detached group None e k o i n = true_false k refl
      by_queue queue args cores detached group (Some q) e k o i n =
          let t = three_true detached (nat_lt q.priority load.settings.priorities) _ k in
          let v : Op = Op.TaskEnqueue (record { 0 = handle queue }) args cores false (group_of group) in
          let c = cut_here (line_with v y.reply 0) (n.0
          ∙ ap (λ (b : Bool). line_with (Op.TaskEnqueue (record { 0 = handle queue }) args cores b (group_of group)) y.reply 0 ∷ []) t.0) in
          (calls c).enqueue (record { 0 = handle queue }) q.job q.priority args cores (group_of group) (asking y.first (line_with v y.reply 0) y.more c)
          (is_queued c queue o.0 q e i) (room u c ObjectKind.Task (rooms load u.settled).3 refl) (is_served c q.job cores.0 t.2)
          (group_made c group o.1.1.1.1.0)

      by : (d : Deed) → s.deed ≡ d → is_settled_deed load.settings (x.at.known ++ actions_in y.before) y.before p.statements d ≡ true
          → AllFit y.before (fields (word_for d)) (values d) → MadeLines (call_of (map handle_of y.replies) d) y.front y.reply → GrantedTo d y.reply
      by (Deed.Action job kind cores) i e o n =
          let v : Op = Op.ActionCreate job kind cores in
          let c = cut_here (line_with v y.reply 0) n.0 in
          (calls c).action job kind cores (asking y.first (line_with v y.reply 0) y.more c) (both_true _ _ (le-leb 1 job o.0.0) (le-leb job 65535 o.0.1))
          (room u c ObjectKind.Action (rooms load u.settled).0 refl)
      by Deed.Group i e o n = let c = cut_here (line_with Op.GroupCreate y.reply 0) n.0 in
          (calls c).group (asking y.first (line_with Op.GroupCreate y.reply 0) y.more c) (room u c ObjectKind.Group (rooms load u.settled).1 refl)
      by (Deed.Queue id job priority limit ordered retain) i e o n =
          let v : Op = Op.QueueCreate id job priority limit ordered retain in
          let c = cut_here (line_with v y.reply 0) n.0 in
          (calls c).queue id job priority limit ordered retain (asking y.first (line_with v y.reply 0) y.more c)
          (ltb-true priority load.settings.priorities (fst_true _ (list_any (has_job job) (x.at.known ++ actions_in y.before)) e)) o.1.1.1.0
          (room u c ObjectKind.Queue (rooms load u.settled).2 refl) (has_action c job (snd_true (nat_lt priority load.settings.priorities) _ e))
          (new_id u c id (eq-eqb id id refl))
      by (Deed.Start job args priority cores detached group) i e o n =
          let t = three_true detached (nat_lt priority load.settings.priorities) _ e in
          let v : Op = Op.TaskStart job args priority cores false (group_of group) in
          let c = cut_here (line_with v y.reply 0) (n.0
          ∙ ap (λ (b : Bool). line_with (Op.TaskStart job args priority cores b (group_of group)) y.reply 0 ∷ []) t.0) in
          (calls c).start job args priority cores (group_of group) (asking y.first (line_with v y.reply 0) y.more c)
          (ltb-true priority load.settings.priorities t.1) (room u c ObjectKind.Task (rooms load u.settled).3 refl) (is_served c job cores.0 t.2)
          (group_made c group o.1.1.1.1.1.0)
      by (Deed.Enqueue queue args cores detached group) i e o n =
          by_queue queue args cores detached group (queue_at p.statements queue) refl e o (ap (deed_puts_into queue) i ∙ eq-eqb queue queue refl) n
      by Deed.Begin i e o n = tt
      by (Deed.Wait place timeout) i e o n = tt
      by (Deed.WaitAll place timeout) i e o n = tt
      by _ i e o n = true_false e refl

pub seat_granted : {layout : Layout} {load : Workload} {es : List NodeEntry} {ns : List ℕ} (u : SettledRun layout load es ns) {w : ℕ} {p : Part}
    {rs : List Reply} → Seat layout load es ns w p rs → AllGranted p.statements rs
seat_granted u {p} {rs} x =
    along p.statements x.at.body rs (λ b l r. AllGranted b r) (λ s y g. granted_more y.before y.replies s y.reply g y.many (given u x y g)) x.at.carried tt
