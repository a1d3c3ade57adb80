-- In a run of a settled workload the statements of each part get their plain replies.
use Rattle.settled_runs.proofs.Names.{◌≡◌, ℕ, Bool, true, false, List, [], ◌∷◌, ◌++◌, Option, Some, None, refl, sym, ◌∙◌, ap, subst, ℤ, ◌&&◌, not, map, slice_get, option_and_then, IfSome, list_any, option_map, eq-eqb, Timeout, Mask, Layout, GroupHandle, entry, live_object, Action, NewTask, new_task, Queue, Deed, Statement, Workload, fields, word_for, values, place_used, AllFit, IsBoundAt, Op, Reply, Terms, State, is_open, released, starts_task, after_moves, gives, handle_of, asked_of, is_status, NodeEntry, next, after, some_same, fst_true, snd_true, not_true, group_at, call_of, Line, line_with, MadeLines, LookedLines, true_false, SameTask, HasObject, has_new, fresh_unlisted, run_terms, Part, verdict, all_statements, actions_in, queue_at, no_faults, IsPlainTask, GrantedTo, AllGranted, SettledRun, Asks, is_infinite, is_alone, waits_for, is_startable, has_one_fault_a_group, deed_spelled, end_at, task_in, plain_end, ArePlain, IsPlainReply, is_settled_deed, Each, arith, list_all, PartsReplyPlainly, SettledRepliesArePlain, word_row as row_of, ObjectKind, MtapiStatus, Sort, same_task, eqb-true, is_that_handle as is_given, TaskEnd, accepted, makes_object}
use Rattle.settled_runs.proofs.{Waits.passed, SeatsGranted.seats, Stays.made_objects_stay, Stays.on_start, Stays.AskedAs, Granted.is_up, Granted.allowed}
use Rattle.settled_runs.proofs.{Places.HasQueue, RunEnds.ends_as_asked, RunEnds.next_at, Waited.unrefused, Opened.legal_before, Opened.quiet_before}
use Rattle.settled_runs.proofs.WaitAll.{faults_after, plain_more, group_told}
use Rattle.settled_runs.proofs.Walk.{Seat, seat_granted, asking, cut_here, handle, made_here, put_task, queue_here, settled_here}
use Rattle.settled_runs.proofs.Each.{settled_whole, with_each, fold_seats, ran}
use Rattle.settled_runs.proofs.Along.{Cut, along, step_granted, step_statement, Step}

-- One statement

module _ {layout : Layout} {load : Workload} {es : List NodeEntry} {ns : List ℕ} (u : SettledRun layout load es ns) where
  abbrev terms : Terms
  terms = run_terms layout load

  abbrev actions : List Action
  actions = actions_in (all_statements load)

  abbrev ends : ℕ → Option TaskEnd
  ends h = end_at (after terms es).tasks h

  -- a task that was accepted ends as it was asked for
  ends_here : {who : ℕ} {A : List Line} {o : Op} {h n : ℕ} {B : List Line} (c : Cut who es ns A (line_with o (Reply.Handle h) n) B)
      → makes_object ObjectKind.Task o ≡ true → accepted (entry who o (Reply.Handle h)) ≡ Some h
      → (t : NewTask) × AskedAs (after terms c.before) t o × (ends h ≡ plain_end actions t)
  ends_here {who} {o} {h} c z acc =
      let s : State = after terms c.before in
      let e : NodeEntry = entry who o (Reply.Handle h) in
      let x : (t : NewTask) × AskedAs s t o × HasObject ObjectKind.Task h (SameTask (new_task t s.starts)) (next s e) =
      on_start (λ r ms. is_given h r ≡ true → (t : NewTask) × AskedAs s t o
      × HasObject ObjectKind.Task h (SameTask (new_task t s.starts)) (after_moves ms s)) s who
      (Reply.Handle h) (λ k i. true_false i refl) o z (λ k t b f i. (
        t,
        b,
        subst (λ (j : ℕ). HasObject ObjectKind.Task j (SameTask (new_task t s.starts))
            (after_moves (starts_task k t ∷ []) s)) (eqb-true k h i)
            (has_new k (SameTask (new_task t s.starts)) (new_task t s.starts) s.tasks (fresh_unlisted ObjectKind.Task s k f) (same_task (new_task t s.starts))),
      ))
      (next_at (ran u) c.before c.behind e h c.is acc).allowed (eq-eqb h h refl) in
      (x.0, x.1, ends_as_asked (ran u) c.before c.behind e h c.is acc x.0 s.starts x.2)

  module _ {w : ℕ} {p : Part} {rs : List Reply} (x : Seat layout load es ns w p rs) (one : has_one_fault_a_group actions p ≡ true) {s : Statement}
      (y : Step p.statements x.at.body rs s) (g : AllGranted y.before y.replies) (plain : ArePlain actions p.statements ends no_faults y.before y.replies) where
    -- the release
    begin_told : y.front ≡ line_with Op.Release y.reply 0 ∷ [] → is_status y.reply ≡ false
    begin_told e =
        let c = cut_here u x y g (line_with Op.Release y.reply 0) e in
        let a : Asks terms c.before w Op.Release y.reply = asking u x y g y.first (line_with Op.Release y.reply 0) y.more c in
        ap is_status (passed (not (is_open (after terms c.before).phase)) (Reply.Mtapi MtapiStatus.ErrNodeNotinit) (gives Reply.Ok (released ∷ [])) y.reply
        (is_up a) (allowed a))

    -- the wait for a task
    wait_told : (place : ℕ) (t : Timeout) → (is_infinite t && is_alone (option_and_then (λ z. task_in p.statements z.deed) (slice_get p.statements place))
        && not (list_any (λ z. waits_for place z.deed) y.before)) ≡ true → IsBoundAt Sort.Task y.before place
        → LookedLines true (λ last. Op.TaskLook (record { 0 = handle u x y g place }) last) t y.front y.reply → is_status y.reply ≡ false
    wait_told place Timeout.Infinite e i m =
        let a : (true && is_alone (option_and_then (λ z. task_in p.statements z.deed) (slice_get p.statements place))) ≡ true =
        fst_true _ (not (list_any (λ z. waits_for place z.deed) y.before)) e in
        unrefused u x y g place i (snd_true true _ a)
        (not_true _ (snd_true (true && is_alone (option_and_then (λ z. task_in p.statements z.deed) (slice_get p.statements place))) _ e)) m
    wait_told place _ e i m = true_false e refl

    -- the wait for all tasks of a group
    wait_all : (place : ℕ) (t : Timeout) → is_infinite t ≡ true → IsBoundAt Sort.Group y.before place
        → LookedLines false (λ last. Op.AllLook (record { 0 = handle u x y g place }) last) t y.front y.reply
        → y.reply ≡ verdict (faults_after actions p.statements no_faults y.before place)
    wait_all place Timeout.Infinite e i m = group_told u x y g place i one plain m
    wait_all place _ e i m = true_false e refl

    plain_reply : GrantedTo s.deed y.reply → IsPlainReply actions p.statements ends (faults_after actions p.statements no_faults y.before) s.deed y.reply
    unfolding IsPlainReply is_settled_deed task_in row_of deed_spelled plain_end
    plain_reply k = by s.deed (settled_here u x y g) (step_statement y x.are).uses (step_statement y x.are).options y.made k
      where
        group_of : Option ℕ → Option GroupHandle
        group_of group = option_map (group_at (map handle_of y.replies)) group

        by_queue : (queue : ℕ) (args : List ℤ) (cores : Mask) (detached : Bool) (group : Option ℕ) → (q : Option Queue) → queue_at p.statements queue ≡ q
            → is_startable load.settings (x.at.known ++ actions_in y.before) (option_map (put_task queue args cores detached group) q) ≡ true
            → IsBoundAt Sort.Queue y.before queue → MadeLines (call_of (map handle_of y.replies) (Deed.Enqueue queue args cores detached group)) y.front y.reply
            → (h : ℕ) → y.reply ≡ Reply.Handle h → IsPlainTask actions ends (option_map (put_task queue args cores detached group) q) y.reply
        by_queue queue args cores detached group None e k o n h i = true_false k refl
        by_queue queue args cores detached group (Some q) e k o n h i =
            let v : Op = Op.TaskEnqueue (record { 0 = handle u x y g queue }) args cores detached (group_of group) in
            let c = cut_here u x y g (line_with v (Reply.Handle h) 0) (n.0 ∙ ap (λ (r : Reply). line_with v r 0 ∷ []) i) in
            let t = ends_here c refl refl in
            let m : HasQueue y.first (handle u x y g queue) q = queue_here u x y g queue o q e in
            let there : live_object (after terms c.before).queues (handle u x y g queue) ≡ Some q =
            made_objects_stay terms c.before (Op.QueueCreate m.id m.job m.priority m.limit m.ordered m.retain) (handle u x y g queue) (legal_before u c)
            (quiet_before u c)
            (made_here u x y g c (Op.QueueCreate m.id m.job m.priority m.limit m.ordered m.retain) (handle u x y g queue) m.made) ∙ ap Some m.same in (
              put_task queue args cores detached group q,
              refl,
              h,
              i,
              t.2 ∙ ap (plain_end actions) (sym t.1.2 ∙ ap (λ (z : Queue). asked_of (handle u x y g queue) z args cores detached (group_of group))
                  (some_same (sym t.1.1 ∙ there))),
            )

        by : (d : Deed) → is_settled_deed load.settings (x.at.known ++ actions_in y.before) y.before p.statements d ≡ true
            → IfSome (place_used d) (λ v. IsBoundAt v.0 y.before v.1) → AllFit y.before (fields (word_for d)) (values d)
            → MadeLines (call_of (map handle_of y.replies) d) y.front y.reply → GrantedTo d y.reply
            → IsPlainReply actions p.statements ends (faults_after actions p.statements no_faults y.before) d y.reply
        by (Deed.Start job args priority cores detached group) e v o n k =
            let a : Op = Op.TaskStart job args priority cores detached (group_of group) in
            let t = ends_here (cut_here u x y g (line_with a (Reply.Handle k.0) 0) (n.0 ∙ ap (λ (r : Reply). line_with a r 0 ∷ []) k.1)) refl refl in (
              record { job = job; args = args; priority = priority; cores = cores.0; detached = detached; group = group; queue = None },
              refl,
              k.0,
              k.1,
              t.2 ∙ ap (plain_end actions) (sym t.1.0),
            )
        by (Deed.Enqueue queue args cores detached group) e v o n k =
            by_queue queue args cores detached group (queue_at p.statements queue) refl e o.0 n k.0 k.1
        by Deed.Begin e v o n k = begin_told n.0
        by (Deed.Action job kind cores) e v o n k = ap is_status k.1
        by Deed.Group e v o n k = ap is_status k.1
        by (Deed.Queue id job priority limit ordered retain) e v o n k = ap is_status k.1
        by (Deed.Wait place timeout) e v o n k = wait_told place timeout e v n
        by (Deed.WaitAll place timeout) e v o n k = wait_all place timeout e v n
        by _ e v o n k = true_false e refl

  -- the replies to the statements of a seat's part
  seat_plain : {w : ℕ} {p : Part} {rs : List Reply} (x : Seat layout load es ns w p rs) → has_one_fault_a_group actions p ≡ true
      → ArePlain actions p.statements ends no_faults p.statements rs
  unfolding ArePlain
  seat_plain {p} {rs} x one =
      along p.statements x.at.body rs (λ b l r. ArePlain actions p.statements ends no_faults b r) (λ s y i. let g = step_granted y (seat_granted u x) in
      plain_more actions p.statements ends no_faults y.before y.replies s y.reply y.many i (plain_reply x one y g.0 i g.1)) x.at.carried tt

-- All parts

each_part : (p : Part → Bool) (ps : List Part) → list_all p ps ≡ true → Each (λ x. p x ≡ true) ps
each_part p [] e = tt
each_part p (x ∷ ps) e = (fst_true _ (list_all p ps) e, each_part p ps (snd_true (p x) _ e))

pub settled_replies_are_plain : SettledRepliesArePlain
settled_replies_are_plain layout load es ns u =
    let one : Part → Type 0 = λ p. has_one_fault_a_group (actions_in (all_statements load)) p ≡ true in
    fold_seats (λ w p rs. Seat layout load es ns w p rs
    × one p) (λ w ps rss. PartsReplyPlainly (actions_in (all_statements load)) (λ h. end_at (after (run_terms layout load) es).tasks h) ps rss) 0
    (λ w rss. tt) (λ w p rs ps rss l x a. (seat_plain u x.0 x.1, a)) load.settings.workers load.parts u.run.replies (omega arith)
    (with_each (Seat layout load es ns) one load.settings.workers load.parts u.run.replies (seats u)
    (each_part (has_one_fault_a_group (actions_in (all_statements load))) load.parts (settled_whole load u.settled).faults))
