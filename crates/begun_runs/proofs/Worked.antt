-- The worked lists, by computing.
use Rattle.std.specs.Prelude.{◌⊎◌, codes}
use Rattle.std.proofs.lemmas.Bool.Decides.{nat_tests}
use Rattle.std.proofs.Common.{rules, ◌≡◌, ℕ, zero, suc, ◌<◌, Bool, true, false, List, [], ◌∷◌, ◌++◌, length, refl, sym, ◌∙◌, ap, subst, arith, inl, inr}
use Rattle.mtapi_machine.specs.Legal.{Fits, Legal}
use Rattle.mtapi_machine.specs.Replay.{replay}
use Rattle.action_fn.specs.Answers.{fits, answer_of}
use Rattle.handle_pool.specs.Issued.{live_of, issue, change, listed, issued_at, retired, is_full, may_issue}
use Rattle.mtapi_machine.specs.WorkRows.{can_take, has_better, is_ready}
use Rattle.mtapi_machine.specs.Legal.{after_from}
use Rattle.mtapi_objects.specs.Actions.{has_worker}
use Rattle.mtapi_objects.specs.Tasks.{end_each}
use Rattle.std.specs.Fmt.{digits}
use Rattle.mtapi_machine.specs.Ends.{end_at}
use Rattle.mtapi_machine.proofs.Replays.{is_at_most, legal_if}
use Rattle.history.specs.Histories.{entry, entries_of}
use Rattle.mtapi_values.specs.declared.handles.Layout.TheVariants.{One}
use Rattle.mtapi_machine.specs.declared.ops.Op.{Op}
use Rattle.mtapi_machine.specs.declared.ops.Op.TheVariants as op
use Rattle.mtapi_machine.specs.declared.replies.Reply.{Reply}
use Rattle.mtapi_machine.specs.declared.replies.Reply.TheVariants as reply
use Rattle.mtapi_machine.specs.Legal.{NodeEntry}
use Rattle.mtapi_machine.specs.Worked.{main_entry, closed}
use Rattle.workload_file.specs.Deeds.{is_begin}
use Rattle.workload_file.specs.declared.workload.Workload.{Workload}
use Rattle.workload_runs.specs.Lines.{line_with, lines_of, MadeLines}
use Rattle.workload_runs.specs.Parts.{Carried, CallersRan, has_begin}
use Rattle.workload_runs.specs.RunOf.{all_work, WorkerRan, RunOf, ClosesAtEnd}
use Rattle.run_report.specs.Calls.{shown_of, task_lines_of, task_name, call_lines_of}
use Rattle.run_report.specs.Replies.{decided, further_told}
use Rattle.run_report.specs.Report.{report, run_terms}
use Rattle.run_report.specs.Tasks.{numbers_text, end_text}
use Rattle.run_report.specs.Worked.{cancelled_load, cancelled_run}
use Rattle.std.specs.List.{Contains}
use Rattle.std.proofs.Common.{None}
use Rattle.mtapi_values.specs.declared.timeouts.Timeout.TheVariants as timeout
use Rattle.workload_file.specs.declared.workload.Deed.TheVariants as deed
use Rattle.workload_runs.specs.Calls.{call_of}
use Rattle.workload_runs.specs.RunOf.{is_work}
use Rattle.mtapi_machine.specs.Row.{Allows}
use Rattle.mtapi_machine.specs.Rows.{row}
use Rattle.mtapi_machine.specs.State.{State}
use Rattle.mtapi_machine.specs.Legal.{IsNext, LegalFrom, after, next}
use Rattle.mtapi_machine.specs.declared.terms.Terms.{Terms}
use Rattle.mtapi_machine.specs.Kept.{kept}
use Rattle.begun_runs.specs.Begun.{Begun, Stuck}
use Rattle.std.specs.List.{Any}
use Rattle.std.proofs.Common.{append_assoc, cond}
use Rattle.workload_file.specs.declared.workload.Part.{Part}
use Rattle.mtapi_machine.specs.Kept.{is_dropped}
use Rattle.run_report.specs.Replies.{decides}
use Rattle.begun_runs.specs.Asks.{AskedBy, AsksPart, AsksNext, MainAsks, MayMake, worker, caller}
use Rattle.begun_runs.specs.Asks as may
use Rattle.run_report.specs.Worked.{using}
use Rattle.begun_runs.proofs.Next.{each_is_asked}
use Rattle.begun_runs.proofs.Lasts.{closes_behind}
use Rattle.begun_runs.specs.Complete.{HasAllReports, HasAllDeadlocks, SamePlaces}
use Rattle.begun_runs.specs.Worked.{none_skipped, completed_run, cancelled_text, completed_text, stuck_statements, stuck_load, stuck_history, free_load, early_load, early_close, RunsToReport, WorkedComplete}

-- Runs

the_terms : Fits (run_terms One cancelled_load)
the_terms = search (rules, is_at_most)

cancelled_legal : Legal (run_terms One cancelled_load) cancelled_run
unfolding replay live_of issue change listed issued_at retired is_full may_issue fits answer_of has_worker end_each is_ready can_take has_better
cancelled_legal = record { fits = the_terms; from = legal_if _ _ refl }

completed_legal : Legal (run_terms One cancelled_load) completed_run
unfolding replay live_of issue change listed issued_at retired is_full may_issue fits answer_of has_worker end_each is_ready can_take has_better
completed_legal = record { fits = the_terms; from = legal_if _ _ refl }

cancelled_reads : report One cancelled_load cancelled_run ≡ cancelled_text
unfolding digits report after_from live_of issue change listed issued_at retired is_full may_issue fits answer_of has_worker end_each is_ready can_take
    has_better is_begin has_begin decided further_told end_at numbers_text end_text shown_of task_lines_of task_name call_lines_of
cancelled_reads = search rules

completed_reads : report One cancelled_load completed_run ≡ completed_text
unfolding digits report after_from live_of issue change listed issued_at retired is_full may_issue fits answer_of has_worker end_each is_ready can_take
    has_better is_begin has_begin decided further_told end_at numbers_text end_text shown_of task_lines_of task_name call_lines_of
completed_reads = search rules

-- what one worker and main alone have made
only_worker : (es : List NodeEntry) (ns : List ℕ) → WorkerRan (lines_of 0 es ns) → (w : ℕ) → w < 1 → WorkerRan (lines_of w es ns)
only_worker es ns x w small = subst (λ (k : ℕ). WorkerRan (lines_of k es ns)) (omega (arith, small)) x

no_caller : (who : ℕ) (o : Op) (r : Reply) → 1 < who → entries_of who (entry 0 o r ∷ []) ≡ []
no_caller zero o r l = absurd (omega (arith, l))
no_caller (suc who) o r l = grind (arith, nat_tests)

the_end : (es : List NodeEntry) → ClosesAtEnd 1 (es ++ closed)
the_end es = record {
  before = es;
  behind = entry 0 op.Pick reply.Stop ∷ [];
  closes = refl;
  callers_ended = λ who l. no_caller who op.Pick reply.Stop l;
}

cancelled_ran : RunOf cancelled_load cancelled_run (none_skipped cancelled_run)
unfolding Carried CallersRan lines_of all_work has_begin is_begin
cancelled_ran = record {
  replies = (reply.Handle 4294967296 ∷ reply.Handle 4294967296 ∷ reply.Ok ∷ []) ∷ [];
  parts = (
    record {
      body = _;
      is = refl;
      carried = (_ ∷ [], _, refl, (refl, refl), (_ ∷ [], _, refl, (refl, refl), (_ ∷ [], [], refl, (refl, refl), refl)));
    },
    tt,
  );
  workers = only_worker cancelled_run (none_skipped cancelled_run) (record { work = []; beside = 0; is = refl; works = refl });
  ends = the_end (main_entry op.Initialize reply.Ok ∷ main_entry op.Release reply.Ok ∷ _ ∷ _ ∷ _ ∷ []);
}

completed_ran : RunOf cancelled_load completed_run (none_skipped completed_run)
unfolding Carried CallersRan lines_of all_work has_begin is_begin
completed_ran = record {
  replies = (reply.Handle 4294967296 ∷ reply.Handle 4294967296 ∷ reply.Ok ∷ []) ∷ [];
  parts = (
    record {
      body = _;
      is = refl;
      carried = (_ ∷ [], _, refl, (refl, refl), (_ ∷ [], _, refl, (refl, refl), (_ ∷ [], [], refl, (refl, refl), refl)));
    },
    tt,
  );
  workers = only_worker completed_run (none_skipped completed_run) (record { work = _ ∷ _ ∷ []; beside = 0; is = refl; works = refl });
  ends = the_end (main_entry op.Initialize reply.Ok ∷ main_entry op.Release reply.Ok ∷ _ ∷ _ ∷ _ ∷ _ ∷ _ ∷ []);
}

-- Lists that lack a report

only_one : (a b : List ℕ) → Contains (a ∷ []) b → a ≡ b
only_one a b (zero, l, e) = e
only_one a b (suc k, l, e) = absurd (omega (arith, l))

lacks : (load : Workload) (es : List NodeEntry) (text other : List ℕ) → RunsToReport load es text → length es ≡ length (none_skipped es) → (other ≡ text → ⊥)
    → HasAllReports load (other ∷ []) → ⊥
lacks load es text other r even differ all =
    differ (only_one other (report One load es) (all One es (none_skipped es) even r.legal r.run) ∙ r.reads)

cancelled_runs : RunsToReport cancelled_load cancelled_run cancelled_text
cancelled_runs = record { legal = cancelled_legal; run = cancelled_ran; reads = cancelled_reads }

completed_runs : RunsToReport cancelled_load completed_run completed_text
completed_runs = record { legal = completed_legal; run = completed_ran; reads = completed_reads }

-- The deadlock

abbrev terms : Terms
terms = run_terms One stuck_load

-- main has the only unit, and looks for one more
unfoldable held : State
held = after terms stuck_history

stuck_legal : Legal terms stuck_history
unfolding replay live_of issue change listed issued_at retired is_full may_issue fits answer_of has_worker end_each is_ready can_take has_better
stuck_legal = record { fits = search (rules, is_at_most); from = legal_if _ _ refl }

abbrev look : NodeEntry
look = main_entry (op.SemLook (record { 0 = 4294967296 }) false) reply.Pending

abbrev idle : NodeEntry
idle = entry 0 op.Pick reply.Idle

abbrev carried_on : List NodeEntry
carried_on = main_entry (op.SemLook (record { 0 = 4294967296 }) false) reply.Ok ∷ closed

carried_ran : RunOf stuck_load (stuck_history ++ carried_on) (none_skipped (stuck_history ++ carried_on))
unfolding Carried CallersRan lines_of all_work has_begin is_begin
carried_ran = record {
  replies = (reply.Handle 4294967296 ∷ reply.Ok ∷ reply.Ok ∷ []) ∷ [];
  parts = (
    record {
      body = _;
      is = refl;
      carried = (_ ∷ [], _, refl, (refl, refl), (_ ∷ [], _, refl, at_once, (_ ∷ [], [], refl, at_once, refl)));
    },
    tt,
  );
  workers = only_worker (stuck_history ++ carried_on) (none_skipped (stuck_history ++ carried_on)) (record { work = []; beside = 0; is = refl; works = refl });
  ends = the_end (stuck_history ++ main_entry (op.SemLook (record { 0 = 4294967296 }) false) reply.Ok ∷ []);
}
  where
    at_once : MadeLines (call_of (4294967296 ∷ []) (deed.SemLock 0 timeout.Infinite)) (line_with (op.SemLook (record { 0 = 4294967296 }) false) reply.Ok 0
        ∷ []) reply.Ok
    at_once = record { first = None; beside = 0; last = false; is = refl; none_kept = λ _. refl; decides = refl; within = refl; late = λ e. absurd (cc) }

stuck_begun : Begun stuck_load stuck_history (none_skipped stuck_history)
stuck_begun = record { rest = carried_on; beside = none_skipped carried_on; even = refl; even_rest = refl; run = carried_ran }

no_stop : {A : Type 0} (work : List A) (x : A) → [] ≡ work ++ x ∷ [] → ⊥
no_stop [] x e = cc
no_stop (y ∷ work) x e = cc

stuck_unended : RunOf stuck_load stuck_history (none_skipped stuck_history) → ⊥
unfolding lines_of
stuck_unended run = let w = run.workers 0 (omega arith) in no_stop w.work (line_with op.Pick reply.Stop w.beside) w.is

-- the worker is idle
worker_idles : (o : Op) (r : Reply) → is_work o r ≡ true → Allows (row held 0 o r) r → entry 0 o r ≡ idle
unfolding held after_from live_of issue change listed issued_at retired is_full may_issue has_worker is_ready can_take has_better
worker_idles op.Pick (reply.Picked t a k args) w x = absurd x
worker_idles op.Pick reply.Idle w x = refl
worker_idles (op.Finish t done) reply.Ok w x = absurd (cc)
worker_idles (op.Asked t) (reply.Asked b) w x = absurd (cc)
worker_idles (op.WatchEnd t) (reply.Ended e) w x = absurd (cc)
worker_idles (op.TallyLock t) (reply.Asked b) w x = absurd (cc)
worker_idles (op.TallyLock t) reply.Pending w x = absurd (cc)
worker_idles (op.TallyRead t) (reply.Number z) w x = absurd (cc)
worker_idles (op.TallyWrite t v) reply.Ok w x = absurd (cc)
worker_idles (op.TallyEnd t) (reply.Ended e) w x = absurd (cc)
worker_idles _ _ w x = absurd (cc)

no_stop_yet : Allows (row held 0 op.Pick reply.Stop) reply.Stop → ⊥
unfolding held after_from live_of issue change listed issued_at retired is_full may_issue has_worker is_ready can_take has_better
no_stop_yet x = cc

-- and main's looks are answered Pending
main_pends : (r : Reply) → Allows (row held 1 (op.SemLook (record { 0 = 4294967296 }) false) r) r → r ≡ reply.Pending
unfolding held after_from live_of issue change listed issued_at retired is_full may_issue has_worker is_ready can_take has_better
main_pends r x = x

-- what each of the two may make then
abbrev Goes : NodeEntry → Type 0
Goes x = (x ≡ idle) ⊎ (x ≡ look)

goes_by : (D : List NodeEntry) (x : NodeEntry) → decided 1 (stuck_history ++ D) ≡ decided 1 stuck_history → IsNext held x
    → MayMake stuck_load (stuck_history ++ D) x
    → Goes x
unfolding decided AsksPart AsksNext has_begin is_begin
goes_by D x same is_next (worker e small (inl works)) =
    let zero_seat : e.who ≡ 0 = omega (arith, small) in
    inl (ap (λ (w : ℕ). entry w e.op e.reply) zero_seat
    ∙ worker_idles e.op e.reply works (subst (λ (w : ℕ). Allows (row held w e.op e.reply) e.reply) zero_seat is_next.allowed))
goes_by D x same is_next (worker e small (inr stops)) =
    let zero_seat : e.who ≡ 0 = omega (arith, small) in
    let is : e ≡ entry 0 op.Pick reply.Stop = stops ∙ ap (λ (w : ℕ). entry w op.Pick reply.Stop) zero_seat in
    absurd (no_stop_yet (subst (λ (y : NodeEntry). Allows (row held y.who y.op y.reply) y.reply) is is_next.allowed))
goes_by D x same is_next (may.main e p ps are is asks) =
    by_main p ps are (subst (λ (rs : List Reply). MainAsks p.statements rs e.op) (ap (λ (w : ℕ). decided w (stuck_history ++ D)) is ∙ same) asks)
  where
    by_main : (p : Part) (ps : List Part) → stuck_load.parts ≡ p ∷ ps → MainAsks p.statements (decided 1 stuck_history) e.op → Goes e
    by_main p ps are asks =
        let here : record { line = 0; name = codes "main"; statements = stuck_statements } ≡ p = cc in
        let looks : AskedBy (call_of (4294967296 ∷ 0 ∷ []) (deed.SemLock 0 timeout.Infinite)) e.op =
        subst (λ (q : Part). MainAsks q.statements (decided 1 stuck_history) e.op) (sym here) asks in
        let asked : e.op ≡ op.SemLook (record { 0 = 4294967296 }) false =
        looks.1 ∙ ap (λ (b : Bool). op.SemLook (record { 0 = 4294967296 }) b) (looks.2 refl) in
        let shape : e ≡ entry 1 (op.SemLook (record { 0 = 4294967296 }) false) e.reply = (λ i. entry (is i) (asked i) e.reply) in
        let pends : e.reply ≡ reply.Pending =
        main_pends e.reply (subst (λ (y : NodeEntry). Allows (row held y.who y.op y.reply) y.reply) shape is_next.allowed) in
        inr (shape ∙ ap (λ (r : Reply). entry 1 (op.SemLook (record { 0 = 4294967296 }) false) r) pends)
goes_by D x same is_next (caller e q qs ps p are is asks) = absurd (no_third qs ps p are)
  where
    no_third : (qs ps : List Part) (p : Part) → stuck_load.parts ≡ q ∷ (qs ++ p ∷ ps) → ⊥
    no_third [] ps p are = cc
    no_third (z ∷ qs) ps p are = cc

decided_behind : (L M : List NodeEntry) → decided 1 M ≡ [] → decided 1 (L ++ M) ≡ decided 1 L
unfolding decided
decided_behind [] M e = e
decided_behind (x ∷ L) M e = (λ i. cond (decides 1 x) (x.reply ∷ decided_behind L M e i) (decided_behind L M e i))

none_decided : (x : NodeEntry) → Goes x → decided 1 (x ∷ []) ≡ []
unfolding decided
none_decided x (inl is) = ap (λ (y : NodeEntry). decided 1 (y ∷ [])) is
none_decided x (inr is) = ap (λ (y : NodeEntry). decided 1 (y ∷ [])) is

-- it leaves the state, and no journal keeps it
leaves_all : (x : NodeEntry) → Goes x → next held x ≡ held
unfolding held after_from live_of issue change listed issued_at retired is_full may_issue has_worker is_ready can_take has_better
leaves_all x (inl is) = ap (λ (y : NodeEntry). next held y) is
leaves_all x (inr is) = ap (λ (y : NodeEntry). next held y) is

not_kept : (x : NodeEntry) (more : List NodeEntry) → Goes x → kept held more ≡ [] → kept held (x ∷ more) ≡ []
unfolding kept
not_kept x more goes none = ap (λ (b : Bool). cond b (kept (next held x) more) (x ∷ kept (next held x) more)) (dropped goes)
    ∙ (ap (λ (s : State). kept s more) (leaves_all x goes) ∙ none)
  where
    dropped : Goes x → is_dropped held x ≡ true
    dropped (inl is) = ap (λ (y : NodeEntry). is_dropped held y) is
    dropped (inr is) = ap (λ (y : NodeEntry). is_dropped held y) is

two_seats : (x : NodeEntry) → IsNext held x → x.who < 2
unfolding held after_from live_of is_full retired may_issue listed issued_at issue
two_seats x n = n.seat

nothing_kept : (D more : List NodeEntry) (ns : List ℕ) → decided 1 (stuck_history ++ D) ≡ decided 1 stuck_history → LegalFrom held more
    → Begun stuck_load ((stuck_history ++ D) ++ more) ns → kept held more ≡ []
unfolding kept LegalFrom
nothing_kept D [] ns same legal b = refl
nothing_kept D (x ∷ more) ns same legal b =
    let goes = goes_by D x same legal.0 (each_is_asked stuck_load (stuck_history ++ D) more x ns (two_seats x legal.0) b) in
    let again : decided 1 (stuck_history ++ (D ++ x ∷ [])) ≡ decided 1 stuck_history =
    decided_behind (stuck_history ++ D) (x ∷ []) (none_decided x goes) ∙ same in
    let rest : Begun stuck_load ((stuck_history ++ (D ++ x ∷ [])) ++ more) ns =
    subst (λ (l : List NodeEntry). Begun stuck_load l ns) (sym (append_assoc (stuck_history ++ D) (x ∷ []) more)) b in
    not_kept x more goes (nothing_kept (D ++ x ∷ []) more ns again (subst (λ (s : State). LegalFrom s more) (leaves_all x goes) legal.1) rest)

from_held : (more : List NodeEntry) → Legal terms (stuck_history ++ more) → LegalFrom held more
unfolding held after_from LegalFrom
from_held more legal = legal.from.1.1.1.1

still : (more : List NodeEntry) (beside : List ℕ) → Legal terms (stuck_history ++ more)
    → Begun stuck_load (stuck_history ++ more) (none_skipped stuck_history ++ beside)
    → kept (after terms stuck_history) more ≡ []
unfolding held
still more beside legal b = nothing_kept [] more (none_skipped stuck_history ++ beside) refl (from_held more legal) b

stuck : Stuck stuck_load One stuck_history (none_skipped stuck_history)
stuck = record { legal = stuck_legal; begun = stuck_begun; unended = stuck_unended; still = still }

-- where a further caller may still enter

abbrev enters : List NodeEntry
enters = entry 2 op.Enter reply.Ok ∷ []

free_legal : Legal (run_terms One free_load) (stuck_history ++ enters)
unfolding replay live_of issue change listed issued_at retired is_full may_issue fits answer_of has_worker end_each is_ready can_take has_better
free_legal = record { fits = search (rules, is_at_most); from = legal_if _ _ refl }

abbrev free_rest : List NodeEntry
free_rest = main_entry (op.SemLook (record { 0 = 4294967296 }) false) reply.Ok ∷ entry 2 (op.SemCreate 2 1) reply.Ok ∷ closed

free_ran : RunOf free_load ((stuck_history ++ enters) ++ free_rest) (none_skipped ((stuck_history ++ enters) ++ free_rest))
unfolding Carried CallersRan lines_of all_work has_begin is_begin
free_ran = record {
  replies = (reply.Handle 4294967296 ∷ reply.Ok ∷ reply.Ok ∷ []) ∷ (reply.Ok ∷ []) ∷ [];
  parts = (
    record {
      body = _;
      is = refl;
      carried = (_ ∷ [], _, refl, (refl, refl), (_ ∷ [], _, refl, at_once, (_ ∷ [], [], refl, at_once, refl)));
    },
    (
      record {
        front = _;
        body = line_with (op.SemCreate 2 1) reply.Ok 0 ∷ [];
        entered = (0, refl);
        is = refl;
        carried = (_ ∷ [], [], refl, (refl, refl), refl);
      },
      tt,
    ),
  );
  workers = only_worker ((stuck_history ++ enters) ++ free_rest) (none_skipped ((stuck_history ++ enters) ++ free_rest)) (record {
    work = [];
    beside = 0;
    is = refl;
    works = refl;
  });
  ends = the_end ((stuck_history ++ enters) ++ main_entry (op.SemLook (record { 0 = 4294967296 }) false) reply.Ok ∷ entry 2 (op.SemCreate 2 1) reply.Ok ∷ []);
}
  where
    at_once : MadeLines (call_of (4294967296 ∷ []) (deed.SemLock 0 timeout.Infinite)) (line_with (op.SemLook (record { 0 = 4294967296 }) false) reply.Ok 0
        ∷ []) reply.Ok
    at_once = record { first = None; beside = 0; last = false; is = refl; none_kept = λ _. refl; decides = refl; within = refl; late = λ e. absurd (cc) }

still_enters : Stuck free_load One stuck_history (none_skipped stuck_history) → ⊥
unfolding kept
still_enters stuck =
    let none : kept (after (run_terms One free_load) stuck_history) enters ≡ [] =
    stuck.still enters (0 ∷ []) free_legal (record { rest = free_rest; beside = none_skipped free_rest; even = refl; even_rest = refl; run = free_ran }) in
    cc

closes_too_early : Begun early_load early_close (none_skipped early_close) → ⊥
unfolding decided has_begin is_begin
closes_too_early b =
    closes_behind early_load (record { line = 0; name = codes "main"; statements = [] })
    (record { line = 4; name = codes "b"; statements = using 5 (deed.Sem 2 1) ∷ [] } ∷ []) refl (early_close ++ b.rest) (none_skipped early_close ++ b.beside)
    (let e = b.even_rest in omega (arith, e)) b.run (main_entry op.Initialize reply.Ok ∷ main_entry op.Release reply.Ok
    ∷ []) (main_entry op.Close reply.Ok) b.rest
    (main_entry op.Initialize reply.Ok ∷ main_entry op.Release reply.Ok ∷ []) refl refl refl refl (omega arith) (λ w l. refl) (inl (omega arith))

no_history : HasAllDeadlocks stuck_load [] → ⊥
no_history all = let x = all One stuck_history (none_skipped stuck_history) stuck in omega (arith, x.2)

-- a history in which main has made one call has not come as far
abbrev opened : List NodeEntry
opened = main_entry op.Initialize reply.Ok ∷ []

no_short_one : HasAllDeadlocks stuck_load (opened ∷ []) → ⊥
unfolding decided
no_short_one all = by (all One stuck_history (none_skipped stuck_history) stuck)
  where
    by : Any (SamePlaces stuck_load stuck_history) (opened ∷ []) → ⊥
    by (zero, x, small, is, same) =
        let places : 1 ≡ 4 = subst (λ (l : List NodeEntry). length (decided 1 l) ≡ 4) (sym is) (same 1 (omega arith)) in
        omega (arith, places)
    by (suc k, x, small, is, same) = omega (arith, small)

pub worked_complete : WorkedComplete
worked_complete = record {
  cancelled = cancelled_runs;
  completed = completed_runs;
  lacks_completed = lacks cancelled_load completed_run completed_text cancelled_text completed_runs refl (λ e. cc);
  lacks_cancelled = lacks cancelled_load cancelled_run cancelled_text completed_text cancelled_runs refl (λ e. cc);
  deadlock = stuck;
  goes_on = still_enters;
  closes_early = closes_too_early;
  lacks_deadlock = no_history;
  too_early = no_short_one;
}
