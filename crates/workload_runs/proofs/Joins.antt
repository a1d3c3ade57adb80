-- From a run in a whole history to the run in its journal.
use Rattle.workload_runs.proofs.Names.{◌≡◌, ℕ, suc, ◌+◌, ◌≤◌, Bool, true, false, cond, List, [], ◌∷◌, ◌++◌, length, Some, None, refl, sym, ◌∙◌, ap, subst, arith, append_assoc, ◌==◌, ◌&&◌, Statement, Op, Reply, Terms, State, opening, NodeEntry, next, is_dropped, is_pending, no_counts, Call, Once, Looking, call_of, Line, line_with, KeepsTimeout, is_timeout, MadeLines, head_lines, tail_of_main, Entered, in_lines, MainRan, CallerRan, PartsRan, is_work, WorkerRan, ClosesAtEnd, RunOf, Turn, stayed}
use Rattle.history.specs.Histories.{entry, entries_of}
use Rattle.mtapi_values.specs.declared.timeouts.Timeout.{Timeout}
use Rattle.mtapi_values.specs.Timeouts.{looks_of}
use Rattle.workload_file.specs.declared.workload.Part.{Part}
use Rattle.workload_file.specs.declared.workload.Workload.{Workload}
use Rattle.mtapi_machine.specs.declared.ops.Op.TheVariants as op
use Rattle.mtapi_machine.specs.declared.replies.Reply.TheVariants as reply
use Rattle.mtapi_machine.specs.Legal.{after_from}
use Rattle.mtapi_machine.specs.Kept.{kept, skipped}
use Rattle.mtapi_machine.proofs.Made.{fst_true, snd_true, both_true}
use Rattle.workload_runs.specs.Lines.{lines_of}
use Rattle.workload_runs.specs.Parts.{CallersRan}
use Rattle.workload_runs.specs.RunOf.{all_work}
use Rattle.workload_runs.specs.Turns.{turns_of, lines_left}
use Rattle.workload_runs.specs.Whole.{none_of, first_alone, pended, MadeBy, head_turns, tail_turns, EnteredBy, in_turns, all_worked, WorkerBy, RunBy, HasSeats, JournalIsRun}
use Rattle.workload_runs.proofs.Left.{journal_lines}
use Rattle.workload_runs.proofs.Forms.{Told, Tells, main_told, caller_told}

-- Pending looks that no journal keeps are counted
pended_left : (o : Op) (marks : List Bool) (n : ℕ) (rest : List Turn) → none_of marks ≡ true
    → lines_left n (pended o marks ++ rest) ≡ lines_left (n + length marks) rest
unfolding none_of lines_left
pended_left o [] n rest e = ap (λ k. lines_left k rest) (omega arith)
pended_left o (true ∷ ms) n rest e = absurd (cc)
pended_left o (false ∷ ms) n rest e = pended_left o ms (n + 1) rest e ∙ ap (λ k. lines_left k rest) (omega arith)

-- turns are left to tell, and these lines are left of them
abbrev left : List Turn → List Turn → Type 0
left ts rest = ts ≡ rest

-- the lines of one call, in front of what follows
abbrev Leaves : Call → Reply → List Turn → List Turn → Type 0
Leaves c r ts rest = Told left (lines_left 0) (ts ++ rest) rest (λ (ls : List Line). MadeLines c ls r)

-- the facts of a call's looks, at each list of marks
looks_leave : (waits : Bool) (o : Bool → Op) (timeout : Timeout) (r : Reply) (last : Bool) (marks : List Bool) (rest : List Turn) → first_alone marks ≡ true
    → (waits ≡ false → none_of marks ≡ true) → is_pending r ≡ false
    → KeepsTimeout (looks_of timeout) last (length marks + 1) → (is_timeout r ≡ true → last ≡ true)
    → Leaves (Looking waits o timeout) r (pended (o false) marks ++ stayed (o last) r ∷ []) rest
unfolding none_of lines_left
looks_leave waits o timeout r last [] rest one none decides within late = record {
  front = line_with (o last) r 0 ∷ [];
  behind = rest;
  left_is = refl;
  is = refl;
  shows = record { first = None; beside = 0; last = last; is = refl; none_kept = λ e. refl; decides = decides; within = within; late = late };
}
looks_leave waits o timeout r last (true ∷ ms) rest one none decides within late = record {
  front = line_with (o false) reply.Pending 0 ∷ line_with (o last) r (length ms) ∷ [];
  behind = rest;
  left_is = refl;
  is = ap (λ (l : List Turn). line_with (o false) reply.Pending 0 ∷ lines_left 0 l) (append_assoc (pended (o false) ms) (stayed (o last) r ∷ []) rest)
      ∙ ap (λ (l : List Line). line_with (o false) reply.Pending 0 ∷ l) (pended_left (o false) ms 0 (stayed (o last) r ∷ rest) one)
      ∙ ap (λ k. line_with (o false) reply.Pending 0 ∷ line_with (o last) r k ∷ lines_left 0 rest) (omega arith);
  shows = record {
    first = Some 0;
    beside = length ms;
    last = last;
    is = refl;
    none_kept = λ e. absurd (let x = none e in cc);
    decides = decides;
    within = subst (λ (k : ℕ). KeepsTimeout (looks_of timeout) last k) (omega arith) within;
    late = late;
  };
}
looks_leave waits o timeout r last (false ∷ ms) rest one none decides within late = record {
  front = line_with (o last) r (1 + length ms) ∷ [];
  behind = rest;
  left_is = refl;
  is = ap (λ (l : List Turn). lines_left 1 l) (append_assoc (pended (o false) ms) (stayed (o last) r ∷ []) rest)
      ∙ pended_left (o false) ms 1 (stayed (o last) r ∷ rest) one;
  shows = record {
    first = None;
    beside = 1 + length ms;
    last = last;
    is = refl;
    none_kept = λ e. refl;
    decides = decides;
    within = subst (λ (k : ℕ). KeepsTimeout (looks_of timeout) last k) (omega arith) within;
    late = late;
  };
}

made_leaves : (c : Call) (ts rest : List Turn) (r : Reply) → MadeBy c ts r → Leaves c r ts rest
unfolding lines_left
made_leaves (Once o) ts rest r m = record {
  front = line_with o r 0 ∷ [];
  behind = rest;
  left_is = refl;
  is = ap (λ (x : List Turn). lines_left 0 (x ++ rest)) m.0;
  shows = (refl, m.1);
}
made_leaves (Looking waits o timeout) ts rest r m =
    subst (λ (x : List Turn). Leaves (Looking waits o timeout) r x rest) (sym m.is)
    (looks_leave waits o timeout r m.last m.marks rest m.one_kept m.none_kept m.decides m.within m.late)

-- the lines of each piece of a run

head_left : (b : Bool) (rest : List Turn) → lines_left 0 (head_turns b ++ rest) ≡ head_lines b ++ lines_left 0 rest
unfolding lines_left
head_left true rest = refl
head_left false rest = refl

entered_left : (ts rest : List Turn) → EnteredBy ts → Told left (lines_left 0) (ts ++ rest) rest Entered
unfolding lines_left
entered_left ts rest m =
    let n = 0 + length m.marks in
    record {
      front = line_with op.Enter reply.Ok n ∷ [];
      behind = rest;
      is = ap (λ (l : List Turn). lines_left 0 l) (ap (λ (l : List Turn). l ++ rest) m.is
          ∙ append_assoc (pended op.Enter m.marks) (stayed op.Enter reply.Ok ∷ []) rest)
          ∙ pended_left op.Enter m.marks 0 (stayed op.Enter reply.Ok ∷ rest) m.none_kept;
      shows = (n, refl);
      left_is = refl;
    }

tail_left : lines_left 0 tail_turns ≡ tail_of_main
unfolding lines_left
tail_left = refl

none_left : lines_left 0 [] ≡ []
unfolding lines_left
none_left = refl

turns_tell : Tells left (lines_left 0) in_turns in_lines
turns_tell = record {
  made = λ bound d ts r m k rest l. subst (λ (u : List Turn). Told left (lines_left 0) u rest (λ (ls : List Line). MadeLines (call_of bound d) ls r)) (sym l)
      (made_leaves (call_of bound d) ts rest r m);
  head = λ b k rest l. record { front = head_lines b; behind = rest; is = ap (lines_left 0) l ∙ head_left b rest; shows = refl; left_is = refl };
  tail = λ k l. ap (lines_left 0) l ∙ tail_left;
  entered = λ ts m k rest l. subst (λ (u : List Turn). Told left (lines_left 0) u rest Entered) (sym l) (entered_left ts rest m);
  none = λ k l. ap (lines_left 0) l ∙ none_left;
}

main_ran : (ss : List Statement) (ts : List Turn) (rs : List Reply) → MainRan in_turns ss ts rs → MainRan in_lines ss (lines_left 0 ts) rs
main_ran ss ts rs m = main_told left (lines_left 0) in_turns in_lines turns_tell ss ts rs m ts refl

caller_ran : (ss : List Statement) (ts : List Turn) (rs : List Reply) → CallerRan in_turns ss ts rs → CallerRan in_lines ss (lines_left 0 ts) rs
caller_ran ss ts rs m = caller_told left (lines_left 0) in_turns in_lines turns_tell ss ts rs m ts refl

module _ (terms : Terms) (L : List NodeEntry) where
  abbrev turns : ℕ → List Turn
  turns who = turns_of who (opening terms) L

  abbrev lines : ℕ → List Line
  lines who = lines_of who (kept (opening terms) L) (skipped (opening terms) no_counts L)

  callers_ran : (who : ℕ) (ps : List Part) (rss : List (List Reply)) → who + length ps ≤ 25 → CallersRan in_turns turns who ps rss
      → CallersRan in_lines lines who ps rss
  unfolding CallersRan
  callers_ran who [] [] small c = tt
  callers_ran who [] (rs ∷ rss) small c = absurd c
  callers_ran who (p ∷ ps) [] small c = absurd c
  callers_ran who (p ∷ ps) (rs ∷ rss) small (c, cs) = (
    subst (λ (ls : List Line). CallerRan in_lines p.statements ls rs) (sym (journal_lines terms L who (omega (arith, small))))
        (caller_ran p.statements (turns who) rs c),
    callers_ran (suc who) ps rss (omega (arith, small)) cs,
  )

  parts_ran : (main : ℕ) (ps : List Part) (rss : List (List Reply)) → main + length ps ≤ 25 → PartsRan in_turns turns main ps rss
      → PartsRan in_lines lines main ps rss
  parts_ran main [] rss small c = absurd c
  parts_ran main (p ∷ ps) [] small c = absurd c
  parts_ran main (p ∷ ps) (rs ∷ rss) small (c, cs) = (
    subst (λ (ls : List Line). MainRan in_lines p.statements ls rs) (sym (journal_lines terms L main (omega (arith, small))))
        (main_ran p.statements (turns main) rs c),
    callers_ran (suc main) ps rss (omega (arith, small)) cs,
  )

-- workers

abbrev stop_turn : List Turn
stop_turn = stayed op.Pick reply.Stop ∷ []

worker_left : (work : List Turn) (n : ℕ) → all_worked work ≡ true → WorkerRan (lines_left n (work ++ stop_turn))
unfolding all_worked all_work lines_left
worker_left [] n e = record { work = []; beside = n; is = refl; works = refl }
worker_left (t ∷ ts) n e = at t.stays (worker_left ts 0 (snd_true (cond t.stays (is_work t.op t.reply) true) _ e))
    (worker_left ts (cond (is_pending t.reply) (n + 1) n) (snd_true (cond t.stays (is_work t.op t.reply) true) _ e))
    (fst_true (cond t.stays (is_work t.op t.reply) true) _ e)
  where
    at : (b : Bool) → WorkerRan (lines_left 0 (ts ++ stop_turn)) → WorkerRan (lines_left (cond (is_pending t.reply) (n + 1) n) (ts ++ stop_turn))
        → cond b (is_work t.op t.reply) true ≡ true
        → WorkerRan (cond b (line_with t.op t.reply n ∷ lines_left 0 (ts ++ stop_turn)) (lines_left (cond (is_pending t.reply) (n + 1) n) (ts ++ stop_turn)))
    at true x y w = record {
      work = line_with t.op t.reply n ∷ x.work;
      beside = x.beside;
      is = ap (λ (l : List Line). line_with t.op t.reply n ∷ l) x.is;
      works = both_true (is_work t.op t.reply) (all_work x.work) w x.works;
    }
    at false x y w = y

worker_ran : (ts : List Turn) → WorkerBy ts → WorkerRan (lines_left 0 ts)
worker_ran ts w = subst (λ (x : List Turn). WorkerRan (lines_left 0 x)) (sym w.is) (worker_left w.work 0 w.works)

-- the end

kept_append : (s : State) (L M : List NodeEntry) → kept s (L ++ M) ≡ kept s L ++ kept (after_from s L) M
unfolding kept after_from
kept_append s [] M = refl
kept_append s (e ∷ L) M = both (is_dropped s e) _ _ _ (kept_append (next s e) L M)
  where
    both : (b : Bool) (xs ys zs : List NodeEntry) → xs ≡ ys ++ zs → cond b xs (e ∷ xs) ≡ cond b ys (e ∷ ys) ++ zs
    both true xs ys zs q = q
    both false xs ys zs q = ap (λ (l : List NodeEntry). e ∷ l) q

none_entered : (who : ℕ) (s : State) (es : List NodeEntry) → entries_of who es ≡ [] → entries_of who (kept s es) ≡ []
unfolding kept
none_entered who s [] e = refl
none_entered who s (x ∷ es) e = at (x.who == who) refl (none_entered who (next s x) es) e
  where
    keep : (d : Bool) → (x.who == who) ≡ false → entries_of who (kept (next s x) es) ≡ []
        → entries_of who (cond d (kept (next s x) es) (x ∷ kept (next s x) es)) ≡ []
    keep true q m = m
    keep false q m = (λ i. cond (q i) (x ∷ entries_of who (kept (next s x) es)) (entries_of who (kept (next s x) es))) ∙ m

    at : (b : Bool) → (x.who == who) ≡ b → (entries_of who es ≡ [] → entries_of who (kept (next s x) es) ≡ [])
        → cond b (x ∷ entries_of who es) (entries_of who es) ≡ [] → entries_of who (cond (is_dropped s x) (kept (next s x) es) (x ∷ kept (next s x) es)) ≡ []
    at true q more e = absurd (cc)
    at false q more e = keep (is_dropped s x) q (more e)

closes_kept : (s : State) (main : ℕ) (L : List NodeEntry) → ClosesAtEnd main L → ClosesAtEnd main (kept s L)
unfolding kept
closes_kept s main L c =
    let close = entry main op.Close reply.Ok in
    let final = entry main op.Final reply.Ok in
    let s1 = after_from s c.before in
    let s2 = next s1 close in
    record {
      before = kept s c.before;
      behind = kept s2 c.behind;
      closes = ap (λ (l : List NodeEntry). kept s l) c.closes ∙ kept_append s c.before (close ∷ (c.behind ++ final ∷ []))
          ∙ ap (λ (l : List NodeEntry). kept s c.before ++ close ∷ l) (kept_append s2 c.behind (final ∷ []));
      callers_ended = λ who l. none_entered who s2 c.behind (c.callers_ended who l);
    }

-- where a history is a run of the workload, so is its journal
pub journal_run : (load : Workload) (terms : Terms) (L : List NodeEntry) → HasSeats load → RunBy load (opening terms) L
    → RunOf load (kept (opening terms) L) (skipped (opening terms) no_counts L)
journal_run load terms L seats run = record {
  replies = run.replies;
  parts = parts_ran terms L load.settings.workers load.parts run.replies (omega (arith, seats.0, seats.1)) run.parts;
  workers = λ w l. subst (λ (ls : List Line). WorkerRan ls) (sym (journal_lines terms L w (omega (arith, l, seats.0))))
      (worker_ran (turns_of w (opening terms) L) (run.workers w l));
  ends = closes_kept (opening terms) load.settings.workers L run.ends;
}

-- with the same replies
pub journal_is_run : JournalIsRun
unfolding journal_run
journal_is_run load terms L seats run = (journal_run load terms L seats run, refl)
