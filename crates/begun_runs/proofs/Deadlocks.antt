-- Where each seat halts, what may come next is left out of a journal: so it is a deadlock.
use Rattle.std.specs.Prelude.{◌⊎◌, drop, map}
use Rattle.std.specs.List.{AllByRecursion, Contains}
use Rattle.std.proofs.lemmas.Bool.Decides.{nat_tests}
use Rattle.std.proofs.Common.{◌≡◌, ℕ, suc, ◌+◌, ◌<◌, ◌≤◌, Bool, true, false, cond, List, [], ◌∷◌, ◌++◌, length, inl, inr, refl, sym, ◌∙◌, ap, subst, arith, append_assoc}
use Rattle.std.proofs.lemmas.List.{append-nil, length-append, length-map, drop-map}
use Rattle.std.proofs.lemmas.List.Elements.{All-contains, All-from_recursion, recursion_from_All}
use Rattle.history.specs.Histories.{entry}
use Rattle.mtapi_values.specs.declared.handles.Layout.{Layout}
use Rattle.mtapi_values.specs.declared.timeouts.Timeout.TheVariants.{Infinite}
use Rattle.mtapi_values.specs.declared.statuses.MtapiStatus.TheVariants as m
use Rattle.workload_file.specs.declared.workload.Statement.{Statement}
use Rattle.workload_file.specs.declared.workload.Part.{Part}
use Rattle.workload_file.specs.declared.workload.Workload.{Workload}
use Rattle.mtapi_machine.specs.declared.terms.Terms.{Terms}
use Rattle.mtapi_machine.specs.declared.ops.Op.{Op}
use Rattle.mtapi_machine.specs.declared.ops.Op.TheVariants as op
use Rattle.mtapi_machine.specs.declared.replies.Reply.{Reply}
use Rattle.mtapi_machine.specs.declared.replies.Reply.TheVariants as reply
use Rattle.mtapi_machine.specs.Row.{handle_of}
use Rattle.mtapi_machine.specs.State.{State, opening}
use Rattle.mtapi_machine.specs.Legal.{NodeEntry, IsNext, next, LegalFrom, Legal, after}
use Rattle.mtapi_machine.specs.Kept.{is_dropped, is_pending, kept}
use Rattle.mtapi_machine.proofs.Alone.{row_alone}
use Rattle.mtapi_machine.proofs.Drops.{dropped_stays}
use Rattle.mtapi_machine.proofs.Lists.{Legal-rest, Legal-prefix}
use Rattle.history_law.proofs.tallies.Ties.{AtMostOne}
use Rattle.history_law.proofs.locks.Exclusive.{good_after}
use Rattle.history_law.proofs.Others.{terms_stay}
use Rattle.workload_runs.specs.Calls.{Call, Looking, call_of}
use Rattle.workload_runs.specs.Parts.{has_begin}
use Rattle.workload_runs.specs.RunOf.{is_work}
use Rattle.run_report.specs.Replies.{decided}
use Rattle.run_report.specs.Report.{run_terms}
use Rattle.begun_runs.specs.Asks.{AskedBy, AsksOp, AsksPart, main_head, MainAsks, CallerAsks}
use Rattle.begun_runs.specs.Begun.{Begun}
use Rattle.begun_runs.specs.Halts.{refused_final, IsProbeRefusal, LeavesState, WorkerHalts, CallerLooksOn, CallerHalts, through, outside, looks_on, reply_handles, CallersHalt, calls_ahead, MainHalts, main_looks, stays_open, stays_up, PartsHalt, Halts, HaltsIsStuck}
use Rattle.begun_runs.proofs.Next.{each_is_asked}
use Rattle.begun_runs.proofs.Looks.{refused_stays, is_left_out, pending_alone, idle_work, tally_work, work_drops, no_stop_idle, no_stop_busy, close_decides}
use Rattle.begun_runs.proofs.Lasts.{Maker, by_worker, by_main, by_caller, maker_of, part_on, part_behind, asks_first, asks_second, decided_append, none_of_other, none_pending, closes_behind, finals_well}

-- what the machine allows one after the other, and each of which leaves the state, it allows in that state
all_allowed : (s : State) (P : NodeEntry → Type 0) → ((e : NodeEntry) → P e → IsNext s e → next s e ≡ s) → (L M : List NodeEntry) → AllByRecursion P L
    → LegalFrom s (L ++ M) → AllByRecursion (IsNext s) L × LegalFrom s M
unfolding LegalFrom
all_allowed s P stay [] M all legal = (tt, legal)
all_allowed s P stay (e ∷ L) M all legal =
    let x = all_allowed s P stay L M all.1 (subst (λ (t : State). LegalFrom t (L ++ M)) (stay e all.0 legal.0) legal.1) in
    ((legal.0, x.0), x.1)

-- the op of a look without a bound is not the last one
look_asked : (c : Call) (waits : Bool) (ask : Bool → Op) (p : Op) → c ≡ Looking waits ask Infinite → AskedBy c p → p ≡ ask false
look_asked c waits ask p is asked = by (subst (λ (x : Call). AskedBy x p) is asked)
  where
    by : AskedBy (Looking waits ask Infinite) p → p ≡ ask false
    by a = a.1 ∙ ap ask (a.2 refl)

-- Legal looks and refusals behind a history, by which each seat halts
module _ (load : Workload) (layout : Layout) (es looks refused : List NodeEntry) (legal : Legal (run_terms layout load) (es ++ (refused ++ looks)))
    (halts : Halts load es looks refused) where
  abbrev s : State
  s = after (run_terms layout load) es

  abbrev main_seat : ℕ
  main_seat = load.settings.workers

  from_here : LegalFrom s (refused ++ looks)
  from_here = Legal-rest (opening (run_terms layout load)) es (refused ++ looks) legal.from

  refused_first : AllByRecursion (IsNext s) refused × LegalFrom s looks
  refused_first =
      all_allowed s (IsProbeRefusal main_seat) (refused_stays s main_seat) refused looks
      (recursion_from_All (IsProbeRefusal main_seat) refused halts.refused_each) from_here

  refused_next : (e : NodeEntry) → Contains refused e → IsNext s e
  refused_next e c = All-contains (IsNext s) refused e (All-from_recursion (IsNext s) refused refused_first.0) c

  look_stays : (e : NodeEntry) → LeavesState refused e → IsNext s e → next s e ≡ s
  look_stays e leaves n = dropped_stays s e n (is_left_out s refused refused_next e leaves n)

  looks_first : AllByRecursion (IsNext s) looks × LegalFrom s []
  looks_first =
      all_allowed s (LeavesState refused) look_stays looks [] (recursion_from_All (LeavesState refused) looks halts.looks_each)
      (subst (λ (l : List NodeEntry). LegalFrom s l) (sym (append-nil looks)) refused_first.1)

  look_next : (e : NodeEntry) → Contains looks e → IsNext s e
  look_next e c = All-contains (IsNext s) looks e (All-from_recursion (IsNext s) looks looks_first.0) c

  look_dropped : (e : NodeEntry) → Contains looks e → is_dropped s e ≡ true
  look_dropped e c = is_left_out s refused refused_next e (All-contains (LeavesState refused) looks e halts.looks_each c) (look_next e c)

  one_task : (w : ℕ) → AtMostOne w s
  one_task w = (good_after (run_terms layout load) es (Legal-prefix (run_terms layout load) es (refused ++ looks) legal)).one w

  -- an entry that a journal leaves out, and which gives no caller a reply
  record Passes (x : NodeEntry) : Type 0 where
    pub dropped : is_dropped s x ≡ true
    pub untold : (who : ℕ) → main_seat ≤ who → decided who (x ∷ []) ≡ []

  -- an entry of the op of a look that is answered Pending
  as_look : (who : ℕ) (o : Op) (x : NodeEntry) → Contains looks (entry who o reply.Pending) → x.who ≡ who → x.op ≡ o → IsNext s x → Passes x
  as_look who o x c is asks n = record {
    dropped = subst (λ (e : NodeEntry). is_dropped s e ≡ true) (sym whole) (look_dropped (entry who o reply.Pending) c);
    untold = λ w l. none_pending w x (ap is_pending pends);
  }
    where
      shape : x ≡ entry who o x.reply
      shape = λ i. entry (is i) (asks i) x.reply

      pends : x.reply ≡ reply.Pending
      pends = pending_alone s who o x.reply (look_next (entry who o reply.Pending) c) (subst (λ (e : NodeEntry). IsNext s e) shape n)

      whole : x ≡ entry who o reply.Pending
      whole = shape ∙ ap (λ (r : Reply). entry who o r) pends

  -- Workers

  works_on : (x : NodeEntry) → x.who < main_seat → WorkerHalts looks x.who → is_work x.op x.reply ≡ true → IsNext s x → Passes x
  works_on x small halted works n = record {
    dropped = work_drops s x.who x.op x.reply works (which halted);
    untold = λ who l. none_of_other who x (grind (arith, nat_tests, small, l));
  }
    where
      which : WorkerHalts looks x.who → (x.reply ≡ reply.Idle) ⊎ (x.reply ≡ reply.Pending)
      which (inl c) = inl (idle_work s x.who x.op x.reply (look_next (entry x.who op.Pick reply.Idle) c) works n)
      which (inr (t, c)) = inr (tally_work s x.who t x.op x.reply (one_task x.who) (look_next (entry x.who (op.TallyLock t) reply.Pending) c) works n)

  no_stop : (w : ℕ) → WorkerHalts looks w → IsNext s (entry w op.Pick reply.Stop) → ⊥
  no_stop w (inl c) n = no_stop_idle s w (look_next (entry w op.Pick reply.Idle) c) n
  no_stop w (inr (t, c)) n = no_stop_busy s w t (one_task w) (look_next (entry w (op.TallyLock t) reply.Pending) c) n

  -- Callers

  -- a look at the statement that a seat has come to
  on_look : (who : ℕ) (os : List Op) (ss : List Statement) (tail : List Op) (x : NodeEntry) → CallerLooksOn looks who (length os) ss (reply_handles who es)
      → x.who ≡ who
      → AsksPart os ss tail (decided who es) x.op → IsNext s x → Passes x
  on_look who os ss tail x l is asks n =
      as_look who (l.1 false) x l.3 is
      (look_asked (call_of (map handle_of (drop (length os) (decided who es))) l.2.here.deed) l.0 l.1 x.op called
      (part_on os ss l.2.place l.2.here tail (decided who es) x.op l.2.is made asks)) n
    where
      called : call_of (map handle_of (drop (length os) (decided who es))) l.2.here.deed ≡ Looking l.0 l.1 Infinite
      called = ap (λ (hs : List ℕ). call_of hs l.2.here.deed) (sym (drop-map handle_of (length os) (decided who es))) ∙ l.2.call

      made : length (decided who es) ≡ length os + l.2.place
      made = sym (length-map (decided who es) handle_of) ∙ l.2.made

  -- a further caller has no other entry
  as_caller : (who : ℕ) (ss : List Statement) (x : NodeEntry) → CallerHalts looks who ss (reply_handles who es) → x.who ≡ who
      → CallerAsks ss (decided who es) x.op → IsNext s x → Passes x
  unfolding AsksPart AsksOp
  as_caller who ss x (through all) is asks n =
      let count : length (decided who es) ≡ suc (length ss) = sym (length-map (decided who es) handle_of) ∙ all in
      absurd (part_behind (op.Enter ∷ []) ss [] (decided who es) x.op (omega (arith, count)) asks).2
  as_caller who ss x (outside none c) is asks n =
      as_look who op.Enter x c is (enters (decided who es) (sym (length-map (decided who es) handle_of) ∙ ap (λ (l : List ℕ). length l) none) asks) n
    where
      enters : (rs : List Reply) → length rs ≡ 0 → CallerAsks ss rs x.op → x.op ≡ op.Enter
      enters [] e a = a
      enters (r ∷ rs) e a = absurd (omega (arith, e))
  as_caller who ss x (looks_on l) is asks n = on_look who (op.Enter ∷ []) ss [] x l is asks n

  callers_at : (who : ℕ) (qs : List Part) (p : Part) (ps : List Part) → CallersHalt es looks who (qs ++ p ∷ ps)
      → CallerHalts looks (who + length qs) p.statements (reply_handles (who + length qs) es)
  callers_at who [] p ps c =
      subst (λ (w : ℕ). CallerHalts looks w p.statements (reply_handles w es)) (omega arith) c.0
  callers_at who (q ∷ qs) p ps c =
      subst (λ (w : ℕ). CallerHalts looks w p.statements (reply_handles w es)) (omega arith) (callers_at (suc who) qs p ps c.1)

  -- The entries that come next

  module _ (D more : List NodeEntry) (x : NodeEntry) (ns : List ℕ) (same : (who : ℕ) → main_seat ≤ who
      → decided who (es ++ D) ≡ decided who es) (n : IsNext s x)
      (b : Begun load ((es ++ D) ++ x ∷ more) ns) where
    shaped : (o : Op) → x.who ≡ main_seat → x.op ≡ o → IsNext s (entry main_seat o x.reply)
    shaped o is asks = subst (λ (e : NodeEntry). IsNext s e) (λ i. entry (is i) (asks i) x.reply) n

    run_cut : ((es ++ D) ++ x ∷ more) ++ b.rest ≡ (es ++ D) ++ x ∷ (more ++ b.rest)
    run_cut = append_assoc (es ++ D) (x ∷ more) b.rest

    even : length (((es ++ D) ++ x ∷ more) ++ b.rest) ≡ length (ns ++ b.beside)
    even = let e = b.even in let f = b.even_rest in grind (arith, length-append)

    as_main : (p : Part) (ps : List Part) → load.parts ≡ p ∷ ps → MainHalts es looks refused main_seat p.statements ps (reply_handles main_seat es)
        → x.who ≡ main_seat → MainAsks p.statements (decided main_seat es) x.op → Passes x
    as_main p ps are (main_looks l) is asks = on_look main_seat (main_head (has_begin p.statements)) p.statements (op.Close ∷ op.Final ∷ []) x l is asks n
    as_main p ps are (stays_open all lacks) is asks =
        let count : length (decided main_seat es) ≡ calls_ahead p.statements + length p.statements = sym (length-map (decided main_seat es) handle_of) ∙ all in
        let y = part_behind (main_head (has_begin p.statements)) p.statements (op.Close ∷ op.Final
        ∷ []) (decided main_seat es) x.op (omega (arith, count)) asks in
        let sum = y.1 in
        let closes : x.op ≡ op.Close = asks_first y.0 x.op (omega (arith, sum, count)) y.2 in
        let here = ap (λ (l : List Reply). length l) (same main_seat (omega arith)) in
        absurd (closes_behind load p ps are (((es ++ D) ++ x ∷ more) ++ b.rest) (ns ++ b.beside) even b.run (es ++ D) x (more ++ b.rest) es is closes
        (close_decides s main_seat x.reply (shaped op.Close is closes)) run_cut (omega (arith, here, count))
        (λ w far. ap (λ (l : List Reply). length l) (same w (omega (arith, far)))) lacks)
    as_main p ps are (stays_up all c) is asks =
        let count : length (decided main_seat es) ≡ suc (calls_ahead p.statements + length p.statements) =
        sym (length-map (decided main_seat es) handle_of) ∙ all in
        let y = part_behind (main_head (has_begin p.statements)) p.statements (op.Close ∷ op.Final
        ∷ []) (decided main_seat es) x.op (omega (arith, count)) asks in
        let sum = y.1 in
        let finals : x.op ≡ op.Final = (asks_second y.0 x.op (omega (arith, sum, count)) y.2).1 in
        let refuses : x.reply ≡ reply.Mtapi m.ErrNodeInitialized =
        row_alone s main_seat op.Final (reply.Mtapi m.ErrNodeInitialized) x.reply (refused_next (refused_final main_seat) c).allowed refl
        (shaped op.Final is finals).allowed in
        let here = ap (λ (l : List Reply). length l) (same main_seat (omega arith)) in
        let well : x.reply ≡ reply.Ok =
        finals_well load p ps are (((es ++ D) ++ x ∷ more) ++ b.rest) (ns ++ b.beside) even b.run (es ++ D) x (more
        ++ b.rest) is (ap is_pending refuses) run_cut
        (omega (arith, here, count)) in
        absurd (let both : reply.Ok ≡ reply.Mtapi m.ErrNodeInitialized = sym well ∙ refuses in cc)

    parts_halt : (p : Part) (ps : List Part) → load.parts ≡ p ∷ ps → PartsHalt es looks refused main_seat (p ∷ ps)
    parts_halt p ps are = subst (λ (l : List Part). PartsHalt es looks refused main_seat l) are halts.parts

    passes : Maker load (es ++ D) x → Passes x
    passes (by_worker w) = by w.makes
      where
        by : (is_work x.op x.reply ≡ true) ⊎ (x ≡ entry x.who op.Pick reply.Stop) → Passes x
        by (inl works) = works_on x w.small (halts.workers x.who w.small) works n
        by (inr stops) = absurd (no_stop x.who (halts.workers x.who w.small) (subst (λ (z : NodeEntry). IsNext s z) stops n))
    passes (by_main m) =
        as_main m.part m.others m.are (parts_halt m.part m.others m.are).0 m.at
        (subst (λ (rs : List Reply). MainAsks m.part.statements rs x.op) (ap (λ (w : ℕ). decided w (es ++ D)) m.at ∙ same main_seat (omega arith)) m.asks)
    passes (by_caller c) =
        let at = c.at in
        as_caller x.who c.part.statements x
        (subst (λ (w : ℕ). CallerHalts looks w c.part.statements (reply_handles w es)) (omega (arith, at))
        (callers_at (suc main_seat) c.earlier c.part c.later (parts_halt c.first (c.earlier ++ c.part ∷ c.later) c.are).1)) refl
        (subst (λ (rs : List Reply). CallerAsks c.part.statements rs x.op) (same x.who (omega (arith, at))) c.asks) n

  -- and so all of them

  not_kept : (x : NodeEntry) (more : List NodeEntry) → is_dropped s x ≡ true → next s x ≡ s → kept s more ≡ [] → kept s (x ∷ more) ≡ []
  unfolding kept
  not_kept x more drops stays none = ap (λ (b : Bool). cond b (kept (next s x) more) (x ∷ kept (next s x) more)) drops
      ∙ (ap (λ (t : State). kept t more) stays ∙ none)

  seats_are : s.terms ≡ run_terms layout load
  seats_are = terms_stay (opening (run_terms layout load)) es (Legal-prefix (run_terms layout load) es (refused ++ looks) legal).from

  nothing_kept : (D more : List NodeEntry) (ns : List ℕ) → ((who : ℕ) → main_seat ≤ who → decided who (es ++ D) ≡ decided who es) → LegalFrom s more
      → Begun load ((es ++ D) ++ more) ns → kept s more ≡ []
  unfolding kept LegalFrom
  nothing_kept D [] ns same from b = refl
  nothing_kept D (x ∷ more) ns same from b =
      let seat : x.who < main_seat + length load.parts =
      subst (λ (t : Terms). x.who < t.settings.workers + t.callers) seats_are from.0.seat in
      let y = passes D more x ns same from.0 b (maker_of load (es ++ D) x (each_is_asked load (es ++ D) more x ns seat b)) in
      let stays : next s x ≡ s = dropped_stays s x from.0 y.dropped in
      let again : (who : ℕ) → main_seat ≤ who → decided who (es ++ (D ++ x ∷ [])) ≡ decided who es =
      (λ who l. ap (decided who) (sym (append_assoc es D (x ∷ []))) ∙ (decided_append who (es ++ D) (x ∷ [])
      ∙ (ap (λ (l : List Reply). decided who (es ++ D) ++ l) (y.untold who l) ∙ (append-nil (decided who (es ++ D)) ∙ same who l)))) in
      let rest : Begun load ((es ++ (D ++ x ∷ [])) ++ more) ns =
      subst (λ (l : List NodeEntry). Begun load l ns) (ap (λ (l : List NodeEntry). l ++ more) (append_assoc es D (x ∷ [])))
      (subst (λ (l : List NodeEntry). Begun load l ns) (sym (append_assoc (es ++ D) (x ∷ []) more)) b) in
      not_kept x more y.dropped stays
      (nothing_kept (D ++ x ∷ []) more ns again (subst (λ (t : State). LegalFrom t more) stays from.1) rest)

pub halts_is_stuck : HaltsIsStuck
halts_is_stuck load layout es looks refused ns legal begun unended halts = record {
  legal = Legal-prefix (run_terms layout load) es (refused ++ looks) legal;
  begun = begun;
  unended = unended;
  still =
      λ more beside whole further.
      nothing_kept load layout es looks refused legal halts [] more (ns ++ beside)
      (λ who l. ap (decided who) (append-nil es))
      (Legal-rest (opening (run_terms layout load)) es more whole.from)
      (subst (λ (l : List NodeEntry). Begun load (l ++ more) (ns ++ beside)) (sym (append-nil es)) further);
}
