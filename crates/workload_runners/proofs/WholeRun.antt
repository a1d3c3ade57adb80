-- A run of a workload, from what each seat's own entries are.
use Rattle.std.proofs.lemmas.Bool.Decides.{nat_tests}
use Rattle.workload_runners.proofs.Names.{[], ◌++◌, ◌+◌, ◌-◌, ◌<◌, ◌∙◌, ◌∷◌, ◌≡◌, ◌≤◌, Bool, BySeats, CallerAs, CallerIn, CallerRan, CallersRan, Carried, ClosesAtEnd, Closing, EntersAs, Legal-front, LegalFrom, List, MadeAs, MainAs, MainRan, MatchBool, NoClose, NoPhase, NodeEntry, Ok, OnceListed, Part, PartsRan, Pending, Reply, RunBy, Some, State, Statement, Stop, Terms, Turn, WorkerAs, WorkerBy, Workload, after-append, after_from, all_in, all_marked, ap, append-nil, append_assoc, arith, by_seats, early_stays, entries-append, entries_of, entry, false, has_begin, head_entries, if◌then◌else◌, in_turns, is_ok, is_past_open, length, listed, marked, next, opening, phase_stays, refl, replicate, slice_get, stopped_room, subst, suc, sym, terms_stay, true, turns_of, workers, zero, ℕ}
use Rattle.mtapi_machine.specs.declared.ops.Op.TheVariants as op
use Rattle.workload_runners.proofs.TurnMarks.{first_next}
use Rattle.workload_runners.proofs.Rounds.{rounds_work}
use Rattle.workload_runners.proofs.EntriesToTurns.{main_turns, caller_turns, worker_turns}
use Rattle.workload_runners.proofs.OwnParts.{own_at, own_one, MainCuts, HasAll, others_back, others_front, others_tail, beyond, by_back, nobody}
use Rattle.workload_runners.proofs.NoPhase.{quiet_append, quiet_replicate, carried_quiet, work_quiet, open_quiet, open_all, open_front, OthersQuiet, quiet_front, quiet_back, quiet_all, Next, own_next}
use Rattle.workload_runners.proofs.PhaseReplies.{init_reply, release_reply, enter_reply, close_reply, close_phase, open_phase, stopped_mark, all_marks, final_reply}

-- what is known of a seat: its entries are as R says, and all stand in the front part S
pub record KnownSeat (R : ℕ → List NodeEntry → Type 0) (k : ℕ) (H S T : List NodeEntry) : Type 0 where
  pub did : R k (entries_of k H)
  pub place : HasAll k S T (entries_of k H)

-- what is known of a whole history
pub record Known (terms : Terms) (w n : ℕ) (parts : List Part) (ss : List Statement) (H : List NodeEntry) : Type 0 where
  pub legal : LegalFrom (opening terms) H
  pub workers_are : terms.settings.workers ≡ w
  pub seats_are : terms.settings.workers + terms.callers ≡ n
  pub main_seat : w < n
  pub few : n ≤ 25
  pub own : List NodeEntry
  pub a : Reply
  pub b : Reply
  pub cuts : MainCuts w H own a b
  pub main : MainAs ss w own
  pub called : (k : ℕ) → w < k → k < n → KnownSeat (CallerIn parts w) k H cuts.before (entry w op.Close a ∷ (cuts.behind ++ entry w op.Final b ∷ cuts.rest))
  pub worked : (k : ℕ) → k < w → KnownSeat WorkerAs k H (cuts.before ++ entry w op.Close a ∷ cuts.behind) (entry w op.Final b ∷ cuts.rest)

-- a seat is a worker's, main's, a further caller's, or none
pub data Place (w n k : ℕ) : Type 0 where
  is_worker : k < w → Place w n k
  is_main : k ≡ w → Place w n k
  is_caller : w < k → k < n → Place w n k
  is_none : n ≤ k → Place w n k

pub place_of : (w n k : ℕ) → Place w n k
place_of w n k = grind (arith, nat_tests)

index : (w i : ℕ) → (w + suc i) - w ≡ suc i
index w i = omega arith

got_below : (ps : List Part) (i : ℕ) (p : Part) → slice_get ps i ≡ Some p → i < length ps
got_below [] i p e = absurd (cc)
got_below (x ∷ ps) zero p e = omega arith
got_below (x ∷ ps) (suc i) p e = let l = got_below ps i p e in omega arith

same_part : {p q : Part} → Some p ≡ Some q → p ≡ q
same_part e = cc

-- the turns of a further caller, and the replies to its statements
abbrev CallerBy : List Statement → List Turn → Type 0
CallerBy ss ts = (rs : List Reply) × CallerRan in_turns ss ts rs

callers_by : (s : State) (L : List NodeEntry) (ps : List Part) (who : ℕ)
    → ((i : ℕ) (p : Part) → slice_get ps i ≡ Some p → CallerBy p.statements (turns_of (who + i) s L))
    → (rss : List (List Reply)) × CallersRan in_turns (λ k. turns_of k s L) who ps rss
unfolding CallersRan
callers_by s L [] who f = ([], tt)
callers_by s L (p ∷ ps) who f =
    let here : who + 0 ≡ who = omega arith in
    let first = subst (λ (n : ℕ). CallerBy p.statements (turns_of n s L)) here (f 0 p refl) in
    let more = callers_by s L ps (suc who) (λ i q e. let n : who + suc i ≡ suc who + i = omega arith in
    subst (λ (m : ℕ). CallerBy q.statements (turns_of m s L)) n (f (suc i) q e)) in
    (first.0 ∷ more.0, (first.1, more.1))

-- before the first entry no task is listed
once_opening : (terms : Terms) → OnceListed (opening terms)
unfolding listed
once_opening terms h = omega arith

module _ (terms : Terms) (w n : ℕ) (parts : List Part) (ss : List Statement) (H : List NodeEntry) (x : Known terms w n parts ss H) where
  abbrev C : NodeEntry
  C = entry w op.Close x.a

  abbrev F : NodeEntry
  F = entry w op.Final x.b

  whole : H ≡ x.cuts.before ++ C ∷ (x.cuts.behind ++ F ∷ x.cuts.rest)
  whole = x.cuts.is

  bound : BySeats n H
  bound = subst (λ (m : ℕ). BySeats m H) x.seats_are (by_seats (opening terms) H x.legal)

  bound_here : (P Q : List NodeEntry) → H ≡ P ++ Q → BySeats n Q
  bound_here P Q e = by_back n P Q (subst (λ (L : List NodeEntry). BySeats n L) e bound)

  -- behind the close there is nothing of a further caller
  none_behind : (k : ℕ) → w < k → k < n → entries_of k (x.cuts.behind ++ F ∷ x.cuts.rest) ≡ []
  none_behind k l h = others_tail k C (x.cuts.behind ++ F ∷ x.cuts.rest) (x.called k l h).place.none

  -- behind the final call there is nothing at all
  nothing_rest : x.cuts.rest ≡ []
  nothing_rest = nobody n x.cuts.rest bounds each
    where
      bounds : BySeats n x.cuts.rest
      bounds =
          bound_here (x.cuts.before ++ C ∷ (x.cuts.behind ++ F ∷ [])) x.cuts.rest
          (whole
          ∙ (ap (λ (L : List NodeEntry). x.cuts.before ++ C ∷ L) (sym (append_assoc x.cuts.behind (F ∷ []) x.cuts.rest))
          ∙ sym (append_assoc x.cuts.before (C ∷ (x.cuts.behind ++ F ∷ [])) x.cuts.rest)))

      each : (k : ℕ) → k < n → entries_of k x.cuts.rest ≡ []
      each k l = elim (place_of w n k) [
        | is_worker h ↦ others_tail k F x.cuts.rest (x.worked k h).place.none
        | is_main e ↦ subst (λ (j : ℕ). entries_of j x.cuts.rest ≡ []) (sym e) x.cuts.main_rest
        | is_caller h g ↦ others_tail k F x.cuts.rest (others_back k x.cuts.behind (F ∷ x.cuts.rest) (none_behind k h g))
        | is_none h ↦ absurd (omega arith)
      ]

  -- no other seat moves the phase
  caller_quiet : (k : ℕ) (ps : List Statement) (es : List NodeEntry) → CallerAs ps k es → NoPhase es
  caller_quiet k ps es d =
      let looks = quiet_append (replicate d.enters.pending (entry k op.Enter Pending)) (entry k op.Enter d.reply
      ∷ []) (quiet_replicate d.enters.pending (entry k op.Enter Pending) refl) (refl, tt) in
      subst NoPhase (sym d.is) (quiet_append d.front d.own (subst NoPhase (sym d.enters.is) looks)
      (carried_quiet k (if is_ok d.reply then ps else []) [] d.own d.carried.replies d.carried.carried))

  worker_quiet : (k : ℕ) (es : List NodeEntry) → WorkerAs k es → NoPhase es
  worker_quiet k es d = subst NoPhase (sym d.is)
      (quiet_append (all_in k d.rounds) (entry k op.Pick Stop ∷ []) (work_quiet (all_in k d.rounds) (rounds_work k d.rounds)) (refl, tt))

  others_quiet : OthersQuiet w H
  others_quiet k ne = elim (place_of w n k) [
    | is_worker h ↦ worker_quiet k (entries_of k H) (x.worked k h).did
    | is_main e ↦ absurd (ne e)
    | is_caller h g ↦ caller_quiet k (x.called k h g).did.0.statements (entries_of k H) (x.called k h g).did.2
    | is_none h ↦ subst NoPhase (sym (beyond n k H bound h)) tt
  ]

  quiet_before : OthersQuiet w x.cuts.before
  quiet_before = quiet_front w x.cuts.before (C ∷ (x.cuts.behind ++ F ∷ x.cuts.rest)) (subst (OthersQuiet w) whole others_quiet)

  legal_whole : LegalFrom (opening terms) (x.cuts.before ++ C ∷ (x.cuts.behind ++ F ∷ x.cuts.rest))
  legal_whole = subst (λ (L : List NodeEntry). LegalFrom (opening terms) L) whole x.legal

  legal_before : LegalFrom (opening terms) x.cuts.before
  legal_before = Legal-front (opening terms) x.cuts.before (C ∷ (x.cuts.behind ++ F ∷ x.cuts.rest)) legal_whole

  -- main's first calls
  abbrev I : NodeEntry
  I = entry w op.Initialize x.main.opens.first

  abbrev lets : List NodeEntry
  lets = x.main.opens.lets

  own_before : entries_of w x.cuts.before ≡ I ∷ (lets ++ x.main.own)
  own_before = x.cuts.main_before ∙ (x.main.is ∙ ap (λ (L : List NodeEntry). L ++ x.main.own) x.main.opens.is)

  first_call : Next w I (opening terms) x.cuts.before (lets ++ x.main.own)
  first_call = own_next w I (opening terms) x.cuts.before (lets ++ x.main.own) legal_before quiet_before own_before

  first_is : x.main.opens.first ≡ Ok
  first_is = init_reply (after_from (opening terms) first_call.before) w x.main.opens.first first_call.phase first_call.next_is.allowed

  release_is : (r : Reply) → lets ≡ entry w op.Release r ∷ [] → r ≡ Ok
  release_is r e =
      let u : State = after_from (opening terms) first_call.before in
      let n = own_next w (entry w op.Release r) (next u I) first_call.behind x.main.own first_call.legal first_call.quiet (first_call.rest_is
      ∙ ap (λ (L : List NodeEntry). L ++ x.main.own) e) in
      release_reply (after_from (next u I) n.before) w r (n.phase ∙ open_phase u w x.main.opens.first first_call.phase) n.next_is.allowed

  heads_are : (b : Bool) → MatchBool b (lets ≡ []) ((r : Reply) × (lets ≡ entry w op.Release r ∷ [])) → entry w op.Initialize Ok ∷ lets ≡ head_entries w b
  heads_are true e = ap (λ (L : List NodeEntry). entry w op.Initialize Ok ∷ L) e
  heads_are false p = ap (λ (L : List NodeEntry). entry w op.Initialize Ok ∷ L) (p.1 ∙ ap (λ (r : Reply). entry w op.Release r ∷ []) (release_is p.0 p.1))

  -- before the close the phase isn't late
  main_quiet : NoClose (entries_of w x.cuts.before)
  main_quiet =
      subst NoClose (sym own_before) (refl, lets_open (has_begin ss) x.main.opens.let_is)
    where
      own_open : NoClose x.main.own
      own_open = open_quiet x.main.own (carried_quiet w ss [] x.main.own x.main.carried.replies x.main.carried.carried)

      lets_open : (b : Bool) → MatchBool b (lets ≡ []) ((r : Reply) × (lets ≡ entry w op.Release r ∷ [])) → NoClose (lets ++ x.main.own)
      lets_open true e = subst (λ (L : List NodeEntry). NoClose (L ++ x.main.own)) (sym e) own_open
      lets_open false p = subst (λ (L : List NodeEntry). NoClose (L ++ x.main.own)) (sym p.1) (refl, own_open)

  open_before : NoClose x.cuts.before
  open_before = open_all x.cuts.before (λ k. elim (place_of w n k) [
    | is_worker h ↦ open_quiet (entries_of k x.cuts.before) (quiet_before k (λ e. absurd (omega arith)))
    | is_main e ↦ subst (λ (j : ℕ). NoClose (entries_of j x.cuts.before)) (sym e) main_quiet
    | is_caller h g ↦ open_quiet (entries_of k x.cuts.before) (quiet_before k (λ e. absurd (omega arith)))
    | is_none h ↦ open_quiet (entries_of k x.cuts.before) (quiet_before k (λ e. absurd (let g = x.main_seat in omega arith)))
  ])

  early_at : (P Q : List NodeEntry) → x.cuts.before ≡ P ++ Q → is_past_open (after_from (opening terms) P).phase ≡ false
  early_at P Q e =
      early_stays (opening terms) P (Legal-front (opening terms) P Q (subst (λ (L : List NodeEntry). LegalFrom (opening terms) L) e legal_before))
      (open_front P Q (subst NoClose e open_before)) refl

  -- a further caller entered
  entered : (k : ℕ) (l : w < k) (h : k < n) → (x.called k l h).did.2.reply ≡ Ok
  entered k l h =
      let place = (x.called k l h).place in
      let d = (x.called k l h).did.2 in
      let e : NodeEntry = entry k op.Enter d.reply in
      let prefix : List NodeEntry = replicate d.enters.pending (entry k op.Enter Pending) in
      let own = place.there ∙ (d.is ∙ (ap (λ (L : List NodeEntry). L ++ d.own) d.enters.is ∙ append_assoc prefix (e ∷ []) d.own)) in
      let c = own_at k prefix x.cuts.before e d.own own in
      let p = first_next (opening terms) c.0 e c.1 (subst (λ (L : List NodeEntry). LegalFrom (opening terms) L) c.2 legal_before) in
      enter_reply (after_from (opening terms) c.0) k d.reply (early_at c.0 (e ∷ c.1) c.2) d.enters.decides p.0.allowed

  -- main closed
  early : is_past_open (after_from (opening terms) x.cuts.before).phase ≡ false
  early = early_at x.cuts.before [] (sym (append-nil x.cuts.before))

  closed_is : x.a ≡ Ok
  closed_is = close_reply (after_from (opening terms) x.cuts.before) w x.a early
      (first_next (opening terms) x.cuts.before C (x.cuts.behind ++ F ∷ x.cuts.rest) legal_whole).0.allowed

  -- and finalized
  regrouped : x.cuts.before ++ C ∷ (x.cuts.behind ++ F ∷ x.cuts.rest) ≡ (x.cuts.before ++ C ∷ x.cuts.behind) ++ F ∷ x.cuts.rest
  regrouped = sym (append_assoc x.cuts.before (C ∷ x.cuts.behind) (F ∷ x.cuts.rest))

  legal_final : LegalFrom (opening terms) ((x.cuts.before ++ C ∷ x.cuts.behind) ++ F ∷ x.cuts.rest)
  legal_final = subst (λ (L : List NodeEntry). LegalFrom (opening terms) L) regrouped legal_whole

  phase_final : (after_from (opening terms) (x.cuts.before ++ C ∷ x.cuts.behind)).phase ≡ Closing
  unfolding after_from
  phase_final =
      let u : State = after_from (opening terms) x.cuts.before in
      let prefix = Legal-front (opening terms) (x.cuts.before ++ C ∷ x.cuts.behind) (F ∷ x.cuts.rest) legal_final in
      let p = first_next (opening terms) x.cuts.before C x.cuts.behind prefix in
      let q = subst (OthersQuiet w) (whole ∙ sym (append_assoc x.cuts.before (C ∷ []) (x.cuts.behind ++ F ∷ x.cuts.rest))) others_quiet in
      let quiet = quiet_front w x.cuts.behind (F ∷ x.cuts.rest) (quiet_back w (x.cuts.before ++ C ∷ []) (x.cuts.behind ++ F ∷ x.cuts.rest) q) in
      ap (λ (s : State). s.phase) (after-append (opening terms) x.cuts.before (C ∷ x.cuts.behind))
      ∙ (phase_stays (next u C) x.cuts.behind p.1 (quiet_all w x.cuts.behind quiet x.cuts.main_behind) ∙ close_phase u w x.a early)

  marks_final : (k : ℕ) → k < w → marked k (after_from (opening terms) (x.cuts.before ++ C ∷ x.cuts.behind)).stopped ≡ true
  marks_final k l =
      let d = x.worked k l in
      let S = x.cuts.before ++ C ∷ x.cuts.behind in
      let few : k < 25 = (let a = x.main_seat in let b = x.few in omega arith) in
      stopped_mark terms k S (all_in k d.did.rounds) few (Legal-front (opening terms) S (F ∷ x.cuts.rest) legal_final) (d.place.there ∙ d.did.is)

  final_is : x.b ≡ Ok
  final_is =
      let S = x.cuts.before ++ C ∷ x.cuts.behind in
      let prefix = Legal-front (opening terms) S (F ∷ x.cuts.rest) legal_final in
      let u : State = after_from (opening terms) S in
      let room = stopped_room terms S prefix in
      let count : workers u ≡ w = ap (λ (t : Terms). t.settings.workers) (terms_stay (opening terms) S prefix) ∙ x.workers_are in
      let all : all_marked (workers u) u.stopped ≡ true =
      all_marks (workers u) u.stopped (let a = x.main_seat in let b = x.few in omega arith) (λ k l. marks_final k (omega arith)) in
      final_reply u w x.b phase_final all (first_next (opening terms) S F x.cuts.rest legal_final).0.allowed

  -- The parts of the run

  all_main : entries_of w H ≡ x.own ++ C ∷ F ∷ []
  all_main =
      let fin : entries_of w (F ∷ x.cuts.rest) ≡ F ∷ [] = entries-append w (F ∷ []) x.cuts.rest ∙ (λ i. own_one w F refl i ++ x.cuts.main_rest i) in
      let mid : entries_of w (x.cuts.behind ++ F ∷ x.cuts.rest) ≡ F ∷ [] =
      entries-append w x.cuts.behind (F ∷ x.cuts.rest) ∙ (λ i. x.cuts.main_behind i ++ fin i) in
      let tail : entries_of w (C ∷ (x.cuts.behind ++ F ∷ x.cuts.rest)) ≡ C ∷ F ∷ [] =
      entries-append w (C ∷ []) (x.cuts.behind ++ F ∷ x.cuts.rest) ∙ (λ i. own_one w C refl i ++ mid i) in
      ap (λ (L : List NodeEntry). entries_of w L) whole
      ∙ (entries-append w x.cuts.before (C ∷ (x.cuts.behind ++ F ∷ x.cuts.rest)) ∙ (λ i. x.cuts.main_before i ++ tail i))

  pub main_by : MainRan in_turns ss (turns_of w (opening terms) H) x.main.carried.replies
  main_by =
      let es = x.main.own in
      let head : x.main.front ≡ head_entries w (has_begin ss) =
      x.main.opens.is ∙ ((λ i. entry w op.Initialize (first_is i) ∷ lets) ∙ heads_are (has_begin ss) x.main.opens.let_is) in
      main_turns w ss x.main.carried.replies (opening terms) H (once_opening terms) x.legal (record {
        body = es;
        is =
            all_main
            ∙ (ap (λ (L : List NodeEntry). L ++ C ∷ F ∷ []) (x.main.is ∙ ap (λ (L : List NodeEntry). L ++ es) head)
            ∙ (append_assoc (head_entries w (has_begin ss)) es (C ∷ F ∷ [])
            ∙ (λ i. head_entries w (has_begin ss) ++ (es ++ entry w op.Close (closed_is i) ∷ entry w op.Final (final_is i) ∷ []))));
        carried = x.main.carried.carried;
      })

  pub caller_by : (k : ℕ) (l : w < k) (h : k < n) → CallerBy (x.called k l h).did.0.statements (turns_of k (opening terms) H)
  caller_by k l h =
      let ps = (x.called k l h).did.0.statements in
      let d = (x.called k l h).did.2 in
      let ok = entered k l h in (
        d.carried.replies,
        caller_turns k ps d.carried.replies (opening terms) H (once_opening terms) x.legal (record {
          front = d.front;
          body = d.own;
          entered = subst (λ (r : Reply). EntersAs r k d.front) ok d.enters;
          is = d.is;
          carried = subst (λ (r : Reply). Carried (MadeAs k) [] (if is_ok r then ps else []) d.own d.carried.replies) ok d.carried.carried;
        }),
      )

  pub worker_by : (k : ℕ) → k < w → WorkerBy (turns_of k (opening terms) H)
  worker_by k l = worker_turns k (opening terms) H (x.worked k l).did

  pub closes_at_end : ClosesAtEnd w H
  closes_at_end = record {
    before = x.cuts.before;
    behind = x.cuts.behind;
    closes = whole ∙ (λ i. x.cuts.before ++ entry w op.Close (closed_is i) ∷ (x.cuts.behind ++ entry w op.Final (final_is i) ∷ nothing_rest i));
    callers_ended = λ k l. elim (place_of w n k) [
      | is_worker h ↦ absurd (omega arith)
      | is_main e ↦ absurd (omega arith)
      | is_caller h g ↦ others_front k x.cuts.behind (F ∷ x.cuts.rest) (none_behind k h g)
      | is_none h ↦ others_front k x.cuts.behind (F
          ∷ x.cuts.rest) (beyond n k (x.cuts.behind ++ F
          ∷ x.cuts.rest) (bound_here (x.cuts.before ++ C ∷ []) (x.cuts.behind ++ F ∷ x.cuts.rest) (whole
          ∙ sym (append_assoc x.cuts.before (C ∷ []) (x.cuts.behind ++ F ∷ x.cuts.rest)))) h)
    ];
  }

module _ (load : Workload) (terms : Terms) (p : Part) (ps : List Part) (H : List NodeEntry)
    (x : Known terms load.settings.workers (load.settings.workers + length (p ∷ ps)) (p ∷ ps) p.statements H) where
  each_caller : (i : ℕ) (q : Part) → slice_get ps i ≡ Some q → CallerBy q.statements (turns_of (suc load.settings.workers + i) (opening terms) H)
  each_caller i q g =
      let low = got_below ps i q g in
      let l : load.settings.workers < load.settings.workers + suc i = omega arith in
      let h : load.settings.workers + suc i < load.settings.workers + length (p ∷ ps) = omega arith in
      let d = x.called (load.settings.workers + suc i) l h in
      let same : d.did.0 ≡ q = same_part (sym d.did.1 ∙ (ap (λ (m : ℕ). slice_get (p ∷ ps) m) (index load.settings.workers i) ∙ g)) in
      let m : load.settings.workers + suc i ≡ suc load.settings.workers + i = omega arith in
      subst (λ (o : ℕ). CallerBy q.statements (turns_of o (opening terms) H)) m
      (subst (λ (r : Part). CallerBy r.statements (turns_of (load.settings.workers + suc i) (opening terms) H)) same
      (caller_by terms load.settings.workers (load.settings.workers + length (p ∷ ps)) (p ∷ ps) p.statements H x (load.settings.workers + suc i) l h))

  further : (rss : List (List Reply)) × CallersRan in_turns (λ k. turns_of k (opening terms) H) (suc load.settings.workers) ps rss
  further = callers_by (opening terms) H ps (suc load.settings.workers) each_caller

  -- a whole history of these parts is a run of the workload
  pub run_by : load.parts ≡ p ∷ ps → RunBy load (opening terms) H
  run_by e = record {
    replies = x.main.carried.replies ∷ further.0;
    parts =
        subst (λ (l : List Part). PartsRan in_turns (λ k. turns_of k (opening terms) H) load.settings.workers l (x.main.carried.replies ∷ further.0)) (sym e)
        (main_by terms load.settings.workers (load.settings.workers + length (p ∷ ps)) (p ∷ ps) p.statements H x, further.1);
    workers = λ k l. worker_by terms load.settings.workers (load.settings.workers + length (p ∷ ps)) (p ∷ ps) p.statements H x k l;
    ends = closes_at_end terms load.settings.workers (load.settings.workers + length (p ∷ ps)) (p ∷ ps) p.statements H x;
  }
