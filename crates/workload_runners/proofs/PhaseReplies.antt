-- What the calls that move the phase, the entrance and a stop were answered, by the states in which they were made.
use Rattle.std.proofs.lemmas.Bool.Decides.{nat_tests}
use Rattle.workload_runners.proofs.Names.{[], ◌&&◌, ◌++◌, ◌<◌, ◌∙◌, ◌∷◌, ◌≡◌, ◌≤◌, Allows, Bool, Cancelled, Closing, Idle, IsNext, Legal-front, LegalFrom, List, MatchBool, Mtapi, New, NodeEntry, Ok, Open, Pending, Phase, Reply, Row, State, Stop, Terms, after-append, after_from, after_moves, after_row, all_marked, any_listed, ap, arith, can_take, cond, ends_waiting, entries_of, entry, false, gives, is_new, is_open, is_past_open, is_pending, is_shut_in, is_stop, length, marked, next, not, only, opening, pass, phase_is, picks, refl, released, row, runs_on, says, skip, slice_set, stopped_room, stopped_stays, stops, subst, suc, sym, true, unless, workers, zero, ℕ, Move}
use Rattle.mtapi_values.specs.declared.statuses.MtapiStatus.TheVariants as m
use Rattle.mtapi_machine.specs.declared.ops.Op.TheVariants as op
use Rattle.workload_runners.proofs.TurnMarks.{first_next}
use Rattle.workload_runners.proofs.OwnParts.{own_at}

-- The first calls

pub init_reply : (u : State) (w : ℕ) (r : Reply) → u.phase ≡ New → Allows (row u w op.Initialize r) r → r ≡ Ok
init_reply u w r e a = (pass (not (is_new u.phase)) (Mtapi m.ErrNodeInitialized) r (gives Ok (phase_is Open ∷ [])) u
    (ap (λ (p : Phase). not (is_new p)) e) a).allowed

pub release_reply : (u : State) (w : ℕ) (r : Reply) → u.phase ≡ Open → Allows (row u w op.Release r) r → r ≡ Ok
release_reply u w r e a = (pass (not (is_open u.phase)) (Mtapi m.ErrNodeNotinit) r (gives Ok (released ∷ [])) u
    (ap (λ (p : Phase). not (is_open p)) e) a).allowed

-- The entrance

waits_or_ok : (b : Bool) (r : Reply) → is_pending r ≡ false → MatchBool b (r ≡ Pending) (r ≡ Ok) → r ≡ Ok
waits_or_ok b r e1 e2 = grind (arith, nat_tests)

pub enter_reply : (u : State) (w : ℕ) (r : Reply) → is_past_open u.phase ≡ false → is_pending r ≡ false → Allows (row u w op.Enter r) r → r ≡ Ok
enter_reply u w r e d a = waits_or_ok (not u.released) r d
    (pass (is_past_open u.phase) (Mtapi m.ErrNodeNotinit) r (unless (not u.released) Pending (says Ok)) u e a).allowed

-- The close

pub close_reply : (u : State) (w : ℕ) (r : Reply) → is_past_open u.phase ≡ false → Allows (row u w op.Close r) r → r ≡ Ok
close_reply u w r e a = (pass (is_past_open u.phase) (Mtapi m.ErrNodeNotinit) r
    (gives Ok (phase_is Closing ∷ ends_waiting (is_shut_in u.queues) Cancelled ∷ [])) u e a).allowed

pub close_phase : (u : State) (w : ℕ) (r : Reply) → is_past_open u.phase ≡ false → (next u (entry w op.Close r)).phase ≡ Closing
close_phase u w r e = ap (λ (b : Bool). (after_moves (cond b [] (phase_is Closing ∷ ends_waiting (is_shut_in u.queues) Cancelled ∷ [])) u).phase) e

pub open_phase : (u : State) (w : ℕ) (r : Reply) → u.phase ≡ New → (next u (entry w op.Initialize r)).phase ≡ Open
open_phase u w r e = ap (λ (p : Phase). (after_moves (cond (not (is_new p)) [] (phase_is Open ∷ [])) u).phase) e

-- A stop marks the worker

set_marks : (l : List Bool) (w : ℕ) → w < length l → marked w (slice_set l w true) ≡ true
set_marks [] w h = absurd (omega arith)
set_marks (b ∷ bs) zero h = refl
set_marks (b ∷ bs) (suc w) h = set_marks bs w (omega arith)

not_status : (c : _) → Stop ≡ Mtapi c → ⊥
not_status c e = cc

not_idle : Stop ≡ Idle → ⊥
not_idle e = cc

only_idle : (b : Bool) → Allows {Move = Move} (only b (says Idle)) Stop → ⊥
only_idle b e1 = grind (arith, nat_tests)

stop_set : (b : Bool) (s : State) (w : ℕ) → w < length s.stopped → Allows (cond b (gives Stop (stops w ∷ [])) (picks s w Stop)) Stop
    → marked w (after_row s (cond b (gives Stop (stops w ∷ [])) (picks s w Stop))).stopped ≡ true
stop_set true s w h a = set_marks s.stopped w h
stop_set false s w h a = absurd (only_idle (not (any_listed (can_take s w) s.tasks)) a)

pub stop_marks : (s : State) (w : ℕ) → w < length s.stopped → IsNext s (entry w op.Pick Stop) → marked w (next s (entry w op.Pick Stop)).stopped ≡ true
stop_marks s w h n =
    let inner : Row = cond (is_stop s) (gives Stop (stops w ∷ [])) (picks s w Stop) in
    let g1 = skip _ (Mtapi m.ErrParameter) Stop (unless (any_listed (runs_on w) s.tasks) (Mtapi m.ErrParameter) (unless (is_new s.phase) Idle inner)) s
    (not_status m.ErrParameter) n.allowed in
    let g2 = skip (any_listed (runs_on w) s.tasks) (Mtapi m.ErrParameter) Stop (unless (is_new s.phase) Idle inner) s (not_status m.ErrParameter) g1.allowed in
    let g3 = skip (is_new s.phase) Idle Stop inner s not_idle g2.allowed in
    subst (λ (t : State). marked w t.stopped ≡ true) (sym (g1.leads ∙ (g2.leads ∙ g3.leads))) (stop_set (is_stop s) s w h g3.allowed)

after-behind : (s : State) (A : List NodeEntry) (e : NodeEntry) (B : List NodeEntry) → after_from s (A ++ e ∷ B) ≡ after_from (next (after_from s A) e) B
unfolding after_from
after-behind s A e B = after-append s A (e ∷ B)

-- a worker whose last entry is a stop is marked from then on
pub stopped_mark : (terms : Terms) (w : ℕ) (S xs : List NodeEntry) → w < 25 → LegalFrom (opening terms) S → entries_of w S ≡ xs ++ entry w op.Pick Stop ∷ []
    → marked w (after_from (opening terms) S).stopped ≡ true
stopped_mark terms w S xs few l k =
    let e : NodeEntry = entry w op.Pick Stop in
    let c = own_at w xs S e [] k in
    let whole : LegalFrom (opening terms) (c.0 ++ e ∷ c.1) = subst (λ (L : List NodeEntry). LegalFrom (opening terms) L) c.2 l in
    let n = first_next (opening terms) c.0 e c.1 whole in
    let u : State = after_from (opening terms) c.0 in
    let room : length u.stopped ≡ 25 = stopped_room terms c.0 (Legal-front (opening terms) c.0 (e ∷ c.1) whole) in
    let mark = stop_marks u w (omega (arith, room)) n.0 in
    subst (λ (L : List NodeEntry). marked w (after_from (opening terms) L).stopped ≡ true) (sym c.2)
    (subst (λ (s : State). marked w s.stopped ≡ true) (sym (after-behind (opening terms) c.0 e c.1)) (stopped_stays (next u e) c.1 w n.1 mark))

-- The final call

pub all_marks : (n : ℕ) (l : List Bool) → n ≤ length l → ((k : ℕ) → k < n → marked k l ≡ true) → all_marked n l ≡ true
all_marks zero l h f = refl
all_marks (suc n) [] h f = absurd (omega arith)
all_marks (suc n) (b ∷ bs) h f = (λ i. f 0 (omega arith) i && all_marked n bs) ∙ all_marks n bs (omega arith) (λ k j. f (suc k) (omega arith))

pub final_reply : (u : State) (w : ℕ) (r : Reply) → u.phase ≡ Closing → all_marked (workers u) u.stopped ≡ true → Allows (row u w op.Final r) r → r ≡ Ok
final_reply u w r e1 e2 e3 = grind (arith, nat_tests)
