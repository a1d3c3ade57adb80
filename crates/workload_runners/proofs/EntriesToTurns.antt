-- From entries to turns: what the entries of a seat tell of its part, its turns in a legal history tell too.
use Rattle.std.proofs.lemmas.Bool.Decides.{nat_tests}
use Rattle.workload_runners.proofs.Names.{[], ◌&&◌, ◌++◌, ◌+◌, ◌<◌, ◌==◌, ◌∙◌, ◌∷◌, ◌≡◌, Bool, Call, CallerTurns, EnteredBy, EntersAs, Entrance, IsNext, IsTimed, KeepsTimeout, Legal-front, Legal-rest, LegalFrom, List, LookedAs, Looking, MadeAs, MadeBy, MainTurns, MatchOption, NodeEntry, Once, OnceListed, Op, Option, Others, Reply, Shaped, State, Tells, Timeout, Told, Turn, WaitsFor, Wanted, WorkerTurns, after-one, after_from, all_in, all_worked, ap, append_assoc, arith, call_of, caller_told, cond, entries_of, entry, false, first_alone, head_entries, head_turns, in_entries, in_turns, is_dropped, is_pending, is_work, length, looks_of, main_told, next, none_of, not, once_settles, once_stays, op_of_look, pended, pends_alike, refl, replicate, shaped, stayed, subst, suc, sym, tail_turns, told_as, told_then, true, turn_of, turns_append, turns_of, waiter_stays, waits, work_append, zero, ℕ}
use Rattle.mtapi_machine.specs.declared.ops.Op.TheVariants as op
use Rattle.mtapi_machine.specs.declared.replies.Reply.TheVariants as reply
use Rattle.workload_runs.specs.declared.calls.Wanted.TheVariants.{Task}
use Rattle.workload_runners.proofs.Rounds.{AllWork, rounds_work}
use Rattle.workload_runners.proofs.TurnMarks.{Cut, first_own, first_next, turns_one, turns_none, pend_waits}
use Rattle.workload_runners.proofs.WantedRows.{wanted_says}

-- a place in a history: the state there, and the entries that follow
record Place : Type 0 where
  state : State
  rest : List NodeEntry

abbrev whole : ℕ → Place → List Turn
whole w k = turns_of w k.state k.rest

-- these entries of the seat follow, in a history of which I holds
abbrev Left : (State → List NodeEntry → Type 0) → ℕ → Place → List NodeEntry → Type 0
Left I w k es = I k.state k.rest × (entries_of w k.rest ≡ es)

module _ (w : ℕ) (I : State → List NodeEntry → Type 0) (goes : (s : State) (A B : List NodeEntry) → I s (A ++ B) → I (after_from s A) B) where
  none_told : (k : Place) → Left I w k [] → whole w k ≡ []
  none_told k l = turns_none w k.state k.rest l.1

  -- the next entry of the seat, and the state in which it was made
  one_told : (e : NodeEntry) (k : Place) (rest : List NodeEntry) (P : List Turn → Type 0) → Left I w k (e ∷ rest)
      → ((A B : List NodeEntry) → k.rest ≡ A ++ e ∷ B → Others w A → P (turn_of (after_from k.state A) e ∷ []))
      → Told (Left I w) (whole w) k rest P
  one_told e k rest P l f =
      let c : Cut w k.rest e rest = first_own w k.rest e rest l.1 in
      let F = c.before ++ e ∷ [] in
      let is : k.rest ≡ F ++ c.behind = c.is ∙ sym (append_assoc c.before (e ∷ []) c.behind) in
      record {
        front = turn_of (after_from k.state c.before) e ∷ [];
        behind = record { state = after_from k.state F; rest = c.behind };
        is = ap (λ (L : List NodeEntry). turns_of w k.state L) is
            ∙ (turns_append w k.state F c.behind ∙ ap (λ (T : List Turn). T
            ++ turns_of w (after_from k.state F) c.behind) (turns_one w k.state c.before e c.others c.by));
        shows = f c.before c.behind c.is c.others;
        left_is = (goes k.state F c.behind (subst (λ (L : List NodeEntry). I k.state L) is l.0), c.rest);
      }

  works_told : (es : List NodeEntry) (k : Place) (rest : List NodeEntry) → AllWork es → Left I w k (es ++ rest)
      → Told (Left I w) (whole w) k rest (λ ts. all_worked ts ≡ true)
  unfolding all_worked
  works_told [] k rest a l = record { front = []; behind = k; is = refl; shows = refl; left_is = l }
  works_told (e ∷ es) k rest a l =
      let x = one_told e k (es ++ rest) (λ ts. all_worked ts ≡ true) l (λ A B is o. works (not (is_dropped (after_from k.state A) e)) a.0) in
      told_then (Left I w) (whole w) k (es ++ rest) rest _ _ (λ ts. all_worked ts ≡ true) work_append x (works_told es x.behind rest a.1 x.left_is)
    where
      works : (b : Bool) → is_work e.op e.reply ≡ true → (cond b (is_work e.op e.reply) true && true) ≡ true
      works true q = ap (λ (d : Bool). d && true) q
      works false q = refl

-- a worker that served, in any history with its entries
pub worker_turns : WorkerTurns
worker_turns w s H a =
    let I : State → List NodeEntry → Type 0 = λ s L. Unit {0} in
    let stop : NodeEntry = entry w op.Pick reply.Stop in
    let f = works_told w I (λ s A B i. tt) (all_in w a.rounds) (record { state = s; rest = H }) (stop ∷ []) (rounds_work w a.rounds) (tt, a.is) in
    let z = one_told w I (λ s A B i. tt) stop f.behind [] (λ ts. ts ≡ stayed op.Pick reply.Stop ∷ []) f.left_is (λ A B is o. refl) in
    record {
      work = f.front;
      is = f.is ∙ ap (λ (T : List Turn). f.front ++ T) (z.is
          ∙ (λ i. z.shows i ++ none_told w I (λ s A B i. tt) z.behind z.left_is i));
      works = f.shows;
    }

-- Callers, in a legal history

abbrev IsLegal : State → List NodeEntry → Type 0
IsLegal s H = OnceListed s × LegalFrom s H

legal_goes : (s : State) (A B : List NodeEntry) → IsLegal s (A ++ B) → IsLegal (after_from s A) B
legal_goes s A B i = (once_stays s A i.0, Legal-rest s A B i.1)

-- between its looks the seat stands as waiter, where it looks for the end of a task
abbrev Stands : Wanted → ℕ → State → Type 0
Stands (Task t) w s = WaitsFor s w t.0
Stands _ w s = Unit {0}

stands_stay : (x : Wanted) (w : ℕ) (s : State) (A B : List NodeEntry) → IsLegal s (A ++ B) → Others w A → Stands x w s → Stands x w (after_from s A)
stands_stay (Task t) w s A B i o v = waiter_stays s A w t.0 i.0 (Legal-front s A B i.1) o v
stands_stay _ w s A B i o v = tt

pend_stands : (x : Wanted) (w : ℕ) (s : State) → IsNext s (entry w (op_of_look x false) reply.Pending)
    → Stands x w (next s (entry w (op_of_look x false) reply.Pending))
pend_stands (Task t) w s n = pend_waits s w t n
pend_stands _ w s n = tt

stands_drop : (x : Wanted) (w : ℕ) (s : State) → Stands x w s → is_dropped s (entry w (op_of_look x false) reply.Pending) ≡ true
stands_drop x w s e1 = grind (arith, nat_tests)

stands_at_once : (x : Wanted) (w : ℕ) (s : State) → waits x ≡ false → Stands x w s
stands_at_once x w s e1 = grind (arith, nat_tests)

-- turns of looks, of which a journal keeps at most the first Pending one, and none where the seat stands as waiter
record Marked (x : Wanted) (n : ℕ) (last : Bool) (r : Reply) (w : ℕ) (s : State) (ts : List Turn) : Type 0 where
  marks : List Bool
  count : length marks ≡ n
  is : ts ≡ pended (op_of_look x false) marks ++ stayed (op_of_look x last) r ∷ []
  one_kept : first_alone marks ≡ true
  none_kept : Stands x w s → none_of marks ≡ true
  decides : is_pending r ≡ false

-- one look that found nothing
record Pended (x : Wanted) (w : ℕ) (s : State) (ts : List Turn) : Type 0 where
  mark : Bool
  is : ts ≡ record { op = op_of_look x false; reply = reply.Pending; stays = mark } ∷ []
  dropped : Stands x w s → mark ≡ false

both_none : (a b : Bool) → a ≡ false → b ≡ true → (not a && b) ≡ true
both_none a b e f = λ i. not (e i) && f i

module _ (w : ℕ) where
  abbrev CallerTold : Place → List NodeEntry → (List Turn → Type 0) → Type 0
  CallerTold k rest P = Told (Left IsLegal w) (whole w) k rest P

  next_at : (s : State) (H A : List NodeEntry) (e : NodeEntry) (B : List NodeEntry) → IsLegal s H → H ≡ A ++ e ∷ B → IsNext (after_from s A) e
  next_at s H A e B i is = (first_next s A e B (subst (λ (L : List NodeEntry). LegalFrom s L) is i.1)).0

  looks_told : (x : Wanted) (last : Bool) (r : Reply)
      → ((u : State) → IsNext u (entry w (op_of_look x last) r) → (is_dropped u (entry w (op_of_look x last) r) ≡ false) × (is_pending r ≡ false))
      → (n : ℕ) (k : Place) (rest : List NodeEntry)
      → Left IsLegal w k (replicate n (entry w (op_of_look x false) reply.Pending) ++ entry w (op_of_look x last) r ∷ rest)
      → CallerTold k rest (Marked x n last r w k.state)
  unfolding none_of one_told
  looks_told x last r ends zero k rest l =
      let e : NodeEntry = entry w (op_of_look x last) r in
      one_told w IsLegal legal_goes e k rest (Marked x 0 last r w k.state) l (λ A B is o. let d =
      ends (after_from k.state A) (next_at k.state k.rest A e B l.0 is) in record {
        marks = [];
        count = refl;
        is = ap (λ (b : Bool). record { op = op_of_look x last; reply = r; stays = not b } ∷ []) d.0;
        one_kept = refl;
        none_kept = λ v. refl;
        decides = d.1;
      })
  looks_told x last r ends (suc n) k rest l =
      let e : NodeEntry = entry w (op_of_look x false) reply.Pending in
      let es : List NodeEntry = replicate n e ++ entry w (op_of_look x last) r ∷ rest in
      let a = one_told w IsLegal legal_goes e k es (Pended x w k.state) l (λ A B is o. record {
        mark = not (is_dropped (after_from k.state A) e);
        is = refl;
        dropped = λ v. ap not (stands_drop x w (after_from k.state A)
            (stands_stay x w k.state A (e ∷ B) (subst (λ (L : List NodeEntry). IsLegal k.state L) is l.0) o v));
      }) in
      let c : Cut w k.rest e es = first_own w k.rest e es l.1 in
      let v : Stands x w a.behind.state = subst (λ (u : State). Stands x w u) (sym (after-one k.state c.before e))
      (pend_stands x w (after_from k.state c.before) (next_at k.state k.rest c.before e c.behind l.0 c.is)) in
      told_then (Left IsLegal w) (whole w) k es rest (Pended x w k.state) (Marked x n last r w a.behind.state) (Marked x (suc n) last r w k.state)
      (λ xs ys p q. record {
        marks = p.mark ∷ q.marks;
        count = omega (arith, q.count);
        is = λ i. p.is i ++ q.is i;
        one_kept = q.none_kept v;
        none_kept = λ u. both_none p.mark (none_of q.marks) (p.dropped u) (q.none_kept v);
        decides = q.decides;
      }) a (looks_told x last r ends n a.behind rest a.left_is)

  within : (limit : Option ℕ) (n m : ℕ) (last : Bool) → m ≡ n → MatchOption limit (last ≡ false) (λ k. (n < k) × (last ≡ (n + 1 == k)))
      → KeepsTimeout limit last (m + 1)
  within limit n m last e1 e2 = grind (arith, nat_tests)

  decided : (x : Wanted) (s : State) (last : Bool) (r : Reply) → IsTimed x → (last ≡ false → is_pending r ≡ false) → IsNext s (entry w (op_of_look x last) r)
      → is_pending r ≡ false
  decided x s last r e1 e2 e3 = grind (arith, nat_tests)

  wanted_told : (x : Wanted) (timeout : Timeout) (es : List NodeEntry) (r : Reply) (k : Place) (rest : List NodeEntry) → IsTimed x
      → LookedAs w (op_of_look x) (looks_of timeout) es r → Left IsLegal w k (es ++ rest)
      → CallerTold k rest (λ ts. MadeBy (Looking (waits x) (op_of_look x) timeout) ts r)
  wanted_told x timeout es r k rest i a l =
      let e : NodeEntry = entry w (op_of_look x a.last) r in
      let E : List NodeEntry = replicate a.pending (entry w (op_of_look x false) reply.Pending) in
      told_as (Left IsLegal w) (whole w) k rest (Marked x a.pending a.last r w k.state) (λ ts. MadeBy (Looking (waits x) (op_of_look x) timeout) ts r)
      (λ ts m. record {
        marks = m.marks;
        last = a.last;
        is = m.is;
        one_kept = m.one_kept;
        none_kept = λ e. m.none_kept (stands_at_once x w k.state e);
        decides = m.decides;
        within = within (looks_of timeout) a.pending (length m.marks) a.last m.count a.bound;
        late = a.late;
      })
      (looks_told x a.last r
      (λ u n. let d = decided x u a.last r i a.decides n in ((wanted_says x u w a.last r n.allowed).stays d (pends_alike u w (op_of_look x a.last)), d))
      a.pending k rest (l.0, l.1 ∙ (ap (λ (L : List NodeEntry). L ++ rest) a.is ∙ append_assoc E (e ∷ []) rest)))

  made_told : (c : Call) → Shaped c → (es : List NodeEntry) (r : Reply) (k : Place) (rest : List NodeEntry) → MadeAs w c es r → Left IsLegal w k (es ++ rest)
      → CallerTold k rest (λ ts. MadeBy c ts r)
  made_told (Once o) i es r k rest a l =
      let e : NodeEntry = entry w o r in
      one_told w IsLegal legal_goes e k rest (λ ts. MadeBy (Once o) ts r) (l.0, l.1 ∙ ap (λ (L : List NodeEntry). L ++ rest) a)
      (λ A B is others. let u = after_from k.state A in let z = once_settles u w o r i (next_at k.state k.rest A e B l.0 is).allowed in
      (ap (λ (b : Bool). record { op = o; reply = r; stays = not b } ∷ []) (z.stays (pends_alike u w o)), z.decides))
  made_told (Looking stands o timeout) i es r k rest a l =
      subst (λ (b : Bool). CallerTold k rest (λ ts. MadeBy (Looking b o timeout) ts r)) (sym i.1)
      (subst (λ (p : Bool → Op). CallerTold k rest (λ ts. MadeBy (Looking (waits i.0) p timeout) ts r)) (sym i.2)
      (wanted_told i.0 timeout es r k rest i.3 (subst (λ (p : Bool → Op). LookedAs w p (looks_of timeout) es r) i.2 a) l))

  -- an entry of the phase that was done
  done_told : (o : Op) (k : Place) (rest : List NodeEntry) → Left IsLegal w k (entry w o reply.Ok ∷ rest)
      → CallerTold k rest (λ ts. ts ≡ stayed o reply.Ok ∷ [])
  done_told o k rest l = one_told w IsLegal legal_goes (entry w o reply.Ok) k rest (λ ts. ts ≡ stayed o reply.Ok ∷ []) l (λ A B is others. refl)

  both_told : (o p : Op) (k : Place) (rest : List NodeEntry) → Left IsLegal w k (entry w o reply.Ok ∷ entry w p reply.Ok ∷ rest)
      → CallerTold k rest (λ ts. ts ≡ stayed o reply.Ok ∷ stayed p reply.Ok ∷ [])
  both_told o p k rest l =
      let x = done_told o k (entry w p reply.Ok ∷ rest) l in
      told_then (Left IsLegal w) (whole w) k (entry w p reply.Ok ∷ rest) rest _ _ (λ ts. ts
      ≡ stayed o reply.Ok ∷ stayed p reply.Ok ∷ []) (λ xs ys a b i. a i ++ b i) x (done_told p x.behind rest x.left_is)

  head_told : (b : Bool) (k : Place) (rest : List NodeEntry) → Left IsLegal w k (head_entries w b ++ rest) → CallerTold k rest (λ ts. ts ≡ head_turns b)
  head_told true k rest l = done_told op.Initialize k rest l
  head_told false k rest l = both_told op.Initialize op.Release k rest l

  tail_told : (k : Place) → Left IsLegal w k (entry w op.Close reply.Ok ∷ entry w op.Final reply.Ok ∷ []) → whole w k ≡ tail_turns
  tail_told k l = let x = both_told op.Close op.Final k [] l in x.is ∙ (λ i. x.shows i ++ none_told w IsLegal legal_goes x.behind x.left_is i)

  entered_told : (es : List NodeEntry) → EntersAs reply.Ok w es → (k : Place) (rest : List NodeEntry) → Left IsLegal w k (es ++ rest)
      → CallerTold k rest EnteredBy
  entered_told es a k rest l =
      let E : List NodeEntry = replicate a.pending (entry w op.Enter reply.Pending) in
      told_as (Left IsLegal w) (whole w) k rest (Marked Entrance a.pending false reply.Ok w k.state) EnteredBy
      (λ ts m. record { marks = m.marks; none_kept = m.none_kept tt; is = m.is })
      (looks_told Entrance false reply.Ok (λ u n. (refl, refl)) a.pending k rest (
        l.0,
        l.1
            ∙ (ap (λ (L : List NodeEntry). L ++ rest) a.is ∙ append_assoc E (entry w op.Enter reply.Ok ∷ []) rest),
      ))

  entries_tell : Tells (Left IsLegal w) (whole w) (in_entries w) in_turns
  entries_tell = record {
    made = λ bound d es r a k rest l. made_told (call_of bound d) (shaped bound d) es r k rest a l;
    head = head_told;
    tail = tail_told;
    entered = entered_told;
    none = none_told w IsLegal legal_goes;
  }

pub main_turns : MainTurns
main_turns w ss rs s H o l m = main_told (Left IsLegal w) (whole w) (in_entries w) in_turns (entries_tell w) ss (entries_of w H) rs m
    (record { state = s; rest = H }) ((o, l), refl)

pub caller_turns : CallerTurns
caller_turns w ss rs s H o l m = caller_told (Left IsLegal w) (whole w) (in_entries w) in_turns (entries_tell w) ss (entries_of w H) rs m
    (record { state = s; rest = H }) ((o, l), refl)
