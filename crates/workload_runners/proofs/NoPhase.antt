-- What callers and workers do moves the phase nowhere, and what follows from that.
use Rattle.workload_runners.proofs.Names.{[], ◌++◌, ◌∷◌, ◌≡◌, ◌≢◌, Bool, Call, Carried, Deed, IsNext, Legal-front, LegalFrom, List, Looking, MadeAs, NoClose, NoPhase, NodeEntry, Once, Op, Others, Reply, State, Statement, after_from, append_assoc, arith, call_of, closes, cond, entries-append, entries_of, entry, false, handle_of, is_work, moves_phase, nat_tests, next, phase_stays, replicate, self_is, subst, suc, sym, true, zero, ℕ}
use Rattle.mtapi_machine.specs.declared.ops.Op.TheVariants as op
use Rattle.mtapi_machine.specs.declared.replies.Reply.TheVariants as reply
use Rattle.workload_runners.proofs.Rounds.{AllWork}
use Rattle.workload_runners.proofs.TurnMarks.{Cut, first_own, first_next}

pub quiet_append : (xs ys : List NodeEntry) → NoPhase xs → NoPhase ys → NoPhase (xs ++ ys)
quiet_append [] ys a b = b
quiet_append (x ∷ xs) ys a b = (a.0, quiet_append xs ys a.1 b)

pub quiet_replicate : (n : ℕ) (e : NodeEntry) → moves_phase e.op ≡ false → NoPhase (replicate n e)
quiet_replicate zero e q = tt
quiet_replicate (suc n) e q = (q, quiet_replicate n e q)

-- the table: no call of a statement moves the phase
abbrev CallQuiet : Call → Type 0
CallQuiet (Once o) = moves_phase o ≡ false
CallQuiet (Looking waits o timeout) = (b : Bool) → moves_phase (o b) ≡ false

call_quiet : (bound : List ℕ) (d : Deed) → CallQuiet (call_of bound d)
call_quiet bound d = grind (arith, nat_tests)

made_quiet : (w : ℕ) (c : Call) → CallQuiet c → (es : List NodeEntry) (r : Reply) → MadeAs w c es r → NoPhase es
made_quiet w (Once o) q es r e = subst NoPhase (sym e) (q, tt)
made_quiet w (Looking waits o timeout) q es r a =
    subst NoPhase (sym a.is) (quiet_append (replicate a.pending (entry w (o false) reply.Pending)) (entry w (o a.last) r
    ∷ []) (quiet_replicate a.pending (entry w (o false) reply.Pending) (q false)) (q a.last, tt))

pub carried_quiet : (w : ℕ) (ss : List Statement) (bound : List ℕ) (es : List NodeEntry) (rs : List Reply) → Carried (MadeAs w) bound ss es rs → NoPhase es
unfolding Carried
carried_quiet w [] bound es [] a = subst NoPhase (sym a) tt
carried_quiet w [] bound es (r ∷ rs) a = absurd a
carried_quiet w (s ∷ ss) bound es [] a = absurd a
carried_quiet w (s ∷ ss) bound es (r ∷ rs) a =
    subst NoPhase (sym a.2) (quiet_append a.0 a.1 (made_quiet w (call_of bound s.deed) (call_quiet bound s.deed) a.0 r a.3)
    (carried_quiet w ss (bound ++ handle_of r ∷ []) a.1 rs a.4))

-- nor does what is work
work_op : (o : Op) (r : Reply) → is_work o r ≡ true → moves_phase o ≡ false
work_op o r e1 = grind (arith, nat_tests)

pub work_quiet : (es : List NodeEntry) → AllWork es → NoPhase es
work_quiet [] a = tt
work_quiet (e ∷ es) a = (work_op e.op e.reply a.0, work_quiet es a.1)

-- Nothing closes where no seat does

true_false : {A : Type 0} → true ≡ false → A
true_false e = absurd (cc)

quiet_op : (o : Op) → moves_phase o ≡ false → closes o ≡ false
quiet_op o e1 = grind (arith, nat_tests)

pub open_quiet : (es : List NodeEntry) → NoPhase es → NoClose es
open_quiet [] q = tt
open_quiet (e ∷ es) q = (quiet_op e.op q.0, open_quiet es q.1)

open_tail : (v : ℕ) (e : NodeEntry) (es : List NodeEntry) → NoClose (entries_of v (e ∷ es)) → NoClose (entries_of v es)
open_tail v e es e1 = grind (arith, nat_tests)

pub open_all : (L : List NodeEntry) → ((v : ℕ) → NoClose (entries_of v L)) → NoClose L
open_all [] f = tt
open_all (e ∷ es) f =
    let h = subst (λ (b : Bool). NoClose (cond b (e ∷ entries_of e.who es) (entries_of e.who es))) (self_is e.who) (f e.who) in
    (h.0, open_all es (λ v. open_tail v e es (f v)))

pub open_front : (L M : List NodeEntry) → NoClose (L ++ M) → NoClose L
open_front [] M h = tt
open_front (e ∷ L) M h = (h.0, open_front L M h.1)

-- No other seat than one moves the phase

front_quiet : (L M : List NodeEntry) → NoPhase (L ++ M) → NoPhase L
front_quiet [] M h = tt
front_quiet (e ∷ L) M h = (h.0, front_quiet L M h.1)

-- no other seat than w moves the phase
abbrev pub OthersQuiet : ℕ → List NodeEntry → Type 0
OthersQuiet w H = (v : ℕ) → v ≢ w → NoPhase (entries_of v H)

pub quiet_front : (w : ℕ) (L M : List NodeEntry) → OthersQuiet w (L ++ M) → OthersQuiet w L
quiet_front w L M q v n = front_quiet (entries_of v L) (entries_of v M) (subst NoPhase (entries-append v L M) (q v n))

back_quiet : (L M : List NodeEntry) → NoPhase (L ++ M) → NoPhase M
back_quiet [] M h = h
back_quiet (e ∷ L) M h = back_quiet L M h.1

pub quiet_back : (w : ℕ) (L M : List NodeEntry) → OthersQuiet w (L ++ M) → OthersQuiet w M
quiet_back w L M q v n = back_quiet (entries_of v L) (entries_of v M) (subst NoPhase (entries-append v L M) (q v n))

other_who : (w : ℕ) (e : NodeEntry) (es : List NodeEntry) → Others w (e ∷ es) → (e.who ≢ w) × Others w es
other_who w e es e1 = grind (arith, nat_tests)

-- what others did moves the phase nowhere
pub quiet_all : (w : ℕ) (L : List NodeEntry) → OthersQuiet w L → Others w L → NoPhase L
quiet_all w [] q o = tt
quiet_all w (e ∷ es) q o =
    let p = other_who w e es o in
    let h = subst (λ (b : Bool). NoPhase (cond b (e ∷ entries_of e.who es) (entries_of e.who es))) (self_is e.who) (q e.who p.0) in
    (h.0, quiet_all w es (quiet_back w (e ∷ []) es q) p.1)

-- the next entry of this seat, behind entries of others that move the phase nowhere
pub record Next (w : ℕ) (e : NodeEntry) (s : State) (H rest : List NodeEntry) : Type 0 where
  pub before : List NodeEntry
  pub behind : List NodeEntry
  pub phase : (after_from s before).phase ≡ s.phase
  pub next_is : IsNext (after_from s before) e
  pub legal : LegalFrom (next (after_from s before) e) behind
  pub quiet : OthersQuiet w behind
  pub rest_is : entries_of w behind ≡ rest

pub own_next : (w : ℕ) (e : NodeEntry) (s : State) (H rest : List NodeEntry) → LegalFrom s H → OthersQuiet w H → entries_of w H ≡ e ∷ rest → Next w e s H rest
own_next w e s H rest l q k =
    let c : Cut w H e rest = first_own w H e rest k in
    let whole = subst (λ (L : List NodeEntry). LegalFrom s L) c.is l in
    let quiet = subst (OthersQuiet w) c.is q in
    let n = first_next s c.before e c.behind whole in
    record {
      before = c.before;
      behind = c.behind;
      phase = phase_stays s c.before (Legal-front s c.before (e ∷ c.behind) whole)
          (quiet_all w c.before (quiet_front w c.before (e ∷ c.behind) quiet) c.others);
      next_is = n.0;
      legal = n.1;
      quiet = quiet_back w (c.before ++ e ∷ []) c.behind (subst (OthersQuiet w) (sym (append_assoc c.before (e ∷ []) c.behind)) quiet);
      rest_is = c.rest;
    }
