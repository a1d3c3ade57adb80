-- What the looks of a call say beyond the entries that they add.
use Rattle.workload_runners.proofs.Names.{[], ◌++◌, ◌+◌, ◌∷◌, ◌∙◌, ◌≡◌, after, ap, Allows, Bool, Every, InTime, JournaledTerms, Legal, Legal-prefix, NodeLooked, Op, Option, Pending, Reply, Seat, State, Terms, NodeTurned, Wanted, arith, entry, false, is_pending, is_timeout, journal_legal, nat_tests, op_of_look, opening, refl, row, subst, time_after, true, ℕ}
use Rattle.workload_runners.proofs.WantedRows.{wanted_says}
use Rattle.workload_runners.proofs.Depths.{Shallow, shallow_after}
use Rattle.turn_looks.specs.Looks as looks
use Rattle.workload_runners.proofs.OwnEntries.{turned_next, state_at}
use Rattle.workload_runners.proofs.Adds.{same_then}

-- no op looks out of time but at its last look
not_late : (w : Wanted) (last : Bool) (s : State) (who : ℕ) (r : Reply) → Every InTime s.tasks → Allows (row s who (op_of_look w last) r) r
    → is_timeout r ≡ true
    → last ≡ true
not_late w true s who r v a l = refl
not_late w false s who r v a l = absurd (both ((wanted_says w s who false r a).early v refl) l)
  where
    both : {b : Bool} → b ≡ false → b ≡ true → ⊥
    both e f = cc

-- no task of the state in which a turn was made has failed with TIMEOUT
in_time_at : (b c : Seat) (o : Op) (r : Reply) (t : NodeTurned b o r c) → Every InTime (state_at b c o r t).tasks
in_time_at b c o r t =
    time_after (opening c.terms.node) (b.seen ++ t.between)
    (Legal-prefix c.terms.node (b.seen ++ t.between) (entry b.number o r ∷ []) (subst (Legal c.terms.node) t.seen t.legal)).from tt

-- nor is a mutex of that state too deep
shallow_at : (b c : Seat) (o : Op) (r : Reply) (t : NodeTurned b o r c) → Every Shallow (state_at b c o r t).mutexes
shallow_at b c o r t =
    shallow_after (opening c.terms.node) (b.seen ++ t.between)
    (Legal-prefix c.terms.node (b.seen ++ t.between) (entry b.number o r ∷ []) (subst (Legal c.terms.node) t.seen t.legal)).from tt

not_pending : (r : Reply) → (r ≡ Pending → ⊥) → is_pending r ≡ false
not_pending r e1 = grind (arith, nat_tests)

-- what the loop of looks says, and what the machine's rows add to it
pub looked : (w : Wanted) (limit : Option ℕ) (a c : Seat) (r : Reply) → looks.Looked journal_legal (op_of_look w) Pending limit a c r → NodeLooked w limit a c r
looked w limit a c r l =
    let t : NodeTurned l.before (op_of_look w l.last) r c = l.turned in
    let at : Allows (row (state_at l.before c (op_of_look w l.last) r t) a.number (op_of_look w l.last) r) r =
    subst (λ (k : ℕ). Allows (row (state_at l.before c (op_of_look w l.last) r t) k (op_of_look w l.last) r) r) l.pended.same.number
    (turned_next l.before c (op_of_look w l.last) r t).allowed in
    record {
      same = same_then a l.before c l.pended.same t.same;
      pending = l.pending;
      last = l.last;
      mine = l.mine;
      bound = l.bound;
      decides = λ e. not_pending r (l.decides e);
      found = (wanted_says w (state_at l.before c (op_of_look w l.last) r t) a.number l.last r at).found (in_time_at l.before c (op_of_look w l.last) r t)
          (shallow_at l.before c (op_of_look w l.last) r t);
      late = not_late w l.last (state_at l.before c (op_of_look w l.last) r t) a.number r (in_time_at l.before c (op_of_look w l.last) r t) at;
      front = l.before.seen ++ t.between;
      seen = subst (λ (k : ℕ). c.seen ≡ (l.before.seen ++ t.between) ++ entry k (op_of_look w l.last) r ∷ []) l.pended.same.number t.seen;
      allowed =
          subst (λ (n : Terms). Allows (row (after n (l.before.seen ++ t.between)) a.number (op_of_look w l.last) r) r)
          (ap (λ (x : JournaledTerms). x.node) (t.same.terms ∙ l.pended.same.terms)) at;
    }
