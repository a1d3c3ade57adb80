-- A seat's entries in a legal history, as turns: which of them a journal keeps.
use Rattle.workload_runners.proofs.Names.{[], ◌++◌, ◌==◌, ◌||◌, ◌∙◌, ◌∷◌, ◌≡◌, Allows, Bool, IsNext, Legal-rest, LegalFrom, List, Mtapi, NodeEntry, None, Option, Others, Pending, Reply, Row, Some, State, Task, TaskHandle, TaskState, Turn, WaitsFor, after_from, after_row, ap, arith, at-update, object_changed, cond, entries_of, entry, false, is_other, is_some, is_up, live, live_object, looks_at, nat_tests, next, not, refl, says, self_is, skip, subst, sym, tasks, true, turn_of, turns_append, turns_of, unless, with_notes, with_waiter, ℕ}
use Rattle.mtapi_values.specs.declared.statuses.MtapiStatus.TheVariants as m
use Rattle.mtapi_machine.specs.declared.ops.Op.TheVariants as op
use Rattle.mtapi_machine.specs.declared.replies.Reply.TheVariants as reply

-- the seat's first entry, with what others did before it
pub record Cut (w : ℕ) (H : List NodeEntry) (e : NodeEntry) (es : List NodeEntry) : Type 0 where
  pub before : List NodeEntry
  pub behind : List NodeEntry
  pub is : H ≡ before ++ e ∷ behind
  pub others : Others w before
  pub rest : entries_of w behind ≡ es
  pub by : e.who ≡ w

seat_is : (a b : ℕ) → (a == b) ≡ true → a ≡ b
seat_is a b e = grind (arith, nat_tests)

pub first_own : (w : ℕ) (H : List NodeEntry) (e : NodeEntry) (es : List NodeEntry) → entries_of w H ≡ e ∷ es → Cut w H e es
first_own w [] e es k = absurd (cc)
first_own w (h ∷ H) e es k = by_seat (h.who == w) refl (λ k. first_own w H e es k) k
  where
    head : h ∷ entries_of w H ≡ e ∷ es → h ≡ e
    head k = cc

    tail : h ∷ entries_of w H ≡ e ∷ es → entries_of w H ≡ es
    tail k = cc

    by_seat : (b : Bool) → (h.who == w) ≡ b → (entries_of w H ≡ e ∷ es → Cut w H e es) → cond b (h ∷ entries_of w H) (entries_of w H) ≡ e ∷ es
        → Cut w (h ∷ H) e es
    by_seat true d rest k = record {
      before = [];
      behind = H;
      is = ap (λ (x : NodeEntry). x ∷ H) (head k);
      others = refl;
      rest = tail k;
      by = ap (λ (x : NodeEntry). x.who) (sym (head k)) ∙ seat_is h.who w d;
    }
    by_seat false d rest k =
        let c = rest k in
        record {
          before = h ∷ c.before;
          behind = c.behind;
          is = ap (λ (l : List NodeEntry). h ∷ l) c.is;
          others = (λ i. cond (d i) (h ∷ entries_of w c.before) (entries_of w c.before)) ∙ c.others;
          rest = c.rest;
          by = c.by;
        }

pub turns_none : (w : ℕ) (s : State) (L : List NodeEntry) → Others w L → turns_of w s L ≡ []
unfolding turns_of
turns_none w s [] o = refl
turns_none w s (e ∷ es) o = by_seat (e.who == w) (λ k. turns_none w (next s e) es k) o
  where
    by_seat : (b : Bool) → (entries_of w es ≡ [] → turns_of w (next s e) es ≡ []) → cond b (e ∷ entries_of w es) (entries_of w es) ≡ []
        → cond b (turn_of s e ∷ turns_of w (next s e) es) (turns_of w (next s e) es) ≡ []
    by_seat true rest k = absurd (cc)
    by_seat false rest k = rest k

-- the turns up to and with the seat's first entry
pub turns_one : (w : ℕ) (s : State) (A : List NodeEntry) (e : NodeEntry) → Others w A → e.who ≡ w → turns_of w s (A ++ e ∷ []) ≡ turn_of (after_from s A) e ∷ []
unfolding turns_of
turns_one w s A e o b =
    turns_append w s A (e ∷ [])
    ∙ (ap (λ (l : List Turn). l ++ turns_of w (after_from s A) (e ∷ [])) (turns_none w s A o)
    ∙ ((λ i. cond (b i == w) (turn_of (after_from s A) e ∷ []) []) ∙ ap (λ c. cond c (turn_of (after_from s A) e ∷ []) []) (self_is w)))

-- what a look that isn't the last, and was answered Pending, leaves

not_mtapi : (c : _) → Pending ≡ Mtapi c → ⊥
not_mtapi c e = cc

set_waiter : (s : State) (w h : ℕ) (x : Task) (y : TaskState) → Allows (looks_at w h false y) Pending
    → after_row s (looks_at w h false y) ≡ object_changed tasks h (with_notes (with_waiter (Some w))) s
set_waiter s w h x y e1 = grind (arith, nat_tests)

first_false : (a b : Bool) → (a || b) ≡ false → a ≡ false
first_false a b e1 = grind (arith, nat_tests)

second_false : (a b : Bool) → (a || b) ≡ false → b ≡ false
second_false a b e1 = grind (arith, nat_tests)

no_some : (o : Option ℕ) → is_some o ≡ false → o ≡ None
no_some o e1 = grind (arith, nat_tests)

passed : (c : Bool) (x r : Reply) (v : Row) → (r ≡ x → ⊥) → Allows (unless c x v) r → c ≡ false
passed c x r v e1 e2 = grind (arith, nat_tests)

look_at_live : (s : State) (w h : ℕ) (o : Option Task) → live_object s.tasks h ≡ o
    → Allows (live o (says (Mtapi m.ErrTaskInvalid))
    (λ x. unless (x.notes.detached || is_some x.notes.group) (Mtapi m.ErrParameter)
    (unless (is_other w x.notes.waiter) (Mtapi m.ErrWaitPending) (looks_at w h false x.state)))) Pending
    → WaitsFor (after_row s (live o (says (Mtapi m.ErrTaskInvalid))
    (λ x. unless (x.notes.detached || is_some x.notes.group) (Mtapi m.ErrParameter)
    (unless (is_other w x.notes.waiter) (Mtapi m.ErrWaitPending) (looks_at w h false x.state))))) w h
look_at_live s w h None e a = absurd (not_mtapi m.ErrTaskInvalid a)
look_at_live s w h (Some x) e a =
    let v : Row = unless (is_other w x.notes.waiter) (Mtapi m.ErrWaitPending) (looks_at w h false x.state) in
    let d = passed (x.notes.detached || is_some x.notes.group) (Mtapi m.ErrParameter) Pending v (not_mtapi m.ErrParameter) a in
    let g1 = skip (x.notes.detached || is_some x.notes.group) (Mtapi m.ErrParameter) Pending v s (not_mtapi m.ErrParameter) a in
    let g2 = skip (is_other w x.notes.waiter) (Mtapi m.ErrWaitPending) Pending (looks_at w h false x.state) s (not_mtapi m.ErrWaitPending) g1.allowed in
    subst (λ (t : State). WaitsFor t w h) (sym (g1.leads ∙ (g2.leads ∙ set_waiter s w h x x.state g2.allowed))) (
      with_notes (with_waiter (Some w)) x,
      at-update h (with_notes (with_waiter (Some w))) x s.tasks e,
      record {
        mark = self_is w;
        kept = first_false x.notes.detached _ d;
        alone = no_some x.notes.group (second_false x.notes.detached _ d);
      },
    )

pub pend_waits : (s : State) (w : ℕ) (t : TaskHandle) → IsNext s (entry w (op.TaskLook t false) Pending)
    → WaitsFor (next s (entry w (op.TaskLook t false) Pending)) w t.0
pend_waits s w t n =
    let v : Row = live (live_object s.tasks t.0) (says (Mtapi m.ErrTaskInvalid))
    (λ x. unless (x.notes.detached || is_some x.notes.group) (Mtapi m.ErrParameter)
    (unless (is_other w x.notes.waiter) (Mtapi m.ErrWaitPending) (looks_at w t.0 false x.state))) in
    let g = skip (not (is_up s.phase)) (Mtapi m.ErrNodeNotinit) Pending v s (not_mtapi m.ErrNodeNotinit) n.allowed in
    subst (λ (u : State). WaitsFor u w t.0) (sym g.leads) (look_at_live s w t.0 (live_object s.tasks t.0) refl g.allowed)

cut_legal : (s : State) (e : NodeEntry) (B : List NodeEntry) → LegalFrom s (e ∷ B) → IsNext s e × LegalFrom (next s e) B
unfolding LegalFrom
cut_legal s e B h = h

pub first_next : (s : State) (A : List NodeEntry) (e : NodeEntry) (B : List NodeEntry) → LegalFrom s (A ++ e ∷ B)
    → IsNext (after_from s A) e × LegalFrom (next (after_from s A) e) B
first_next s A e B l = cut_legal (after_from s A) e B (Legal-rest s A (e ∷ B) l)
