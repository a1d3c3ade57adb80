-- A legal list without its dropped entries is legal, and leads to the same state.
use Rattle.mtapi_machine.proofs.Names.{◌≡◌, ℕ, Bool, true, false, cond, List, ◌∷◌, Option, Some, ◌⊎◌, refl, sym, arith, nat_tests, TaskHandle, Reply, Pending, Idle, Mtapi, Op, live_object, update, holds, Task, TaskState, with_notes, with_waiter, task_look_refusals, State, Row, unless, says, gives, never, Allows, after_row, mtapi_unless, live, after_moves, row, looks_at, entry, NodeEntry, IsNext, next, LegalFrom, after_from, pends_alike, drops, is_dropped, kept, DropsRightly, []}
use Rattle.mtapi_values.specs.declared.statuses.MtapiStatus.TheVariants as m
use Rattle.mtapi_machine.specs.declared.ops.Op.TheVariants as op
use Rattle.mtapi_values.specs.Seats.{is_seat}
use Rattle.mtapi_machine.proofs.Refusals.{entry_stays, idle_stays}
use Rattle.mtapi_machine.proofs.Changes.{some_same, update-same, at-update}

-- where the row gives this reply, the state stays
abbrev KeepsAt : State → Reply → Row → Type 0
KeepsAt s r (unless c x w) = KeepsAt s r w
KeepsAt s r (gives x ms) = x ≡ r → after_moves ms s ≡ s
KeepsAt s r never = Unit {0}

keeps : (s : State) (r : Reply) (w : Row) → KeepsAt s r w → Allows w r → after_row s w ≡ s
keeps s r (unless true x w) k a = refl
keeps s r (unless false x w) k a = keeps s r w k a
keeps s r (gives x ms) k a = k (sym a)
keeps s r never k a = absurd a

same_seat : (who : ℕ) (w : Option ℕ) → is_seat who w ≡ true → Some who ≡ w
same_seat who w e1 = grind (arith, nat_tests)

looks_keep : (s : State) (who h : ℕ) (last : Bool) (x : TaskState) → update h (with_notes (with_waiter (Some who))) s.tasks ≡ s.tasks
    → KeepsAt s Pending (looks_at who h last x)
looks_keep s who h last x e1 = grind (arith, nat_tests)

look_keeps : (s : State) (who : ℕ) (t : TaskHandle) (last : Bool) (o : Option Task) → live_object s.tasks t.0 ≡ o
    → holds (λ x. is_seat who x.notes.waiter) o ≡ true →
    KeepsAt s Pending (live o (says (Mtapi m.ErrTaskInvalid)) (λ x. mtapi_unless (task_look_refusals who x) (looks_at who t.0 last x.state)))
look_keeps s who t last o e1 e2 = grind (arith, nat_tests, looks_keep, update-same, with_notes, with_waiter, same_seat)

-- a reply Pending that leaves the waiter leaves the state
pub pending_stays : (s : State) (who : ℕ) (o : Op) → IsNext s (entry who o Pending) → pends_alike s who o ≡ true → next s (entry who o Pending) ≡ s
pending_stays s who (op.TaskLook t last) h e =
    keeps s Pending (row s who (op.TaskLook t last) Pending) (look_keeps s who t last (live_object s.tasks t.0) refl e) h.allowed
pending_stays s who o h e = entry_stays s (entry who o Pending) h refl

-- where the row gives this reply, the state changes
abbrev ChangesAt : State → Reply → Row → Type 0
ChangesAt s r (unless c x w) = (x ≡ r → ⊥) × ChangesAt s r w
ChangesAt s r (gives x ms) = x ≡ r → after_moves ms s ≡ s → ⊥
ChangesAt s r never = Unit {0}

changes : (s : State) (r : Reply) (w : Row) → ChangesAt s r w → Allows w r → after_row s w ≡ s → ⊥
changes s r (unless true x w) k a e = k.0 (sym a)
changes s r (unless false x w) k a e = changes s r w k.1 a e
changes s r (gives x ms) k a e = k (sym a) e
changes s r never k a e = a

no_seat : (who : ℕ) (w : Option ℕ) → Some who ≡ w → is_seat who w ≡ false → ⊥
no_seat who w e1 e2 = grind (arith, nat_tests)

looks_change : (s : State) (who h : ℕ) (last : Bool) (x : TaskState) → (update h (with_notes (with_waiter (Some who))) s.tasks ≡ s.tasks → ⊥)
    → ChangesAt s Pending (looks_at who h last x)
looks_change s who h last x e1 = grind (arith, nat_tests)

look_changes : (s : State) (who : ℕ) (t : TaskHandle) (last : Bool) (o : Option Task) → live_object s.tasks t.0 ≡ o
    → holds (λ x. is_seat who x.notes.waiter) o ≡ false →
    ChangesAt s Pending (live o (says (Mtapi m.ErrTaskInvalid)) (λ x. mtapi_unless (task_look_refusals who x) (looks_at who t.0 last x.state)))
look_changes s who t last o e1 e2 = grind (arith, nat_tests, looks_change, no_seat, some_same, at-update, with_notes, with_waiter)

-- and one that changes the waiter changes the state: so `pends_alike` says where the state before equals the state after
pub pending_changes : (s : State) (who : ℕ) (o : Op) → IsNext s (entry who o Pending) → pends_alike s who o ≡ false → next s (entry who o Pending) ≡ s → ⊥
pending_changes s who (op.TaskLook t last) h e k =
    changes s Pending (row s who (op.TaskLook t last) Pending) (λ y. absurd (cc), look_changes s who t last (live_object s.tasks t.0) refl e) h.allowed k
pending_changes s who o h e k = absurd (cc)

dropped_in : (s : State) (who : ℕ) (o : Op) (r : Reply) → IsNext s (entry who o r) → drops (pends_alike s who o) r ≡ true → next s (entry who o r) ≡ s
dropped_in s who o Idle h d = idle_stays s who o h
dropped_in s who o Pending h d = pending_stays s who o h d
dropped_in s who o _ h d = absurd (cc)

-- a dropped entry leaves the state as it was
pub dropped_stays : (s : State) (e : NodeEntry) → IsNext s e → is_dropped s e ≡ true → next s e ≡ s
dropped_stays s e h d = dropped_in s e.who e.op e.reply h d

legal_step : (s : State) (e : NodeEntry) (b : Bool) (es : List NodeEntry) → is_dropped s e ≡ b → IsNext s e → LegalFrom (next s e) (kept (next s e) es)
    → LegalFrom s (cond b (kept (next s e) es) (e ∷ kept (next s e) es))
unfolding LegalFrom
legal_step s e b es e1 e2 e3 = grind (arith, nat_tests, dropped_stays)

after_step : (s : State) (e : NodeEntry) (b : Bool) (es : List NodeEntry) → is_dropped s e ≡ b → IsNext s e
    → after_from (next s e) (kept (next s e) es) ≡ after_from (next s e) es
    → after_from s (cond b (kept (next s e) es) (e ∷ kept (next s e) es)) ≡ after_from (next s e) es
unfolding after_from
after_step s e b es e1 e2 e3 = grind (arith, nat_tests, after_from, dropped_stays)

-- the list without its dropped entries
pub Kept-legal : (s : State) (L : List NodeEntry) → LegalFrom s L → LegalFrom s (kept s L)
unfolding LegalFrom kept
Kept-legal s [] h = tt
Kept-legal s (e ∷ es) h = legal_step s e (is_dropped s e) es refl h.0 (Kept-legal (next s e) es h.1)

pub after-kept : (s : State) (L : List NodeEntry) → LegalFrom s L → after_from s (kept s L) ≡ after_from s L
unfolding LegalFrom kept after_from
after-kept s [] h = refl
after-kept s (e ∷ es) h = after_step s e (is_dropped s e) es refl h.0 (after-kept (next s e) es h.1)

is_drop : (s : State) (who : ℕ) (o : Op) (b : Bool) → IsNext s (entry who o Pending) → next s (entry who o Pending) ≡ s → pends_alike s who o ≡ b
    → pends_alike s who o ≡ true
is_drop s who o true h k d = d
is_drop s who o false h k d = absurd (pending_changes s who o h d k)

pending_drop : (s : State) (who : ℕ) (o : Op) (r : Reply) → r ≡ Pending → IsNext s (entry who o r) → next s (entry who o r) ≡ s
    → drops (pends_alike s who o) r ≡ true
pending_drop s who o r e1 e2 e3 = grind (arith, nat_tests, is_drop, pends_alike)

drops_only : (alike : Bool) (r : Reply) → drops alike r ≡ true → (r ≡ Idle) ⊎ (r ≡ Pending)
drops_only alike r e1 = grind (arith, nat_tests)

-- an entry is dropped exactly where it should be
pub drops_rightly : (s : State) (e : NodeEntry) → IsNext s e → DropsRightly s e
drops_rightly s e e1 = grind (arith, nat_tests, drops_only, pends_alike, dropped_stays, pending_drop)
