-- What the seat and the op of an entry had to know, for each move that they make. A law on what seats leave to one another is shown for each move once.
use Rattle.history_law.proofs.Names.{nat_tests, arith, ◌≡◌, ℕ, ◌+◌, Bool, true, false, cond, List, [], ◌∷◌, Option, Some, None, ◌⊎◌, inl, inr, refl, ◌∙◌, ap, ◌==◌, ◌&&◌, is_none, ℤ, eq-eqb, Kind, MtapiStatus, Completed, Failed, is_other, is_pure, answer_of, Answered, IsAnswered, Reply, Op, live_object, any_listed, holds, Task, Notes, TallyNotes, TaskState, end_of, runner, runs_as, runs_on, kind_number, is_unstarted, is_unended, with_notes, with_waiter, asked_once, watch_end, tally_args, cell_in, added, with_tally, tally_failed, tally_has, tally_read, tally_written, in_no_group, Mutex, Segment, cell_of, State, Move, Mutexes, Segments, phase_is, released, stops, withdraws, runs_task, ends_task, ends_waiting, notes, leaves, makes, alters, apply, after_moves, moves_of, is_ready, task_end, NodeEntry, IsNext, IsHonest, row_of, next, IsMade, AreMade, fst_true, row_made, at-update, moves_phase, is_release_op, is_late_end, is_tally_end, cond_both, Answers, gives_up_with, LegalFrom, after_from, some_entry, answered}
use Rattle.mtapi_values.specs.declared.kinds.Kind.TheVariants as kind
use Rattle.mtapi_values.specs.declared.statuses.MtapiStatus.TheVariants as m
use Rattle.mtapi_machine.specs.declared.ops.Op.TheVariants as op
use Rattle.history_law.proofs.Answered.{none_first}
use Rattle.mtapi_machine.specs.Answers as is

abbrev pub is_tally_lock : Op → Bool
is_tally_lock (op.TallyLock t) = true
is_tally_lock _ = false

abbrev pub is_tally_read : Op → Bool
is_tally_read (op.TallyRead t) = true
is_tally_read _ = false

abbrev pub is_tally_write : Op → Bool
is_tally_write (op.TallyWrite t value) = true
is_tally_write _ = false

-- the two ops that write to cells
abbrev pub writes_cells : Op → Bool
writes_cells (op.TallyWrite t value) = true
writes_cells (op.ShmemWrite x cell value) = true
writes_cells _ = false

-- a task that the seat may end: it hasn't begun, or runs on this seat
abbrev pub MayEnd : ℕ → Task → Type 0
MayEnd who t = (is_unstarted t ≡ true) ⊎ (runs_on who t ≡ true)

-- what a watch and a tally have noted is the same
pub record SameWork (n m : Notes) : Type 0 where
  pub looks : m.looks ≡ n.looks
  pub seen : m.seen ≡ n.seen
  pub tally : m.tally ≡ n.tally

-- what this seat may note of a task: another waiter only where no other seat waits, and what a watch saw and a tally did only where it
-- runs on this seat; it may leave its group, and enters none
pub record Noted (who : ℕ) (f : Notes → Notes) (t : Task) : Type 0 where
  pub waiter : (is_other who t.notes.waiter ≡ false) ⊎ ((f t.notes).waiter ≡ t.notes.waiter)
  pub work : (runs_on who t ≡ true) ⊎ SameWork t.notes (f t.notes)
  pub detached : (f t.notes).detached ≡ t.notes.detached
  pub group : ((f t.notes).group ≡ t.notes.group) ⊎ ((f t.notes).group ≡ None)
  pub verdict : is_late_end t.notes.tally.verdict ≡ false → is_late_end (f t.notes).tally.verdict ≡ false

-- what an op may do to what a tally has done: each step from the stage before it
pub data Does (o : Op) (x y : TallyNotes) : Type 0 where
  stays : y ≡ x → Does o x y
  fails : (c : MtapiStatus) → (x.stage == 0) ≡ true → y ≡ tally_failed c x → Does o x y
  has : (a b : ℕ) → is_tally_lock o ≡ true → (x.stage == 0) ≡ true → y ≡ tally_has a b x → Does o x y
  reads : (z : ℤ) → is_tally_read o ≡ true → (x.stage == 1) ≡ true → y ≡ tally_read z x → Does o x y
  writes : is_tally_write o ≡ true → (x.stage == 2) ≡ true → y ≡ tally_written x → Does o x y

-- an end of a running tally is brought by its `tally_end` alone
abbrev pub EndsTally : ℕ → Op → Task → Type 0
EndsTally h o t = (is_tally_end h o ≡ true) ⊎ ((w : ℕ) → runs_as w kind.Tally t ≡ false)

abbrev pub is_any_look : Op → Bool
is_any_look (op.AnyLook g last) = true
is_any_look _ = false

-- what is known where the seat `who` makes a move by the op
abbrev pub May : State → ℕ → Op → Move → Type 0
May s who o (phase_is p) = moves_phase o ≡ true
May s who o released = is_release_op o ≡ true
May s who o (stops w) = w ≡ who
May s who o (withdraws h f c) = is_late_end (Failed c) ≡ false
May s who o (runs_task h w k) = (t : Task) × (live_object s.tasks h ≡ Some t) × (is_unstarted t ≡ true) × (w ≡ who) × (any_listed (runs_on who) s.tasks ≡ false)
May s who o (ends_task h e) = (t : Task) × (live_object s.tasks h ≡ Some t) × MayEnd who t × ((is_late_end e ≡ false) ⊎ (e ≡ t.notes.tally.verdict))
    × EndsTally h o t
May s who o (ends_waiting p e) = is_late_end e ≡ false
May s who o (notes h f) = (t : Task) × (live_object s.tasks h ≡ Some t) × Noted who f t × Does o t.notes.tally (f t.notes).tally
May s who o (makes Mutexes h x) = any_listed (λ y. y.id == x.id) s.mutexes ≡ false
May s who o (alters Mutexes h f) = (x : Mutex) → (f x).id ≡ x.id
May s who o (alters Segments h f) = (writes_cells o ≡ true) ⊎ ((x : Segment) → (f x).cells ≡ x.cells)
May s who o (leaves h) = (t : Task) × (live_object s.tasks h ≡ Some t) × (is_unended t ≡ false)
    × ((is_any_look o ≡ true) ⊎ (is_other who t.notes.waiter ≡ false))
May s who o _ = Unit {0}

abbrev pub AreBy : State → ℕ → Op → List Move → Type 0
AreBy s who o [] = Unit {0}
AreBy s who o (m ∷ ms) = May s who o m × AreBy (apply m s) who o ms

-- Picking

pub ready_unstarted : (s : State) (t : Task) → is_ready s t ≡ true → is_unstarted t ≡ true
unfolding is_ready
ready_unstarted s t h = fst_true (is_unstarted t) _ h

as_on : (w : ℕ) (k : Kind) (x : TaskState) → holds (λ r. (r.0 == w) && (kind_number r.1 == kind_number k)) (runner x) ≡ true
    → holds (λ r. r.0 == w) (runner x) ≡ true
as_on w k x e1 = grind (arith, nat_tests)

-- Looking and cancelling

waits : (s : State) (who : ℕ) (o : Op) (h : ℕ) (w : Option ℕ) (t : Task) → live_object s.tasks h ≡ Some t → is_other who t.notes.waiter ≡ false
    → May s who o (notes h (with_waiter w))
waits s who o h w t e n = grind (arith, nat_tests)

-- no action and no watch ends a task with TIMEOUT

answer_late : (k : Kind) (args : List _) → is_late_end (task_end (answer_of k args)) ≡ false
unfolding answer_of
answer_late k args = grind (arith, nat_tests)

done_late : (f : Answered) → IsAnswered f → is_late_end (task_end f.end) ≡ false
done_late f a = ap (λ e. is_late_end (task_end e)) a.answer ∙ answer_late f.kind f.args

watch_late : (t : Task) → is_late_end (watch_end t) ≡ false
watch_late t = grind (arith, nat_tests)

-- Watches and tallies

asked_notes : (who : ℕ) (t : Task) → runs_on who t ≡ true → Noted who asked_once t
asked_notes who t k = grind (arith, nat_tests, cond_both, is_late_end)

asked_tally : (o : Op) (t : Task) → Does o t.notes.tally (asked_once t.notes).tally
asked_tally o t = stays (cond_both t.notes.requested (record t.notes { seen = true }) (record t.notes { looks = t.notes.looks + 1 }) (λ q. q.tally
    ≡ t.notes.tally) (λ e. refl) (λ e. refl))

-- a task that runs with another kind is no tally
another_kind : (who w : ℕ) (k : Kind) (t : Task) → (kind_number k == 10) ≡ false → runs_as who k t ≡ true → runs_as w kind.Tally t ≡ false
another_kind who w k t e1 e2 = grind (arith, nat_tests)

pure_number : (k : Kind) → is_pure k ≡ true → (kind_number k == 10) ≡ false
pure_number k e1 = grind (arith, nat_tests)

-- what a tally does notes nothing else
does : (who : ℕ) (f : TallyNotes → TallyNotes) (t : Task) → runs_on who t ≡ true
    → (is_late_end t.notes.tally.verdict ≡ false → is_late_end (f t.notes.tally).verdict ≡ false) → Noted who (with_tally f) t
does who f t k v = record { waiter = inr refl; work = inl k; detached = refl; group = inl refl; verdict = v }

status_late : (c : MtapiStatus) → gives_up_with c ≡ true → is_late_end (Failed c) ≡ false
status_late c e1 = grind (arith, nat_tests)

-- how a tally ends that gives both back
back_late : (b : Bool) (z : ℤ) → is_late_end (cond b (Failed m.ErrActionFailed) (Completed (z ∷ []))) ≡ false
back_late b z = grind (arith, nat_tests)

by_answer : (s : State) (who : ℕ) (o : Op) (r : Reply) (ms : List Move) → IsHonest o → Answers s who o r ms → AreBy s who o ms
by_answer s who o _ _ i (is.looks_over t last x y n e u d) = ((x, e, ap (λ (z : TaskState). is_none (end_of z)) d, inr u.1.0), tt)
by_answer s who o _ _ i (is.looks_early t x e u d) = (waits s who o t.0 (Some who) x e u.1.0, tt)
by_answer s who o _ _ i (is.looks_last t x e u d) = (waits s who o t.0 None x e u.1.0, tt)
by_answer s who _ _ _ i (is.cancels_waiting t x e d) = grind (arith, nat_tests, kind_number)
by_answer s who _ _ _ i (is.cancels_running t x w k e d) = grind (arith, nat_tests)
-- a member that has left its group has still ended
by_answer s who _ _ _ i (is.any_given g last v y ys t z n a b e d) = grind (arith, nat_tests, at-update y.task (with_notes in_no_group) t s.tasks e)
by_answer s who _ _ _ i (is.picks t a x y b n e d j k l) = ((x, e, ready_unstarted s x j, refl, n), tt)
by_answer s who _ _ _ i (is.finishes t f x k u) =
    ((x, k.found, inr (as_on who f.kind x.state k.runs), inl (done_late f i), inr (λ w. another_kind who w f.kind x (pure_number f.kind i.pure) k.runs)), tt)
by_answer s who o _ _ i (is.asks t x k u) = ((x, k.found, asked_notes who x (as_on who kind.Watch x.state k.runs), asked_tally o x), tt)
by_answer s who _ _ _ i (is.ends_watch t x k u) = grind (arith, nat_tests, as_on who, watch_late x, another_kind who)
by_answer s who _ _ _ i (is.lock_fails t x c k z v) =
    ((x, k.found, does who (tally_failed c) x (as_on who kind.Tally x.state k.runs) (λ w. status_late c v), fails c z refl), tt)
by_answer s who _ _ _ i (is.lock_got t x y a b k z h) =
    ((λ x. refl), (inr (λ x. refl), ((x, k.found, does who (tally_has a b) x (as_on who kind.Tally x.state k.runs) (λ w. w), has a b refl z refl), tt)))
by_answer s who _ _ _ i (is.tally_reads t x y k z e) =
    ((x, k.found, does who (tally_read (cell_of (cell_in (tally_args x.args)) y)) x (as_on who kind.Tally x.state k.runs) (λ w. w), reads _ refl z refl), tt)
by_answer s who _ _ _ i (is.tally_writes t value x y k z e) = grind (arith, nat_tests, does who tally_written x, as_on who)
by_answer s who _ _ _ i (is.tally_ends_failed t x k z) = ((x, k.found, inr (as_on who kind.Tally x.state k.runs), inr refl, inl (eq-eqb t.0 t.0 refl)), tt)
by_answer s who _ _ _ i (is.tally_ends t x y z k e d f g) = grind (arith, nat_tests, as_on who, back_late (x.notes.tally.stage == 2) (added x))
by_answer s who _ _ _ i (is.creates_mutex id recursive h n f) = (n, tt)
by_answer s who _ _ _ i (is.locks_mutex h last x k b) = ((λ y. refl), tt)
by_answer s who _ _ _ i (is.unlocks_mutex h key x k) = ((λ y. refl), tt)
by_answer s who _ _ _ i (is.attaches h x k) = (inr (λ y. refl), tt)
by_answer s who _ _ _ i (is.detaches h x k) = (inr (λ y. refl), tt)
by_answer s who _ _ _ i (is.writes_cell h cell value x k) = (inl refl, tt)
by_answer s who _ _ _ i _ = grind (arith, nat_tests)

-- the answer that a next entry has
pub answer : (s : State) (e : NodeEntry) → IsNext s e → Answers s e.who e.op e.reply (moves_of (row_of s e))
answer s e n = answered s e.who e.op e.reply n.allowed

row_by : (s : State) (e : NodeEntry) → IsNext s e → AreBy s e.who e.op (moves_of (row_of s e))
row_by s e n = by_answer s e.who e.op e.reply _ n.honest (answer s e n)

-- the tool: what each move of an entry keeps, the entry keeps
moves_keep : (who : ℕ) (o : Op) (P : State → Type 0) → ((s : State) (m : Move) → May s who o m → P s → P (apply m s)) → (ms : List Move) (s : State)
    → AreBy s who o ms → P s → P (after_moves ms s)
moves_keep who o P k [] s a p = p
moves_keep who o P k (m ∷ ms) s a p = moves_keep who o P k ms (apply m s) a.1 (k s m a.0 p)

pub by_moves : (P : State → Type 0) (s : State) (e : NodeEntry) → IsNext s e → ((t : State) (m : Move) → May t e.who e.op m → P t → P (apply m t)) → P s
    → P (next s e)
by_moves P s e i k p = grind (arith, nat_tests, moves_keep e.who e.op P k (moves_of (row_of s e)) s (row_by s e i) p, row_by s e i, moves_of, row_of)

-- the same, where each move is also made where it may be
made_keep : (who : ℕ) (o : Op) (P : State → Type 0) → ((s : State) (m : Move) → IsMade s o m → May s who o m → P s → P (apply m s))
    → (ms : List Move) (s : State) → AreMade s o ms → AreBy s who o ms → P s → P (after_moves ms s)
made_keep who o P k [] s i a p = p
made_keep who o P k (m ∷ ms) s i a p = made_keep who o P k ms (apply m s) i.1 a.1 (k s m i.0 a.0 p)

pub by_made_moves : (P : State → Type 0) (s : State) (e : NodeEntry) → IsNext s e
    → ((t : State) (m : Move) → IsMade t e.op m → May t e.who e.op m → P t → P (apply m t)) → P s → P (next s e)
by_made_moves P s e i k p =
    made_keep e.who e.op P k (moves_of (row_of s e)) s (row_made s e.who e.op e.reply) (row_by s e i) p

-- what each next entry keeps, a legal list keeps
pub kept_along : (P : State → Type 0) → ((s : State) (e : NodeEntry) → IsNext s e → P s → P (next s e)) → (s : State) (L : List NodeEntry) → LegalFrom s L → P s
    → P (after_from s L)
unfolding LegalFrom after_from
kept_along P k s [] l p = p
kept_along P k s (e ∷ es) l p = kept_along P k (next s e) es l.1 (k s e l.0 p)

-- and what each next entry keeps that doesn't pass, a list of such entries
pub kept_without : (p : NodeEntry → Bool) (P : State → Type 0) → ((s : State) (e : NodeEntry) → IsNext s e → p e ≡ false → P s → P (next s e))
    → (s : State) (L : List NodeEntry) → LegalFrom s L → some_entry p L ≡ false → P s → P (after_from s L)
unfolding LegalFrom after_from
kept_without p P k s [] l n v = v
kept_without p P k s (e ∷ es) l n v = let both = none_first (p e) (some_entry p es) n in kept_without p P k (next s e) es l.1 both.1 (k s e l.0 both.0 v)
