-- At most one seat holds a mutex.
use Rattle.history_law.proofs.Names.{◌≡◌, ℕ, ◌+◌, ◌<◌, ◌≤◌, Bool, true, false, List, [], ◌∷◌, ◌++◌, Some, None, refl, sym, ◌∙◌, ap, subst, arith, ◌==◌, ◌&&◌, nat_lt, length, TaskHandle, Terms, Op, Reply, Listed, live_of, live_object, count_listed, change, with_fields, eqb-true, nat_tests, Task, Adds, runs_on, runs_as, with_notes, with_tally, tally_failed, tally_has, ended, Mutex, locked_by, with_attached, State, opening, workers, Move, Mutexes, Segments, alters, notes, after_moves, NodeEntry, IsNext, next, LegalFrom, Legal, after_from, after, Legal-rest, after-append, after-one, at-update, some_same, entries_that, by_seat, gets_mutex, gives_mutex, says_end, is_tally_end, ends_tally, HasMutex, tally_got, HoldsByLooks, HoldsByTally, HoldsMutex, MutexesKeepTo, mutex_in, Answers, IsAttached, Legal-prefix, Segment, TaskEnd, get_or-set_same}
use Rattle.mtapi_values.specs.declared.kinds.Kind.TheVariants as kinds
use Rattle.mtapi_values.specs.declared.handles.ObjectKind.TheVariants as kind
use Rattle.mtapi_machine.specs.declared.ops.Op.TheVariants as op
use Rattle.mtapi_machine.specs.declared.replies.Reply.TheVariants as reply
use Rattle.history_law.proofs.Reuse.{terms_next}
use Rattle.history_law.proofs.lists.Handles.{OnceIn}
use Rattle.history_law.proofs.lists.Found.{count_changed}
use Rattle.history_law.proofs.Held.{Held}
use Rattle.history_law.proofs.Moves.{after_stands}
use Rattle.history_law.proofs.Accepted.{opening_stands}
use Rattle.history_law.proofs.lists.Every.{every_change, every_map, every_at, always, every_if}
use Rattle.history_law.proofs.SeatMoves.{is_tally_lock, by_moves, answer, kept_along, kept_without}
use Rattle.history_law.proofs.Others.{runs_scheduled}
use Rattle.history_law.proofs.OnceIssued.{once_none, once_next}
use Rattle.history_law.proofs.Answered.{true_false, whether, on_test}
use Rattle.history_law.proofs.lists.Counts.{counts_along}
use Rattle.history_law.proofs.lists.Firsts.{first_at}
use Rattle.history_law.proofs.TaskMoves.{every_moved, found_moved}
use Rattle.history_law.proofs.tallies.Ties.{Owns, id_in, Tied, Ties, ties_kept, AtMostOne, one_move, none_runs, On, OnAt, on_stays, on_runs, as_on}
use Rattle.history_law.proofs.locks.Mutexes.{Step, Free, free_step, owns_step, share, share_step, share_owner}
use Rattle.history_law.proofs.locks.MutexSteps.{is_ending, mutex_by}
use Rattle.history_law.proofs.locks.Attached.{Step as SegmentStep, HasMarks, marks_step, attached_step, segment_by}
use Rattle.mtapi_machine.specs.Answers as is
use Rattle.mtapi_machine.specs.Answers.{HasTask, HasBoth}

-- What holds after every legal list of a node with n workers
pub record Good (n : ℕ) (s : State) : Type 0 where
  pub workers : workers s ≡ n
  pub few : n ≤ 16
  pub held : Held s.phase s.stopped s.tasks
  pub one : (w : ℕ) → AtMostOne w s
  pub once : OnceIn s.mutexes
  pub once_segments : OnceIn s.segments
  pub free : (j : ℕ) → Free (live_object s.mutexes j)
  pub marks : (j : ℕ) → HasMarks (live_object s.segments j)
  pub ties : Ties n s.mutexes s.segments s

-- The ties after an entry

-- a tally's mutex and segment after a step of another seat, or of a seat on which the task doesn't run
tied_step : (n who : ℕ) (b : Bool) (l k : List (Listed Mutex)) (p q : List (Listed Segment)) (x y : ℕ → Bool)
    → ((j : ℕ) → Step who n b (live_object l j) (live_object k j) (x j) (y j)) → ((j : ℕ) → SegmentStep who n b (live_object p j) (live_object q j))
    → (t : Task) → ((b ≡ true) → runs_on who t ≡ false) → Tied n l p t → Tied n k q t
tied_step n who b l k p q x y f g t a i = grind (arith, nat_tests, owns_step, id_in, attached_step, runs_on, true_false)

-- after an end of a tally no task runs on its worker
none_then : (s : State) (who t : ℕ) (x : Task) (e : TaskEnd) → AtMostOne who s → HasTask s who t x kinds.Tally
    → count_listed (runs_on who) (change t (ended e s.ends) s.tasks) ≡ 0
none_then s who t x e one k = grind (arith, nat_tests, count_changed (runs_on who) t (ended e s.ends) false s.tasks x k.found, as_on who x.state k.runs)

end_counts : (s : State) (who : ℕ) (o : Op) (r : Reply) (ms : List Move) → AtMostOne who s → is_ending o r ≡ true → Answers s who o r ms
    → count_listed (runs_on who) (after_moves ms s).tasks ≡ 0
end_counts s who o r ms e1 e2 e3 = grind (arith, nat_tests, none_then s who, true_false)

pub one_runner : (v w : ℕ) (t : Task) → runs_on v t ≡ true → runs_on w t ≡ true → v ≡ w
one_runner v w t e1 e2 = grind (arith, nat_tests)

less_of : (w n : ℕ) → nat_lt w n ≡ true → w < n
less_of w n e = grind (arith, nat_tests)

-- a tally_lock that gets the mutex ties its task to it
module _ (n : ℕ) (s : State) (who : ℕ) (g : Good n s) where
  abbrev TiedAfter : List Move → Type 0
  TiedAfter ms = Ties n (after_moves ms s).mutexes (after_moves ms s).segments (after_moves ms s)

  got_ties : (t : TaskHandle) (x : Task) (y : Adds) (a b : ℕ) → HasTask s who t.0 x kinds.Tally → (x.notes.tally.stage == 0) ≡ true → HasBoth s x y a b
      → TiedAfter (alters Mutexes a (locked_by who) ∷ alters Segments b (with_attached who true) ∷ notes t.0 (with_tally (tally_has a b)) ∷ [])
  got_ties t x y a b k z h =
      every_change (Tied n mutexes segments) t.0 (with_fields (with_notes (with_tally (tally_has a b)))) s.tasks
      (λ r c i. subst (λ (u : Task). Tied n mutexes segments (with_notes (with_tally (tally_has a b)) u)) (some_same (sym k.found ∙ c)) here)
      (every_map (Tied n s.mutexes s.segments) (λ u. Unit {0}) (Tied n mutexes segments) s.tasks
      (λ u i q. tied_step n who false s.mutexes mutexes s.segments segments (λ j. false) (λ j. false)
      (λ j. mutex_by n s who j g.workers g.once g.ties _ _ _ (is.lock_got t x y a b k z h))
      (λ j. segment_by n s who j g.workers g.once_segments _ _ _ (is.lock_got t x y a b k z h)) u (λ p. true_false p refl) i) g.ties (always s.tasks))
    where
      mutexes : List (Listed Mutex)
      mutexes = change a (with_fields (locked_by who)) s.mutexes

      segments : List (Listed Segment)
      segments = change b (with_fields (with_attached who true)) s.segments

      runs : runs_on who x ≡ true
      runs = as_on who x.state k.runs

      less : who < n
      less = less_of who n (subst (λ (z : ℕ). nat_lt who z ≡ true) g.workers k.inside)

      owns : Owns who (id_in x) (live_object mutexes a)
      owns = grind (arith, nat_tests, eqb-true, first_at, mutexes, id_in, at-update, locked_by, mutex_in)

      room : length h.segment.attached ≡ 25 → who < length h.segment.attached
      room z = let q : who < n = less in let p : n ≤ 16 = g.few in omega arith

      attached : IsAttached who (live_object segments b)
      attached = grind (arith, nat_tests, at-update, with_attached, segments, get_or-set_same, room)

      here : Tied n mutexes segments (with_notes (with_tally (tally_has a b)) x)
      here = record {
        early = λ u. true_false runs (runs_scheduled who x u);
        tied = λ w u v. subst (λ (z : ℕ). (z < n) × Owns z (id_in x) (live_object mutexes a)) (one_runner who w x runs u) (less, owns);
        attends = λ w u v. subst (λ (z : ℕ). IsAttached z (live_object segments b)) (one_runner who w x runs u) attached;
        kind = λ w u v. subst (λ (z : ℕ). runs_as z kinds.Tally x ≡ true) (one_runner who w x runs u) k.runs;
      }

  lock_ties : (o : Op) (r : Reply) (ms : List Move) → is_tally_lock o ≡ true → Answers s who o r ms → TiedAfter ms
  lock_ties _ _ _ l (is.refuses o x e) = g.ties
  lock_ties _ _ _ l (is.refuses_caller o x e) = g.ties
  lock_ties _ _ _ l (is.lock_early t x k z) = g.ties
  lock_ties _ _ _ l (is.lock_fails t x c k z v) = grind (arith, nat_tests, every_change, with_fields, with_notes, with_tally, tally_failed)
  lock_ties _ _ _ l (is.lock_got t x y a b k z h) = got_ties t x y a b k z h
  lock_ties _ _ _ l _ = true_false l refl

-- The ties, and what else holds, after an entry

held_next : (s : State) (e : NodeEntry) → Held s.phase s.stopped s.tasks → Held (next s e).phase (next s e).stopped (next s e).tasks
unfolding after_from
held_next s e h = (after_stands s.terms s (e ∷ []) (refl, h)).1

step_next : (n : ℕ) (s : State) (e : NodeEntry) (j : ℕ) → IsNext s e → Good n s
    → Step e.who n (is_ending e.op e.reply) (live_object s.mutexes j) (live_object (next s e).mutexes j) (gets_mutex j e) (gives_mutex j e)
step_next n s e j i g = mutex_by n s e.who j g.workers g.once g.ties e.op e.reply _ (answer s e i)

segment_next : (n : ℕ) (s : State) (e : NodeEntry) (j : ℕ) → IsNext s e → Good n s
    → SegmentStep e.who n (is_ending e.op e.reply) (live_object s.segments j) (live_object (next s e).segments j)
segment_next n s e j i g = segment_by n s e.who j g.workers g.once_segments e.op e.reply _ (answer s e i)

ties_next : (n : ℕ) (s : State) (e : NodeEntry) → IsNext s e → Good n s → Ties n (next s e).mutexes (next s e).segments (next s e)
ties_next n s e i g = whether (is_tally_lock e.op) (λ l. lock_ties n s e.who g e.op e.reply _ l (answer s e i))
    (λ l. every_map (Tied n s.mutexes s.segments) (λ t. (is_ending e.op e.reply ≡ true)
    → runs_on e.who t ≡ false) (Tied n (next s e).mutexes (next s e).segments) (next s e).tasks
    (λ t v a. tied_step n e.who (is_ending e.op e.reply) _ _ _ _ (λ j. gets_mutex j e) (λ j. gives_mutex j e) (λ j. step_next n s e j i g)
    (λ j. segment_next n s e j i g) t a v)
    (by_moves (Ties n s.mutexes s.segments) s e i (every_moved (Tied n s.mutexes s.segments) e.who e.op (ties_kept n s.mutexes s.segments e.who e.op l)) g.ties)
    (every_if (is_ending e.op e.reply) (λ t. runs_on e.who t
    ≡ false) (next s e).tasks (λ k. none_runs e.who (next s e).tasks (held_next s e g.held).dead
    (end_counts s e.who e.op e.reply _ (g.one e.who) k (answer s e i)))))

pub good_next : (n : ℕ) (s : State) (e : NodeEntry) → IsNext s e → Good n s → Good n (next s e)
good_next n s e i g = record {
  workers = ap (λ (t : Terms). t.settings.workers) (terms_next s.terms s e refl) ∙ g.workers;
  few = g.few;
  held = held_next s e g.held;
  one = λ w. by_moves (AtMostOne w) s e i (one_move w e.who e.op) (g.one w);
  once = once_next kind.Mutex s e g.once;
  once_segments = once_next kind.Shmem s e g.once_segments;
  free = λ j. free_step e.who n (is_ending e.op e.reply) _ _ _ _ (step_next n s e j i g) (g.free j);
  marks = λ j. marks_step e.who n (is_ending e.op e.reply) _ _ (segment_next n s e j i g) (g.marks j);
  ties = ties_next n s e i g;
}

none_at : {T : Type 0} (h : ℕ) → live_object {T = T} [] h ≡ None
unfolding live_of
none_at h = refl

pub good_opening : (terms : Terms) → terms.settings.workers ≤ 16 → Good terms.settings.workers (opening terms)
good_opening terms few = grind (arith, nat_tests, opening_stands, once_none, none_at)

pub good_after : (terms : Terms) (L : List NodeEntry) → Legal terms L → Good terms.settings.workers (after terms L)
good_after terms L l = kept_along (Good terms.settings.workers) (good_next terms.settings.workers) (opening terms) L l.from
    (good_opening terms l.fits.settings.workers.1)

-- A seat that holds a mutex owns it

abbrev OwnedBy : State → ℕ → ℕ → Type 0
OwnedBy s h w = (x : Mutex) × (live_object s.mutexes h ≡ Some x) × (x.owner ≡ Some w)

counted : (terms : Terms) (h w : ℕ) (L : List NodeEntry) → Legal terms L
    → entries_that (by_seat w (gives_mutex h)) L + share terms.settings.workers w (live_object (after terms L).mutexes h)
    ≡ entries_that (by_seat w (gets_mutex h)) L
counted terms h w L l =
    let n : ℕ = terms.settings.workers in
    let c = (counts_along (λ t. share n w (live_object t.mutexes h)) (by_seat w (gets_mutex h)) (by_seat w (gives_mutex h)) (Good n)
    (λ t e i k. (good_next n t e i k, share_step e.who n w (is_ending e.op e.reply) _ _ _ _ (k.free h) (step_next n t e h i k))) (opening terms) L l.from
    (good_opening terms l.fits.settings.workers.1)).1 in
    let z : share n w (live_object (opening terms).mutexes h) ≡ 0 = ap (share n w) (none_at h) in
    omega arith

by_looks : (terms : Terms) (h w : ℕ) (L : List NodeEntry) → Legal terms L → HoldsByLooks L h w → OwnedBy (after terms L) h w
by_looks terms h w L l k = let c = counted terms h w L l in share_owner terms.settings.workers w (live_object (after terms L).mutexes h) (omega arith)

-- by a tally

lock_got : (s : State) (who : ℕ) (t : TaskHandle) (ms : List Move) → Answers s who (op.TallyLock t) (reply.Asked true) ms
    → (a : ℕ) × OnAt who a t.0 (after_moves ms s)
lock_got s who _ _ (is.lock_got t x y a b k z h) = (
  a,
  (
    with_notes (with_tally (tally_has a b)) x,
    at-update t.0 (with_notes (with_tally (tally_has a b))) x s.tasks k.found,
    record {
      runs = k.runs;
      both = refl;
      mutex = refl;
    },
  ),
)

-- an answer that isn't an end leaves it
unended : (w h i : ℕ) (s : State) (who : ℕ) (o : Op) (r : Reply) (ms : List Move) → is_tally_end i o ≡ true → says_end r ≡ false → OnAt w h i s
    → Answers s who o r ms → OnAt w h i (after_moves ms s)
unended w h i s who _ _ _ d k v (is.refuses o x e) = v
unended w h i s who _ _ _ d k v (is.refuses_caller o x e) = v
unended w h i s who _ _ _ d k v (is.tally_ends_failed t x y f) = true_false refl k
unended w h i s who _ _ _ d k v (is.tally_ends t x y z c e f a b) = true_false refl k
unended w h i s who _ _ _ d k v _ = true_false d refl

stays_on : (w h i : ℕ) (s : State) (e : NodeEntry) → IsNext s e → ends_tally i e ≡ false → OnAt w h i s → OnAt w h i (next s e)
stays_on w h i s e n f v = on_test (λ b. (b && says_end e.reply) ≡ false → OnAt w h i (next s e)) (is_tally_end i e.op)
    (λ d k. unended w h i s e.who e.op e.reply _ d k v (answer s e n))
    (λ d k. by_moves (OnAt w h i) s e n (found_moved (On w h) e.who i e.op (on_stays w h i e.who e.op d)) v) f

owned : (n w h i : ℕ) (s : State) → Good n s → OnAt w h i s → OwnedBy s h w
owned n w h i s g v = grind (arith, nat_tests, every_at, id_in, live_object, on_runs)

same_mutex : (s : State) (w t h : ℕ) → HasMutex s t h → (a : ℕ) × OnAt w a t s → OnAt w h t s
same_mutex s w t h m o = grind (arith, nat_tests, some_same)

by_tally : (terms : Terms) (h w : ℕ) (L : List NodeEntry) → Legal terms L → HoldsByTally terms L h w → OwnedBy (after terms L) h w
unfolding LegalFrom after_from
by_tally terms h w L l k =
    let here : LegalFrom (opening terms) (k.before ++ tally_got w k.task ∷ k.since) =
    subst (λ (z : List NodeEntry). LegalFrom (opening terms) z) k.cut l.from in
    let rest : LegalFrom (after terms k.before) (tally_got w k.task ∷ k.since) = Legal-rest (opening terms) k.before (tally_got w k.task ∷ k.since) here in
    let now : after terms (k.before ++ tally_got w k.task ∷ []) ≡ next (after terms k.before) (tally_got w k.task) =
    after-one (opening terms) k.before (tally_got w k.task) in
    let on : OnAt w h k.task.0 (next (after terms k.before) (tally_got w k.task)) =
    same_mutex (next (after terms k.before) (tally_got w k.task)) w k.task.0 h (subst (λ (z : State). HasMutex z k.task.0 h) now k.got)
    (lock_got (after terms k.before) w k.task _ (answer (after terms k.before) (tally_got w k.task) rest.0)) in
    let later : OnAt w h k.task.0 (after_from (after terms k.before) (tally_got w k.task ∷ k.since)) =
    kept_without (ends_tally k.task.0) (OnAt w h k.task.0) (stays_on w h k.task.0)
    (next (after terms k.before) (tally_got w k.task)) k.since rest.1 k.unended on in
    let same : after terms L ≡ after_from (after terms k.before) (tally_got w k.task ∷ k.since) =
    ap (λ (z : List NodeEntry). after terms z) k.cut ∙ after-append (opening terms) k.before (tally_got w k.task ∷ k.since) in
    owned terms.settings.workers w h k.task.0 (after terms L) (good_after terms L l) (subst (OnAt w h k.task.0) (sym same) later)

holder : (terms : Terms) (h w : ℕ) (L : List NodeEntry) → Legal terms L → HoldsMutex terms L h w → OwnedBy (after terms L) h w
holder terms h w L e1 e2 = grind (arith, nat_tests, by_looks terms h w L, by_tally terms h w L)

one_owner : (s : State) (h v w : ℕ) → OwnedBy s h v → OwnedBy s h w → v ≡ w
one_owner s h v w e1 e2 = grind (arith, nat_tests)

pub mutexes_keep_to : (terms : Terms) (es : List NodeEntry) → Legal terms es → MutexesKeepTo terms es
mutexes_keep_to terms es legal L R h cut =
    let l : Legal terms L = Legal-prefix terms L R (subst (Legal terms) cut legal) in record {
      each = λ w. let c = counted terms h w L l in omega arith;
      one = λ v w a b. one_owner (after terms L) h v w (holder terms h v L l a) (holder terms h w L l b);
    }

-- The end of a tally, and an answer that is no end, by the row
