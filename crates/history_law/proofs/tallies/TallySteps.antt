-- What each entry leaves of the sum that a cell holds, and so every list of entries.
use Rattle.history_law.proofs.Names.{◌≡◌, ℕ, ◌<◌, ◌≤◌, Bool, true, false, cond, List, [], ◌∷◌, ◌++◌, Option, Some, None, refl, sym, ◌∙◌, ap, subst, arith, ◌==◌, ◌&&◌, ◌||◌, nat_lt, is_some, length, ℤ, pos, ◌+ℤ◌, slice_set, slice_index_or, option_map, eqb-true, false_from_ne_true, nat_tests, Decides-int_eq, append_assoc, TaskHandle, TaskEnd, Failed, Completed, entry, Terms, Op, Reply, Listed, live_object, count_listed, listed, change, update, with_fields, Task, tally_args, cell_in, number_in, added, runs_on, is_unended, with_notes, with_tally, tally_read, tally_written, ended, Segment, new_segment, cell_of, with_cell, State, opening, Move, notes, after_moves, after_row, row, NodeEntry, IsNext, next, LegalFrom, Legal, after_from, after, after-one, fst_true, snd_true, some_same, some_entry, tally_got, record_of, mutex_in, adds_to, completed_in, number_added, sum_of, writes_to, NamesOneMutex, HoldsTheSum, length-set, get_or-set_same, Answers, Notes, tally_failed, tally_has}
use Rattle.mtapi_values.specs.declared.handles.ObjectKind.TheVariants as kind
use Rattle.mtapi_values.specs.declared.statuses.MtapiStatus.TheVariants as m
use Rattle.mtapi_machine.specs.declared.ops.Op.TheVariants as op
use Rattle.history_law.proofs.Accepted.{all_after}
use Rattle.history_law.proofs.Reuse.{fresh_unlisted}
use Rattle.history_law.proofs.Ages.{live_listed}
use Rattle.history_law.proofs.Held.{HasEnded, AllEnded}
use Rattle.history_law.proofs.lists.Every.{Every, every_change, every_map, every_at, always, each_map}
use Rattle.history_law.proofs.SeatMoves.{by_moves, by_made_moves, answer, is_tally_lock}
use Rattle.mtapi_machine.specs.Answers as is
use Rattle.mtapi_machine.specs.declared.replies.Reply.TheVariants as reply
use Rattle.history_law.proofs.TaskMoves.{every_moved}
use Rattle.history_law.proofs.Others.{runs_over}
use Rattle.mtapi_machine.specs.Answers.{HasTask}
use Rattle.mtapi_values.specs.declared.kinds.Kind.TheVariants as kinds
use Rattle.history_law.proofs.locks.MutexSteps.{is_end_op}
use Rattle.history_law.proofs.locks.Locks.{and-true}
use Rattle.history_law.proofs.OnceIssued.{listed_next}
use Rattle.history_law.proofs.Answered.{true_false, none_first, whether}
use Rattle.history_law.proofs.tallies.Ties.{has_both, Owns, Tied, as_on}
use Rattle.history_law.proofs.locks.Exclusive.{Good, good_next, good_opening}
use Rattle.history_law.proofs.lists.Sums.{sum_more, sum_change, sum_same, record_at, record_updated}
use Rattle.history_law.proofs.tallies.TallyMoves.{adds, past_read, weight, written, both_of, weigh_off, weigh_early, written_move, Each, each_kept, HasRead, read_kept, EndsRight, RightTied, right_kept, cells_of, cells_move}
use Rattle.history_law.proofs.tallies.Tallies.{every_alone, some_worker, runs_unended, HasId, one_owner, ids_move, lock_each, cell_value, Sum, sum_keep, sum_cells, create_sum, other_cell}

module _ (S C id n : ℕ) where
  -- What holds after every list that the law speaks of
  pub record SumHolds (s : State) : Type 0 where
    pub good : Good n s
    pub ids : (i : ℕ) → count_listed (HasId i) s.mutexes ≤ 1
    pub known : Every (Each S C (λ a. 1 ≤ listed S s.segments)) s.tasks
    pub named : Every (Each S C (λ a. mutex_in (tally_args a) ≡ id)) s.tasks
    pub right : Every (EndsRight S C) s.tasks
    pub sum : Sum S C (cells_of S C s.segments) s.tasks

  -- the entry writes to no cell of the law, but by a tally, and a tally that gets the segment for the cell names the mutex
  pub record KeepsPremises (s : State) (e : NodeEntry) : Type 0 where
    pub write : writes_to S C e ≡ false
    pub lock : (w : ℕ) (t : TaskHandle) (x : Task) → e ≡ tally_got w t → live_object (next s e).tasks t.0 ≡ Some x → adds_to S C x ≡ true
        → mutex_in (tally_args x.args) ≡ id

  module _ (s : State) (who : ℕ) (v : SumHolds s) where
    -- the tasks that add to the cell

    live_known : (u : Task) (y : Segment) → live_object s.segments u.notes.tally.segment ≡ Some y → adds_to S C u ≡ true → 1 ≤ listed S s.segments
    live_known u y e a =
        let same : u.notes.tally.segment ≡ S = eqb-true u.notes.tally.segment S
        (fst_true (u.notes.tally.segment == S) _ (snd_true (has_both u.notes.tally) _ a)) in
        live_listed S s.segments (ap is_some (subst (λ (j : ℕ). live_object s.segments j ≡ Some y) same e))

    -- what holds of their arguments
    each_next : (R : List ℤ → Type 0) (o : Op) (r : Reply) → IsNext s (entry who o r) → Every (Each S C R) s.tasks
        → ((t : TaskHandle) (u : Task) (v : Segment) → o ≡ op.TallyLock t → r ≡ reply.Asked true → live_object (after_row s (row s who o r)).tasks t.0 ≡ Some u
        → live_object s.segments u.notes.tally.segment ≡ Some v → adds_to S C u ≡ true → R u.args)
        → Every (Each S C R) (after_row s (row s who o r)).tasks
    each_next R o r i base h = whether (is_tally_lock o) (λ l. lock_each S C R s who o r _ base l h (answer s (entry who o r) i))
        (λ l. by_moves (λ t. Every (Each S C R) t.tasks) s (entry who o r) i (every_moved (Each S C R) who o (each_kept S C R who o l)) base)

    -- how tallies end

    ends_right : (t : ℕ) (x : Task) (e : TaskEnd) → live_object s.tasks t ≡ Some x
        → (adds S C x.notes.tally x.args ≡ true → past_read S C x.notes.tally ≡ completed_in e) → Every (EndsRight S C) (change t (ended e s.ends) s.tasks)
    ends_right t x e f k =
        every_change (EndsRight S C) t (ended e s.ends) s.tasks
        (λ r a q u b.
        let same : x ≡ r.fields = some_same (sym f ∙ a) in
        subst (λ (z : Task). past_read S C z.notes.tally
        ≡ completed_in e) same (k (subst (λ (z : Task). adds S C z.notes.tally z.args ≡ true) (sym same) b))) v.right

    failed_adds : (x : Task) → (x.notes.tally.stage == 4) ≡ true → adds S C x.notes.tally x.args ≡ true → ⊥
    failed_adds x e1 e2 = grind (arith, nat_tests)

    back_right : (x : Task) (z : ℤ) (c : Bool) → (nat_lt x.notes.tally.stage 2 || c) ≡ false
        → past_read S C x.notes.tally ≡ completed_in (cond (x.notes.tally.stage == 2) (Failed m.ErrActionFailed) (Completed (z ∷ [])))
    back_right x z c e1 = grind (arith, nat_tests)

    noted_runs : (t : ℕ) (x : Task) (f : Notes → Notes) → HasTask s who t x kinds.Tally → Every (EndsRight S C) (change t (with_fields (with_notes f)) s.tasks)
    noted_runs t x f k = grind (arith, nat_tests, every_change (EndsRight S C) t (with_fields (with_notes f)), as_on, runs_over)

    right_by : (o : Op) (r : Reply) (ms : List Move) → is_end_op o || is_tally_lock o ≡ true → Answers s who o r ms
        → Every (EndsRight S C) (after_moves ms s).tasks
    right_by _ _ _ l (is.refuses o x e) = v.right
    right_by _ _ _ l (is.refuses_caller o x e) = v.right
    right_by _ _ _ l (is.lock_early t x k z) = v.right
    right_by _ _ _ l (is.lock_fails t x c k z d) = noted_runs t.0 x (with_tally (tally_failed c)) k
    right_by _ _ _ l (is.lock_got t x y a b k z h) = noted_runs t.0 x (with_tally (tally_has a b)) k
    right_by _ _ _ l (is.tally_ends_failed t x k f) = ends_right t.0 x x.notes.tally.verdict k.found (λ a. absurd (failed_adds x f a))
    right_by _ _ _ l (is.tally_ends t x y z k d f g h) = ends_right t.0 x _ k.found (λ a. back_right x (added x) _ d)
    right_by _ _ _ l _ = true_false l refl

    right_row : (o : Op) (r : Reply) → IsNext s (entry who o r) → Every (EndsRight S C) (after_row s (row s who o r)).tasks
    right_row (op.TallyEnd t) r i = right_by (op.TallyEnd t) r _ refl (answer s (entry who (op.TallyEnd t) r) i)
    right_row (op.TallyLock t) r i = right_by (op.TallyLock t) r _ refl (answer s (entry who (op.TallyLock t) r) i)
    right_row o r i = each_map (λ r. RightTied S C n s.mutexes s.segments r.fields) (λ r. EndsRight S C r.fields) _ (λ r x. x.1)
        (by_moves (λ t. Every (RightTied S C n s.mutexes s.segments) t.tasks) s (entry who o r) i
        (every_moved (RightTied S C n s.mutexes s.segments) who o (right_kept S C n s.mutexes s.segments who o (λ h. refl) refl))
        (every_map (Tied n s.mutexes s.segments) (EndsRight S C) (RightTied S C n s.mutexes s.segments) s.tasks (λ t a b. (a, b)) v.good.ties v.right))

    -- the sum

    abbrev SumAfter : List Move → Type 0
    SumAfter ms = Sum S C (cells_of S C (after_moves ms s).segments) (after_moves ms s).tasks

    -- the segment of a tally that adds to the cell
    seg_same : (x : Task) → adds S C x.notes.tally x.args ≡ true → x.notes.tally.segment ≡ S
    seg_same x a = eqb-true x.notes.tally.segment S (fst_true (x.notes.tally.segment == S) _ (snd_true (has_both x.notes.tally) _ a))

    cell_same : (x : Task) → adds S C x.notes.tally x.args ≡ true → cell_in (tally_args x.args) ≡ C
    cell_same x a = eqb-true (cell_in (tally_args x.args)) C (snd_true (x.notes.tally.segment == S) _ (snd_true (has_both x.notes.tally) _ a))

    cells_here : (x : Task) (y : Segment) → adds S C x.notes.tally x.args ≡ true → live_object s.segments x.notes.tally.segment ≡ Some y
        → cells_of S C s.segments ≡ Some y.cells
    cells_here x y a e = grind (arith, nat_tests, seg_same x a, record_at x.notes.tally.segment y, option_map, record_of)

    -- a tally reads the cell
    read_sum : (t : ℕ) (x : Task) (y : Segment) → live_object s.tasks t ≡ Some x → (x.notes.tally.stage == 1) ≡ true
        → live_object s.segments x.notes.tally.segment ≡ Some y
        → SumAfter (notes t (with_tally (tally_read (cell_of (cell_in (tally_args x.args)) y))) ∷ [])
    read_sum t x y e d f = by_cells (cells_of S C s.segments) refl v.sum
      where
        z : ℤ
        z = cell_of (cell_in (tally_args x.args)) y

        now : List (Listed Task)
        now = change t (with_fields (with_notes (with_tally (tally_read z)))) s.tasks

        same_sum : sum_of (weight S C) now ≡ sum_of (weight S C) s.tasks
        same_sum = grind (arith, nat_tests, sum_change (weight S C), weight S C, weigh_early S C, with_fields, with_notes, with_tally, tally_read, some_same)

        -- it reads what the cell holds
        reads_it : (c : List ℤ) → cells_of S C s.segments ≡ Some c → cell_value S C c ≡ sum_of (weight S C) s.tasks
            → adds S C (tally_read z x.notes.tally) x.args ≡ true → z ≡ sum_of (weight S C) s.tasks
        reads_it c k w a = grind (arith, nat_tests, cell_in, tally_args, eqb-true, some_same, cells_here, slice_index_or, cell_same)

        by_cells : (o : Option (List ℤ)) → cells_of S C s.segments ≡ o → Sum S C o s.tasks → Sum S C (cells_of S C s.segments) now
        by_cells None k u = sum_cells S C s _ _ now (sym k) tt
        by_cells (Some c) k u = grind (arith, nat_tests, sum_cells S C, weight S C, reads_it c k, adds S C, now, same_sum, every_change)

    -- a tally writes to another cell
    write_other : (t : ℕ) (value : ℤ) (x : Task) (y : Segment) → live_object s.tasks t ≡ Some x → (x.notes.tally.stage == 2) ≡ true
        → live_object s.segments x.notes.tally.segment ≡ Some y → ((x.notes.tally.segment == S) && (cell_in (tally_args x.args) == C)) ≡ false
        → Sum S C (cells_of S C (update x.notes.tally.segment (with_cell (cell_in (tally_args x.args)) value) s.segments))
        (change t (with_fields (with_notes (with_tally tally_written))) s.tasks)
    write_other t value x y e d f a =
        sum_keep S C _ s.tasks (change t (with_fields (with_notes (with_tally tally_written))) s.tasks) same_sum
        (λ h. every_change (HasRead S C (sum_of (weight S C) s.tasks)) t (with_fields (with_notes (with_tally tally_written))) s.tasks
        (λ r i k b g p. true_false g refl) h)
        (other_cell S C s x.notes.tally.segment (cell_in (tally_args x.args)) value y s.tasks v.good.once_segments f a v.sum)
      where
        same_sum : sum_of (weight S C) (change t (with_fields (with_notes (with_tally tally_written))) s.tasks) ≡ sum_of (weight S C) s.tasks
        same_sum = grind (arith, nat_tests, sum_change (weight S C), weight S C, weigh_off S C, weigh_early S C)

    -- no other task that adds to the cell has read and not written: it would own the same mutex
    alone : (x u : Task) → adds S C x.notes.tally x.args ≡ true → runs_on who x ≡ true → Tied n s.mutexes s.segments x → mutex_in (tally_args x.args) ≡ id
        → runs_on who u ≡ false → Tied n s.mutexes s.segments u × Each S C (λ a. mutex_in (tally_args a) ≡ id) u → adds S C u.notes.tally u.args ≡ true
        → is_unended u ≡ true → ⊥
    alone x u a k i p q r b c =
        let both : has_both u.notes.tally ≡ true = both_of S C u.notes.tally u.args b in
        let begun = false_from_ne_true _ (λ e. true_false both (r.0.early e)) in
        let w = some_worker u c begun in
        let own : Owns w.0 id (live_object s.mutexes u.notes.tally.mutex) =
        subst (λ (j : ℕ). Owns w.0 j (live_object s.mutexes u.notes.tally.mutex)) (r.1 b) (r.0.tied w.0 w.1 both).1 in
        let owns : Owns who id (live_object s.mutexes x.notes.tally.mutex) =
        subst (λ (j : ℕ). Owns who j (live_object s.mutexes x.notes.tally.mutex)) p (i.tied who k (both_of S C x.notes.tally x.args a)).1 in
        let same : w.0 ≡ who = one_owner s.mutexes id w.0 who u.notes.tally.mutex x.notes.tally.mutex (v.ids id) own owns in
        true_false (subst (λ (j : ℕ). runs_on j u ≡ true) same w.1) q

    -- a tally writes to the cell
    write_here : (t : ℕ) (value : ℤ) (x : Task) (y : Segment) → live_object s.tasks t ≡ Some x → runs_on who x ≡ true → (x.notes.tally.stage == 2) ≡ true
        → value ≡ added x → live_object s.segments x.notes.tally.segment ≡ Some y → adds S C x.notes.tally x.args ≡ true
        → Sum S C (cells_of S C (update x.notes.tally.segment (with_cell (cell_in (tally_args x.args)) value) s.segments))
        (change t (with_fields (with_notes (with_tally tally_written))) s.tasks)
    write_here t value x y e k d w f a = sum_cells S C s _ _ now (sym cells_now) (λ i. written_here (old i))
      where
        now : List (Listed Task)
        now = change t (with_fields (with_notes (with_tally tally_written))) s.tasks

        number : ℤ
        number = number_in (tally_args x.args)

        cells_now : cells_of S C (update x.notes.tally.segment (with_cell (cell_in (tally_args x.args)) value) s.segments)
            ≡ Some (slice_set y.cells (cell_in (tally_args x.args)) value)
        cells_now = grind (arith, nat_tests, option_map, record_of, with_cell, cell_in, tally_args, seg_same, record_updated)

        inside : C < length (slice_set y.cells (cell_in (tally_args x.args)) value) → C < length y.cells
        inside i = subst (λ (j : ℕ). C < j) (length-set y.cells (cell_in (tally_args x.args)) value) i

        old : C < length (slice_set y.cells (cell_in (tally_args x.args)) value)
            → (C < length y.cells) × (cell_value S C y.cells ≡ sum_of (weight S C) s.tasks) × Every (HasRead S C (sum_of (weight S C) s.tasks)) s.tasks
        old i = let u : Sum S C (Some y.cells) s.tasks = sum_cells S C s _ _ s.tasks (cells_here x y a f) v.sum in let z = u (inside i) in (inside i, z.0, z.1)

        heavier : (r : Listed Task) → r.fields ≡ x → weight S C (with_notes (with_tally tally_written) r.fields) ≡ weight S C r.fields +ℤ number
        heavier r same = grind (arith, nat_tests, weigh_early S C r.fields.notes.tally r.fields.args 2, weight S C, has_both)

        more : sum_of (weight S C) now ≡ sum_of (weight S C) s.tasks +ℤ number
        more = sum_more (weight S C) number t (with_fields (with_notes (with_tally tally_written))) s.tasks x e heavier

        tie : Tied n s.mutexes s.segments x
        tie = every_at (Tied n s.mutexes s.segments) s.tasks t x v.good.ties e

        name : mutex_in (tally_args x.args) ≡ id
        name = every_at (Each S C (λ b. mutex_in (tally_args b) ≡ id)) s.tasks t x v.named e a

        written_here : (C < length y.cells) × (cell_value S C y.cells ≡ sum_of (weight S C) s.tasks) × Every (HasRead S C (sum_of (weight S C) s.tasks)) s.tasks
            → (cell_value S C (slice_set y.cells (cell_in (tally_args x.args)) value) ≡ sum_of (weight S C) now)
            × Every (HasRead S C (sum_of (weight S C) now)) now
        written_here z =
            let kept : x.notes.tally.kept ≡ sum_of (weight S C) s.tasks =
            every_at (HasRead S C (sum_of (weight S C) s.tasks)) s.tasks t x z.2 e a d (runs_unended who x k) in
            let sums : value ≡ sum_of (weight S C) now = w ∙ (ap (λ (q : ℤ). q +ℤ number) kept ∙ sym more) in
            let cell : cell_value S C (slice_set y.cells (cell_in (tally_args x.args)) value) ≡ value =
            subst (λ (j : ℕ). cell_value S C (slice_set y.cells j value) ≡ value) (sym (cell_same x a)) (get_or-set_same y.cells C value (pos 0) z.0) in (
              cell ∙ sums,
              every_alone (λ u. Tied n s.mutexes s.segments u
                  × Each S C (λ b. mutex_in (tally_args b) ≡ id) u) (HasRead S C (sum_of (weight S C) now)) who t
                  (with_fields (with_notes (with_tally tally_written))) s.tasks x e k (v.good.one who) v.good.held.dead
                  (λ u q r b g p. absurd (alone x u a k tie name q r b p)) (λ r same q b g p. true_false g refl)
                  (every_map (Tied n s.mutexes s.segments) (Each S C (λ b. mutex_in (tally_args b) ≡ id)) (λ u. Tied n s.mutexes s.segments u
                  × Each S C (λ b. mutex_in (tally_args b) ≡ id) u) s.tasks (λ u b c. (b, c)) v.good.ties v.named),
            )

    write_sum : (t : ℕ) (value : ℤ) (x : Task) (y : Segment) → live_object s.tasks t ≡ Some x → runs_on who x ≡ true → (x.notes.tally.stage == 2) ≡ true
        → value ≡ added x → live_object s.segments x.notes.tally.segment ≡ Some y
        → Sum S C (cells_of S C (update x.notes.tally.segment (with_cell (cell_in (tally_args x.args)) value) s.segments))
        (change t (with_fields (with_notes (with_tally tally_written))) s.tasks)
    write_sum t value x y e k d w f = grind (arith, nat_tests, write_here t value x y e k d w f, write_other t value x y e d f, has_both)

    abbrev moves_sum : Op → Bool
    moves_sum (op.ShmemCreate i2 cells) = true
    moves_sum (op.ShmemWrite x c value) = true
    moves_sum (op.TallyRead t) = true
    moves_sum (op.TallyWrite t value) = true
    moves_sum _ = false

    sum_by : (o : Op) (r : Reply) (ms : List Move) → moves_sum o ≡ true → writes_to S C (entry who o r) ≡ false → Answers s who o r ms → SumAfter ms
    sum_by _ _ _ l f (is.refuses o x e) = v.sum
    sum_by _ _ _ l f (is.refuses_caller o x e) = v.sum
    sum_by _ _ _ l f (is.creates_segment i2 cells h e j) = create_sum S C s h (new_segment i2 cells) cells refl (fresh_unlisted kind.Shmem s h j) v.known v.sum
    sum_by _ _ _ l f (is.writes_cell h c value x k) = grind (arith, nat_tests, other_cell S C, and-true ((h.0 == S) && (c == C)))
    sum_by _ _ _ l f (is.tally_reads t x y k z e) = read_sum t.0 x y k.found z e
    sum_by _ _ _ l f (is.tally_writes t value x y k z e) = grind (arith, nat_tests, write_sum t.0 value x y k.found, Decides-int_eq value (added x), as_on)
    sum_by _ _ _ l f _ = true_false l refl

    sum_row : (o : Op) (r : Reply) → IsNext s (entry who o r) → KeepsPremises s (entry who o r)
        → Sum S C (cells_of S C (after_row s (row s who o r)).segments) (after_row s (row s who o r)).tasks
    sum_row (op.ShmemCreate i2 cells) r i f = sum_by (op.ShmemCreate i2 cells) r _ refl f.write (answer s (entry who (op.ShmemCreate i2 cells) r) i)
    sum_row (op.ShmemWrite x c value) r i f = sum_by (op.ShmemWrite x c value) r _ refl f.write (answer s (entry who (op.ShmemWrite x c value) r) i)
    sum_row (op.TallyRead t) r i f = sum_by (op.TallyRead t) r _ refl f.write (answer s (entry who (op.TallyRead t) r) i)
    sum_row (op.TallyWrite t value) r i f = sum_by (op.TallyWrite t value) r _ refl f.write (answer s (entry who (op.TallyWrite t value) r) i)
    sum_row o r i f =
        sum_cells S C s _ _ (after_row s (row s who o r)).tasks
        (sym (by_made_moves (λ t. cells_of S C t.segments
        ≡ cells_of S C s.segments) s (entry who o r) i (cells_move S C (cells_of S C s.segments) who o refl refl) refl))
        (sum_keep S C (cells_of S C s.segments) s.tasks (after_row s (row s who o r)).tasks
        (by_moves (λ t. written S C t ≡ written S C s) s (entry who o r) i (written_move S C (written S C s) who o refl) refl)
        (λ h. by_moves (λ t. Every (HasRead S C (written S C s)) t.tasks) s (entry who o r) i
        (every_moved (HasRead S C (written S C s)) who o (read_kept S C (written S C s) who o refl refl)) h) v.sum)

  holds_next : (s : State) (e : NodeEntry) → IsNext s e → KeepsPremises s e → SumHolds s → SumHolds (next s e)
  holds_next s e i f v = record {
    good = good_next n s e i v.good;
    ids = λ j. by_made_moves (λ t. count_listed (HasId j) t.mutexes ≤ 1) s e i (ids_move j e.who e.op) (v.ids j);
    known =
        every_map (Each S C (λ a. 1 ≤ listed S s.segments)) (λ t. Unit {0}) (Each S C (λ a. 1 ≤ listed S (next s e).segments)) (next s e).tasks
        (λ t a u b. listed_next kind.Shmem s e S (a b))
        (each_next s e.who v (λ a. 1 ≤ listed S s.segments) e.op e.reply i v.known (λ t u y a b c d g. live_known s e.who v u y d g))
        (always (next s e).tasks);
    named = each_next s e.who v (λ a. mutex_in (tally_args a)
        ≡ id) e.op e.reply i v.named (λ t u y a b c d g. f.lock e.who t u (ap (λ (o : Op). entry e.who o e.reply) a
        ∙ ap (λ (z : Reply). entry e.who (op.TallyLock t) z) b) c g);
    right = right_row s e.who v e.op e.reply i;
    sum = sum_row s e.who v e.op e.reply i f;
  }

  -- each entry keeps the premises in its turn
  KeepPremises : State → List NodeEntry → Type 0
  KeepPremises s [] = Unit {0}
  KeepPremises s (e ∷ es) = KeepsPremises s e × KeepPremises (next s e) es

  holds_along : (s : State) (L : List NodeEntry) → LegalFrom s L → KeepPremises s L → SumHolds s → SumHolds (after_from s L)
  unfolding LegalFrom after_from KeepPremises
  holds_along s [] l f v = v
  holds_along s (e ∷ es) l f v = holds_along (next s e) es l.1 f.1 (holds_next s e l.0 f.0 v)

  premises_from : (terms : Terms) (es P L : List NodeEntry) → es ≡ P ++ L → some_entry (writes_to S C) L ≡ false → NamesOneMutex terms es S C id
      → KeepPremises (after terms P) L
  unfolding KeepPremises
  premises_from terms es P [] cut w k = tt
  premises_from terms es P (e ∷ L) cut w k =
      let both = none_first (writes_to S C e) (some_entry (writes_to S C) L) w in (
        record {
          write = both.0;
          lock = λ v t x i a b. k P L v t x (cut ∙ ap (λ (z : NodeEntry). P ++ z ∷ L) i)
              (subst (λ (z : State). live_object z.tasks t.0
              ≡ Some x) (sym (after-one (opening terms) P (tally_got v t)))
              (subst (λ (z : NodeEntry). live_object (next (after terms P) z).tasks t.0 ≡ Some x) i a)) b;
        },
        subst (λ (z : State). KeepPremises z L) (after-one (opening terms) P e)
            (premises_from terms es (P ++ e ∷ []) L (cut ∙ sym (append_assoc P (e ∷ []) L)) both.1 k),
      )

  -- after the end of a task, what it has written is what it adds where it has completed
  same_number : (t : Task) → HasEnded t → EndsRight S C t → weight S C t ≡ number_added S C t
  same_number t e1 e2 = grind (arith, nat_tests)

no_cells : (S C : ℕ) → cells_of S C [] ≡ None
unfolding record_of
no_cells S C = refl

holds_opening : (S C id : ℕ) (terms : Terms) → terms.settings.workers ≤ 16 → SumHolds S C id terms.settings.workers (opening terms)
holds_opening S C id terms few = grind (arith, nat_tests, good_opening terms few, sum_cells S C (opening terms), no_cells S C)

pub holds_the_sum : (terms : Terms) (es : List NodeEntry) (S C : ℕ) → Legal terms es → HoldsTheSum terms es S C
unfolding after_from
holds_the_sum terms es S C legal A B main id x cut found inside w k =
    let v : SumHolds S C id terms.settings.workers (after terms es) =
    holds_along S C id terms.settings.workers (opening terms) es legal.from (premises_from S C id terms.settings.workers terms es [] es refl w k)
    (holds_opening S C id terms legal.fits.settings.workers.1) in
    let all : AllEnded (after terms es).tasks =
    subst (λ (L : List NodeEntry). AllEnded (after terms L).tasks) (sym cut)
    (all_after terms A B main (subst (λ (L : List NodeEntry). Legal terms L) cut legal)) in
    let cells : cells_of S C (after terms es).segments ≡ Some x.cells = ap (λ (q : Option Segment). option_map (λ (z : Segment). z.cells) q) found in
    let sum : Sum S C (Some x.cells) (after terms es).tasks = sum_cells S C (after terms es) _ _ (after terms es).tasks cells v.sum in
    (sum inside).0
    ∙ sum_same (weight S C) (number_added S C) (after terms es).tasks
    (every_map HasEnded (EndsRight S C) (λ t. weight S C t
    ≡ number_added S C t) (after terms es).tasks (λ t a b. same_number S C id terms.settings.workers t a b)
    all v.right)
