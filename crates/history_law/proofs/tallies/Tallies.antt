-- The sum that a cell holds after tallies.
use Rattle.history_law.proofs.Names.{nat_tests, ◌≡◌, ℕ, ◌<◌, ◌≤◌, Bool, true, false, cond, List, [], ◌∷◌, Option, Some, None, refl, sym, ◌∙◌, ap, subst, arith, ◌==◌, ◌&&◌, is_none, length, ℤ, pos, slice_set, slice_index_or, replicate, option_map, eqb-true, eq-eqb, cond_both, false_from_ne_true, true_from_ne_false, holds, TaskHandle, Op, Reply, Listed, live_of, live_object, count_listed, listed, change, issue, update, with_fields, gone, Task, TaskState, Running, runner, end_of, scheduled, runs_on, is_unstarted, is_unended, with_notes, with_tally, tally_has, Mutex, Segment, with_cell, State, Move, Mutexes, makes, alters, removes, apply, after_moves, IsMade, fst_true, snd_true, at-update, some_same, record_of, adds_to, sum_of, length-set, Answers}
use Rattle.mtapi_machine.specs.declared.ops.Op.TheVariants as op
use Rattle.mtapi_machine.specs.declared.replies.Reply.TheVariants as reply
use Rattle.history_law.proofs.Accepted.{shown}
use Rattle.history_law.proofs.lists.Handles.{OnceIn}
use Rattle.history_law.proofs.lists.Found.{at_here, count_changed, count_issued, at_past}
use Rattle.history_law.proofs.Held.{DeadEnded}
use Rattle.history_law.proofs.lists.Every.{Every, every_change, every_map, always}
use Rattle.history_law.proofs.SeatMoves.{May, is_tally_lock}
use Rattle.mtapi_machine.specs.Answers as is
use Rattle.history_law.proofs.Others.{runs_over}
use Rattle.history_law.proofs.Answered.{true_false, whether}
use Rattle.history_law.proofs.lists.Firsts.{found_count, one_passes}
use Rattle.history_law.proofs.tallies.Ties.{Owns, none_count, none_runs}
use Rattle.history_law.proofs.lists.Sums.{sum_none, record_new, record_beside, record_other, record_at, record_updated}
use Rattle.history_law.proofs.tallies.TallyMoves.{adds, weight, weigh_off, Each, HasRead, cells_of}
use Rattle.history_law.proofs.lists.Slots.{set_apart, read_replicate}

-- A change of the one task that runs on a worker

pub every_alone : (P Q : Task → Type 0) (w j : ℕ) (f : Listed Task → Listed Task) (l : List (Listed Task)) (x : Task) → live_object l j ≡ Some x
    → runs_on w x ≡ true → count_listed (runs_on w) l ≤ 1 → DeadEnded l
    → ((u : Task) → runs_on w u ≡ false → P u → Q u) → ((r : Listed Task) → r.fields ≡ x → P r.fields → Q (f r).fields) → Every P l → Every Q (change j f l)
unfolding live_of change
every_alone P Q w j f [] x e k c d g h a = tt
every_alone P Q w j f (r ∷ rs) x e k c d g h a = cond_both (r.live && (r.handle == j)) (f r ∷ rs) (r ∷ change j f rs) (Every Q)
    (λ i.
    let v : r.live ≡ true = fst_true r.live _ i in
    let same : r.fields ≡ x = some_same (sym (at_here r rs j v (snd_true r.live _ i)) ∙ e) in
    let o : cond {A = ℕ} (r.live && runs_on w r.fields) 1 0 ≡ 1 =
    (λ z. cond {A = ℕ} (v z && runs_on w (same z)) 1 0) ∙ ap (λ (b : Bool). cond {A = ℕ} b 1 0) k in
    let z : count_listed (runs_on w) rs ≡ 0 = omega arith in
    (h r same a.0, every_map (λ u. runs_on w u ≡ false) P Q rs (λ u b q. g u b q) (none_runs w rs d.1 z) a.1))
    (λ i. let behind : live_object rs j ≡ Some x = sym (at_past r rs j i) ∙ e in
    (g r.fields (past behind) a.0, every_alone P Q w j f rs x behind k (omega arith) d.1 g h a.1))
  where
    -- the head is another one than the one that is found behind it
    past : live_object rs j ≡ Some x → runs_on w r.fields ≡ false
    past i = false_from_ne_true (runs_on w r.fields) (by_live r.live refl)
      where
        by_live : (b : Bool) → r.live ≡ b → runs_on w r.fields ≡ true → ⊥
        by_live true v q = grind (arith, nat_tests, count_listed, runs_on, found_count)
        by_live false v q = true_false q (runs_over w r.fields (d.0 v))

-- a task that has begun and hasn't ended runs
pub some_worker : (t : Task) → is_unended t ≡ true → is_unstarted t ≡ false → (w : ℕ) × (runs_on w t ≡ true)
some_worker t a b = runs_of t.state a b
  where
    runs_of : (x : TaskState) → is_none (end_of x) ≡ true → scheduled x ≡ false → (w : ℕ) × (holds (λ r. r.0 == w) (runner x) ≡ true)
    runs_of (Running w k) a b = (w, eq-eqb w w refl)
    runs_of _ a b = grind (arith, nat_tests)

pub runs_unended : (w : ℕ) (t : Task) → runs_on w t ≡ true → is_unended t ≡ true
runs_unended w t r = true_from_ne_false (is_unended t) (λ e. true_false r (runs_over w t e))

abbrev pub HasId : ℕ → Mutex → Bool
HasId i y = y.id == i

-- two workers that own a mutex of one id are one
pub one_owner : (ms : List (Listed Mutex)) (i v w h k : ℕ) → count_listed (HasId i) ms ≤ 1 → Owns v i (live_object ms h) → Owns w i (live_object ms k) → v ≡ w
one_owner ms i v w h k c a b = grind (arith, nat_tests, live_object, one_passes, eq-eqb, some_same)

-- No two live mutexes have one id

pub ids_move : (i who : ℕ) (o : Op) (s : State) (x : Move) → IsMade s o x → May s who o x → count_listed (HasId i) s.mutexes ≤ 1
    → count_listed (HasId i) (apply x s).mutexes ≤ 1
ids_move i who o s (makes Mutexes j x) e k v = grind (arith, nat_tests, none_count (HasId x.id) s.mutexes k, count_issued (HasId i) j x s.mutexes)
ids_move i who o s (alters Mutexes j f) e k v =
    let t = shown (live_object s.mutexes j) e.may in
    let c = count_changed (HasId i) j (with_fields f) (HasId i t.0) s.mutexes t.0 t.1 (λ r a q. (λ z. a z && (k r.fields z == i)) ∙ ap (HasId i) q) in
    let m : count_listed (HasId i) s.mutexes ≤ 1 = v in
    omega arith
ids_move i who o s (removes Mutexes j) e k v =
    let t = shown (live_object s.mutexes j) e.may in
    let c = count_changed (HasId i) j gone false s.mutexes t.0 t.1 (λ r a q. refl) in
    let m : count_listed (HasId i) s.mutexes ≤ 1 = v in
    omega arith
ids_move i who o s _ e k v = v

module _ (S C : ℕ) where
  -- What a `tally_lock` leaves of each task that adds to the cell

  pub lock_each : (R : List ℤ → Type 0) (s : State) (who : ℕ) (o : Op) (r : Reply) (ms : List Move) → Every (Each S C R) s.tasks → is_tally_lock o ≡ true
      → ((t : TaskHandle) (u : Task) (v : Segment) → o ≡ op.TallyLock t → r ≡ reply.Asked true → live_object (after_moves ms s).tasks t.0 ≡ Some u
      → live_object s.segments u.notes.tally.segment ≡ Some v → adds_to S C u ≡ true → R u.args)
      → Answers s who o r ms → Every (Each S C R) (after_moves ms s).tasks
  lock_each R s who _ _ _ base l h (is.refuses o x e) = base
  lock_each R s who _ _ _ base l h (is.refuses_caller o x e) = base
  lock_each R s who _ _ _ base l h (is.lock_early t x k z) = base
  lock_each R s who _ _ _ base l h (is.lock_fails t x c k z v) = grind (arith, nat_tests, every_change (Each S C R) t.0)
  lock_each R s who _ _ _ base l h (is.lock_got t x y a b k z g) =
      every_change (Each S C R) t.0 (with_fields (with_notes (with_tally (tally_has a b)))) s.tasks
      (λ r c i q. let same : x ≡ r.fields = some_same (sym k.found ∙ c) in
      subst (λ (u : Task). R u.args) same (h t (with_notes (with_tally (tally_has a b)) x) g.segment refl refl
      (at-update t.0 (with_notes (with_tally (tally_has a b))) x s.tasks k.found) g.found_segment
      (subst (λ (u : Task). adds S C (tally_has a b u.notes.tally) u.args ≡ true) (sym same) q))) base
  lock_each R s who _ _ _ base l h _ = true_false l refl

  -- What a cell holds: what the tallies of it have written; and what one has read and hasn't written yet is that, too

  abbrev pub cell_value : List ℤ → ℤ
  cell_value c = slice_index_or c C (pos 0)

  abbrev pub Sum : Option (List ℤ) → List (Listed Task) → Type 0
  Sum None l = Unit {0}
  Sum (Some c) l = C < length c → (cell_value c ≡ sum_of (weight S C) l) × Every (HasRead S C (sum_of (weight S C) l)) l

  pub sum_keep : (o : Option (List ℤ)) (l k : List (Listed Task)) → sum_of (weight S C) k ≡ sum_of (weight S C) l
      → (Every (HasRead S C (sum_of (weight S C) l)) l → Every (HasRead S C (sum_of (weight S C) l)) k) → Sum o l → Sum o k
  sum_keep o l k e1 e2 e3 = grind (arith, nat_tests)

  pub sum_cells : (s : State) (o p : Option (List ℤ)) (l : List (Listed Task)) → o ≡ p → Sum o l → Sum p l
  sum_cells s o p l e v = subst (λ (q : Option (List ℤ)). Sum q l) e v

  -- a new segment
  pub create_sum : (s : State) (h : ℕ) (x : Segment) → (k : ℕ) → x.cells ≡ replicate k (pos 0) → listed h s.segments ≡ 0
      → Every (Each S C (λ a. 1 ≤ listed S s.segments)) s.tasks → Sum (cells_of S C s.segments) s.tasks → Sum (cells_of S C (issue h x s.segments)) s.tasks
  create_sum s h x k q z known v = by_same (h == S) refl
    where
      by_same : (b : Bool) → (h == S) ≡ b → Sum (cells_of S C (issue h x s.segments)) s.tasks
      by_same true i =
          let same : h ≡ S = eqb-true h S i in
          let none : listed S s.segments ≡ 0 = subst (λ (j : ℕ). listed j s.segments ≡ 0) same z in
          let now : cells_of S C (issue h x s.segments) ≡ Some (replicate k (pos 0)) =
          ap (λ (o : Option Segment). option_map (λ (y : Segment). y.cells) o)
          (subst (λ (j : ℕ). record_of (issue h x s.segments) j ≡ Some x) same (record_new h x s.segments z)) ∙ ap Some q in
          let apart : Every (λ t. adds S C t.notes.tally t.args ≡ false) s.tasks =
          every_map (Each S C (λ a. 1 ≤ listed S s.segments)) (λ t. Unit {0}) (λ t. adds S C t.notes.tally t.args
          ≡ false) s.tasks (λ t a u. false_from_ne_true _ (λ y. none_some (a y) none)) known (always s.tasks) in
          let zero : sum_of (weight S C) s.tasks ≡ pos 0 =
          sum_none (weight S C) s.tasks (every_map (λ t. adds S C t.notes.tally t.args ≡ false) (λ t. Unit {0}) (λ t. weight S C t
          ≡ pos 0) s.tasks (λ t a u. weigh_off S C t.notes.tally t.args a) apart (always s.tasks)) in
          sum_cells s _ _ s.tasks (sym now)
          (λ j. (
            read_replicate k C (pos 0) ∙ sym zero,
            every_map (λ t. adds S C t.notes.tally t.args
                ≡ false) (λ t. Unit {0}) (HasRead S C (sum_of (weight S C) s.tasks)) s.tasks (λ t a u b c d. true_false b a) apart (always s.tasks),
          ))
        where
          none_some : {n : ℕ} → 1 ≤ n → n ≡ 0 → ⊥
          none_some a b = absurd (omega arith)
      by_same false i = grind (arith, nat_tests, sum_cells, option_map, record_beside)

  -- a change of one cell of a segment, where it isn't the cell
  pub other_cell : (s : State) (h c : ℕ) (value : ℤ) (y : Segment) (l : List (Listed Task)) → OnceIn s.segments → live_object s.segments h ≡ Some y
      → ((h == S) && (c == C)) ≡ false → Sum (cells_of S C s.segments) l → Sum (cells_of S C (update h (with_cell c value) s.segments)) l
  other_cell s h c value y l o e n v = whether (h == S)
      (λ i.
      let same : h ≡ S = eqb-true h S i in
      let apart : (c == C) ≡ false = sym (ap (λ (b : Bool). b && (c == C)) i) ∙ n in
      let before : cells_of S C s.segments ≡ Some y.cells =
      ap (λ (q : Option Segment). option_map (λ (z : Segment). z.cells) q)
      (subst (λ (j : ℕ). record_of s.segments j ≡ Some y) same (record_at h y s.segments o e)) in
      let now : cells_of S C (update h (with_cell c value) s.segments) ≡ Some (slice_set y.cells c value) =
      ap (λ (q : Option Segment). option_map (λ (z : Segment). z.cells) q)
      (subst (λ (j : ℕ). record_of (update h (with_cell c value) s.segments) j
      ≡ Some (with_cell c value y)) same (record_updated h (with_cell c value) y s.segments o e)) in
      let w : Sum (Some y.cells) l = sum_cells s _ _ l before v in
      sum_cells s _ _ l (sym now) (λ j. let x = w (subst (λ (k : ℕ). C < k) (length-set y.cells c value) j) in
      (set_apart y.cells c C value (pos 0) apart ∙ x.0, x.1)))
      (λ i. sum_cells s _ _ l (sym (ap (λ (q : Option Segment). option_map (λ (z : Segment). z.cells) q)
      (record_other h S (with_fields (with_cell c value)) s.segments (λ r. refl) i))) v)
