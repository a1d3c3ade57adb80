-- What each move leaves of the tallies of a cell: what they wrote, what they read, the mutex that they name, and how they ended.
use Rattle.history_law.proofs.Names.{arith, nat_tests, ◌≡◌, ℕ, Bool, true, false, cond, List, Option, refl, sym, some_same, ◌∙◌, ap, ◌==◌, ◌&&◌, not, ℤ, pos, option_map, Op, Listed, with_fields, gone, Mutex, Segment, Task, Notes, TallyNotes, is_unended, with_notes, tally_args, cell_in, number_in, State, Move, Segments, makes, alters, removes, apply, IsMade, makes_of_sort, fst_true, is_tally_end, record_of, is_completed, sum_of}
use Rattle.history_law.proofs.Answered.{true_false}
use Rattle.history_law.proofs.SeatMoves.{May, MayEnd, Noted, Does, is_tally_lock, is_tally_read, is_tally_write, writes_cells, EndsTally}
use Rattle.history_law.proofs.TaskMoves.{IsKept}
use Rattle.history_law.proofs.tallies.Ties.{has_both, Tied, ties_kept}
use Rattle.history_law.proofs.lists.Sums.{record_view}
use Rattle.history_law.proofs.TaskSteps as step
use Rattle.history_law.proofs.TaskSteps.{Step, tasks_go, sum_steps}

module _ (S C : ℕ) where
  -- what a tally with these notes and arguments adds to
  abbrev pub adds : TallyNotes → List ℤ → Bool
  adds x args = (not (x.stage == 0) && not (x.stage == 4)) && ((x.segment == S) && (cell_in (tally_args args) == C))

  -- it has written: it is past the stages 1 and 2
  abbrev pub past_read : TallyNotes → Bool
  past_read x = not (x.stage == 1) && not (x.stage == 2)

  -- the number that it has written beyond what it read
  abbrev pub weigh : TallyNotes → List ℤ → ℤ
  weigh x args = cond (adds x args && past_read x) (number_in (tally_args args)) (pos 0)

  abbrev pub weight : Task → ℤ
  weight t = weigh t.notes.tally t.args

  abbrev pub written : State → ℤ
  written s = sum_of weight s.tasks

  pub both_of : (x : TallyNotes) (args : List ℤ) → adds x args ≡ true → has_both x ≡ true
  both_of x args e = fst_true (has_both x) _ e

  pub weigh_off : (x : TallyNotes) (args : List ℤ) → adds x args ≡ false → weigh x args ≡ pos 0
  weigh_off x args e = ap (λ (b : Bool). cond (b && past_read x) (number_in (tally_args args)) (pos 0)) e

  pub weigh_early : (x : TallyNotes) (args : List ℤ) (k : ℕ) → (x.stage == k) ≡ true → (not (k == 1) && not (k == 2)) ≡ false → weigh x args ≡ pos 0
  weigh_early x args k e1 e2 = grind (arith, nat_tests)

  does_weigh : (o : Op) (x y : TallyNotes) (args : List ℤ) → is_tally_write o ≡ false → Does o x y → weigh y args ≡ weigh x args
  does_weigh o x y args e1 e2 = grind (arith, nat_tests)

  step_weighs : (who : ℕ) (o : Op) → is_tally_write o ≡ false → (s : State) (r : Listed Task) (m : Move) (q : Listed Task) → Step s r m q → May s who o m
      → weight q.fields ≡ weight r.fields
  step_weighs who o n s r _ _ (step.noted j f a i e) k = grind (arith, nat_tests, does_weigh o, some_same (sym k.1 ∙ e))
  step_weighs who o n s r _ _ _ k = refl

  pub written_move : (v : ℤ) (who : ℕ) (o : Op) → is_tally_write o ≡ false → (s : State) (x : Move) → May s who o x → written s ≡ v → written (apply x s) ≡ v
  written_move v who o n s x k e = sum_steps weight s x s.tasks _ (λ t m. refl) (λ r q y. step_weighs who o n s r x q y k) (tasks_go s x) ∙ e

  -- What holds of the arguments of each task that adds to the cell

  abbrev pub Each : (List ℤ → Type 0) → Task → Type 0
  Each R t = adds t.notes.tally t.args ≡ true → R t.args

  pub each_kept : (R : List ℤ → Type 0) (who : ℕ) (o : Op) → is_tally_lock o ≡ false → IsKept (Each R) who o
  each_kept R who o e1 = grind (arith, nat_tests)

  -- What a tally read that hasn't written yet

  abbrev pub HasRead : ℤ → Task → Type 0
  HasRead w t = adds t.notes.tally t.args ≡ true → (t.notes.tally.stage == 2) ≡ true → is_unended t ≡ true → t.notes.tally.kept ≡ w

  pub read_kept : (w : ℤ) (who : ℕ) (o : Op) → is_tally_read o ≡ false → is_tally_write o ≡ false → IsKept (HasRead w) who o
  read_kept w who o e1 e2 = grind (arith, nat_tests)

  -- How it ends: completed exactly where it has written

  abbrev pub EndsRight : Task → Type 0
  EndsRight t = is_unended t ≡ false → adds t.notes.tally t.args ≡ true → past_read t.notes.tally ≡ is_completed t.state

  -- a task that an op other than its `tally_end` ends adds nothing
  adds_nothing : (n : ℕ) (ms : List (Listed Mutex)) (ss : List (Listed Segment)) (who h : ℕ) (o : Op) (t : Task) → is_tally_end h o ≡ false → Tied n ms ss t
      → MayEnd who t → EndsTally h o t → adds t.notes.tally t.args ≡ true → ⊥
  adds_nothing n ms ss who h o t e1 e2 e3 e4 e5 = grind (arith, nat_tests)

  -- where some `tally_end` is no end of this list's tasks
  abbrev pub NoTallyEnd : Op → Type 0
  NoTallyEnd o = (h : ℕ) → is_tally_end h o ≡ false

  noted_right : (who : ℕ) (f : Notes → Notes) (t : Task) → Noted who f t → EndsRight t → EndsRight (with_notes f t)
  noted_right who f t e1 e2 = grind (arith, nat_tests)

  -- with the ties
  abbrev pub RightTied : (n : ℕ) (ms : List (Listed Mutex)) (ss : List (Listed Segment)) → Task → Type 0
  RightTied n ms ss t = Tied n ms ss t × EndsRight t

  pub right_kept : (n : ℕ) (ms : List (Listed Mutex)) (ss : List (Listed Segment)) (who : ℕ) (o : Op) → NoTallyEnd o → is_tally_lock o ≡ false
      → IsKept (RightTied n ms ss) who o
  right_kept n ms ss who o f l = let tied : IsKept (Tied n ms ss) who o = ties_kept n ms ss who o l in record {
    new = λ t k. (tied.new t k, λ u a. true_false refl u);
    takes = λ w k t u i. (tied.takes w k t u i.0, λ a b. true_false refl a);
    ends = λ e k t h m c d i. (tied.ends e k t h m c d i.0, λ u a. absurd (adds_nothing n ms ss who h o t (f h) i.0 m c a));
    notes = λ g t x d i. (tied.notes g t x d i.0, noted_right who g t x i.1);
    groups = λ d g t i. (tied.groups d g t i.0, i.1);
  }

  -- The cells of the segment

  abbrev pub cells_of : List (Listed Segment) → Option (List ℤ)
  cells_of l = option_map (λ (x : Segment). x.cells) (record_of l S)

  pub cells_move : (v : Option (List ℤ)) (who : ℕ) (o : Op) → makes_of_sort Segments o ≡ false → writes_cells o ≡ false → (s : State) (x : Move) → IsMade s o x
      → May s who o x → cells_of s.segments ≡ v → cells_of (apply x s).segments ≡ v
  cells_move v who o m n s (makes Segments j x) i k e = true_false i.by m
  cells_move v who o m n s (alters Segments j f) i k e = grind (arith, nat_tests, writes_cells o, alters Segments j f, true_false, record_view, with_fields)
  cells_move v who o m n s (removes Segments j) i k e = record_view (λ (x : Segment). x.cells) j S gone s.segments (λ r. refl) (λ r. refl) ∙ e
  cells_move v who o m n s _ i k e = e
