-- What an entry does to the segment of one handle, and what that leaves of the seats that are attached.
use Rattle.history_law.proofs.Names.{nat_tests, ◌≡◌, ℕ, zero, suc, ◌<◌, Bool, true, false, cond, List, [], ◌∷◌, Option, Some, None, ◌⊎◌, inl, inr, refl, sym, ◌∙◌, ap, subst, arith, ◌==◌, nat_lt, ℤ, eqb-true, marked, any_mark, Op, Reply, live_object, Segment, new_segment, with_attached, with_cell, State, workers, Move, after_moves, IsAttached, cond_both, lt-ltb, length, Answers, change, with_fields, length-set}
use Rattle.history_law.proofs.Others.{set_keeps}
use Rattle.history_law.proofs.lists.Slots.{set_apart}
use Rattle.mtapi_values.specs.declared.handles.ObjectKind.TheVariants as kind
use Rattle.mtapi_machine.specs.Answers as is
use Rattle.history_law.proofs.Reuse.{fresh_unlisted}
use Rattle.history_law.proofs.lists.Handles.{OnceIn}
use Rattle.history_law.proofs.Answered.{true_false, whether}
use Rattle.history_law.proofs.lists.AtHandles.{where_changed, where_retired, where_issued}
use Rattle.history_law.proofs.locks.MutexSteps.{is_ending}

-- Marks

some_mark : (l : List Bool) (j : ℕ) → marked j l ≡ true → any_mark l ≡ true
some_mark [] j e = true_false e refl
some_mark (x ∷ xs) zero e = ap (λ (b : Bool). cond b true (any_mark xs)) e
some_mark (x ∷ xs) (suc j) e = cond_both x true (any_mark xs) (λ q. q ≡ true) (λ e. refl) (λ c. some_mark xs j e)

-- One segment

-- by an entry of this seat, of a node with n workers: a caller attaches or detaches itself, a number is written, a tally gets the
-- segment, or gives it back, which only an end of a tally may do (`ending`)
pub data Step (who n : ℕ) (ending : Bool) : Option Segment → Option Segment → Type 0 where
  stays : (o : Option Segment) → Step who n ending o o
  made : (id cells : ℕ) → Step who n ending None (Some (new_segment id cells))
  turned : (b : Bool) (y : Segment) → nat_lt who n ≡ false → Step who n ending (Some y) (Some (with_attached who b y))
  written : (cell : ℕ) (value : ℤ) (y : Segment) → Step who n ending (Some y) (Some (with_cell cell value y))
  gone : (y : Segment) → any_mark y.attached ≡ false → Step who n ending (Some y) None
  got : (y : Segment) → Step who n ending (Some y) (Some (with_attached who true y))
  back : (y : Segment) → ending ≡ true → Step who n ending (Some y) (Some (with_attached who false y))

-- there is a mark for each of 25 seats
abbrev pub HasMarks : Option Segment → Type 0
HasMarks None = Unit {0}
HasMarks (Some y) = length y.attached ≡ 25

pub marks_step : (who n : ℕ) (b : Bool) (o p : Option Segment) → Step who n b o p → HasMarks o → HasMarks p
marks_step who n b o p e1 e2 = grind (arith, nat_tests, length-set {A = Bool})

-- a worker that is attached goes on being so, unless it ends its tally
pub attached_step : (who n w : ℕ) (b : Bool) (o p : Option Segment) → Step who n b o p → w < n → IsAttached w o → IsAttached w p ⊎ ((b ≡ true) × (w ≡ who))
attached_step who n w b _ _ (stays o) l i = inl i
attached_step who n w b _ _ (made id cells) l i = absurd i
attached_step who n w b _ _ (turned c y k) l i = grind (arith, nat_tests, true_false, lt-ltb, nat_lt, eqb-true, set_apart {A = Bool})
attached_step who n w b _ _ (written cell value y) l i = inl i
attached_step who n w b _ _ (gone y f) l i = absurd (true_false (some_mark y.attached w i) f)
attached_step who n w b _ _ (got y) l i = inl (set_keeps y.attached w who i)
attached_step who n w b _ _ (back y f) l i =
    whether (who == w) (λ a. inr (f, sym (eqb-true who w a))) (λ a. inl (set_apart y.attached who w false false a ∙ i))

-- The answers that change segments

module _ (n : ℕ) (s : State) (who j : ℕ) (w : workers s ≡ n) (o : OnceIn s.segments) where
  -- the segment of a handle changes; where it is another one, this one stays
  hit : (b : Bool) (h : ℕ) (f : Segment → Segment) (y : Segment) → live_object s.segments h ≡ Some y → Step who n b (Some y) (Some (f y))
      → Step who n b (live_object s.segments j) (live_object (change h (with_fields f) s.segments) j)
  hit b h f y e k = where_changed (λ c. Step who n b) h j s.segments stays f y e k

  pub segment_by : (o : Op) (r : Reply) (ms : List Move) → Answers s who o r ms
      → Step who n (is_ending o r) (live_object s.segments j) (live_object (after_moves ms s).segments j)
  segment_by _ _ _ (is.lock_got t x y a b k z h) = hit false b (with_attached who true) h.segment h.found_segment (got h.segment)
  segment_by _ _ _ (is.tally_writes t value x y k z e) = hit false x.notes.tally.segment (with_cell _ value) y e (written _ value y)
  segment_by _ _ _ (is.tally_ends t x y z k e d f g) = hit true x.notes.tally.segment (with_attached who false) y f (back y refl)
  segment_by _ _ _ (is.creates_segment id cells h e f) =
      where_issued (λ c. Step who n false) h j s.segments stays (new_segment id cells) (fresh_unlisted kind.Shmem s h f) (made id cells)
  segment_by _ _ _ (is.deletes_segment h x k) = where_retired (λ c. Step who n false) h.0 j s.segments stays x o k.found (gone x k.unmet.0)
  segment_by _ _ _ (is.attaches h x k) = hit false h.0 (with_attached who true) x k.found (turned true x (subst (λ (z : ℕ). nat_lt who z ≡ false) w k.outside))
  segment_by _ _ _ (is.detaches h x k) = hit false h.0 (with_attached who false) x k.found
      (turned false x (subst (λ (z : ℕ). nat_lt who z ≡ false) w k.outside))
  segment_by _ _ _ (is.writes_cell h cell value x k) = hit false h.0 (with_cell cell value) x k.found (written cell value x)
  segment_by _ _ _ _ = stays _
