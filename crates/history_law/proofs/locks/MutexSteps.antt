-- What each entry does to the mutexes, and so every list of entries: at most one seat holds one.
use Rattle.history_law.proofs.Names.{◌≡◌, ℕ, ◌≤◌, Bool, true, false, List, Option, Some, refl, sym, subst, arith, ◌==◌, ◌&&◌, ◌||◌, not, nat_lt, nat_tests, Op, Reply, live_object, Mutex, new_mutex, locked_by, unlocked, State, workers, Move, after_moves, not_false, says_ok, looks_at_mutex, unlocks_mutex, says_number, says_end, and-false, Answers}
use Rattle.mtapi_values.specs.declared.handles.ObjectKind.TheVariants as kind
use Rattle.mtapi_machine.specs.declared.ops.Op.TheVariants as op
use Rattle.history_law.proofs.Reuse.{fresh_unlisted}
use Rattle.history_law.proofs.lists.Handles.{OnceIn}
use Rattle.history_law.proofs.lists.Every.{every_at}
use Rattle.history_law.proofs.lists.AtHandles.{where_changed, where_retired, where_issued}
use Rattle.mtapi_machine.specs.Answers as is
use Rattle.history_law.proofs.tallies.Ties.{Owns, id_in, Tied, Ties, as_on}
use Rattle.history_law.proofs.locks.Mutexes.{Step, stays, made, taken, given as gave, gone as left, got, back}

-- The ops on mutexes, and the two of tallies

-- the op ends a tally
abbrev pub is_end_op : Op → Bool
is_end_op (op.TallyEnd t) = true
is_end_op _ = false

-- it is answered with an end
abbrev pub is_ending : Op → Reply → Bool
is_ending o r = says_end r && is_end_op o

deep : (key depth : ℕ) → ((key == 0) || nat_lt depth key) ≡ false → 1 ≤ depth
deep key depth e1 = grind (arith, nat_tests)

-- at an end a tally that hasn't failed has both
ending_has : (k : ℕ) (b : Bool) → (nat_lt k 2 || b) ≡ false → (k == 4) ≡ false → (not (k == 0) && not (k == 4)) ≡ true
ending_has k b e1 e2 = grind (arith, nat_tests)

module _ (n : ℕ) (s : State) (who j : ℕ) (w : workers s ≡ n) (once : OnceIn s.mutexes) (ties : Ties n s.mutexes s.segments s) where
  quiet : (b x y : Bool) (o : Option Mutex) → Step who n b o o (x && false) (y && false)
  quiet b x y o = subst (λ (z : Bool). Step who n b o o z (y && false)) (sym (and-false x))
      (subst (λ (z : Bool). Step who n b o o false z) (sym (and-false y)) (stays o))

  pub mutex_by : (o : Op) (r : Reply) (ms : List Move) → Answers s who o r ms
      → Step who n (is_ending o r) (live_object s.mutexes j) (live_object (after_moves ms s).mutexes j) (looks_at_mutex j o && says_number r) (unlocks_mutex j o
      && says_ok r)
  mutex_by _ _ _ (is.refuses o x e) = quiet _ (looks_at_mutex j o) (unlocks_mutex j o) _
  mutex_by _ _ _ (is.refuses_caller o x e) = quiet _ (looks_at_mutex j o) (unlocks_mutex j o) _
  mutex_by _ _ _ (is.lock_got t x y a b k z h) =
      where_changed (λ c o p. Step who n false o p false false) a j s.mutexes stays (locked_by who) h.mutex h.found_mutex
      (got h.mutex h.free (subst (λ (z : ℕ). nat_lt who z ≡ true) w k.inside))
  mutex_by _ _ _ (is.tally_ends t x y z k d f g h) =
      let owned : Owns who (id_in x) (Some z) =
      subst (Owns who (id_in x)) h ((every_at (Tied n s.mutexes s.segments) s.tasks t.0 x ties k.found).tied who (as_on who x.state k.runs)
      (ending_has x.notes.tally.stage _ d f)).1 in
      where_changed (λ c o p. Step who n true o p false false) x.notes.tally.mutex j s.mutexes stays unlocked z h
      (back z refl owned.0 owned.1 (subst (λ (u : ℕ). nat_lt who u ≡ true) w k.inside))
  mutex_by _ _ _ (is.creates_mutex id recursive h e f) =
      where_issued (λ c o p. Step who n false o p false false) h j s.mutexes stays (new_mutex id recursive) (fresh_unlisted kind.Mutex s h f)
      (made id recursive)
  mutex_by _ _ _ (is.deletes_mutex h x k) = where_retired (λ c o p. Step who n false o p false false) h.0 j s.mutexes stays x once k.found (left x k.unmet.0)
  mutex_by _ _ _ (is.mutex_early h x k b) = quiet false (h.0 == j) false _
  mutex_by _ _ _ (is.mutex_late h) = quiet false (h.0 == j) false _
  mutex_by _ _ _ (is.locks_mutex h last x k b) =
      where_changed (λ c o p. Step who n false o p (c && true) false) h.0 j s.mutexes stays (locked_by who) x k.found
      (taken x b (subst (λ (z : ℕ). nat_lt who z ≡ false) w k.outside))
  mutex_by _ _ _ (is.unlocks_mutex h key x k) =
      where_changed (λ c o p. Step who n false o p false (c && true)) h.0 j s.mutexes stays unlocked x k.found
      (gave x (not_false _ k.unmet.0) (deep key x.depth k.unmet.1.0) (subst (λ (z : ℕ). nat_lt who z ≡ false) w k.outside))
  mutex_by _ _ _ _ = stays _
