-- No mutex is deeper than 64, in any state of a legal history.
use Rattle.workload_runners.proofs.Names.{[], ◌&&◌, ◌==◌, ◌||◌, ◌∙◌, ◌∷◌, ◌≡◌, ◌≤◌, Bool, Every, LegalFrom, List, Move, NodeEntry, Op, Reply, Some, State, after_from, after_moves, arith, change, every_change, every_issue, false, gone, is_seat, is_some, live_object, locked_by, mutex_busy, nat_tests, new_mutex, next, not, refl, subst, sym, true_false, unlocked, with_fields, ℕ}
use Rattle.mtapi_machine.specs.Answers.{Answers}
use Rattle.mtapi_machine.specs.Answers as is
use Rattle.mtapi_machine.proofs.Answered.{answered}
use Rattle.mtapi_objects.specs.Mutexes.{Mutex}

-- at most 64 deep, and 0 where nobody owns it
pub record Shallow (m : Mutex) : Type 0 where
  pub deep : m.depth ≤ 64
  pub free : is_some m.owner ≡ false → m.depth ≡ 0

some_same : {A : Type 0} {x y : A} → Some x ≡ Some y → x ≡ y
some_same e = cc

new_shallow : (id : ℕ) (recursive : Bool) → Shallow (new_mutex id recursive)
new_shallow id recursive = record { deep = omega arith; free = λ e. refl }

-- a seat that may lock it owns it already, less than 64 deep, or nobody does
locked_shallow : (who : ℕ) (m : Mutex) → (is_seat who m.owner && (not m.recursive || (m.depth == 64))) ≡ false → mutex_busy who m ≡ false → Shallow m
    → Shallow (locked_by who m)
locked_shallow who m e1 e2 e3 = grind (arith, nat_tests)

free_locked : (who : ℕ) (m : Mutex) → is_some m.owner ≡ false → Shallow m → Shallow (locked_by who m)
free_locked who m e s = let z : m.depth ≡ 0 = s.free e in record { deep = omega arith; free = λ i. true_false refl i }

unlocked_shallow : (m : Mutex) → Shallow m → Shallow (unlocked m)
unlocked_shallow m e1 = grind (arith, nat_tests)

module _ (s : State) (who : ℕ) (v : Every Shallow s.mutexes) where
  -- the mutex of a handle changes
  hit : (h : ℕ) (f : Mutex → Mutex) (m : Mutex) → live_object s.mutexes h ≡ Some m → (Shallow m → Shallow (f m))
      → Every Shallow (change h (with_fields f) s.mutexes)
  hit h f m e k = every_change Shallow h (with_fields f) s.mutexes
      (λ r i p. subst (λ (z : Mutex). Shallow (f z)) (some_same (sym e ∙ i)) (k (subst Shallow (sym (some_same (sym e ∙ i))) p))) v

  by : (o : Op) (r : Reply) (ms : List Move) → Answers s who o r ms → Every Shallow (after_moves ms s).mutexes
  by _ _ _ (is.creates_mutex id recursive h n f) = every_issue Shallow h (new_mutex id recursive) s.mutexes (new_shallow id recursive) v
  by _ _ _ (is.locks_mutex h last x k b) = hit h.0 (locked_by who) x k.found (locked_shallow who x k.unmet.0 b)
  by _ _ _ (is.unlocks_mutex h key x k) = hit h.0 unlocked x k.found (unlocked_shallow x)
  by _ _ _ (is.deletes_mutex h x k) = every_change Shallow h.0 gone s.mutexes (λ r e i. i) v
  by _ _ _ (is.lock_got t x y a b k z h) = hit a (locked_by who) h.mutex h.found_mutex (free_locked who h.mutex h.free)
  by _ _ _ (is.tally_ends t x y z k e d f h) = hit x.notes.tally.mutex unlocked z h (unlocked_shallow z)
  by _ _ _ _ = v

pub shallow_after : (s : State) (L : List NodeEntry) → LegalFrom s L → Every Shallow s.mutexes → Every Shallow (after_from s L).mutexes
unfolding LegalFrom after_from
shallow_after s [] l v = v
shallow_after s (e ∷ es) l v = shallow_after (next s e) es l.1 (by s e.who v e.op e.reply _ (answered s e.who e.op e.reply l.0.allowed))
