-- What each entry does to a reader-writer lock, and so every list of entries.
use Rattle.history_law.proofs.Names.{nat_tests, ◌≡◌, ℕ, ◌+◌, ◌<◌, ◌≤◌, Bool, true, false, List, Option, Some, None, ◌⊎◌, refl, subst, arith, ◌&&◌, ◌==◌, Terms, Op, Reply, Handle, live_object, listed, Rwl, new_rwl, rwl_taken, rwl_given, State, NodeEntry, Legal, not_false, some_same, entries_that, says_ok, by_seat, looks_at_rwl, unlocks_rwl, gets_rwl, gives_rwl, OneWriter, ReadersAlone, RwlsKeepTo, limit_in_op, Legal-prefix, Answers, Move, after_moves, and-false}
use Rattle.mtapi_values.specs.declared.handles.ObjectKind.TheVariants as kind
use Rattle.mtapi_machine.specs.declared.ops.Op.TheVariants as op
use Rattle.history_law.specs.Words.{makes_object}
use Rattle.history_law.proofs.Answered.{true_false}
use Rattle.history_law.proofs.lists.Counts.{one_if}
use Rattle.history_law.proofs.lists.Handles.{OnceIn}
use Rattle.history_law.proofs.locks.Locks.{LockStep, FitIn, count_in, has_in, step_same, step_quiet, step_gets, step_gives, step_leaves, step_beside, missed, New, new_lock, Counts, Kind, none_got, counts_with, counts_any}
use Rattle.mtapi_machine.specs.Answers as is
use Rattle.history_law.proofs.SeatMoves.{answer}
use Rattle.history_law.proofs.locks.Rwls.{Fit, rwl_lock, in_mode, get_step, give_step, leave_step, new_fit, new_free}
use Rattle.history_law.proofs.Reuse.{fresh_unlisted, fresh_apart}

-- The answers on reader-writer locks

module _ (top h : ℕ) (s : State) (who : ℕ) (k : who < 25) (o : OnceIn s.rwls) (l : 1
    ≤ listed h s.rwls) (fit : FitIn (rwl_lock top) (live_object s.rwls h)) where
  rwl_step : (p : Op) (r : Reply) (ms : List Move) → Answers s who p r ms
      → LockStep (rwl_lock top) who (live_object s.rwls h) (live_object (after_moves ms s).rwls h) (λ m. looks_at_rwl h m p
      && says_ok r) (λ m. unlocks_rwl h m p && says_ok r)
  rwl_step _ _ _ (is.refuses p x e) = step_quiet (rwl_lock top) who _ (λ m. looks_at_rwl h m p) (λ m. unlocks_rwl h m p) fit
  rwl_step _ _ _ (is.refuses_caller p x e) = step_quiet (rwl_lock top) who _ (λ m. looks_at_rwl h m p) (λ m. unlocks_rwl h m p) fit
  rwl_step _ _ _ (is.creates_rwl id limit j e f) = step_beside (rwl_lock top) who h j s.rwls (new_rwl id limit) (fresh_apart kind.Rwl s h j l f) fit
  rwl_step _ _ _ (is.deletes_rwl x v c) = step_leaves (rwl_lock top) who h x.0 s.rwls v c.found fit o (leave_step top who v c.unmet.0)
  rwl_step _ _ _ (is.rwl_early x writer v c b) = step_quiet (rwl_lock top) who _ (λ m. (x.0 == h) && in_mode m writer) (λ m. false) fit
  rwl_step _ _ _ (is.rwl_late x writer) = step_quiet (rwl_lock top) who _ (λ m. (x.0 == h) && in_mode m writer) (λ m. false) fit
  rwl_step _ _ _ (is.takes_rwl x writer last v c b) =
      step_gets (rwl_lock top) who h x.0 s.rwls v c.found fit (λ m. in_mode m writer) (rwl_taken who writer) (λ t. get_step top who writer v t k c.unmet.0 b)
  rwl_step _ _ _ (is.gives_rwl x writer v c) =
      step_gives (rwl_lock top) who h x.0 s.rwls v c.found fit (λ m. in_mode m writer) (rwl_given who writer)
      (λ t. give_step top who writer v t (not_false _ c.unmet.0))
  rwl_step _ _ _ _ = step_same (rwl_lock top) who _ fit

rwl_misses : (h : ℕ) (m : Bool) (s : State) (who : ℕ) (o : Op) (r : Reply) (ms : List Move) → live_object s.rwls h ≡ None → Answers s who o r ms
    → ((looks_at_rwl h m o && says_ok r) ≡ false) × ((unlocks_rwl h m o && says_ok r) ≡ false)
rwl_misses h m s who o r ms n a = grind (arith, nat_tests, missed, and-false)

make_rwl : (top h : ℕ) (s : State) (who : ℕ) (o : Op) (ms : List Move) → makes_object kind.Rwl o ≡ true → Answers s who o (Handle h) ms
    → limit_in_op o ≡ Some top
    → New (rwl_lock top) h (after_moves ms s).rwls
make_rwl top h s who _ _ e (is.creates_rwl id limit j n f) i =
    new_lock (rwl_lock top) h (new_rwl id limit) s.rwls (fresh_unlisted kind.Rwl s h f)
    (subst (λ (n : ℕ). Fit n (new_rwl id limit)) (some_same i) (new_fit id limit)) (λ m. (new_free m 0 id limit).0) (λ m w. (new_free m w id limit).1)
make_rwl top h s who _ _ e _ i = true_false e refl

rwl_limited : (o : Op) → makes_object kind.Rwl o ≡ true → (n : ℕ) × (limit_in_op o ≡ Some n)
rwl_limited (op.RwlCreate id limit) e = (limit, refl)
rwl_limited _ e = true_false e refl

-- The law

rwl_kind : (h : ℕ) → Kind kind.Rwl rwl_lock (gets_rwl h) (gives_rwl h) h
rwl_kind h = record {
  step = λ top s e i k o l fit. rwl_step top h s e.who k o l fit e.op e.reply _ (answer s e i);
  make = λ top. make_rwl top h;
  quiet = λ s e i n m. rwl_misses h m s e.who e.op e.reply _ n (answer s e i);
  limited = rwl_limited;
}

at_most_one : (top : ℕ) (m : Bool) (w : ℕ) (o : Option Rwl) → has_in (rwl_lock top) m w o ≤ 1
at_most_one top m w o = grind (arith, nat_tests)

-- one writer or readers alone, by what the lock has at the end
by_lock : (top h : ℕ) (B : List NodeEntry) (o : Option Rwl) → FitIn (rwl_lock top) o
    → ((m : Bool) → entries_that (gives_rwl h m) B + count_in (rwl_lock top) m o ≡ entries_that (gets_rwl h m) B) → OneWriter B h ⊎ ReadersAlone B h top
by_lock top h B o e1 e2 = grind (arith, nat_tests, nat_tests, one_if, count_in, rwl_lock, entries_that, gives_rwl)

pub rwls_keep_to : (terms : Terms) (es : List NodeEntry) → Legal terms es → RwlsKeepTo es
rwls_keep_to terms es legal L R h cut = record {
  each = λ m w. let k = any in
      let e : entries_that (by_seat w (gives_rwl h m)) L + has_in (rwl_lock k.0) m w k.1 ≡ entries_that (by_seat w (gets_rwl h m)) L = k.2.each m w in
      omega arith;
  once = λ m w. let k = any in
      let n = at_most_one k.0 m w k.1 in
      let e : entries_that (by_seat w (gives_rwl h m)) L + has_in (rwl_lock k.0) m w k.1 ≡ entries_that (by_seat w (gets_rwl h m)) L = k.2.each m w in
      omega arith;
  unmade = λ n m. none_got kind.Rwl rwl_lock (gets_rwl h) (gives_rwl h) h (rwl_kind h) terms L front n m;
  held = λ limit d. let k = counts_with kind.Rwl rwl_lock (gets_rwl h) (gives_rwl h) h (rwl_kind h) terms L limit front d in
      by_lock limit h L k.0 k.1.fit (λ m. k.1.all m);
}
  where
    front : Legal terms L
    front = Legal-prefix terms L R (subst (Legal terms) cut legal)

    any : (top : ℕ) × (p : Option Rwl) × Counts (rwl_lock top) (gets_rwl h) (gives_rwl h) L p
    any = counts_any kind.Rwl rwl_lock (gets_rwl h) (gives_rwl h) h (rwl_kind h) terms L front
