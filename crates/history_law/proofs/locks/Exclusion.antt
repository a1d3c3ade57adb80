-- Semaphores are held within their limits.
use Rattle.history_law.proofs.Names.{◌≡◌, ℕ, zero, suc, ◌+◌, ◌<◌, ◌≤◌, Bool, true, false, List, [], ◌∷◌, Option, Some, None, refl, subst, arith, ◌==◌, ◌-◌, ◌&&◌, nat_lt, length, slice_index, slice_set, nat_tests, length-set, Terms, Op, Reply, Handle, live_object, listed, Sem, new_sem, total, sem_busy, sem_taken, sem_given, State, NodeEntry, Legal, some_same, entries_that, says_ok, looks_at_sem, unlocks_sem, gets_sem, gives_sem, by_seat, SemsKeepTo, limit_in_op, Legal-prefix, Answers, Move, after_moves}
use Rattle.mtapi_values.specs.declared.handles.ObjectKind.TheVariants as kind
use Rattle.mtapi_machine.specs.declared.ops.Op.TheVariants as op
use Rattle.history_law.specs.Words.{makes_object}
use Rattle.history_law.proofs.Answered.{true_false}
use Rattle.history_law.proofs.lists.Handles.{OnceIn}
use Rattle.history_law.proofs.locks.Locks.{Lock, LockStep, FitIn, count_in, has_in, as_step, step_same, step_quiet, step_gets, step_gives, step_leaves, step_beside, New, new_lock, Kind, none_got, counts_with, counts_any}
use Rattle.mtapi_machine.specs.Answers as is
use Rattle.history_law.proofs.SeatMoves.{answer}
use Rattle.history_law.proofs.lists.Slots.{set_read, read_replicate}
use Rattle.history_law.proofs.Reuse.{fresh_unlisted, fresh_apart}

-- Numbers in a list

total_more : (l : List ℕ) (i : ℕ) → i < length l → total (slice_set l i (slice_index l i + 1)) ≡ total l + 1
total_more [] i k = absurd (omega arith)
total_more (n ∷ ns) zero k = omega arith
total_more (n ∷ ns) (suc i) k = let e : total (slice_set ns i (slice_index ns i + 1)) ≡ total ns + 1 = total_more ns i (omega arith) in omega arith

total_less : (l : List ℕ) (i : ℕ) → i < length l → 1 ≤ slice_index l i → total (slice_set l i (slice_index l i - 1)) + 1 ≡ total l
total_less [] i k p = absurd (omega arith)
total_less (n ∷ ns) zero k p = omega arith
total_less (n ∷ ns) (suc i) k p = let e : total (slice_set ns i (slice_index ns i - 1)) + 1 ≡ total ns = total_less ns i (omega arith) p in omega arith

total_none : (l : List ℕ) (i : ℕ) → total l ≡ 0 → slice_index l i ≡ 0
total_none [] i k = refl
total_none (n ∷ ns) zero k = omega arith
total_none (n ∷ ns) (suc i) k = total_none ns i (omega arith)

-- What is held of a semaphore, in all and by a seat: there is one mode

pub record Fit (top : ℕ) (x : Sem) : Type 0 where
  pub limit : x.limit ≡ top
  pub size : length x.holdings ≡ 25
  pub most : total x.holdings ≤ top

abbrev sem_lock : ℕ → Lock (Unit {0}) Sem
sem_lock top = record { Fit = Fit top; count = λ m x. total x.holdings; has = λ m w x. slice_index x.holdings w }

taken : (top who : ℕ) (x : Sem) → who < 25 → sem_busy x ≡ false → Fit top x
    → LockStep (sem_lock top) who (Some x) (Some (sem_taken who x)) (λ m. true) (λ m. false)
taken top who x e1 e2 e3 = grind (arith, nat_tests, length-set, set_read, total_more)

given_back : (top who : ℕ) (x : Sem) → who < 25 → (slice_index x.holdings who == 0) ≡ false → Fit top x
    → LockStep (sem_lock top) who (Some x) (Some (sem_given who x)) (λ m. false) (λ m. true)
given_back top who x e1 e2 e3 = grind (arith, nat_tests, length-set, set_read, total_less)

left : (top who : ℕ) (x : Sem) → nat_lt 0 (total x.holdings) ≡ false → LockStep (sem_lock top) who (Some x) None (λ m. false) (λ m. false)
left top who x n = grind (arith, nat_tests, total_none)

in_bounds : (top : ℕ) (o : Option Sem) → FitIn (sem_lock top) o → count_in (sem_lock top) tt o ≤ top
in_bounds top o e1 = grind (arith, nat_tests)

one_mode : (b : Bool) → ((b && true) && true) ≡ (b && true)
one_mode b = grind (arith, nat_tests)

-- The answers on semaphores

module _ (top h : ℕ) (s : State) (who : ℕ) (k : who < 25) (o : OnceIn s.sems) (l : 1
    ≤ listed h s.sems) (fit : FitIn (sem_lock top) (live_object s.sems h)) where
  sem_step : (p : Op) (r : Reply) (ms : List Move) → Answers s who p r ms
      → LockStep (sem_lock top) who (live_object s.sems h) (live_object (after_moves ms s).sems h) (λ m. looks_at_sem h p && says_ok r) (λ m. unlocks_sem h p
      && says_ok r)
  sem_step _ _ _ (is.refuses p x e) = step_quiet (sem_lock top) who _ (λ m. looks_at_sem h p) (λ m. unlocks_sem h p) fit
  sem_step _ _ _ (is.refuses_caller p x e) = step_quiet (sem_lock top) who _ (λ m. looks_at_sem h p) (λ m. unlocks_sem h p) fit
  sem_step _ _ _ (is.creates_sem id limit j e f) = step_beside (sem_lock top) who h j s.sems (new_sem id limit) (fresh_apart kind.Sem s h j l f) fit
  sem_step _ _ _ (is.deletes_sem x v c) = step_leaves (sem_lock top) who h x.0 s.sems v c.found fit o (left top who v c.unmet.0)
  sem_step _ _ _ (is.sem_early x v c b) = step_quiet (sem_lock top) who _ (λ m. x.0 == h) (λ m. false) fit
  sem_step _ _ _ (is.sem_late x) = step_quiet (sem_lock top) who _ (λ m. x.0 == h) (λ m. false) fit
  sem_step _ _ _ (is.takes_sem x last v c b) =
      as_step (sem_lock top) who _ _ _ _ _ _ (λ m. one_mode (x.0 == h)) (λ m. refl)
      (step_gets (sem_lock top) who h x.0 s.sems v c.found fit (λ m. true) (sem_taken who) (taken top who v k b))
  sem_step _ _ _ (is.gives_sem x v c) =
      as_step (sem_lock top) who _ _ _ _ _ _ (λ m. refl) (λ m. one_mode (x.0 == h))
      (step_gives (sem_lock top) who h x.0 s.sems v c.found fit (λ m. true) (sem_given who) (given_back top who v k c.unmet.0))
  sem_step _ _ _ _ = step_same (sem_lock top) who _ fit

sem_misses : (h : ℕ) (s : State) (who : ℕ) (o : Op) (r : Reply) (ms : List Move) → live_object s.sems h ≡ None → Answers s who o r ms
    → ((looks_at_sem h o && says_ok r) ≡ false) × ((unlocks_sem h o && says_ok r) ≡ false)
sem_misses h s who o r ms e1 e2 = grind (arith, nat_tests)

make_sem : (top h : ℕ) (s : State) (who : ℕ) (o : Op) (ms : List Move) → makes_object kind.Sem o ≡ true → Answers s who o (Handle h) ms
    → limit_in_op o ≡ Some top
    → New (sem_lock top) h (after_moves ms s).sems
make_sem top h s who _ _ e (is.creates_sem id limit j n f) i =
    new_lock (sem_lock top) h (new_sem id limit) s.sems (fresh_unlisted kind.Sem s h f) (record { limit = some_same i; size = refl; most = omega arith })
    (λ m. refl) (λ m w. read_replicate 25 w 0)
make_sem top h s who _ _ e _ i = true_false e refl

sem_limited : (o : Op) → makes_object kind.Sem o ≡ true → (n : ℕ) × (limit_in_op o ≡ Some n)
sem_limited (op.SemCreate id limit) e = (limit, refl)
sem_limited _ e = true_false e refl

-- The law

sem_kind : (h : ℕ) → Kind kind.Sem sem_lock (λ m. gets_sem h) (λ m. gives_sem h) h
sem_kind h = record {
  step = λ top s e i k o l fit. sem_step top h s e.who k o l fit e.op e.reply _ (answer s e i);
  make = λ top. make_sem top h;
  quiet = λ s e i n m. sem_misses h s e.who e.op e.reply _ n (answer s e i);
  limited = sem_limited;
}

pub sems_keep_to : (terms : Terms) (es : List NodeEntry) → Legal terms es → SemsKeepTo es
sems_keep_to terms es legal L R h cut = record {
  each = λ w. let k = counts_any kind.Sem sem_lock (λ m. gets_sem h) (λ m. gives_sem h) h (sem_kind h) terms L front in
      let e : entries_that (by_seat w (gives_sem h)) L + has_in (sem_lock k.0) tt w k.1 ≡ entries_that (by_seat w (gets_sem h)) L = k.2.each tt w in
      omega arith;
  unmade = λ n. none_got kind.Sem sem_lock (λ m. gets_sem h) (λ m. gives_sem h) h (sem_kind h) terms L front n tt;
  most = λ limit d. let k = counts_with kind.Sem sem_lock (λ m. gets_sem h) (λ m. gives_sem h) h (sem_kind h) terms L limit front d in
      let m = in_bounds limit k.0 k.1.fit in
      let e : entries_that (gives_sem h) L + count_in (sem_lock limit) tt k.0 ≡ entries_that (gets_sem h) L = k.1.all tt in omega arith;
}
  where
    front : Legal terms L
    front = Legal-prefix terms L R (subst (Legal terms) cut legal)
