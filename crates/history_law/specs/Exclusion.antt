-- Mutexes, semaphores and reader-writer locks: how often looks got them, less how often they were given back.
use Rattle.std.specs.Prelude.{◌≡◌, ℕ, ◌+◌, ◌≤◌, ◌<◌, Bool, true, false, not, ◌==◌, ◌&&◌, List, [], ◌∷◌, ◌++◌, Option, Some, None, ◌⊎◌, if◌then◌else◌}
use Rattle.history_law.specs.Names.{ObjectKind, TaskHandle, entry, live_object, Task, Op, TallyLock, TallyEnd, MutexLook, MutexUnlock, SemCreate, SemLook, SemUnlock, RwlCreate, RwlLook, RwlUnlock, Reply, Number, Terms, State, NodeEntry, after}
use Rattle.mtapi_values.specs.declared.handles.ObjectKind.TheVariants as kind
use Rattle.mtapi_machine.specs.declared.replies.Reply.TheVariants.{Ended, Asked}
use Rattle.history_law.specs.Words.{some_entry, entries_that, issues}
use Rattle.history_law.specs.Seats.{says_ok}

-- the entry is by this seat, and passes
abbrev pub by_seat : ℕ → (NodeEntry → Bool) → NodeEntry → Bool
by_seat w p e = (e.who == w) && p e

-- Mutexes

-- the op is a look at the mutex of this handle; it gives that mutex back
abbrev pub looks_at_mutex : ℕ → Op → Bool
looks_at_mutex h (MutexLook x last) = x.0 == h
looks_at_mutex h _ = false

abbrev pub unlocks_mutex : ℕ → Op → Bool
unlocks_mutex h (MutexUnlock x key) = x.0 == h
unlocks_mutex h _ = false

-- the reply is a number
abbrev pub says_number : Reply → Bool
says_number (Number z) = true
says_number _ = false

-- a look got the mutex; it was given back
abbrev pub gets_mutex : ℕ → NodeEntry → Bool
gets_mutex h e = looks_at_mutex h e.op && says_number e.reply

abbrev pub gives_mutex : ℕ → NodeEntry → Bool
gives_mutex h e = unlocks_mutex h e.op && says_ok e.reply

-- by its looks, the seat holds the mutex after these entries: it got it more often than it gave it back
abbrev pub HoldsByLooks : List NodeEntry → ℕ → ℕ → Type 0
HoldsByLooks L h w = entries_that (by_seat w (gives_mutex h)) L < entries_that (by_seat w (gets_mutex h)) L

-- the reply is an end
abbrev pub says_end : Reply → Bool
says_end (Ended e) = true
says_end _ = false

-- the op is the `tally_end` of this task
abbrev pub is_tally_end : ℕ → Op → Bool
is_tally_end t (TallyEnd x) = x.0 == t
is_tally_end t _ = false

-- the entry ends the tally of this handle: it is a `tally_end` of it, which was answered with its end
abbrev pub ends_tally : ℕ → NodeEntry → Bool
ends_tally t e = is_tally_end t e.op && says_end e.reply

-- the record of this live task names this mutex as the one that its tally has
abbrev pub HasMutex : State → ℕ → ℕ → Type 0
HasMutex s t h = (x : Task) × (live_object s.tasks t ≡ Some x) × (x.notes.tally.mutex ≡ h)

-- the entry with which a worker's tally got its mutex and its segment
abbrev pub tally_got : ℕ → TaskHandle → NodeEntry
tally_got w t = entry w (TallyLock t) (Asked true)

-- by a tally, the seat holds the mutex after these entries: it got it by a `tally_lock`, and that tally hasn't ended since
pub record HoldsByTally (terms : Terms) (L : List NodeEntry) (h w : ℕ) : Type 0 where
  pub task : TaskHandle
  pub before : List NodeEntry
  pub since : List NodeEntry
  pub cut : L ≡ before ++ tally_got w task ∷ since
  pub got : HasMutex (after terms (before ++ tally_got w task ∷ [])) task.0 h
  pub unended : some_entry (ends_tally task.0) since ≡ false

-- the seat holds the mutex after these entries
abbrev pub HoldsMutex : Terms → List NodeEntry → ℕ → ℕ → Type 0
HoldsMutex terms L h w = HoldsByLooks L h w ⊎ HoldsByTally terms L h w

-- after these entries: no seat gave the mutex back more often than its looks got it, and at most one seat holds it
pub record MutexKeepsTo (terms : Terms) (L : List NodeEntry) (h : ℕ) : Type 0 where
  pub each : (w : ℕ) → entries_that (by_seat w (gives_mutex h)) L ≤ entries_that (by_seat w (gets_mutex h)) L
  pub one : (v w : ℕ) → HoldsMutex terms L h v → HoldsMutex terms L h w → v ≡ w

-- so it is of every handle after every prefix
abbrev pub MutexesKeepTo : Terms → List NodeEntry → Type 0
MutexesKeepTo terms es = (L R : List NodeEntry) (h : ℕ) → es ≡ L ++ R → MutexKeepsTo terms L h

-- Semaphores

-- the op is a look at the semaphore of this handle; it gives that semaphore back
abbrev pub looks_at_sem : ℕ → Op → Bool
looks_at_sem h (SemLook x last) = x.0 == h
looks_at_sem h _ = false

abbrev pub unlocks_sem : ℕ → Op → Bool
unlocks_sem h (SemUnlock x) = x.0 == h
unlocks_sem h _ = false

-- a look got the semaphore; it was given back
abbrev pub gets_sem : ℕ → NodeEntry → Bool
gets_sem h e = looks_at_sem h e.op && says_ok e.reply

abbrev pub gives_sem : ℕ → NodeEntry → Bool
gives_sem h e = unlocks_sem h e.op && says_ok e.reply

-- the limit with which an op makes a semaphore or a reader-writer lock
abbrev pub limit_in_op : Op → Option ℕ
limit_in_op (SemCreate id limit) = Some limit
limit_in_op (RwlCreate id limit) = Some limit
limit_in_op _ = None

-- one of these entries makes the object of this kind and handle, with this limit
pub record MadeWith (k : ObjectKind) (L : List NodeEntry) (h limit : ℕ) : Type 0 where
  pub before : List NodeEntry
  pub by : NodeEntry
  pub behind : List NodeEntry
  pub cut : L ≡ before ++ by ∷ behind
  pub issued : issues k h by ≡ true
  pub limited : limit_in_op by.op ≡ Some limit

-- after these entries: no seat gave the semaphore back more often than its looks got it; where none of them made it no look got it, and
-- those that hold it are at most as many as the limit with which it was made
pub record SemKeepsTo (L : List NodeEntry) (h : ℕ) : Type 0 where
  pub each : (w : ℕ) → entries_that (by_seat w (gives_sem h)) L ≤ entries_that (by_seat w (gets_sem h)) L
  pub unmade : some_entry (issues kind.Sem h) L ≡ false → entries_that (gets_sem h) L ≡ 0
  pub most : (limit : ℕ) → MadeWith kind.Sem L h limit → entries_that (gets_sem h) L ≤ limit + entries_that (gives_sem h) L

-- so it is of every handle after every prefix
abbrev pub SemsKeepTo : List NodeEntry → Type 0
SemsKeepTo es = (L R : List NodeEntry) (h : ℕ) → es ≡ L ++ R → SemKeepsTo L h

-- Reader-writer locks: where `writer` is true it is asked of writers, else of readers

-- the op is a look at the lock of this handle in this mode; it gives that lock back
abbrev pub looks_at_rwl : ℕ → Bool → Op → Bool
looks_at_rwl h writer (RwlLook x mode last) = (x.0 == h) && (if writer then mode else not mode)
looks_at_rwl h writer _ = false

abbrev pub unlocks_rwl : ℕ → Bool → Op → Bool
unlocks_rwl h writer (RwlUnlock x mode) = (x.0 == h) && (if writer then mode else not mode)
unlocks_rwl h writer _ = false

-- a look got the lock in this mode; it was given back
abbrev pub gets_rwl : ℕ → Bool → NodeEntry → Bool
gets_rwl h writer e = looks_at_rwl h writer e.op && says_ok e.reply

abbrev pub gives_rwl : ℕ → Bool → NodeEntry → Bool
gives_rwl h writer e = unlocks_rwl h writer e.op && says_ok e.reply

-- one writer holds the lock after these entries, and no reader
pub record OneWriter (L : List NodeEntry) (h : ℕ) : Type 0 where
  pub writer : entries_that (gets_rwl h true) L ≡ entries_that (gives_rwl h true) L + 1
  pub readers : entries_that (gets_rwl h false) L ≡ entries_that (gives_rwl h false) L

-- no writer holds it, and at most so many readers
pub record ReadersAlone (L : List NodeEntry) (h limit : ℕ) : Type 0 where
  pub writer : entries_that (gets_rwl h true) L ≡ entries_that (gives_rwl h true) L
  pub readers : entries_that (gets_rwl h false) L ≤ limit + entries_that (gives_rwl h false) L

-- after these entries: in each mode no seat gave the lock back more often than its looks got it, nor holds it more than once; where none of
-- them made it no look got it, and it has one writer or readers alone
pub record RwlKeepsTo (L : List NodeEntry) (h : ℕ) : Type 0 where
  pub each : (writer : Bool) (w : ℕ) → entries_that (by_seat w (gives_rwl h writer)) L ≤ entries_that (by_seat w (gets_rwl h writer)) L
  pub once : (writer : Bool) (w : ℕ) → entries_that (by_seat w (gets_rwl h writer)) L ≤ entries_that (by_seat w (gives_rwl h writer)) L + 1
  pub unmade : some_entry (issues kind.Rwl h) L ≡ false → (writer : Bool) → entries_that (gets_rwl h writer) L ≡ 0
  pub held : (limit : ℕ) → MadeWith kind.Rwl L h limit → OneWriter L h ⊎ ReadersAlone L h limit

-- so it is of every handle after every prefix
abbrev pub RwlsKeepTo : List NodeEntry → Type 0
RwlsKeepTo es = (L R : List NodeEntry) (h : ℕ) → es ≡ L ++ R → RwlKeepsTo L h
