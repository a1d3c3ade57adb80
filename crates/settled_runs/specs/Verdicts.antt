-- What a look at a whole group tells in a quiet history: it speaks of the tasks that were put into the group since the last one that told.
use Rattle.std.specs.Prelude.{◌≡◌, ◌⊎◌, ℕ, ◌==◌, ◌&&◌, not, Bool, true, false, List, [], ◌∷◌, ◌++◌, Option, Some, None, option_and_then, if◌then◌else◌}
use Rattle.std.specs.List.{list_any}
use Rattle.settled_runs.specs.Names.{holds, TaskEnd, GroupHandle, MtapiStatus, fault_of, Op, TaskStart, TaskEnqueue, GroupCreate, AllLook, Reply, Handle, Pending, Terms, State, verdict, NodeEntry, Legal, after, end_at, entry, closes, AreQuiet}
use Rattle.mtapi_machine.specs.Kept.{is_pending}

-- the op asks for a task of this group
abbrev pub starts_member : ℕ → Op → Bool
starts_member g (TaskStart job args priority cores detached group) = holds (λ x. x.0 == g) group
starts_member g (TaskEnqueue q args cores detached group) = holds (λ x. x.0 == g) group
starts_member g _ = false

-- the op looks at the whole group
abbrev pub looks_at_all : ℕ → Op → Bool
looks_at_all g (AllLook other last) = other.0 == g
looks_at_all g _ = false

-- a new task is put before those that were put into the group
abbrev pub with_new : Reply → List ℕ → List ℕ
with_new (Handle h) hs = h ∷ hs
with_new _ hs = hs

-- the tasks that were put into the group since the last look at the whole of it that told a verdict, behind an entry, and behind entries
abbrev pub members_behind : ℕ → List ℕ → NodeEntry → List ℕ
members_behind g hs e =
    if looks_at_all g e.op then (if is_pending e.reply then hs else []) else (if starts_member g e.op then with_new e.reply hs else hs)

unfoldable pub members_of : ℕ → List ℕ → List NodeEntry → List ℕ
members_of g hs [] = hs
members_of g hs (e ∷ es) = members_of g (members_behind g hs e) es

-- the status of the end of the task of this handle, where it has one that isn't completed
abbrev pub fault_at : State → ℕ → Option MtapiStatus
fault_at s h = option_and_then fault_of (end_at s.tasks h)

-- each of these tasks has ended, and the verdict is Ok where each has completed, and else the status of one of them
pub record IsGroupVerdict (s : State) (hs : List ℕ) (r : Reply) : Type 0 where
  pub fault : Option MtapiStatus
  pub is : r ≡ verdict fault
  pub ended : (h : ℕ) → list_any (λ x. x == h) hs ≡ true → (end : TaskEnd) × (end_at s.tasks h ≡ Some end)
  pub none : fault ≡ None → (h : ℕ) → list_any (λ x. x == h) hs ≡ true → fault_at s h ≡ None
  pub some : (c : MtapiStatus) → fault ≡ Some c → (h : ℕ) × (list_any (λ x. x == h) hs ≡ true) × (fault_at s h ≡ Some c)

-- the op is no last look at the whole group, and doesn't close the node
abbrev pub goes_on : ℕ → Op → Bool
goes_on g (AllLook other last) = not ((other.0 == g) && last)
goes_on g o = not (closes o)

abbrev pub GoOn : ℕ → List NodeEntry → Type 0
GoOn g [] = Unit {0}
GoOn g (e ∷ es) = (goes_on g e.op ≡ true) × GoOn g es

-- a look at the whole of a group, which was made behind these entries and before those, and which isn't the last one, tells such a verdict
-- or that a member hasn't ended
abbrev pub QuietVerdicts : Type 0
QuietVerdicts =
    (terms : Terms) (before behind : List NodeEntry) (maker who : ℕ) (g : GroupHandle) (r : Reply)
    → Legal terms (before ++ entry maker GroupCreate (Handle g.0) ∷ (behind ++ entry who (AllLook g false) r ∷ [])) → AreQuiet before → AreQuiet behind
    → GoOn g.0 behind
    → (r ≡ Pending) ⊎ IsGroupVerdict (after terms (before ++ entry maker GroupCreate (Handle g.0) ∷ behind)) (members_of g.0 [] behind) r
