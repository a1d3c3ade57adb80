-- Every task that was accepted ends once.
use Rattle.history_law.proofs.Names.{nat_tests, ◌≡◌, ℕ, ◌≤◌, true, List, [], ◌∷◌, ◌++◌, Option, Some, refl, sym, subst, arith, IsSome, append-nil, TaskEnd, all_marked, Terms, Op, Reply, Ok, Handle, entry, listed, State, opening, workers, Move, starts_task, after_moves, Allows, after_row, row, asked_for, asked_of, NodeEntry, IsNext, next, LegalFrom, Legal, after_from, after, Legal-rest, after-append, after_grows, end_at, accepted_by, accepted, TasksEndOnce, some_same, Answers, answered}
use Rattle.mtapi_machine.specs.declared.ops.Op.TheVariants as op
use Rattle.history_law.proofs.Held.{AllEnded}
use Rattle.history_law.proofs.Moves.{Stands, after_stands, Stopped, after_stopped, once_from}
use Rattle.history_law.proofs.Ends.{grows_listed, all_end, end_later}
use Rattle.history_law.proofs.lists.Handles.{some_issued}
use Rattle.mtapi_machine.specs.Answers as is

-- The entry that accepts a task lists it

abbrev Lists : ℕ → State → Type 0
Lists h s = 1 ≤ listed h s.tasks

lists_by : (s : State) (who : ℕ) (o : Op) (k : ℕ) (ms : List Move) (h : ℕ) → accepted_by o (Handle k) ≡ Some h → Answers s who o (Handle k) ms
    → Lists h (after_moves ms s)
lists_by s who o k ms h e1 e2 = grind (arith, nat_tests, after_moves, starts_task, asked_for, some_same, some_issued, asked_of)

start_lists : (s : State) (who : ℕ) (o : Op) (r : Reply) (h : ℕ) → accepted_by o r ≡ Some h → Allows (row s who o r) r → Lists h (after_row s (row s who o r))
start_lists s who o r h e1 e2 = grind (arith, nat_tests, lists_by s who o, answered s who o)

next_lists : (s : State) (e : NodeEntry) (h : ℕ) → IsNext s e → accepted e ≡ Some h → Lists h (next s e)
next_lists s e h n i = start_lists s e.who e.op e.reply h i n.allowed

-- After the final step every task has ended

marked_by : (s : State) (main : ℕ) (ms : List Move) → Answers s main op.Final Ok ms → all_marked (workers s) s.stopped ≡ true
marked_by s main _ (is.finals_node a b) = b

pub final_marked : (s : State) (main : ℕ) → IsNext s (entry main op.Final Ok) → all_marked (workers s) s.stopped ≡ true
final_marked s main n = marked_by s main _ (answered s main op.Final Ok n.allowed)

final_stopped : (terms : Terms) (s : State) (main : ℕ) → 1 ≤ terms.settings.workers → s.terms ≡ terms → IsNext s (entry main op.Final Ok) → Stopped s
final_stopped terms s main e1 e2 e3 = grind (arith, nat_tests)

pub opening_stands : (terms : Terms) → Stands terms (opening terms)
opening_stands terms = (refl, record { dead = tt; stopped = λ f. absurd (cc) })

pub stands_after : (terms : Terms) (L : List NodeEntry) → Stands terms (after terms L)
stands_after terms L = after_stands terms (opening terms) L (opening_stands terms)

pub all_after : (terms : Terms) (A B : List NodeEntry) (main : ℕ) → Legal terms (A ++ entry main op.Final Ok ∷ B)
    → AllEnded (after terms (A ++ entry main op.Final Ok ∷ B)).tasks
unfolding LegalFrom
all_after terms A B main h =
    grind (arith, nat_tests, Legal-rest (opening terms) A, stands_after terms, final_stopped terms (after terms A), after-append, after_stopped (after terms A))

-- The law

listed_after : (terms : Terms) (P Q : List NodeEntry) (e : NodeEntry) (h : ℕ) → LegalFrom (opening terms) (P ++ e ∷ Q) → accepted e ≡ Some h
    → 1 ≤ listed h (after terms (P ++ e ∷ Q)).tasks
unfolding LegalFrom after_from
listed_after terms P Q e h l i = grind (
  arith,
  nat_tests,
  Legal-rest (opening terms) P (e
      ∷ Q) l,
  next_lists (after terms P) e h,
  grows_listed h,
  after_grows (next (after terms P) e),
  after-append,
)

pub shown : {A : Type 0} (o : Option A) → IsSome o → (x : A) × (o ≡ Some x)
shown o e1 = grind (arith, nat_tests)

-- a handle is listed at most once
pub listed_once : (terms : Terms) (es : List NodeEntry) (h : ℕ) → Legal terms es → listed h (after terms es).tasks ≤ 1
listed_once terms es h legal = once_from terms es h

-- an end that a prefix shows stays over every longer prefix
pub front_stays : (terms : Terms) (es A M B : List NodeEntry) (h : ℕ) (e : TaskEnd) → Legal terms es → es ≡ A ++ (M ++ B)
    → end_at (after terms A).tasks h ≡ Some e → end_at (after terms (A ++ M)).tasks h ≡ Some e
front_stays terms es A M B h e legal is i = end_later (opening terms) A M h e i

-- and over the whole list
front_ends : (terms : Terms) (es A M : List NodeEntry) (h : ℕ) (e : TaskEnd) → Legal terms es → es ≡ A ++ M → end_at (after terms A).tasks h ≡ Some e
    → end_at (after terms es).tasks h ≡ Some e
front_ends terms es A M h e legal is i = grind (arith, nat_tests, front_stays terms es A M, append-nil M, end_at)

-- every task that an entry of a legal list accepted ends once, where the list has the final step
pub closed_end : (terms : Terms) (es A B : List NodeEntry) (main : ℕ) → Legal terms es → es ≡ A ++ entry main op.Final Ok ∷ B → TasksEndOnce terms es
closed_end terms es A B main legal last P Q e h cut i =
    let once : listed h (after terms es).tasks ≤ 1 = listed_once terms es h legal in
    let some : 1 ≤ listed h (after terms es).tasks =
    subst (λ (L : List NodeEntry). 1 ≤ listed h (after terms L).tasks) (sym cut)
    (listed_after terms P Q e h (subst (λ (L : List NodeEntry). LegalFrom (opening terms) L) cut legal.from) i) in
    let all : AllEnded (after terms es).tasks =
    subst (λ (L : List NodeEntry). AllEnded (after terms L).tasks) (sym last)
    (all_after terms A B main (subst (λ (L : List NodeEntry). Legal terms L) last legal)) in
    let found : (x : TaskEnd) × (end_at (after terms es).tasks h ≡ Some x) = all_end h (after terms es).tasks all some in record {
      one = omega arith;
      end = found.0;
      ended = found.1;
      stays = λ C M D is seen. stays C M D is seen found.0 found.1;
    }
  where
    stays : (C M D : List NodeEntry) → es ≡ C ++ (M ++ D) → IsSome (end_at (after terms C).tasks h) → (x : TaskEnd) → end_at (after terms es).tasks h ≡ Some x
        → end_at (after terms (C ++ M)).tasks h ≡ Some x
    stays C M D is seen x at = grind (arith, nat_tests, end_at, shown, front_stays, front_ends)

-- the same where the final step is the last entry
pub accepted_end : (terms : Terms) (es before : List NodeEntry) (main : ℕ) → Legal terms es → es ≡ before ++ entry main op.Final Ok ∷ [] → TasksEndOnce terms es
accepted_end terms es before main legal last = closed_end terms es before [] main legal last
