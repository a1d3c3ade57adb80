-- ErrTaskLimit is answered where as many tasks were accepted as the node may have.
use Rattle.history_law.proofs.Names.{nat_tests, arith, ◌≡◌, ℕ, ◌≤◌, true, List, [], ◌∷◌, ◌++◌, refl, subst, Op, Reply, Terms, opening, NodeEntry, IsNext, LegalFrom, Legal-rest, after, accepted, Allows, row}
use Rattle.std.specs.Prelude.{is_some}
use Rattle.mtapi_machine.proofs.Lists.{Legal-front}
use Rattle.mtapi_values.specs.declared.handles.ObjectKind.TheVariants as kind
use Rattle.mtapi_machine.specs.declared.ops.Op.TheVariants as op
use Rattle.handle_pool.specs.Issued.{is_full}
use Rattle.history_law.specs.Words.{entries_that, makes_object}
use Rattle.history_law.proofs.Accepted.{stands_after}
use Rattle.history_law.proofs.lists.Every.{Every}
use Rattle.settled_runs.specs.Granted.{makes_one}
use Rattle.settled_runs.proofs.Granted.{has_room, tasks_grow}
use Rattle.limit_laws.specs.TaskLimit.{LimitIsReached, tasks_accepted}
use Rattle.limit_laws.proofs.Failures.{IsOther, all_otherwise, no_limit_told}
use Rattle.limit_laws.proofs.NoRoom.{Finds, found_full}

-- an entry that makes a task is one that was accepted
same_entry : (e : NodeEntry) → makes_one kind.Task e ≡ is_some (accepted e)
same_entry e = grind (arith, nat_tests)

same_count : (L : List NodeEntry) → entries_that (makes_one kind.Task) L ≡ tasks_accepted L
same_count [] = refl
same_count (e ∷ es) = grind (arith, nat_tests, same_entry e, same_count es)

-- the list of tasks is full only where so many were accepted
full_count : (terms : Terms) (L : List NodeEntry) (last : ℕ) → LegalFrom (opening terms) L → is_full last terms.settings.tasks (after terms L).tasks ≡ true
    → terms.settings.tasks ≤ tasks_accepted L
full_count terms L last l full = grind (arith, nat_tests, same_count L, has_room kind.Task tasks_grow terms L l)

found : (terms : Terms) (L : List NodeEntry) (o : Op) → LegalFrom (opening terms) L → Every IsOther (after terms L).tasks → Finds (after terms L) o
    → (makes_object kind.Task o ≡ true) × (terms.settings.tasks ≤ tasks_accepted L)
found terms L (op.TaskStart job args priority cores detached group) l v f = (
  refl,
  full_count terms L _ l (subst (λ (t : Terms). is_full (after terms L).terms.settings.generations t.settings.tasks (after terms L).tasks
      ≡ true) (stands_after terms L).0 f),
)
found terms L (op.TaskEnqueue q args cores detached group) l v f = (
  refl,
  full_count terms L _ l (subst (λ (t : Terms). is_full (after terms L).terms.settings.generations t.settings.tasks (after terms L).tasks
      ≡ true) (stands_after terms L).0 f),
)
found terms L (op.AllLook g last) l v f = absurd (no_limit_told g.0 _ v f)
found terms L _ l v f = absurd f

next_of : (terms : Terms) (L : List NodeEntry) (e : NodeEntry) → LegalFrom (opening terms) (L ++ e ∷ [])
    → LegalFrom (opening terms) L × IsNext (after terms L) e
unfolding LegalFrom
next_of terms L e l = (Legal-front (opening terms) L (e ∷ []) l, (Legal-rest (opening terms) L (e ∷ []) l).0)

pub limit_is_reached : LimitIsReached
unfolding LegalFrom
limit_is_reached terms L e l r =
    let n = next_of terms L e l.from in
    let f = found terms L e.op n.0 (all_otherwise (opening terms) L n.0 tt) (found_full (after terms L) e.who e.op
    (subst (λ (x : Reply). Allows (row (after terms L) e.who e.op x) x) r n.1.allowed)) in
    record { asked = f.0; full = f.1 }
