-- The rounds of a worker whose tasks start tasks.
use Rattle.workload_runners.proofs.Names.{[], ◌++◌, ◌∙◌, ◌∷◌, ◌≡◌, ActionHandle, Added, Answered, AtRest, Finishes, Kind, List, NodeEntry, None, Seat, Some, TaskHandle, WorkerWorks, ap, append-nil, append_assoc, entry, refl, subst, sym, work_of, ℕ, ℤ}
use Rattle.std.specs.Prelude.{false}
use Rattle.action_fn.specs.Answers.{is_pure}
use Rattle.mtapi_machine.specs.declared.ops.Op.TheVariants as op
use Rattle.mtapi_machine.specs.declared.replies.Reply.TheVariants as reply
use Rattle.workload_runners.proofs.Adds.{same_seat, same_then, mine_then}
use Rattle.nested_workers.specs.Starts.{AddsStarts, AreStarts}
use Rattle.nested_workers.specs.Rounds.{AllStart, NestedRound, NestsTo, PicksLast, RanTask, NestedRounded, StartsIn, Worked, nested_entries_in}
unfoldable use Rattle.nested_workers.specs.Rounds.{all_nested}
use Rattle.turn_looks.specs.declared.services.ServeEnd.{ServeEnd}
use Rattle.turn_looks.specs.declared.services.ServeEnd.TheVariants as end

-- a task that asked for starts, and was finished
pub ran_then : (a b c : Seat) (h : TaskHandle) (done : Answered) → AddsStarts a b → Finishes b h done c → RanTask a h c
ran_then a b c h done s f = record {
  starts = s.own;
  are = s.starts;
  done = done;
  added = record {
    same = same_then a b c s.same f.same;
    mine = f.mine ∙ (ap (λ (n : ℕ). b.mine ++ entry n (op.Finish h done) reply.Ok ∷ []) s.same.number
        ∙ (ap (λ (m : List NodeEntry). m ++ entry a.number (op.Finish h done) reply.Ok ∷ []) s.mine
        ∙ append_assoc a.mine s.own (entry a.number (op.Finish h done) reply.Ok ∷ [])));
    rest = f.rest;
  };
}

-- what was taken and run is a round
pub worked : (a b c : Seat) (h : TaskHandle) (k : Kind) (args : List ℤ) (x : ActionHandle)
    → WorkerWorks a op.Pick (reply.Picked h x k args) h.0 (work_of k args) b → RanTask b h c → NestedRounded a None c
worked a b c h k args x p q = (
  Worked h x k args q.starts q.done,
  subst (λ (n : ℕ). AreStarts n q.starts) p.same.number q.are,
  record {
    same = same_then a b c p.same q.added.same;
    mine = mine_then a b c (λ w. entry w op.Pick (reply.Picked h x k args) ∷ [])
        (λ w. q.starts ++ entry w (op.Finish h q.done) reply.Ok ∷ []) p.same p.mine q.added.mine;
    rest = q.added.rest;
  },
)

-- rounds so far
pub record Nested (old new : Seat) : Type 0 where
  pub rounds : List NestedRound
  pub start : AllStart old.number rounds
  pub added : Added old (all_nested old.number rounds) new

pub nested_none : (a : Seat) → AtRest a → Nested a a
unfolding all_nested
nested_none a r = record { rounds = []; start = tt; added = record { same = same_seat a; mine = sym (append-nil a.mine); rest = r } }

all_in-push : (w : ℕ) (rs : List NestedRound) (r : NestedRound) → all_nested w (rs ++ r ∷ []) ≡ all_nested w rs ++ nested_entries_in w r
unfolding all_nested
all_in-push w [] r = append-nil (nested_entries_in w r)
all_in-push w (x ∷ xs) r = ap (λ (m : List NodeEntry). nested_entries_in w x ++ m) (all_in-push w xs r)
    ∙ sym (append_assoc (nested_entries_in w x) (all_nested w xs) (nested_entries_in w r))

start_push : (w : ℕ) (rs : List NestedRound) (r : NestedRound) → AllStart w rs → StartsIn w r → AllStart w (rs ++ r ∷ [])
start_push w [] r a b = (b, tt)
start_push w (x ∷ xs) r a b = (a.0, start_push w xs r a.1 b)

pub nested_more : (a b c : Seat) → Nested a b → NestedRounded b None c → Nested a c
nested_more a b c p q = record {
  rounds = p.rounds ++ q.0 ∷ [];
  start = start_push a.number p.rounds q.0 p.start (subst (λ (n : ℕ). StartsIn n q.0) p.added.same.number q.1);
  added = record {
    same = same_then a b c p.added.same q.2.same;
    mine = mine_then a b c (λ w. all_nested w p.rounds) (λ w. nested_entries_in w q.0) p.added.same p.added.mine q.2.mine
        ∙ ap (λ (m : List NodeEntry). a.mine ++ m) (sym (all_in-push a.number p.rounds q.0));
    rest = q.2.rest;
  };
}

-- a task that it can't run is left
pub left : (a b : Seat) (h : TaskHandle) (k : Kind) (args : List ℤ) (x : ActionHandle) → is_pure k ≡ false
    → WorkerWorks a op.Pick (reply.Picked h x k args) h.0 (work_of k args) b → PicksLast a b
left a b h k args x impure p = record { same = p.same; last = reply.Picked h x k args; is = impure; mine = p.mine }

-- rounds, and then the end of the service
pub nested_end : (a b c : Seat) (e : ServeEnd) → Nested a b → NestedRounded b (Some e) c → NestsTo a e c
nested_end a b c end.Stopped p q = record {
  same = same_then a b c p.added.same q.same;
  own = all_nested a.number p.rounds ++ entry a.number op.Pick q.last ∷ [];
  mine = mine_then a b c (λ w. all_nested w p.rounds) (λ w. entry w op.Pick q.last ∷ []) p.added.same p.added.mine q.mine;
  is = record { rounds = p.rounds; start = p.start; last = q.last; stops = q.is; is = refl };
}
nested_end a b c (end.Spent s) p q = same_then a b c p.added.same q
