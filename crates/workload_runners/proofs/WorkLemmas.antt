-- What a worker's looks at a watch do to its task.
use Rattle.std.proofs.lemmas.Bool.Decides.{nat_tests}
use Rattle.workload_runners.proofs.Names.{[], ◌&&◌, ◌+◌, ◌<◌, ◌==◌, ◌||◌, ◌∙◌, ◌∷◌, ◌≡◌, Asked, Bool, Ended, Free, HoldsTask, IsNext, Kind, Mtapi, Reply, Row, RunsWith, Some, State, Task, TaskEnd, Work, ap, arith, asked_once, asked_refusals, at-update, object_changed, cond, count_changed, ends_free, entry, false, gives, holds, is_none, mtapi_unless, nat_lt, next, not, notes, own_goes, pass, refl, runs_as, runs_as_its, runs_on, runs_on_its, subst, sym, tasks, true, unless, watch_end, watch_end_refusals, with_fields, with_notes, workers, ℕ}
use Rattle.mtapi_values.specs.declared.kinds.Kind.TheVariants as kind
use Rattle.mtapi_values.specs.declared.statuses.MtapiStatus.TheVariants as m
use Rattle.mtapi_machine.specs.declared.replies.Reply.TheVariants as reply
use Rattle.mtapi_machine.specs.declared.ops.Op.TheVariants as op
use Rattle.mtapi_objects.specs.Tasks.{watch_looks}
use Rattle.mtapi_machine.specs.Moves.{ends_task as ends_task}

-- what an ask leaves of the work
abbrev pub reported : Bool → Work → Work
reported true x = record { kind = x.kind; args = x.args; looks = x.looks; seen = true; tally = x.tally }
reported false x = record { kind = x.kind; args = x.args; looks = x.looks + 1; seen = x.seen; tally = x.tally }

pub record AskedAs (r : Reply) (w h : ℕ) (x : Work) (u : State) : Type 0 where
  pub requested : Bool
  pub reply : r ≡ Asked requested
  pub holds : HoldsTask u w h (reported requested x)

asked_runs : (w : ℕ) (x : Work) (t : Task) (b : Bool) → t.notes.requested ≡ b → RunsWith w x t → RunsWith w (reported b x) (with_notes asked_once t)
asked_runs w x t b e1 e2 = grind (arith, nat_tests)

asked_holds : (s : State) (w h : ℕ) (x : Work) (v : HoldsTask s w h x)
    → HoldsTask (object_changed tasks h (with_notes asked_once) s) w h (reported v.task.notes.requested x)
asked_holds s w h x v =
    let on = runs_on_its w x v.task v.runs in
    let n = count_changed (runs_on w) h (with_fields (with_notes asked_once)) true s.tasks v.task v.found
    (λ r l i j. l j && (ap (runs_on w) i ∙ on) j) in
    let o : cond {A = ℕ} (runs_on w v.task) 1 0 ≡ 1 = ap (λ (b : Bool). cond {A = ℕ} b 1 0) on in
    record {
      task = with_notes asked_once v.task;
      found = at-update h (with_notes asked_once) v.task s.tasks v.found;
      runs = asked_runs w x v.task v.task.notes.requested refl v.runs;
      alone = omega (arith, n, o, v.alone);
    }

-- a watch that may look once more is told whether it was asked to stop
pub asked_as : (s : State) (w h : ℕ) (x : Work) (v : HoldsTask s w h x) (n : ℕ) (r : Reply) → w < workers s → x.kind ≡ kind.Watch → x.seen ≡ false
    → watch_looks x.args ≡ Some n → (x.looks == n) ≡ false → IsNext s (entry w (op.Asked (record { 0 = h })) r)
    → AskedAs r w h x (next s (entry w (op.Asked (record { 0 = h })) r))
asked_as s w h x v n r l k e a d i =
    let f : Task → Row = λ y. mtapi_unless (asked_refusals w y) (gives (Asked y.notes.requested) (notes h asked_once ∷ [])) in
    let g = own_goes s w h x v r f l i.allowed in
    let runs : runs_as w kind.Watch v.task ≡ true = ap (λ (z : Kind). runs_as w z v.task) (sym k) ∙ runs_as_its w x v.task v.runs in
    let p = pass (not (runs_as w kind.Watch v.task)) (Mtapi m.ErrTaskInvalid) r
    (unless (is_none (watch_looks v.task.args) || v.task.notes.seen
    || holds (λ m. v.task.notes.looks == m) (watch_looks v.task.args)) (Mtapi m.ErrParameter)
    (gives (Asked v.task.notes.requested) (notes h asked_once ∷ []))) s (ap not runs) g.allowed in
    let looks : watch_looks v.task.args ≡ Some n = ap watch_looks v.runs.arguments ∙ a in
    let c : (is_none (watch_looks v.task.args) || v.task.notes.seen || holds (λ m. v.task.notes.looks == m) (watch_looks v.task.args)) ≡ false =
    (λ j. is_none (looks j) || (v.runs.reported ∙ e) j || holds (λ m. v.runs.looked j == m) (looks j)) ∙ d in
    let q = pass (is_none (watch_looks v.task.args) || v.task.notes.seen
    || holds (λ m. v.task.notes.looks == m) (watch_looks v.task.args)) (Mtapi m.ErrParameter) r
    (gives (Asked v.task.notes.requested) (notes h asked_once ∷ [])) s c p.allowed in
    record {
      requested = v.task.notes.requested;
      reply = q.allowed;
      holds = subst (λ (u : State). HoldsTask u w h (reported v.task.notes.requested x)) (sym (g.leads ∙ (p.leads ∙ q.leads))) (asked_holds s w h x v);
    }

pub record WatchedAs (r : Reply) (w : ℕ) (u : State) : Type 0 where
  pub end : TaskEnd
  pub reply : r ≡ reply.Ended end
  pub free : Free u w

-- a watch that was told to stop, or has no looks left, ends
pub watched_as : (s : State) (w h : ℕ) (x : Work) (v : HoldsTask s w h x) (r : Reply) → w < workers s → x.kind ≡ kind.Watch
    → (not x.seen && holds (λ n. nat_lt x.looks n) (watch_looks x.args)) ≡ false → IsNext s (entry w (op.WatchEnd (record { 0 = h })) r)
    → WatchedAs r w (next s (entry w (op.WatchEnd (record { 0 = h })) r))
watched_as s w h x v r l k d i =
    let f : Task → Row = λ y. mtapi_unless (watch_end_refusals w y) (gives (reply.Ended (watch_end y)) (ends_task h (watch_end y) ∷ [])) in
    let g = own_goes s w h x v r f l i.allowed in
    let runs : runs_as w kind.Watch v.task ≡ true = ap (λ (z : Kind). runs_as w z v.task) (sym k) ∙ runs_as_its w x v.task v.runs in
    let last : Row = gives (reply.Ended (watch_end v.task)) (ends_task h (watch_end v.task) ∷ []) in
    let p = pass (not (runs_as w kind.Watch v.task)) (Mtapi m.ErrTaskInvalid) r
    (unless (not v.task.notes.seen && holds (λ n. nat_lt v.task.notes.looks n) (watch_looks v.task.args)) (Mtapi m.ErrParameter) last) s
    (ap not runs) g.allowed in
    let c : (not v.task.notes.seen && holds (λ n. nat_lt v.task.notes.looks n) (watch_looks v.task.args)) ≡ false =
    (λ j. not (v.runs.reported j) && holds (λ n. nat_lt (v.runs.looked j) n) (watch_looks (v.runs.arguments j))) ∙ d in
    let q = pass (not v.task.notes.seen && holds (λ n. nat_lt v.task.notes.looks n) (watch_looks v.task.args)) (Mtapi m.ErrParameter) r last s c p.allowed in
    record {
      end = watch_end v.task;
      reply = q.allowed;
      free = subst (λ (u : State). Free u w) (sym (g.leads ∙ (p.leads ∙ q.leads))) (ends_free s w h x v (watch_end v.task) s.ends);
    }
