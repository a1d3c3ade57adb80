-- What a worker's own turns do to its tally.
use Rattle.std.proofs.lemmas.Bool.Decides.{nat_tests}
use Rattle.workload_runners.proofs.Names.{[], ◌&&◌, ◌+ℤ◌, ◌<◌, ◌==◌, ◌||◌, ◌∙◌, ◌∷◌, ◌≡◌, Adds, Allows, Asked, Bool, Completed, Decides-int_eq, Failed, Free, Goes, HoldsTask, IsNext, Kind, List, Listed, Move, Mtapi, MtapiStatus, None, Number, Ok, Option, Pending, Reply, Row, Segments, Some, State, TallyNotes, Task, TaskEnd, Work, added, after_moves, alters, ap, arith, at-update, cell_in, cell_of, cond, count_changed, count_listed, ends_free, ends_task, entry, false, fits, gives, gives_back, gives_up, int_eq, is_some, length, live, live_object, locks, moves_of, nat_lt, never, next, not, notes, number_in, pass, refl, runs_as, runs_on, runs_on_its, says, subst, sym, takes_both, tally_args, tally_failed, tally_has, tally_read, tally_written, true, unless, update, with_cell, with_fields, with_notes, with_tally, workers, ℕ, ℤ}
use Rattle.mtapi_values.specs.declared.kinds.Kind.TheVariants as kind
use Rattle.mtapi_values.specs.declared.statuses.MtapiStatus.TheVariants as m
use Rattle.mtapi_machine.specs.declared.replies.Reply.TheVariants as reply
use Rattle.mtapi_machine.specs.declared.ops.Op.TheVariants as op

-- the work with what its tally has done then
abbrev pub with_done : (TallyNotes → TallyNotes) → Work → Work
with_done f x = record x { tally = f x.tally }

-- a note of what the worker's tally has done
noted_holds : (s u : State) (w h : ℕ) (x : Work) (f : TallyNotes → TallyNotes) → HoldsTask s w h x → u.tasks ≡ update h (with_notes (with_tally f)) s.tasks
    → HoldsTask u w h (with_done f x)
noted_holds s u w h x f v e =
    let on = runs_on_its w x v.task v.runs in
    let n = count_changed (runs_on w) h (with_fields (with_notes (with_tally f))) true s.tasks v.task v.found (λ r l i j. l j && (ap (runs_on w) i ∙ on) j) in
    let o : cond {A = ℕ} (runs_on w v.task) 1 0 ≡ 1 = ap (λ (b : Bool). cond {A = ℕ} b 1 0) on in
    let one : count_listed (runs_on w) (update h (with_notes (with_tally f)) s.tasks) ≡ 1 = omega (arith, n, o, v.alone) in
    record {
      task = with_notes (with_tally f) v.task;
      found = subst (λ (l : List (Listed Task)). live_object l h
          ≡ Some (with_notes (with_tally f) v.task)) (sym e) (at-update h (with_notes (with_tally f)) v.task s.tasks v.found);
      runs = record { state = v.runs.state; arguments = v.runs.arguments; looked = v.runs.looked; reported = v.runs.reported; did = ap f v.runs.did };
      alone = subst (λ (l : List (Listed Task)). count_listed (runs_on w) l ≡ 1) (sym e) one;
    }

-- the row's ways to the tally that the worker has
tally_goes : (s : State) (w h : ℕ) (x : Work) (v : HoldsTask s w h x) (r : Reply) (f : Task → Row) → w < workers s → x.kind ≡ kind.Tally
    → Allows (unless (not (nat_lt w (workers s))) (Mtapi m.ErrParameter)
    (live (live_object s.tasks h) (says (Mtapi m.ErrTaskInvalid)) (λ y. unless (not (runs_as w kind.Tally y)) (Mtapi m.ErrTaskInvalid) (f y)))) r
    → Goes s (unless (not (nat_lt w (workers s))) (Mtapi m.ErrParameter)
    (live (live_object s.tasks h) (says (Mtapi m.ErrTaskInvalid)) (λ y. unless (not (runs_as w kind.Tally y)) (Mtapi m.ErrTaskInvalid) (f y)))) r (f v.task)
tally_goes s w h x v r f e1 e2 e3 = grind (arith, nat_tests)

-- what a row may answer and do
abbrev Gives : (Reply → List Move → Type 0) → Row → Type 0
Gives Q (unless c x w) = Q x [] × Gives Q w
Gives Q (gives x ms) = Q x ms
Gives Q never = Unit {0}

by_gives : (Q : Reply → List Move → Type 0) (w : Row) (r : Reply) → Gives Q w → Allows w r → Q r (moves_of w)
by_gives Q (unless true x w) r g a = subst (λ (y : Reply). Q y []) (sym a) g.0
by_gives Q (unless false x w) r g a = by_gives Q w r g.1 a
by_gives Q (gives x ms) r g a = subst (λ (y : Reply). Q y ms) (sym a) g
by_gives Q never r g a = absurd a

gives_live : (Q : Reply → List Move → Type 0) {T : Type 0} (x : Option T) (v : Row) (w : T → Row) → Gives Q v → ((t : T) → Gives Q (w t)) → Gives Q (live x v w)
gives_live Q x v w e1 e2 = grind (arith, nat_tests)

gives_cond : (Q : Reply → List Move → Type 0) (b : Bool) (v w : Row) → Gives Q v → Gives Q w → Gives Q (cond b v w)
gives_cond Q b v w e1 e2 = grind (arith, nat_tests)

-- Locking

-- what a question for both may be answered, and what it leaves
abbrev pub LockedAs : Reply → ℕ → ℕ → Work → State → Type 0
LockedAs Pending w h x u = HoldsTask u w h x
LockedAs (Asked false) w h x u = (c : MtapiStatus) × HoldsTask u w h (with_done (tally_failed c) x)
LockedAs (Asked true) w h x u = (a : ℕ) × (b : ℕ) × HoldsTask u w h (with_done (tally_has a b) x)
LockedAs _ w h x u = ⊥

module _ (s : State) (w h : ℕ) (x : Work) (v : HoldsTask s w h x) where
  abbrev Locks : Reply → List Move → Type 0
  Locks r ms = LockedAs r w h x (after_moves ms s)

  gave_up : (c : MtapiStatus) → Gives Locks (gives_up h c)
  gave_up c = (c, noted_holds s _ w h x (tally_failed c) v refl)

  both_taken : (cell : ℕ) (p q : Option ℕ) → Gives Locks (takes_both s w h cell p q)
  both_taken cell None q = gave_up _
  both_taken cell (Some p) None = gave_up _
  both_taken cell (Some p) (Some q) =
      gives_live Locks (live_object s.mutexes p) _ _ (gave_up _) (λ y. gives_live Locks (live_object s.segments q) _ _ (gave_up _) (λ z.
      gives_cond Locks (not (nat_lt cell (length z.cells))) _ _ (gave_up _)
      (gives_cond Locks (is_some y.owner) _ _ v (p, q, noted_holds s _ w h x (tally_has p q) v refl))))

  locked : (args : List ℤ) (o : Option Adds) → Gives Locks (locks s w h args o)
  locked args None = gave_up _
  locked args (Some y) = both_taken y.cell _ _

-- a tally that has done nothing asks for both
pub locked_as : (s : State) (w h : ℕ) (x : Work) (v : HoldsTask s w h x) (r : Reply) → w < workers s → x.kind ≡ kind.Tally → (x.tally.stage == 0) ≡ true
    → IsNext s (entry w (op.TallyLock (record { 0 = h })) r)
    → LockedAs r w h x (next s (entry w (op.TallyLock (record { 0 = h })) r))
locked_as s w h x v r l k e i =
    let f : Task → Row = λ y. unless (not (y.notes.tally.stage == 0)) (Mtapi m.ErrParameter) (locks s w h y.args (tally_args y.args)) in
    let g = tally_goes s w h x v r f l k i.allowed in
    let p = pass (not (v.task.notes.tally.stage == 0)) (Mtapi m.ErrParameter) r (locks s w h v.task.args (tally_args v.task.args)) s
    (ap not (ap (λ (y : TallyNotes). y.stage == 0) v.runs.did ∙ e)) g.allowed in
    subst (λ (u : State). LockedAs r w h x u) (sym (g.leads ∙ p.leads))
    (by_gives (Locks s w h x v) (locks s w h v.task.args (tally_args v.task.args)) r (locked s w h x v v.task.args (tally_args v.task.args)) p.allowed)

-- Reading

pub record ReadAs (r : Reply) (w h : ℕ) (x : Work) (u : State) : Type 0 where
  pub number : ℤ
  pub reply : r ≡ Number number
  pub holds : HoldsTask u w h (with_done (tally_read number) x)

pub read_as : (s : State) (w h : ℕ) (x : Work) (v : HoldsTask s w h x) (r : Reply) → w < workers s → x.kind ≡ kind.Tally → (x.tally.stage == 1) ≡ true
    → IsNext s (entry w (op.TallyRead (record { 0 = h })) r)
    → ReadAs r w h x (next s (entry w (op.TallyRead (record { 0 = h })) r))
read_as s w h x v r l k e i =
    let inside : Task → Row = λ y. live (live_object s.segments y.notes.tally.segment) never
    (λ z. gives (Number (cell_of (cell_in (tally_args y.args)) z)) (notes h (with_tally (tally_read (cell_of (cell_in (tally_args y.args)) z))) ∷ [])) in
    let g = tally_goes s w h x v r (λ y. unless (not (y.notes.tally.stage == 1)) (Mtapi m.ErrParameter) (inside y)) l k i.allowed in
    let p = pass (not (v.task.notes.tally.stage == 1)) (Mtapi m.ErrParameter) r (inside v.task) s
    (ap not (ap (λ (y : TallyNotes). y.stage == 1) v.runs.did ∙ e)) g.allowed in
    subst (λ (u : State). ReadAs r w h x u) (sym (g.leads ∙ p.leads))
    (by_gives (λ y ms. ReadAs y w h x (after_moves ms s)) (inside v.task) r
    (gives_live (λ y ms. ReadAs y w h x (after_moves ms s)) (live_object s.segments v.task.notes.tally.segment) never _ tt
    (λ z. record { number = _; reply = refl; holds = noted_holds s _ w h x (tally_read (cell_of (cell_in (tally_args v.task.args)) z)) v refl })) p.allowed)

-- Writing

pub record WrittenAs (r : Reply) (w h : ℕ) (x : Work) (u : State) : Type 0 where
  pub reply : r ≡ Ok
  pub holds : HoldsTask u w h (with_done tally_written x)

pub written_as : (s : State) (w h : ℕ) (x : Work) (v : HoldsTask s w h x) (value : ℤ) (r : Reply) → w < workers s → x.kind ≡ kind.Tally
    → (x.tally.stage == 2) ≡ true → value ≡ x.tally.kept +ℤ number_in (tally_args x.args)
    → IsNext s (entry w (op.TallyWrite (record { 0 = h }) value) r) → WrittenAs r w h x (next s (entry w (op.TallyWrite (record { 0 = h }) value) r))
written_as s w h x v value r l k e d i =
    let inside : Task → Row = λ y. live (live_object s.segments y.notes.tally.segment) never
    (λ z. gives Ok (alters Segments y.notes.tally.segment (with_cell (cell_in (tally_args y.args)) value) ∷ notes h (with_tally tally_written) ∷ [])) in
    let g = tally_goes s w h x v r (λ y. unless (not (y.notes.tally.stage == 2)
    || not (int_eq value (added y))) (Mtapi m.ErrParameter) (inside y)) l k i.allowed in
    let same : value ≡ added v.task = d ∙ (λ j. (sym v.runs.did j).kept +ℤ number_in (tally_args (sym v.runs.arguments j))) in
    let stage : (v.task.notes.tally.stage == 2) ≡ true = ap (λ (y : TallyNotes). y.stage == 2) v.runs.did ∙ e in
    let p = pass (not (v.task.notes.tally.stage == 2) || not (int_eq value (added v.task))) (Mtapi m.ErrParameter) r (inside v.task) s (λ j. not (stage j)
    || not ((Decides-int_eq value (added v.task)).1 same j)) g.allowed in
    subst (λ (u : State). WrittenAs r w h x u) (sym (g.leads ∙ p.leads))
    (by_gives (λ y ms. WrittenAs y w h x (after_moves ms s)) (inside v.task) r
    (gives_live (λ y ms. WrittenAs y w h x (after_moves ms s)) (live_object s.segments v.task.notes.tally.segment) never _ tt
    (λ z. record { reply = refl; holds = noted_holds s _ w h x tally_written v refl })) p.allowed)

-- Ending

pub record TalliedAs (r : Reply) (w : ℕ) (u : State) : Type 0 where
  pub end : TaskEnd
  pub reply : r ≡ reply.Ended end
  pub free : Free u w

-- a row that ends the task, beside changes of a mutex and of a segment
ended : (s : State) (w h : ℕ) (x : Work) (v : HoldsTask s w h x) (b : Bool) (t : Task) (e : TaskEnd)
    → Gives (λ r ms. TalliedAs r w (after_moves ms s))
    (cond b (gives (reply.Ended t.notes.tally.verdict) (ends_task h t.notes.tally.verdict ∷ [])) (gives_back s w h t e))
ended s w h x v true t e = record { end = _; reply = refl; free = ends_free s w h x v t.notes.tally.verdict s.ends }
ended s w h x v false t e =
    gives_live (λ r ms. TalliedAs r w (after_moves ms s)) (live_object s.segments t.notes.tally.segment) never _ tt (λ y.
    gives_live (λ r ms. TalliedAs r w (after_moves ms s)) (live_object s.mutexes t.notes.tally.mutex) never _ tt
    (λ z. record { end = e; reply = refl; free = ends_free s w h x v e s.ends }))

pub tallied_as : (s : State) (w h : ℕ) (x : Work) (v : HoldsTask s w h x) (r : Reply) → w < workers s → x.kind ≡ kind.Tally
    → (nat_lt x.tally.stage 2 || ((x.tally.stage == 2) && fits (x.tally.kept +ℤ number_in (tally_args x.args)))) ≡ false
    → IsNext s (entry w (op.TallyEnd (record { 0 = h })) r) → TalliedAs r w (next s (entry w (op.TallyEnd (record { 0 = h })) r))
tallied_as s w h x v r l k d i =
    let how : Task → TaskEnd = λ y. cond (y.notes.tally.stage == 2) (Failed m.ErrActionFailed) (Completed (added y ∷ [])) in
    let inside : Task → Row = λ y. cond (y.notes.tally.stage == 4) (gives (reply.Ended y.notes.tally.verdict) (ends_task h y.notes.tally.verdict ∷ []))
    (gives_back s w h y (how y)) in
    let g = tally_goes s w h x v r (λ y. unless (nat_lt y.notes.tally.stage 2
    || ((y.notes.tally.stage == 2) && fits (added y))) (Mtapi m.ErrParameter) (inside y)) l k i.allowed in
    let may : (nat_lt v.task.notes.tally.stage 2 || ((v.task.notes.tally.stage == 2) && fits (added v.task))) ≡ false =
    (λ j. nat_lt (v.runs.did j).stage 2 || (((v.runs.did j).stage == 2) && fits ((v.runs.did j).kept +ℤ number_in (tally_args (v.runs.arguments j))))) ∙ d in
    let p = pass (nat_lt v.task.notes.tally.stage 2
    || ((v.task.notes.tally.stage == 2) && fits (added v.task))) (Mtapi m.ErrParameter) r (inside v.task) s may g.allowed in
    subst (λ (u : State). TalliedAs r w u) (sym (g.leads ∙ p.leads))
    (by_gives (λ y ms. TalliedAs y w (after_moves ms s)) (inside v.task) r (ended s w h x v (v.task.notes.tally.stage == 4) v.task (how v.task)) p.allowed)
