-- What the fields of laws refuse, by computing.
use Rattle.history_law.proofs.Names.{◌≡◌, ℕ, zero, suc, ◌++◌, refl, arith, live_of, count_listed, issue, change, listed, issued_at, retired, is_full, may_issue, has_worker, runs_on, is_ready, can_take, has_better, after_from, after, usual, worked_first_handle, next_handle, HoldsTask, started, takes, some_same, nat_tests}
use Rattle.std.specs.Prelude.{[], ◌∷◌, ℤ}
use Rattle.mtapi_values.specs.declared.kinds.Kind.TheVariants as kind
use Rattle.mtapi_objects.specs.Tasks.{Running}
use Rattle.history_law.specs.Seats.{Free, Work}
use Rattle.history_law.specs.RefusedFields.{FieldsRefuse, one_runs, two_run, has_left, watched, watching_task}
use Rattle.history_law.proofs.Refused.{not_some}
use Rattle.history_law.proofs.RefusedRuns.{not_one}

has : HoldsTask one_runs 0 worked_first_handle watched
unfolding live_of
has = record { task = watching_task; found = refl; runs = record { state = refl; arguments = refl; looked = refl; reported = refl; did = refl }; alone = refl }

-- the task of the handle is the watch
is_watch : {w : ℕ} {x : Work} (k : HoldsTask one_runs w worked_first_handle x) → watching_task ≡ k.task
unfolding live_of
is_watch k = some_same k.found

two_are : HoldsTask two_run 0 worked_first_handle watched → ⊥
two_are k = let e : suc (suc zero) ≡ suc zero = k.alone in omega arith

not_found : HoldsTask one_runs 0 next_handle watched → ⊥
unfolding live_of
not_found k = not_some k.found

not_live : HoldsTask has_left 0 worked_first_handle watched → ⊥
unfolding live_of
not_live k = not_some k.found

other_kind : Running 0 kind.Watch ≡ Running 0 kind.Tally → ⊥
other_kind e = cc

other_worker : Running 0 kind.Watch ≡ Running 1 kind.Watch → ⊥
other_worker e = cc

has_arguments : {z : ℤ} → [] ≡ z ∷ [] → ⊥
has_arguments e = cc

-- worker 0 has no task, and then one
none_runs : Free (after usual started) 0
unfolding started after_from live_of issue change listed issued_at retired is_full may_issue has_worker is_ready can_take has_better
none_runs = refl

one_then : count_listed (runs_on 0) (after usual (started ++ takes)).tasks ≡ 1
unfolding started after_from live_of issue change listed issued_at retired is_full may_issue has_worker is_ready can_take has_better
one_then = refl

pub fields_refuse : FieldsRefuse
fields_refuse = grind (arith, nat_tests, has, two_are, not_found, not_live, other_worker, is_watch, other_kind, has_arguments, not_one, none_runs, one_then)
