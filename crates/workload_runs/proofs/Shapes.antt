-- The calls that statements make: one entry of an op, or looks for something wanted.
use Rattle.workload_runs.proofs.Names.{◌≡◌, ℕ, List, refl, Deed, Call, Once, Looking, call_of, handle_at, IsOnce}
use Rattle.workload_file.specs.declared.workload.Deed.TheVariants as deed
use Rattle.workload_runs.specs.declared.calls.Wanted.{Wanted}
use Rattle.workload_runs.specs.declared.calls.Wanted.TheVariants as wanted
use Rattle.workload_runs.specs.Wants.{op_of_look, waits, IsTimed}

abbrev pub Shaped : Call → Type 0
Shaped (Once o) = IsOnce o
Shaped (Looking stands o timeout) = (w : Wanted) × (stands ≡ waits w) × (o ≡ op_of_look w) × IsTimed w

pub shaped : (bound : List ℕ) (d : Deed) → Shaped (call_of bound d)
shaped bound (deed.Wait place timeout) = (wanted.Task (record { 0 = handle_at bound place }), refl, refl, tt)
shaped bound (deed.WaitAll place timeout) = (wanted.AllMembers (record { 0 = handle_at bound place }), refl, refl, tt)
shaped bound (deed.WaitAny place timeout) = (wanted.FirstMember (record { 0 = handle_at bound place }), refl, refl, tt)
shaped bound (deed.Lock place timeout) = (wanted.Mutex (record { 0 = handle_at bound place }), refl, refl, tt)
shaped bound (deed.SemLock place timeout) = (wanted.Sem (record { 0 = handle_at bound place }), refl, refl, tt)
shaped bound (deed.RwlLock place writer timeout) = (wanted.Rwl (record { 0 = handle_at bound place }) writer, refl, refl, tt)
shaped bound _ = tt
