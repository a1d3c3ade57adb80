-- What each turn of a worker adds, and what it leaves of its work.
use Rattle.std.specs.Prelude.{◌≡◌, ◌⊎◌, ℕ, ◌+◌, Bool, true, false, not, ◌&&◌, ◌||◌, ◌==◌, nat_lt, List, [], ◌∷◌, ◌++◌, ℤ, ◌+ℤ◌, Option, Some, None}
use Rattle.workload_runners.specs.Names.{entry, Kind, TaskEnd, TaskHandle, MtapiStatus, NodeEntry, Answered, fits, Reply, Work}
use Rattle.mtapi_values.specs.declared.kinds.Kind.TheVariants.{Watch, Tally}
use Rattle.mtapi_values.specs.Conditions.{holds}
use Rattle.mtapi_objects.specs.Tasks.{watch_looks, TallyNotes, no_tally, tally_args, number_in, tally_failed, tally_has, tally_read, tally_written}
use Rattle.mtapi_machine.specs.declared.ops.Op.TheVariants as op
use Rattle.mtapi_machine.specs.declared.replies.Reply.TheVariants as reply
use Rattle.workload_runners.specs.Turns.{Seat, SameNodeSeat, AddsOwn}
use Rattle.turn_looks.specs.declared.services.ServeEnd.{ServeEnd}
use Rattle.turn_looks.specs.declared.services.ServeEnd.TheVariants.{Stopped, Spent}
use Rattle.workload_runners.specs.Rounds.{Tallying, watch_asks, retries, tally_steps, tally_entries, AtWork, Added, Stranded, WorkerAs}

-- the work of a task that was just taken
abbrev pub work_of : Kind → List ℤ → Work
work_of k args = record { kind = k; args = args; looks = 0; seen = false; tally = no_tally }

-- the work of a watch that looked so often
abbrev pub watch_work : List ℤ → ℕ → Bool → Work
watch_work args looks seen = record { kind = Watch; args = args; looks = looks; seen = seen; tally = no_tally }

-- the worker added this entry, and has this work
pub record WorkerWorks (old : Seat) (o : _) (r : Reply) (h : ℕ) (x : Work) (new : Seat) : Type 0 where
  pub same : SameNodeSeat old new
  pub mine : new.mine ≡ old.mine ++ entry old.number o r ∷ []
  pub work : AtWork new h x

-- what a pick of a worker without a task comes to
abbrev pub PickEnds : Seat → Reply → Seat → Type 0
PickEnds old (reply.Picked t a k args) new = WorkerWorks old op.Pick (reply.Picked t a k args) t.0 (work_of k args) new
PickEnds old reply.Idle new = Added old (entry old.number op.Pick reply.Idle ∷ []) new
PickEnds old reply.Stop new = SameNodeSeat old new × (new.mine ≡ old.mine ++ entry old.number op.Pick reply.Stop ∷ [])
PickEnds old _ new = ⊥

abbrev pub Finishes : Seat → TaskHandle → Answered → Seat → Type 0
Finishes old t done new = Added old (entry old.number (op.Finish t done) reply.Ok ∷ []) new

-- a watch asked once; it was told to stop, or it looked once more
abbrev pub watch_reported : ℕ → Bool → List ℤ → Work
watch_reported looks true args = watch_work args looks true
watch_reported looks false args = watch_work args (looks + 1) false

abbrev pub Asked : Seat → TaskHandle → List ℤ → ℕ → Bool → Seat → Type 0
Asked old t args looks b new = WorkerWorks old (op.Asked t) (reply.Asked b) t.0 (watch_reported looks b args) new

-- a watch has asked so often, and is to stop or has looked as often as it may
pub record LookedOut (old : Seat) (t : TaskHandle) (args : List ℤ) (most : ℕ) (new : Seat) : Type 0 where
  pub heard : List Bool
  pub same : SameNodeSeat old new
  pub mine : new.mine ≡ old.mine ++ watch_asks old.number t heard
  pub looks : ℕ
  pub seen : Bool
  pub work : AtWork new t.0 (watch_work args looks seen)
  pub over : (not seen && nat_lt looks most) ≡ false

-- a watch that may end
pub record MayEnd (s : Seat) (t : TaskHandle) (args : List ℤ) : Type 0 where
  pub looks : ℕ
  pub seen : Bool
  pub work : AtWork s t.0 (watch_work args looks seen)
  pub over : (not seen && holds (λ n. nat_lt looks n) (watch_looks args)) ≡ false

abbrev pub WorkerEnds : Seat → TaskHandle → Seat → Type 0
WorkerEnds old t new = (e : TaskEnd) × Added old (entry old.number (op.WatchEnd t) (reply.Ended e) ∷ []) new

abbrev pub Watches : Seat → TaskHandle → Seat → Type 0
Watches old t new = (heard : List Bool) × (e : TaskEnd) × Added old (watch_asks old.number t heard ++ entry old.number (op.WatchEnd t) (reply.Ended e) ∷ []) new

-- the work of a tally that has done so much
abbrev pub tallying : List ℤ → TallyNotes → Work
tallying args y = record { kind = Tally; args = args; looks = 0; seen = false; tally = y }

-- the worker added these entries, and has this work
pub record WorkerDoes (old : Seat) (es : List NodeEntry) (h : ℕ) (x : Work) (new : Seat) : Type 0 where
  pub same : SameNodeSeat old new
  pub mine : new.mine ≡ old.mine ++ es
  pub work : AtWork new h x

-- a tally asked once for its mutex and its segment: it has to ask again, it gives up, or it has both
abbrev pub LocksOnce : Seat → TaskHandle → List ℤ → Option Bool → Seat → Type 0
LocksOnce old t args None new = WorkerWorks old (op.TallyLock t) reply.Pending t.0 (tallying args no_tally) new
LocksOnce old t args (Some false) new =
    (c : MtapiStatus) × WorkerWorks old (op.TallyLock t) (reply.Asked false) t.0 (tallying args (tally_failed c no_tally)) new
LocksOnce old t args (Some true) new = (a : ℕ) × (b : ℕ) × WorkerWorks old (op.TallyLock t) (reply.Asked true) t.0 (tallying args (tally_has a b no_tally)) new

-- what it has done by then
abbrev pub Locked : List ℤ → Bool → TallyNotes → Type 0
Locked args false y = (c : MtapiStatus) × (y ≡ tally_failed c no_tally)
Locked args true y = (a : ℕ) × (b : ℕ) × (y ≡ tally_has a b no_tally)

-- it asked so often until it was told one or the other
pub record TakesBoth (old : Seat) (t : TaskHandle) (args : List ℤ) (got : Bool) (new : Seat) : Type 0 where
  pub pending : ℕ
  pub notes : TallyNotes
  pub locked : Locked args got notes
  pub does : WorkerDoes old (retries old.number t pending ++ entry old.number (op.TallyLock t) (reply.Asked got) ∷ []) t.0 (tallying args notes) new

-- the sum of the number that it read and of the one that it adds
abbrev pub sum_with : List ℤ → ℤ → ℤ
sum_with args kept = kept +ℤ number_in (tally_args args)

-- a tally that may read its cell, and what comes of it
abbrev pub MayRead : Seat → TaskHandle → List ℤ → Type 0
MayRead s t args = (a : ℕ) × (b : ℕ) × AtWork s t.0 (tallying args (tally_has a b no_tally))

abbrev pub MayWrite : Seat → TaskHandle → List ℤ → ℤ → Type 0
MayWrite s t args z = (a : ℕ) × (b : ℕ) × AtWork s t.0 (tallying args (tally_read z (tally_has a b no_tally)))

abbrev pub ReadsCell : Seat → TaskHandle → List ℤ → ℤ → Seat → Type 0
ReadsCell old t args z new = (a : ℕ) × (b : ℕ)
    × WorkerWorks old (op.TallyRead t) (reply.Number z) t.0 (tallying args (tally_read z (tally_has a b no_tally))) new

abbrev pub WritesCell : Seat → TaskHandle → List ℤ → ℤ → ℤ → Seat → Type 0
WritesCell old t args z value new = (a : ℕ) × (b : ℕ)
    × WorkerWorks old (op.TallyWrite t value) reply.Ok t.0 (tallying args (tally_written (tally_read z (tally_has a b no_tally)))) new

-- these entries are a tally's that has both
pub record TallyHasBoth (w : ℕ) (t : TaskHandle) (es : List NodeEntry) : Type 0 where
  pub steps : Tallying
  pub is : tally_steps w t steps ≡ entry w (op.TallyLock t) (reply.Asked true) ∷ es

-- a tally that may end
abbrev pub MayEndTally : Seat → TaskHandle → List ℤ → Type 0
MayEndTally s t args = (y : TallyNotes) × AtWork s t.0 (tallying args y) × ((nat_lt y.stage 2 || ((y.stage == 2) && fits (sum_with args y.kept))) ≡ false)

abbrev pub EndsTally : Seat → TaskHandle → Seat → Type 0
EndsTally old t new = (e : TaskEnd) × Added old (entry old.number (op.TallyEnd t) (reply.Ended e) ∷ []) new

-- what a question for both is answered, and what it says: none where it is to be asked again
abbrev pub IsTallyAnswer : Reply → Type 0
IsTallyAnswer reply.Pending = Unit {0}
IsTallyAnswer (reply.Asked b) = Unit {0}
IsTallyAnswer _ = ⊥

abbrev pub answer_in : Reply → Option Bool
answer_in (reply.Asked b) = Some b
answer_in _ = None

-- it read its cell, wrote the sum where that fits, and may end
pub record AddsToCell (old : Seat) (t : TaskHandle) (args : List ℤ) (new : Seat) : Type 0 where
  pub steps : List NodeEntry
  pub same : SameNodeSeat old new
  pub mine : new.mine ≡ old.mine ++ steps
  pub like : TallyHasBoth old.number t steps
  pub may : MayEndTally new t args

-- it did so much, and may end
pub record Sums (old : Seat) (t : TaskHandle) (args : List ℤ) (new : Seat) : Type 0 where
  pub pending : ℕ
  pub steps : Tallying
  pub same : SameNodeSeat old new
  pub mine : new.mine ≡ old.mine ++ (retries old.number t pending ++ tally_steps old.number t steps)
  pub may : MayEndTally new t args

abbrev pub Tallies : Seat → TaskHandle → Seat → Type 0
Tallies old t new = (pending : ℕ) × (steps : Tallying) × (e : TaskEnd) × Added old (tally_entries old.number t pending steps e) new

-- the worker ran what it took, and ended it
abbrev pub Acts : Seat → TaskHandle → Seat → Type 0
Acts old t new = ((done : Answered) × Finishes old t done new) ⊎ (Watches old t new ⊎ Tallies old t new)

-- how a worker's service ended
abbrev pub ServesTo : Seat → ServeEnd → Seat → Type 0
ServesTo old Stopped new = AddsOwn WorkerAs old new
ServesTo old (Spent s) new = Stranded old new
