-- Plain replies: those with which the report of a run is the plain report of its workload.
use Rattle.std.specs.Prelude.{◌≡◌, ℕ, false, List, [], ◌∷◌, Option, Some}
use Rattle.settled_runs.specs.Names.{TaskEnd, Action, NewTask, Reply, Handle, verdict, is_status, Deed, Statement, Part, Workload, report_by}
use Rattle.workload_file.specs.declared.workload.Deed.TheVariants as deed
use Rattle.run_report.specs.Replies.{Told}
use Rattle.settled_runs.specs.Plain.{all_statements, actions_in, task_in, plain_end, Faults, no_faults, faults_behind, plain_report}

-- the reply is the handle of a task that ends as its action answers
abbrev pub IsPlainTask : List Action → (ℕ → Option TaskEnd) → Option NewTask → Reply → Type 0
IsPlainTask actions ends asked r = (t : NewTask) × (asked ≡ Some t) × (h : ℕ) × (r ≡ Handle h) × (ends h ≡ plain_end actions t)

-- the reply to a statement that stands behind those that left these faults: a wait for all tasks of a group tells its fault, and no
-- other statement is refused
unfoldable pub IsPlainReply : List Action → List Statement → (ℕ → Option TaskEnd) → Faults → Deed → Reply → Type 0
IsPlainReply actions all ends faults deed.Begin r = is_status r ≡ false
IsPlainReply actions all ends faults (deed.Action job kind cores) r = is_status r ≡ false
IsPlainReply actions all ends faults (deed.Start job args priority cores detached group) r =
    IsPlainTask actions ends (task_in all (deed.Start job args priority cores detached group)) r
IsPlainReply actions all ends faults (deed.Enqueue queue args cores detached group) r =
    IsPlainTask actions ends (task_in all (deed.Enqueue queue args cores detached group)) r
IsPlainReply actions all ends faults (deed.Wait place timeout) r = is_status r ≡ false
IsPlainReply actions all ends faults deed.Group r = is_status r ≡ false
IsPlainReply actions all ends faults (deed.WaitAll group timeout) r = r ≡ verdict (faults group)
IsPlainReply actions all ends faults (deed.Queue id job priority limit ordered retain) r = is_status r ≡ false
IsPlainReply actions all ends faults _ r = ⊥

-- the replies to these statements of a part, in order; behind them there may be others
unfoldable pub ArePlain : List Action → List Statement → (ℕ → Option TaskEnd) → Faults → List Statement → List Reply → Type 0
ArePlain actions all ends faults [] rs = Unit {0}
ArePlain actions all ends faults (s ∷ ss) [] = ⊥
ArePlain actions all ends faults (s ∷ ss) (r ∷ rs) =
    IsPlainReply actions all ends faults s.deed r × ArePlain actions all ends (faults_behind actions all faults s.deed) ss rs

-- each part is told with such replies
unfoldable pub PartsArePlain : List Action → (ℕ → Option TaskEnd) → List Part → List Told → Type 0
PartsArePlain actions ends [] [] = Unit {0}
PartsArePlain actions ends [] (t ∷ ts) = ⊥
PartsArePlain actions ends (p ∷ ps) [] = ⊥
PartsArePlain actions ends (p ∷ ps) (t ∷ ts) =
    (t.name ≡ p.name) × (t.statements ≡ p.statements) × ArePlain actions p.statements ends no_faults p.statements t.replies × PartsArePlain actions ends ps ts

-- the report of such replies is the plain one
abbrev pub PlainRepliesShowPlainReport : Type 0
PlainRepliesShowPlainReport =
    (load : Workload) (ends : ℕ → Option TaskEnd) (told : List Told) → PartsArePlain (actions_in (all_statements load)) ends load.parts told
    → report_by ends told ≡ plain_report load
