-- What of the machine's state decides how its tasks end, and how a change leaves it.
use Rattle.std.specs.Prelude.{◌≡◌, ℕ, ◌==◌, ◌&&◌, not, true, false, Bool, List, [], ◌∷◌, ◌++◌, Option, Some, None, is_some, option_map, if◌then◌else◌}
use Rattle.run_report.specs.Names.{TaskEnd, Cancelled, Failed, Mask, Action, with_enabled, has_worker, State, end_at, NodeEntry}
use Rattle.mtapi_values.specs.declared.statuses.MtapiStatus.{MtapiStatus}
use Rattle.mtapi_values.specs.declared.statuses.MtapiStatus.TheVariants.{ErrActionDeleted, ErrActionDisabled, ErrQueueDeleted}
use Rattle.mtapi_values.specs.Conditions.{holds}
use Rattle.handle_pool.specs.Issued.{Listed, live_of, live_object}
use Rattle.mtapi_objects.specs.Queues.{Queue}
use Rattle.mtapi_objects.specs.Tasks.{Task, is_unstarted}
use Rattle.run_report.specs.declared.changes.Unstarted.{Unstarted}
use Rattle.run_report.specs.declared.changes.LiveAction.{LiveAction}
use Rattle.run_report.specs.declared.changes.LiveQueue.{LiveQueue}
use Rattle.run_report.specs.declared.changes.EndEffect.{EndEffect}
use Rattle.run_report.specs.declared.changes.EndEffect.TheVariants.{Nothing, MakesAction, EnablesAction, DisablesAction, DeletesAction, StartsTask, EnqueuesTask, BeginsTask, EndsTask, CancelsTask, MakesQueue, EnablesQueue, DisablesQueue, DeletesQueue, Closes}
use Rattle.run_report.specs.Changes.{effect_of}

-- by handle the end of each task that has ended, and what decides the end of each that hasn't begun; the live actions in the order
-- in which they were made; and by handle each live queue
pub record SeenRun : Type 0 where
  pub ends : ℕ → Option TaskEnd
  pub unstarted : ℕ → Option Unstarted
  pub actions : List (ℕ × Action)
  pub queues : ℕ → Option LiveQueue

-- Of a state

-- what decides the end of a task that hasn't begun
abbrev pub unstarted_of : Task → Unstarted
unstarted_of t = record { job = t.job; cores = record { 0 = t.cores }; queue = t.queue }

-- the same of a listed task, where it is live and hasn't begun
abbrev pub unstarted_in : Listed Task → Option Unstarted
unstarted_in r = if r.live && is_unstarted r.fields then Some (unstarted_of r.fields) else None

-- the same of the task of this handle
unfoldable pub unstarted_at : List (Listed Task) → ℕ → Option Unstarted
unstarted_at [] h = None
unstarted_at (r ∷ rs) h = if r.handle == h then unstarted_in r else unstarted_at rs h

abbrev pub live_queue_of : Queue → LiveQueue
live_queue_of q = record { job = q.job; retain = q.retain; enabled = q.enabled }

abbrev pub live_queue_at : List (Listed Queue) → ℕ → Option LiveQueue
live_queue_at l h = option_map live_queue_of (live_object l h)

-- what is seen is what stands in the state
pub record FollowsSeen (v : SeenRun) (s : State) : Type 0 where
  pub ends : (h : ℕ) → v.ends h ≡ end_at s.tasks h
  pub unstarted : (h : ℕ) → v.unstarted h ≡ unstarted_at s.tasks h
  pub actions : v.actions ≡ live_of s.actions
  pub queues : (h : ℕ) → v.queues h ≡ live_queue_at s.queues h

-- Changes

-- what stands at each handle, with this at the first one
abbrev pub put_at : {X : Type 0} → ℕ → Option X → (ℕ → Option X) → ℕ → Option X
put_at h x f k = if h == k then x else f k

-- the action of this handle changed; without the action of this handle
abbrev pub with_action : ℕ → (Action → Action) → List (ℕ × Action) → List (ℕ × Action)
with_action h f [] = []
with_action h f (e ∷ es) = if e.0 == h then (e.0, f e.1) ∷ es else e ∷ with_action h f es

abbrev pub without_action : ℕ → List (ℕ × Action) → List (ℕ × Action)
without_action h [] = []
without_action h (e ∷ es) = if e.0 == h then es else e ∷ without_action h es

-- every task that hasn't begun and passes ends so
abbrev pub ends_where : (Unstarted → Bool) → TaskEnd → SeenRun → SeenRun
ends_where p e v = record v {
  ends = λ h. if holds p (v.unstarted h) then Some e else v.ends h;
  unstarted = λ h. if holds p (v.unstarted h) then None else v.unstarted h;
}

-- no worker can take the task; it is in this queue; its queue is disabled
abbrev pub is_left : ℕ → List (ℕ × Action) → Unstarted → Bool
is_left workers actions t = not (has_worker workers t.job t.cores.0 actions)

abbrev pub is_of : ℕ → Unstarted → Bool
is_of q t = holds (λ h. h == q) t.queue

abbrev pub is_queue_shut : (ℕ → Option LiveQueue) → Unstarted → Bool
is_queue_shut queues t = holds (λ h. holds (λ q. not q.enabled) (queues h)) t.queue

-- the task of this handle ends so
abbrev pub with_end : ℕ → TaskEnd → SeenRun → SeenRun
with_end h e v = record v { ends = put_at h (Some e) v.ends; unstarted = put_at h None v.unstarted }

-- these are the live actions now, and the tasks that no worker can take any more fail with this status
abbrev pub withdrawn : ℕ → List (ℕ × Action) → MtapiStatus → SeenRun → SeenRun
withdrawn workers actions c v = ends_where (is_left workers actions) (Failed c) (record v { actions = actions })

-- a task of this queue, where that is live
abbrev pub enqueued : ℕ → ℕ → Mask → Option LiveQueue → SeenRun → SeenRun
enqueued h q cores None v = v
enqueued h q cores (Some x) v = record v { unstarted = put_at h (Some (record { job = x.job; cores = cores; queue = Some q })) v.unstarted }

-- a queue that is enabled, or not
abbrev pub opened_live : Bool → LiveQueue → LiveQueue
opened_live on q = record q { enabled = on }

abbrev pub with_open : ℕ → Bool → SeenRun → SeenRun
with_open h on v = record v { queues = put_at h (option_map (opened_live on) (v.queues h)) v.queues }

-- the task of this handle ends cancelled, where it hasn't begun
abbrev pub cancelled : ℕ → SeenRun → SeenRun
cancelled h v = if is_some (v.unstarted h) then with_end h Cancelled v else v

-- a queue is disabled, and its tasks that haven't begun end cancelled where it doesn't keep them
abbrev pub queue_disabled : ℕ → SeenRun → SeenRun
queue_disabled h v = if holds (λ q. not q.retain) (v.queues h) then ends_where (is_of h) Cancelled (with_open h false v) else with_open h false v

-- a queue stops being live, and its tasks that haven't begun fail
abbrev pub queue_deleted : ℕ → SeenRun → SeenRun
queue_deleted h v = record (ends_where (is_of h) (Failed ErrQueueDeleted) v) { queues = put_at h None v.queues }

-- an action as the machine has it, and actions with their handles
abbrev pub machine_action : LiveAction → Action
machine_action a = record { job = a.job; kind = a.kind; cores = a.cores.0; enabled = a.enabled }

abbrev pub live_pairs : List LiveAction → List (ℕ × Action)
live_pairs [] = []
live_pairs (a ∷ more) = (a.handle, machine_action a) ∷ live_pairs more

-- what is seen after a change, with so many workers
abbrev pub with_effect : ℕ → EndEffect → SeenRun → SeenRun
with_effect workers Nothing v = v
with_effect workers (MakesAction a) v = record v { actions = v.actions ++ live_pairs (a ∷ []) }
with_effect workers (EnablesAction h) v = record v { actions = with_action h (with_enabled true) v.actions }
with_effect workers (DisablesAction h) v = withdrawn workers (with_action h (with_enabled false) v.actions) ErrActionDisabled v
with_effect workers (DeletesAction h) v = withdrawn workers (without_action h v.actions) ErrActionDeleted v
with_effect workers (StartsTask h t) v = record v { unstarted = put_at h (Some t) v.unstarted }
with_effect workers (EnqueuesTask h q cores) v = enqueued h q cores (v.queues q) v
with_effect workers (BeginsTask h) v = record v { unstarted = put_at h None v.unstarted }
with_effect workers (EndsTask h e) v = with_end h e v
with_effect workers (CancelsTask h) v = cancelled h v
with_effect workers (MakesQueue h q) v = record v { queues = put_at h (Some q) v.queues }
with_effect workers (EnablesQueue h) v = with_open h true v
with_effect workers (DisablesQueue h) v = queue_disabled h v
with_effect workers (DeletesQueue h) v = queue_deleted h v
with_effect workers Closes v = ends_where (is_queue_shut v.queues) Cancelled v

-- what is seen before the first entry, and after these entries
abbrev pub nothing_seen : SeenRun
nothing_seen = record { ends = λ h. None; unstarted = λ h. None; actions = []; queues = λ h. None }

unfoldable pub seen_from : ℕ → SeenRun → List NodeEntry → SeenRun
seen_from workers v [] = v
seen_from workers v (e ∷ es) = seen_from workers (with_effect workers (effect_of e.op e.reply) v) es
