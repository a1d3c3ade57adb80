-- Why an op that makes an object is refused before it is asked whether there is room, by the conditions of its row.
use Rattle.node_steps.proofs.Names.{arith, nat_tests, ◌≡◌, ℕ, Bool, true, false, not, cond, List, [], ◌∷◌, ◌++◌, Option, Some, None, refl, sym, ◌∙◌, ap, subst, ◌&&◌, ◌||◌, ◌==◌, nat_lt, nat_le, ℤ, IsNone, option_map, IfSome, first, GroupHandle, QueueHandle, Kind, Mask, MtapiStatus, slot_value, SomeLive, NoneLive, any_listed, live_object, count_listed, any-none, any-live, new_action, has_job, action_create_refusals, new_group, Queue, is_unended_in, put_refusals, Op, Reply, State, Objects, is_open, actions, tasks, groups, queues, Move, Groups, Queues, makes_action, starts_task, makes, Row, says, live, creates, mtapi_unless, Allows, row, new_queue, asked_for, start_refusals, is_detached_member, IsHonest, makes_or_not, refusal_in, refusal_of, CanAnswer, HeldQueue, HasQueueId, facts_of, QueueFacts, IsScheduler, records_of, PoolNode, Lists, Live, PoolNodeSteps, state_of, not-false}
use Rattle.mtapi_values.specs.declared.handles.ObjectKind.{ObjectKind}
use Rattle.mtapi_values.specs.declared.statuses.MtapiStatus.TheVariants as m
use Rattle.mtapi_values.specs.declared.statuses.MrapiStatus.{MrapiStatus}
use Rattle.mtapi_machine.specs.declared.ops.Op.TheVariants as op
use Rattle.mtapi_machine.specs.declared.replies.Reply.TheVariants as reply
use Rattle.mtapi_machine.specs.KeyedRows.{mrapi_unless}
use Rattle.mtapi_machine.specs.TaskRows.{asked_of}
use Rattle.mtapi_renaming.specs.Kinds.{made_kind}
use Rattle.mtapi_renaming.proofs.Refusals.{creates_none, refusals_stay}
use Rattle.mtapi_renaming.proofs.Tells.{refusals_tell}
use Rattle.node_steps.specs.Refusals.{phase_refusals, task_refusals, queue_causes, queue_refusals, MayPut}
use Rattle.node_steps.proofs.Gives.{stays}
use Rattle.node_steps.proofs.Moves.{found}
use Rattle.node_steps.proofs.QueueLemmas.{record-value, record-none, record-found}
use Rattle.node_steps.proofs.QueueSteps.{first_some, first_none, facts_found, causes_are}

-- Lists of conditions

-- the first that is met, and else what comes after them
abbrev before : (MtapiStatus → Reply) → Option MtapiStatus → Option Reply → Option Reply
before f None r = r
before f (Some c) r = Some (f c)

no_more : (f : MtapiStatus → Reply) (o : Option MtapiStatus) → before f o None ≡ option_map f o
no_more f o = grind (arith, nat_tests)

goes_on : (cs : List (Bool × MtapiStatus)) (w : Row) → makes_or_not w ≡ false → makes_or_not (mtapi_unless cs w) ≡ false
goes_on [] w e = e
goes_on (c ∷ cs) w e = refl

then_after : (cs : List (Bool × MtapiStatus)) (w : Row) (r : Option Reply) → makes_or_not w ≡ false → refusal_in w ≡ r
    → refusal_in (mtapi_unless cs w) ≡ before reply.Mtapi (first cs) r
unfolding refusal_in
then_after [] w r e f = f
then_after ((true, c) ∷ cs) w r e f = ap (λ (b : Bool). cond b None (Some (reply.Mtapi c))) (goes_on cs w e)
then_after ((false, c) ∷ cs) w r e f = ap (λ (b : Bool). cond b None (refusal_in (mtapi_unless cs w))) (goes_on cs w e) ∙ then_after cs w r e f

in_mtapi : (cs : List (Bool × MtapiStatus)) (w : Row) → makes_or_not w ≡ false → refusal_in w ≡ None
    → refusal_in (mtapi_unless cs w) ≡ option_map reply.Mtapi (first cs)
in_mtapi cs w e f = then_after cs w None e f ∙ no_more reply.Mtapi (first cs)

goes_on_mrapi : (cs : List (Bool × MrapiStatus)) (w : Row) → makes_or_not w ≡ false → makes_or_not (mrapi_unless cs w) ≡ false
goes_on_mrapi [] w e = e
goes_on_mrapi (c ∷ cs) w e = refl

in_mrapi : (cs : List (Bool × MrapiStatus)) (w : Row) → makes_or_not w ≡ false → refusal_in w ≡ None
    → refusal_in (mrapi_unless cs w) ≡ option_map reply.Mrapi (first cs)
unfolding refusal_in
in_mrapi [] w e f = f
in_mrapi ((true, c) ∷ cs) w e f = ap (λ (b : Bool). cond b None (Some (reply.Mrapi c))) (goes_on_mrapi cs w e)
in_mrapi ((false, c) ∷ cs) w e f = ap (λ (b : Bool). cond b None (refusal_in (mrapi_unless cs w))) (goes_on_mrapi cs w e) ∙ in_mrapi cs w e f

-- what none of a list of conditions tells of the first, and of the others
pub first_fails : (b : Bool) (c : MtapiStatus) (cs : List (Bool × MtapiStatus)) → first ((b, c) ∷ cs) ≡ None → (b ≡ false) × (first cs ≡ None)
first_fails b c cs e1 = grind (arith, nat_tests)

first_goes : (b : Bool) (c : MtapiStatus) (cs : List (Bool × MtapiStatus)) (o : Option MtapiStatus) → b ≡ false → first cs ≡ o → first ((b, c) ∷ cs) ≡ o
first_goes b c cs o e f = ap (λ (x : Bool). cond x (Some c) (first cs)) e ∙ f

-- no queue shows anything
pub none_found : (o : Option HeldQueue) → None ≡ option_map facts_of o → o ≡ None
none_found o e1 = grind (arith, nat_tests)

-- A step that is refused

pub refused : (n : PoolNode) (l : Lists) (who : ℕ) (o : Op) (k : ObjectKind) (c : MtapiStatus) → Live n l → made_kind o ≡ Some k → IsHonest o
    → refusal_of (state_of n l) who o ≡ Some (reply.Mtapi c) → PoolNodeSteps n l who o (reply.Mtapi c) n
refused n l who o k c v made honest e =
    let s = state_of n l in
    let said : CanAnswer (refusal_of s who o) k s (reply.Mtapi c) = subst (λ (x : Option Reply). CanAnswer x k s (reply.Mtapi c)) (sym e) refl in
    let allowed : Allows (row s who o (reply.Mtapi c)) (reply.Mtapi c) = (refusals_tell s who o k (reply.Mtapi c) made).1 said in
    stays n l who o (reply.Mtapi c) v honest (record { allowed = allowed; leads = refusals_stay s who o k (reply.Mtapi c) made allowed refl })

-- The ops

module _ (n : PoolNode) (l : Lists) (who : ℕ) where
  abbrev s : State
  s = state_of n l

  pub action_told : (job : ℕ) (kind : Kind) (cores : Mask)
      → refusal_of s who (op.ActionCreate job kind cores) ≡ option_map reply.Mtapi (first (phase_refusals n.core.phase (action_create_refusals job)))
  action_told job kind cores =
      let make : ℕ → Move = λ h. makes_action h (new_action job kind cores.0) in
      in_mtapi (phase_refusals n.core.phase (action_create_refusals job)) (creates actions s reply.Ok make) refl (creates_none actions s make)

  pub group_told : refusal_of s who op.GroupCreate ≡ option_map reply.Mtapi (first (phase_refusals n.core.phase []))
  group_told =
      let make : ℕ → Move = λ h. makes Groups h new_group in
      in_mtapi (phase_refusals n.core.phase []) (creates groups s reply.Ok make) refl (creates_none groups s make)

  pub task_told : (job : ℕ) (args : List ℤ) (priority : ℕ) (cores : Mask) (detached : Bool) (group : Option GroupHandle)
      → refusal_of s who (op.TaskStart job args priority cores detached group)
      ≡ option_map reply.Mtapi (first (task_refusals s job args priority cores detached group))
  task_told job args priority cores detached group =
      let make : ℕ → Move = λ h. starts_task h (asked_for job args priority cores detached group) in
      in_mtapi (task_refusals s job args priority cores detached group) (creates tasks s reply.Ok make) refl (creates_none tasks s make)

  -- what is known of a start that isn't refused, and what it is refused for at last
  module _ (job : ℕ) (args : List ℤ) (priority : ℕ) (cores : Mask) (detached : Bool) (group : Option GroupHandle) where
    abbrev wrong : Bool
    wrong = not (nat_lt priority n.scheduler.settings.priorities) || is_detached_member detached group

    abbrev last : List (Bool × MtapiStatus)
    last = start_refusals s (asked_for job args priority cores detached group)

    pub task_past : first (task_refusals s job args priority cores detached group) ≡ None
        → (is_open n.core.phase ≡ true) × (wrong ≡ false) × (first last ≡ None)
    task_past e = grind (arith, nat_tests, first_fails, not-false)

    pub task_last : (o : Option MtapiStatus) → is_open n.core.phase ≡ true → wrong ≡ false → first last ≡ o
        → first (task_refusals s job args priority cores detached group) ≡ o
    task_last o up right e = grind (arith, nat_tests, first_goes)

  pub queue_told : (id job priority limit : ℕ) (ordered retain : Bool)
      → refusal_of s who (op.QueueCreate id job priority limit ordered retain) ≡ option_map reply.Mtapi (first (queue_refusals s id job priority limit))
  queue_told id job priority limit ordered retain =
      let make : ℕ → Move = λ h. makes Queues h (new_queue id job priority limit ordered retain) in
      in_mtapi (queue_refusals s id job priority limit) (creates queues s reply.Ok make) refl (creates_none queues s make)

  -- the same of a create of a queue, but for its id
  module _ (job priority limit : ℕ) where
    abbrev out : Bool
    out = not (nat_lt priority n.scheduler.settings.priorities) || not (nat_le 1 limit && nat_le limit 65536)

    abbrev jobless : Bool
    jobless = not (any_listed (has_job job) l.actions)

    pub queue_past : first (queue_causes s job priority limit) ≡ None
        → (is_open n.core.phase ≡ true) × (out ≡ false) × (any_listed (has_job job) l.actions ≡ true)
    queue_past e = grind (arith, nat_tests, first_fails, not-false, actions)

  -- a row that makes a resource after these conditions
  pub makes_told : {T : Type 0} (k : Objects T) (cs : List (Bool × MrapiStatus)) (make : ℕ → Move)
      → refusal_in (mrapi_unless cs (creates k s reply.Ok make)) ≡ option_map reply.Mrapi (first cs)
  makes_told k cs make = in_mrapi cs (creates k s reply.Ok make) refl (creates_none k s make)

  -- a put of a task into a queue: its row, and then what it is refused for, one after the other
  module _ (q : QueueHandle) (args : List ℤ) (cores : Mask) (detached : Bool) (group : Option GroupHandle) where
    abbrev enqueue : Op
    enqueue = op.TaskEnqueue q args cores detached group

    abbrev causes_of : Queue → List (Bool × MtapiStatus)
    causes_of x = put_refusals x ++ start_refusals s (asked_of q.0 x args cores detached group)
        ++ (count_listed (is_unended_in q.0) l.tasks == x.limit, m.ErrQueueLimit) ∷ []

    abbrev into : Queue → Row
    into x = mtapi_unless (causes_of x) (creates tasks s reply.Ok (λ h. starts_task h (asked_of q.0 x args cores detached group)))

    abbrev put_told : Option Queue → Option Reply
    put_told None = Some (reply.Mtapi m.ErrQueueInvalid)
    put_told (Some x) = option_map reply.Mtapi (first (causes_of x))

    put_row : (o : Option Queue) → (makes_or_not (live o (says (reply.Mtapi m.ErrQueueInvalid)) into) ≡ false)
        × (refusal_in (live o (says (reply.Mtapi m.ErrQueueInvalid)) into) ≡ put_told o)
    unfolding refusal_in
    put_row None = (refl, refl)
    put_row (Some x) = grind (arith, nat_tests, goes_on, tasks, in_mtapi, creates_none)

    abbrev earlier : List (Bool × MtapiStatus)
    earlier = phase_refusals n.core.phase ((is_detached_member detached group, m.ErrParameter) ∷ [])

    told_by : (o : Option Queue) → live_object l.queues q.0 ≡ o → refusal_of s who enqueue ≡ before reply.Mtapi (first earlier) (put_told o)
    told_by o e =
        then_after earlier (live (live_object l.queues q.0) (says (reply.Mtapi m.ErrQueueInvalid)) into) (put_told (live_object l.queues q.0))
        (put_row (live_object l.queues q.0)).0 (put_row (live_object l.queues q.0)).1
        ∙ ap (λ (x : Option Queue). before reply.Mtapi (first earlier) (put_told x)) e

    pub enqueue_closed : is_open n.core.phase ≡ false → refusal_of s who enqueue ≡ Some (reply.Mtapi m.ErrNodeNotinit)
    enqueue_closed e =
        told_by (live_object l.queues q.0) refl
        ∙ ap (λ (b : Bool). before reply.Mtapi (first ((not b, m.ErrNodeNotinit) ∷ (is_detached_member detached group, m.ErrParameter) ∷ []))
        (put_told (live_object l.queues q.0))) e

    module _ (v : Live n l) (up : is_open n.core.phase ≡ true) where
      pub enqueue_member : is_detached_member detached group ≡ true → refusal_of s who enqueue ≡ Some (reply.Mtapi m.ErrParameter)
      enqueue_member e =
          told_by (live_object l.queues q.0) refl
          ∙ (λ i. before reply.Mtapi (first ((not (up i), m.ErrNodeNotinit) ∷ (e i, m.ErrParameter) ∷ [])) (put_told (live_object l.queues q.0)))

      module _ (alone : is_detached_member detached group ≡ false) where
        past_both : (o : Option Queue) → live_object l.queues q.0 ≡ o → refusal_of s who enqueue ≡ put_told o
        past_both o e = told_by o e ∙ (λ i. before reply.Mtapi (first ((not (up i), m.ErrNodeNotinit) ∷ (alone i, m.ErrParameter) ∷ [])) (put_told o))

        pub enqueue_dead : slot_value n.scheduler.queues.pool q.0 ≡ None → refusal_of s who enqueue ≡ Some (reply.Mtapi m.ErrQueueInvalid)
        enqueue_dead dead = past_both None (found _ _ (records_of n.scheduler.queues.pool) l.queues q.0 None v.queues
            (record-none n.scheduler.queues.pool q.0 dead))

        -- what the put is refused for, as the node asks for it
        pub enqueue_put : IsScheduler n.scheduler → (f : QueueFacts) (o : Option MtapiStatus)
            → Some f ≡ option_map facts_of (slot_value n.scheduler.queues.pool q.0) →
            first ((not f.enabled && not f.retain, m.ErrQueueDisabled) ∷ start_refusals s (asked_for f.job args f.priority cores detached group)
            ++ (f.unended == f.limit, m.ErrQueueLimit) ∷ []) ≡ o → refusal_of s who enqueue ≡ option_map reply.Mtapi o
        enqueue_put kept f o is e =
            let x = facts_found (slot_value n.scheduler.queues.pool q.0) f is in
            past_both (Some x.0.queue) (found _ _ (records_of n.scheduler.queues.pool) l.queues q.0 (Some x.0.queue) v.queues
            (record-value n.scheduler.queues.pool q.0 x.0 x.1))
            ∙ ap (option_map reply.Mtapi) (causes_are n l who q args cores detached group v up kept alone x.0 x.1 f o x.2 e)

    pub enqueue_none : Live n l → IsScheduler n.scheduler → (f : QueueFacts) → MayPut n q.0 cores detached group f → refusal_of s who enqueue ≡ None
    enqueue_none v kept f may = enqueue_put v may.opened may.alone kept f None may.found (may.none l args f.priority v)

  -- that a live queue has the id
  module _ (v : Live n l) (id : ℕ) where
    abbrev by_id : List (Bool × MtapiStatus)
    by_id = (any_listed (λ x. x.id == id) l.queues, m.ErrQueueExists) ∷ []

    pub id_told : (o : Option MtapiStatus) → IfSome o (λ c. (c ≡ m.ErrQueueExists) × SomeLive (slot_value n.scheduler.queues.pool) (HasQueueId id))
        → (IsNone o → NoneLive (slot_value n.scheduler.queues.pool) (HasQueueId id)) → first by_id ≡ o
    id_told (Some c) some none =
        ap (λ (b : Bool). cond b (Some m.ErrQueueExists) None)
        (any-live (records_of n.scheduler.queues.pool) l.queues (λ x. x.id == id) some.1.0 some.1.1.queue v.queues.stands
        (record-value n.scheduler.queues.pool some.1.0 some.1.1 some.1.2) some.1.3)
        ∙ ap (λ (x : MtapiStatus). Some x) (sym some.0)
    id_told None some none =
        ap (λ (b : Bool). cond b (Some m.ErrQueueExists) None)
        (any-none (records_of n.scheduler.queues.pool) l.queues (λ x. x.id == id) v.queues.stands (λ h y g e. let x =
        record-found n.scheduler.queues.pool h y g in none refl h x.0 x.1 (ap (λ (z : Queue). z.id == id) x.2 ∙ e)))

    pub id_met : (job priority limit : ℕ) (c : MtapiStatus) → first (queue_causes s job priority limit) ≡ Some c
        → first (queue_refusals s id job priority limit) ≡ Some c
    id_met job priority limit c e = first_some (queue_causes s job priority limit) by_id c e

    pub id_past : (job priority limit : ℕ) (o : Option MtapiStatus) → first (queue_causes s job priority limit) ≡ None → first by_id ≡ o
        → first (queue_refusals s id job priority limit) ≡ o
    id_past job priority limit o e f = first_none (queue_causes s job priority limit) by_id e ∙ f
