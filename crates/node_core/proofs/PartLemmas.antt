-- A node that stands for a list agrees with its state, part by part.
use Rattle.node_core.proofs.Names.{nat_tests, ◌≡◌, inl, inr, ℕ, zero, suc, ◌+◌, ◌<◌, ◌≤◌, Bool, true, false, cond, List, Option, Some, None, refl, sym, ◌∙◌, ap, subst, arith, NodeSettings, ObjectKind, Slot, Slots, slot_of, generation_of, value_at, Listed, live_object, issued_at, retired, State, NodeEntry, after, AreNamed, NoHandle, TaskIsNamed, Named, state_in_one, turned_list, turned_task, inner_entries, history_turns, Node, NodeStands, terms_of_node, IsPast, AgreesIn, same_fields, lists_in, Agrees}
use Rattle.std.specs.Option.{option_map}
use Rattle.std.proofs.lemmas.Bool.Decides.{eqb_tells}
use Rattle.mtapi_values.specs.Layouts.{outer}
use Rattle.mtapi_values.specs.declared.handles.ObjectKind.TheVariants as kind
use Rattle.handle_pool.specs.Stands.{generation_after, SlotStands}
use Rattle.handle_pool.proofs.ListedLemmas.{issued_at-slot}
use Rattle.mtapi_layouts.specs.Inward.{inward}
use Rattle.mtapi_layouts.proofs.Handles.{outer-inward, inward-outer}
use Rattle.mtapi_layouts.proofs.Lists.{found-turned, found-named, found-room}
use Rattle.task_board.specs.Scheduler.{records_of, group_slots}
use Rattle.node_resources.specs.Holds.{Holds}
use Rattle.node_steps.specs.Stands.{Lists, Pools, state_of, terms_of as terms_inside}
use Rattle.node_steps.specs.Keeps.{Keeps}
use Rattle.node_core.proofs.Outside.{named}

none_some : {A : Type 0} {P : Type 0} {x : A} → None ≡ Some x → P
none_some e = absurd (cc)

less : (a b : ℕ) → b ≤ a → (a ≡ b → ⊥) → b < a
less zero zero most apart = absurd (apart refl)
less zero (suc b) most apart = absurd (omega arith)
less (suc a) zero most apart = omega arith
less (suc a) (suc b) most apart = let rest : b < a = less a b (omega (arith, most)) (λ e. apart (ap suc e)) in omega (arith, rest)

-- a slot that had so many turns has had each of their generations, but for one that is live
was-past : {T : Type 0} (generations turns generation : ℕ) (slot : Slot T) → SlotStands generations turns slot → generation ≤ turns
    → value_at (Some slot) generation ≡ None → IsPast generations generation slot
was-past generations turns generation slot s most none = grind (arith, nat_tests, retired, eqb_tells, none_some, less)

module _ {T : Type 0} (k : ObjectKind) (f : T → T) (P : T → Type 0) where
  agrees-in : (size generations : ℕ) (p : Slots T) (l : List (Listed T)) → AreNamed k P l → Holds size generations p (turned_list k f l)
      → AgreesIn k f generations p l
  agrees-in size generations p l names h = record {
    slots = λ i x e.
        let there = sym (h.stands.found i) ∙ e in
        sym (found-turned k f P (outer k i) l names) ∙ (ap (live_object (turned_list k f l)) (inward-outer k i (found-room k f P i x l names there)) ∙ there);
    records = λ i x e.
        (sym (outer-inward k i (found-named k f P i x l names e).0), h.stands.found (inward k i) ∙ (found-turned k f P i l names ∙ ap (option_map f) e));
    past = λ i slot some off at.
        let turn = h.stands.turns i some in
        let none = sym (ap (λ (o : Option (Slot T)). value_at o (generation_of i)) at) ∙ (h.stands.found i ∙ off) in
        subst (λ (g : ℕ). IsPast g (generation_of i) slot) h.generations
        (was-past p.generations (issued_at (slot_of i) (turned_list k f l)) (generation_of i) slot (h.stands.slots (slot_of i) slot at)
        (subst (λ (c : ℕ). generation_of i ≤ c) (sym (issued_at-slot i (turned_list k f l))) turn.at_most) none);
    turns = λ place slot at. (h.stands.slots place slot at).generation;
    retired = h.stands.retired ∙ ap (λ (g : ℕ). retired g (turned_list k f l)) h.generations;
  }

pub agrees : (n : Node) (L : List NodeEntry) → NodeStands n L → Agrees n (after (terms_of_node n) L)
agrees n L st = record {
  beside = same ∙ ap (state_of n.inner) (sym (ap lists_in same));
  actions = agrees-in kind.Action same_fields NoHandle attr.actions attr.generations n.inner.scheduler.actions s.actions names.actions live.actions;
  tasks = agrees-in kind.Task turned_task TaskIsNamed attr.tasks attr.generations n.inner.scheduler.tasks.pool s.tasks names.tasks live.tasks;
  groups = agrees-in kind.Group same_fields NoHandle attr.groups attr.generations (group_slots n.inner.scheduler) s.groups names.groups live.groups;
  queues = agrees-in kind.Queue same_fields NoHandle attr.queues attr.generations (records_of n.inner.scheduler.queues.pool) s.queues names.queues live.queues;
  mutexes = agrees-in kind.Mutex same_fields NoHandle attr.objects attr.generations n.inner.resources.mutexes s.mutexes names.mutexes live.resources.mutexes;
  sems = agrees-in kind.Sem same_fields NoHandle attr.objects attr.generations n.inner.resources.sems s.sems names.sems live.resources.sems;
  rwls = agrees-in kind.Rwl same_fields NoHandle attr.objects attr.generations n.inner.resources.rwls s.rwls names.rwls live.resources.rwls;
  segments = agrees-in kind.Shmem same_fields NoHandle attr.objects attr.generations n.inner.resources.segments s.segments names.segments
      live.resources.segments;
  keeps = subst (λ (x : State). Keeps x n.inner.scheduler) (sym leads) st.inside.keeps;
}
  where
    attr : NodeSettings
    attr = n.inner.scheduler.settings

    s : State
    s = after (terms_of_node n) L

    leads : state_in_one s ≡ after (terms_inside n.inner) (inner_entries st.entries)
    leads = ap (λ (K : List NodeEntry). state_in_one (after (terms_of_node n) K)) (sym st.seen)
        ∙ (history_turns (terms_of_node n) st.entries refl st.small st.inside.legal).leads

    same : state_in_one s ≡ state_of n.inner st.inside.lists
    same = leads ∙ st.inside.state

    names : Named s
    names = subst (λ (K : List NodeEntry). Named (after (terms_of_node n) K)) st.seen (named (terms_of_node n) st.entries refl)

    live : Pools attr n.inner.scheduler.actions n.inner.scheduler.tasks.pool (group_slots n.inner.scheduler)
        (records_of n.inner.scheduler.queues.pool) n.inner.resources (lists_in (state_in_one s))
    live = subst (λ (l : Lists). Pools attr n.inner.scheduler.actions n.inner.scheduler.tasks.pool (group_slots n.inner.scheduler)
        (records_of n.inner.scheduler.queues.pool) n.inner.resources l) (sym (ap lists_in same)) st.inside.live
