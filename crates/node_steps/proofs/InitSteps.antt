-- A new node stands for the empty list, and each step goes on with the list.
use Rattle.node_steps.proofs.Names.{nat_tests, ◌≡◌, ℕ, ◌+◌, ◌<◌, ◌≤◌, false, List, [], ◌∷◌, ◌++◌, ◌^◌, length, length-append, refl, sym, ◌∙◌, ap, subst, arith, map, replicate, NodeSettings, AreNodeSettings, Slot, Slots, free_slot, no_marks, HeldQueue, mapped_slot, mapped-new, SchedulerTable, IsScheduler, records_of, group_slots, Keeps, Op, Reply, New, State, opening, start_numbers, Sound, NodeEntry, IsNext, next, LegalFrom, Legal, after_from, after, ResourceTable, HoldsAll, PoolNode, Lists, Holds, Pools, Live, PoolNodeSteps, state_of, terms_of, seat_count}
use Rattle.node_steps.proofs.KeepLemmas.{keeps-scheduler}
use Rattle.history.specs.Histories.{entry}
use Rattle.mtapi_machine.specs.declared.terms.Terms.{Terms}
use Rattle.mtapi_machine.proofs.Served.{served, after_served}
use Rattle.mtapi_machine.proofs.StartOrder.{after_numbered, rises-front}
use Rattle.history_law.proofs.tallies.Attends.{tallies_hold}
use Rattle.mtapi_machine.proofs.Lists.{Legal-append, Legal-one, after-one}
use Rattle.node_steps.specs.Stands.{PoolNodeStands}

-- new queues have no records
pub records_new : (p : Slots HeldQueue) (size : ℕ) → p.slots ≡ replicate size (free_slot 1) → (records_of p).slots ≡ replicate size (free_slot 1)
records_new p size e = ap (λ (l : List (Slot HeldQueue)). map (mapped_slot (λ (x : HeldQueue). x.queue)) l) e ∙ mapped-new (λ (x : HeldQueue). x.queue) size

-- a node as it is made, and no objects
abbrev made : ℕ → SchedulerTable → ResourceTable → PoolNode
made callers b r = record { core = record { callers = callers; phase = New; released = false; stopped = no_marks }; scheduler = b; resources = r }

abbrev none : Lists
none = record { actions = []; tasks = []; groups = []; queues = []; resources = record { mutexes = []; sems = []; rwls = []; segments = [] } }

pub new_node : (attr : NodeSettings) (callers : ℕ) (b : SchedulerTable) (r : ResourceTable) → AreNodeSettings attr → 1 ≤ callers → callers ≤ 9
    → b.settings ≡ attr → Holds attr.actions attr.generations b.actions [] → Holds attr.tasks attr.generations b.tasks.pool []
    → Holds attr.groups attr.generations (group_slots b) [] → Holds attr.queues attr.generations (records_of b.queues.pool) [] → HoldsAll attr r none.resources
    → b.tasks.starts ≡ 0 → b.tasks.ends ≡ 0 → IsScheduler b → PoolNodeStands (made callers b r) []
unfolding LegalFrom after_from
new_node attr callers b r s some few is x y g z u starts ends kept = record {
  legal = record { fits = record { settings = subst (λ (t : NodeSettings). AreNodeSettings t) (sym is) s; some_caller = some; callers = few }; from = tt };
  lists = none;
  state = same;
  live = live;
  starts = omega arith;
  keeps = subst (λ (t : State). Keeps t b) (sym same) (keeps-scheduler (made callers b r) none live kept);
}
  where
    live : Live (made callers b r) none
    live = subst (λ (t : NodeSettings). Pools t b.actions b.tasks.pool (group_slots b) (records_of b.queues.pool) r none) (sym is)
        (record { actions = x; tasks = y; groups = g; queues = z; resources = u })

    same : after (terms_of (made callers b r)) [] ≡ state_of (made callers b r) none
    same i = record (state_of (made callers b r) none) { starts = sym starts i; ends = sym ends i }

one_more : (L : List NodeEntry) (e : NodeEntry) → length (L ++ e ∷ []) ≡ length L + 1
one_more L e = simp length-append refl

-- one more entry
pub goes_on : (n m : PoolNode) (L : List NodeEntry) (who : ℕ) (op : Op) (r : Reply) (st : PoolNodeStands n L) → who < seat_count (terms_of n)
    → PoolNodeSteps n st.lists who op r m → IsScheduler m.scheduler → PoolNodeStands m (L ++ entry who op r ∷ [])
goes_on n m L who op r st seat s kept =
    subst (λ (t : Terms). Legal t (L ++ e ∷ []) → after t (L ++ e ∷ []) ≡ state_of m s.0 → PoolNodeStands m (L ++ e ∷ [])) s.1.terms
    (λ legal leads. record {
      legal = legal;
      lists = s.0;
      state = leads;
      live = live;
      starts = starts;
      keeps = subst (λ (x : State). Keeps x m.scheduler) (sym leads) (keeps-scheduler m s.0 live kept);
    })
    (record { fits = st.legal.fits; from = Legal-append _ L (e ∷ []) st.legal.from (Legal-one (after (terms_of n) L) e may) })
    (after-one _ L e ∙ (ap (λ (x : State). next x e) st.state ∙ s.1.leads))
  where
    e : NodeEntry
    e = entry who op r

    may : IsNext (after (terms_of n) L) (entry who op r)
    may = subst (λ (x : State). IsNext x (entry who op r)) (sym st.state) (record { seat = seat; honest = s.1.honest; allowed = s.1.allowed })

    live : Live m s.0
    live = subst (λ (t : Terms). Pools t.settings m.scheduler.actions m.scheduler.tasks.pool (group_slots m.scheduler)
        (records_of m.scheduler.queues.pool) m.resources s.0) (sym s.1.terms) s.1.live

    starts : m.scheduler.tasks.starts ≤ length (L ++ entry who op r ∷ [])
    starts = omega (arith, one_more L (entry who op r), st.starts, s.1.starts)

-- few tasks were started
pub few_starts : (n : PoolNode) (L : List NodeEntry) → PoolNodeStands n L → length L < 2 ^ 62 + 16 → n.scheduler.tasks.starts < 2 ^ 63
few_starts n L st l = omega (arith, st.starts)

-- and there are few seats
pub few_seats : (n : PoolNode) (L : List NodeEntry) (who : ℕ) → PoolNodeStands n L → who < seat_count (terms_of n) → who < 25
few_seats n L who st seat = omega (arith, st.legal.fits.settings.workers.1, st.legal.fits.callers)

-- the state of a node is one that a history leads to
pub sound : (n : PoolNode) (L : List NodeEntry) (st : PoolNodeStands n L) → Sound (state_of n st.lists)
sound n L st = subst Sound st.state (record {
  served = served s (after_served (opening (terms_of n)) L tt);
  ordered = rises-front (start_numbers s.tasks) (s.starts ∷ []) (after_numbered (opening (terms_of n)) L (tt, tt));
  tallies = tallies_hold (terms_of n) L st.legal;
})
  where
    s : State
    s = after (terms_of n) L

-- a step keeps the terms
pub same_terms : (n m : PoolNode) (who : ℕ) (op : Op) (r : Reply) (L : List NodeEntry) (st : PoolNodeStands n L)
    → ((l : Lists) → Live n l → Sound (state_of n l) → PoolNodeSteps n l who op r m) → terms_of m ≡ terms_of n
same_terms n m who op r L st s = (s st.lists st.live (sound n L st)).1.terms
