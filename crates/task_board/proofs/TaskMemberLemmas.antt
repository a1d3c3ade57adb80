-- What each move of the tasks is for the members.
use Rattle.task_board.proofs.Names.{nat_tests, ◌≡◌, ℕ, ◌+◌, Bool, true, false, cond, Option, Some, None, IsSome, refl, sym, ◌∙◌, ap, subst, arith, IfSome, is_some, is_none, option_map, false≢true, TaskEnd, Kind, first, GroupHandle, Slots, slot_of, generation_of, free_slot, slot_value, value_at, Inserts, with_value, without, put, changed, value_at-none, Task, TaskState, Running, Ended, NewTask, new_task, Notes, is_unended, end_of, with_state, with_notes, with_tally, with_waiter, cancel_requested, asked_once, asked_refusals, task_look_refusals, group_number, number_noted, notes_of, tallied, after_asked, waiter_after, ended_in, looked_in, Members, GroupTable, with_member, with_ended, NoMemberAt, IsUnendedMember, Membership, start_in, member_as, membership, members_seen, AreMembers, MayJoin, joined, ended_member, none-some, SchedulerTable, IsScheduler, TaskTable, seen_in, max_of}
use Rattle.task_core.specs.declared.tallies.TallyState.{TallyState}
use Rattle.task_board.proofs.MoveLemmas.{none-stands, quiet, Put, put-by, put-same, slot-value, slot-without, slot-insert, slot-changed}
use Rattle.task_board.proofs.MemberLemmas.{start-here, start-tells, end-tells, members-same, members-enter, members-end}

-- Moves that groups don't see

member-noted : (f : Notes → Notes) (t : Task) → (f t.notes).group ≡ t.notes.group → (f t.notes).detached ≡ t.notes.detached
    → membership (Some (with_notes f t)) ≡ membership (Some t)
member-noted f t e1 e2 = grind (arith, nat_tests)

member-changed : (p : Slots Task) (h : ℕ) (f : Task → Task) → ((t : Task) → membership (Some (f t)) ≡ membership (Some t)) → (k : ℕ)
    → members_seen (changed p h f) k ≡ members_seen p k
member-changed p h f same k = by_found (slot_value p h) refl
  where
    by_found : (o : Option Task) → slot_value p h ≡ o → members_seen (changed p h f) k ≡ members_seen p k
    by_found None g = ap (λ (o : Option Task). members_seen (put p h (option_map f o)) k) g
    by_found (Some t) g = put-same (members_seen p) (members_seen (changed p h f)) h _
        (put-by membership (slot_value p) _ h (Some (f t)) (slot-changed p h f t g))
        (same t ∙ ap membership (sym g)) k

pub member-requested : (p : Slots Task) (h k : ℕ) → members_seen (changed p h (with_notes cancel_requested)) k ≡ members_seen p k
member-requested p h k = member-changed p h (with_notes cancel_requested) (λ t. member-noted cancel_requested t refl refl) k

pub member-tallied : (p : Slots Task) (h k : ℕ) (y : TallyState) → members_seen (changed p h (tallied y)) k ≡ members_seen p k
member-tallied p h k y = member-changed p h (tallied y) (λ t. member-noted (with_tally (λ n. notes_of t.args y)) t refl refl) k

pub member-asked : (p : Slots Task) (h w k : ℕ) → members_seen (changed p h (after_asked w)) k ≡ members_seen p k
member-asked p h w k = grind (arith, nat_tests, member-changed, after_asked, asked_refusals, with_notes, asked_once, member-noted)

not-member : (who : ℕ) (t : Task) (g : Option ℕ) → t.notes.group ≡ g → first (task_look_refusals who t) ≡ None → g ≡ None
not-member who t g e1 e2 = grind (arith, nat_tests)

pub member-looked : (p : Slots Task) (h who : ℕ) (last : Bool) (o : Option Task) → slot_value p h ≡ o → (k : ℕ)
    → members_seen (looked_in p h who last o) k ≡ members_seen p k
member-looked p h who last None g k = refl
member-looked p h who last (Some t) g k = by_tests (first (task_look_refusals who t)) refl (is_unended t)
  where
    by_tests : (r : Option _) → first (task_look_refusals who t) ≡ r → (b : Bool)
        → members_seen (cond (is_some r) p (cond b (with_value p h (with_notes (with_waiter (waiter_after who last)) t)) (without p h))) k ≡ members_seen p k
    by_tests (Some c) e b = refl
    by_tests None e true = put-same (members_seen p) _ h _
        (put-by membership (slot_value p) _ h (Some (with_notes (with_waiter (waiter_after who last)) t)) (slot-value p h t _ g))
        (member-noted (with_waiter (waiter_after who last)) t refl refl ∙ ap membership (sym g)) k
    by_tests None e false = put-same (members_seen p) _ h None (put-by membership (slot_value p) _ h None (slot-without p h t g))
        (sym (ap membership g ∙ ap (member_as t) (not-member who t t.notes.group refl e))) k

-- Starting

-- no member has a slot that was free
pub no-member : (p q : Slots Task) (h : ℕ) (t : Task) (groups : Slots Members) (starts ends : ℕ) → AreMembers (members_seen p) (slot_value groups) starts ends
    → Inserts p q h t → NoMemberAt (slot_of h) groups
no-member p q h t groups starts ends old i g m live = (
  none-stands p q h t m.unended i (λ w e none.
      let a = (old.unended g m live).has_key w e in
      let x = start-tells g a.0 (members_seen p w) a.1 in
      absurd (none-some _ (sym (ap membership none) ∙ x.is))),
  none-stands p q h t m.ended i (λ w e none.
      let a = (old.ended g m live).has_key w e in
      let x = end-tells g a.0 (members_seen p w) a.1 in
      absurd (none-some _ (sym (ap membership none) ∙ x.is))),
)

pub may-join : (groups : Slots Members) (detached : Bool) (g : Option GroupHandle) → MayJoin groups detached (group_number g)
    → IfSome g (λ k. IsSome (slot_value groups k.0))
may-join groups detached g e1 = grind (arith, nat_tests)

some-live : {A : Type 0} (o : Option A) → IsSome o → (x : A) × (o ≡ Some x)
some-live o e1 = grind (arith, nat_tests)

-- a task is added, and enters the group that it names
pub members-add : (p q : Slots Task) (h : ℕ) (a : NewTask) (t : GroupTable) (starts ends more later : ℕ)
    → AreMembers (members_seen p) (slot_value t.pool) starts ends → Inserts p q h (new_task a starts) → more ≡ starts + 1 → later ≡ ends
    → MayJoin t.pool a.detached a.group → AreMembers (members_seen q) (slot_value (joined t a.group h).pool) more later
members-add p q h a t starts ends more later old i next same may =
    subst (λ (n : ℕ). AreMembers (members_seen q) (slot_value (joined t a.group h).pool) n later) (sym next)
    (subst (λ (n : ℕ). AreMembers (members_seen q) (slot_value (joined t a.group h).pool) (starts + 1) n) (sym same) (by_group a.group refl may))
  where
    move : Put (members_seen p) h (membership (Some (new_task a starts))) (members_seen q)
    move = put-by membership (slot_value p) (slot_value q) h (Some (new_task a starts)) (slot-insert p q h (new_task a starts) i)

    new : members_seen p h ≡ None
    new = ap membership (ap (λ (o : Option _). value_at o (generation_of h)) i.was_free ∙ value_at-none (free_slot (generation_of h)) (generation_of h) refl)

    by_group : (o : Option ℕ) → a.group ≡ o → MayJoin t.pool a.detached o → AreMembers (members_seen q) (slot_value (joined t o h).pool) (starts + 1) ends
    by_group None e m = members-same (members_seen p) (members_seen q) (slot_value t.pool) starts ends (starts
        + 1) ends (put-same (members_seen p) (members_seen q) h _ move (ap (member_as (new_task a starts)) e ∙ sym new)) (omega arith) (omega arith) old
    by_group (Some g) e m =
        let x = some-live (slot_value t.pool g) m.0 in
        members-enter (members_seen p) (members_seen q) (slot_value t.pool) _ h g starts ends x.0 old x.1
        (record { group = g; detached = a.detached; start = starts; end = None }) new
        (subst (λ (o : Option Membership). Put (members_seen p) h o (members_seen q)) (ap (member_as (new_task a starts)) e) move)
        (slot-changed t.pool g (with_member h) x.0 x.1) refl m.1 refl refl

-- Running and ending

unended-state : (x : TaskState) → is_none (end_of x) ≡ true → end_of x ≡ None
unended-state x e1 = grind (arith, nat_tests)

pub member-runs : (p : Slots Task) (h w : ℕ) (kind : Kind) (t : Task) → slot_value p h ≡ Some t → is_unended t ≡ true → (k : ℕ)
    → members_seen (changed p h (with_state (Running w kind))) k ≡ members_seen p k
member-runs p h w kind t g un k = put-same (members_seen p) _ h _
    (put-by membership (slot_value p) _ h (Some (with_state (Running w kind) t)) (slot-changed p h (with_state (Running w kind)) t g)) (by_group t.notes.group
    ∙ sym (ap membership g)) k
  where
    by_group : (o : Option ℕ) → member_as (with_state (Running w kind) t) o ≡ member_as t o
    by_group None = refl
    by_group (Some z) = λ i. Some (record { group = z; detached = t.notes.detached; start = t.start; end = number_noted (sym (unended-state t.state un) i) })

-- a task ends
pub members-over : (p q : Slots Task) (h : ℕ) (e : TaskEnd) (x : Task) (t : GroupTable) (starts ends more later : ℕ)
    → AreMembers (members_seen p) (slot_value t.pool) starts ends → slot_value p h ≡ Some x → is_unended x ≡ true → q ≡ ended_in p h e ends (Some x)
    → more ≡ starts → later ≡ ends + 1 → AreMembers (members_seen q) (slot_value (ended_member t x.notes.group h).pool) more later
members-over p q h e x t starts ends more later old g un is same next =
    subst (λ (n : ℕ). AreMembers (members_seen q) (slot_value (ended_member t x.notes.group h).pool) n later) (sym same)
    (subst (λ (n : ℕ). AreMembers (members_seen q) (slot_value (ended_member t x.notes.group h).pool) starts n) (sym next)
    (subst (λ (r : Slots Task). AreMembers (members_seen r) (slot_value (ended_member t x.notes.group h).pool) starts (ends + 1)) (sym is)
    (by_group x.notes.group refl)))
  where
    here : members_seen p h ≡ member_as x x.notes.group
    here = ap membership g

    no_group : x.notes.group ≡ None → (b : Bool) → (k : ℕ)
        → members_seen (cond b (without p h) (with_value p h (with_state (Ended e ends) x))) k ≡ members_seen p k
    no_group d true = put-same (members_seen p) _ h None (put-by membership (slot_value p) _ h None (slot-without p h x g)) (sym (here ∙ ap (member_as x) d))
    no_group d false = grind (arith, nat_tests, put-same (members_seen p), put-by membership (slot_value p), slot-value p h x)

    in_group : (z : ℕ) → x.notes.group ≡ Some z
        → Put (members_seen p) h (Some (record { group = z; detached = x.notes.detached; start = x.start; end = Some ends }))
        (members_seen (ended_in p h e ends (Some x)))
    in_group z d = by_detached x.notes.detached refl
      where
        by_detached : (b : Bool) → x.notes.detached ≡ b
            → Put (members_seen p) h (Some (record { group = z; detached = x.notes.detached; start = x.start; end = Some ends }))
            (members_seen (cond b (without p h) (with_value p h (with_state (Ended e ends) x))))
        by_detached true f = absurd (false≢true (sym (old.attached h _ (here ∙ ap (member_as x) d)) ∙ f))
        by_detached false f = subst (λ (o : Option Membership). Put (members_seen p) h o (members_seen (with_value p h (with_state (Ended e ends) x))))
            (ap (member_as (with_state (Ended e ends) x)) d) (put-by membership (slot_value p) _ h (Some (with_state (Ended e ends) x)) (slot-value p h x _ g))

    by_group : (o : Option ℕ) → x.notes.group ≡ o
        → AreMembers (members_seen (ended_in p h e ends (Some x))) (slot_value (ended_member t o h).pool) starts (ends + 1)
    by_group None d = members-same (members_seen p) _ (slot_value t.pool) starts ends starts (ends
        + 1) (no_group d x.notes.detached) (omega arith) (omega arith) old
    by_group (Some z) d =
        let m = old.named h _ (here ∙ ap (member_as x) d) in
        members-end (members_seen p) _ (slot_value t.pool) _ h z starts ends m.0 old m.1
        (record { group = z; detached = x.notes.detached; start = x.start; end = number_noted (end_of x.state) })
        (here ∙ ap (member_as x) d) refl (ap number_noted (unended-state x.state un)) (in_group z d) (slot-changed t.pool z (with_ended h) m.0 m.1)

-- a task that hasn't ended stands in the list of the group that it names
pub member-listed : (p : Slots Task) (h : ℕ) (x : Task) (t : GroupTable) (starts ends : ℕ) → AreMembers (members_seen p) (slot_value t.pool) starts ends
    → slot_value p h ≡ Some x → is_unended x ≡ true → (g : Option GroupHandle) → group_number g ≡ x.notes.group
    → IfSome g (λ k. IsUnendedMember h (slot_value t.pool k.0))
member-listed p h x t starts ends old live un None is = tt
member-listed p h x t starts ends old live un (Some g) is =
    let here : members_seen p h ≡ Some (record { group = g.0; detached = x.notes.detached; start = x.start; end = number_noted (end_of x.state) }) =
    ap membership live ∙ ap (member_as x) (sym is) in
    let m = old.named h _ here in
    subst (λ (o : Option Members). IsUnendedMember h o) (sym m.1)
    ((old.unended g.0 m.0 m.1).listed h x.start (ap (start_in g.0) here
    ∙ start-here g.0 (record { group = g.0; detached = x.notes.detached; start = x.start; end = number_noted (end_of x.state) }) refl
    (ap number_noted (unended-state x.state un))))

-- Scheduler moves that groups don't see

pub members-quiet : (p q : Slots Task) (groups : Slots Members) (starts ends more later : ℕ) → ((k : ℕ) → members_seen q k ≡ members_seen p k) → more ≡ starts
    → later ≡ ends → AreMembers (members_seen p) (slot_value groups) starts ends → AreMembers (members_seen q) (slot_value groups) more later
members-quiet p q groups starts ends more later same grows ages old =
    members-same (members_seen p) (members_seen q) (slot_value groups) starts ends more later same (omega (arith, grows)) (omega (arith, ages)) old

-- the tasks are others, of which neither the scheduler nor the groups see anything
pub quiet-pool : (b : SchedulerTable) (q : TaskTable) (pool : Slots Task) → q ≡ record b.tasks { pool = pool }
    → ((k : ℕ) → seen_in pool k ≡ seen_in b.tasks.pool k) → max_of pool ≡ max_of b.tasks.pool → ((k : ℕ) → members_seen pool k ≡ members_seen b.tasks.pool k)
    → IsScheduler b → IsScheduler (record b { tasks = q })
quiet-pool b q pool is same max members k =
    rw is (quiet b (record b.tasks { pool = pool }) same max refl
    (members-quiet b.tasks.pool pool b.groups.pool b.tasks.starts b.tasks.ends _ _ members refl refl k.members) k)
