-- What a scheduler keeps where a member leaves its group.
use Rattle.task_board.proofs.Names.{nat_tests, arith, ◌≡◌, ℕ, Bool, true, false, not, cond, List, [], ◌∷◌, Option, Some, None, Result, Ok, Err, IsSome, slice_get, refl, sym, ◌∙◌, ap, subst, IfSome, is_none, TaskEnd, GroupHandle, MtapiStatus, ErrGroupLimit, get-insert_before, Slots, slot_value, with_value, without, max_of, changed, has_handle, Task, TaskState, Ended, end_of, is_unended, is_member, number_noted, without_group, TaskTable, IsLiveAnd, detached_in, Members, GroupTable, LiveAreUsed, CreatesGroup, delete_reply, no_members, rest_of, first_ended, first_unended, without_first, without_first_unended, seen, seen_in, without_members, Membership, membership, members_seen, AreMembers, SchedulerTable, IsScheduler, Leaves, none-some}
use Rattle.std.specs.Prelude.{OnOk}
use Rattle.task_core.specs.Records.{end_noted as end_told}
use Rattle.task_board.specs.GroupMoves.{Parts, TakesMember}
use Rattle.task_board.proofs.SeenLemmas.{some_same}
use Rattle.task_board.proofs.MoveLemmas.{Put, put-by, put-same, put-value, put-without, slot-value, slot-without, slot-insert, slot-changed, max-value, max-without, over-unseen, seen-noted, has-self, regrouped}
use Rattle.task_board.proofs.MemberLemmas.{start-tells, end-tells, members-take, members-leave, members-create, members-delete}
use Rattle.task_board.proofs.GroupSlotLemmas.{members-unseen}

-- the first of a list
pub record FirstIn (o : Option Members) (list : Members → List ℕ) (h : ℕ) : Type 0 where
  pub m : Members
  pub rest : List ℕ
  pub live : o ≡ Some m
  pub is : list m ≡ h ∷ rest

head-of : (l : List ℕ) (h : ℕ) → slice_get l 0 ≡ Some h → l ≡ h ∷ rest_of l
head-of l h e1 = grind (arith, nat_tests)

pub ended-first : (o : Option Members) (h : ℕ) → first_ended o ≡ Some h → FirstIn o (λ m. m.ended) h
ended-first o h e1 = grind (arith, nat_tests, none-some, rest_of, head-of)

pub unended-first : (o : Option Members) (h : ℕ) → first_unended o ≡ Some h → FirstIn o (λ m. m.unended) h
unended-first o h e1 = grind (arith, nat_tests, none-some, rest_of, head-of)

no-head : (l : List ℕ) → slice_get l 0 ≡ None → l ≡ []
no-head [] e = refl
no-head (x ∷ xs) e = absurd (none-some _ (sym e))

pub none-unended : (o : Option Members) (m : Members) → first_unended o ≡ None → o ≡ Some m → m.unended ≡ []
none-unended None m e is = absurd (none-some _ is)
none-unended (Some x) m e is = ap (λ (z : Members). z.unended) (sym (some_same is)) ∙ no-head x.unended e

-- a member, as its task is
pub record Member (p : Slots Task) (g h : ℕ) (e : Option ℕ) : Type 0 where
  pub t : Task
  pub live : slot_value p h ≡ Some t
  pub group : t.notes.group ≡ Some g
  pub member : is_member g t ≡ true
  pub end : number_noted (end_of t.state) ≡ e

pub member-from : (p : Slots Task) (g h : ℕ) (e : Membership) → members_seen p h ≡ Some e → e.group ≡ g → Member p g h e.end
member-from p g h e e1 e2 = grind (arith, nat_tests)

-- a member that has ended, and one that hasn't
pub ended-member : (b : SchedulerTable) (g h : ℕ) (m : Members) (rest : List ℕ) → IsScheduler b → slot_value b.groups.pool g ≡ Some m → m.ended ≡ h ∷ rest
    → (n : ℕ) × Member b.tasks.pool g h (Some n)
ended-member b g h m rest k live is =
    let keyed = k.members.ended g m live in
    let a = keyed.has_key h (ap (has_handle h) is ∙ has-self h rest) in
    let x = end-tells g a.0 (members_seen b.tasks.pool h) a.1 in
    (a.0, subst (λ (o : Option ℕ). Member b.tasks.pool g h o) x.end (member-from b.tasks.pool g h x.e x.is x.group))

pub unended-member : (b : SchedulerTable) (g h : ℕ) (m : Members) (rest : List ℕ) → IsScheduler b → slot_value b.groups.pool g ≡ Some m → m.unended ≡ h ∷ rest
    → Member b.tasks.pool g h None
unended-member b g h m rest k live is =
    let keyed = k.members.unended g m live in
    let a = keyed.has_key h (ap (has_handle h) is ∙ has-self h rest) in
    let x = start-tells g a.0 (members_seen b.tasks.pool h) a.1 in
    subst (λ (o : Option ℕ). Member b.tasks.pool g h o) x.end (member-from b.tasks.pool g h x.e x.is x.group)

pub record EndedSo (x : TaskState) (n : ℕ) : Type 0 where
  pub e : TaskEnd
  pub is : x ≡ Ended e n

pub ended-so : (x : TaskState) (n : ℕ) → number_noted (end_of x) ≡ Some n → EndedSo x n
ended-so x n e1 = grind (arith, nat_tests)

pub unended-so : (x : TaskState) → number_noted (end_of x) ≡ None → is_none (end_of x) ≡ true
unended-so x e1 = grind (arith, nat_tests)

-- the member that ended first is freed
pub take-first : (b : SchedulerTable) (q : TaskTable) (t : GroupTable) (g h n : ℕ) (m : Members) (rest : List ℕ) (x : Member b.tasks.pool g h (Some n))
    → IsScheduler b → slot_value b.groups.pool g ≡ Some m → m.ended ≡ h ∷ rest → q ≡ record b.tasks { pool = without b.tasks.pool h }
    → t ≡ record b.groups { pool = changed b.groups.pool g without_first } → IsScheduler (record b { tasks = q; groups = t })
take-first b q t g h n m rest x k live is pool groups =
    regrouped b q t
    (λ j. ap (λ (z : TaskTable). seen_in z.pool j) pool
    ∙ put-same (seen_in b.tasks.pool) _ h None (put-without b.tasks.pool h x.t x.live) (sym (ap seen x.live ∙ over-unseen x.t x.t.state refl over)) j)
    (ap (λ (z : TaskTable). max_of z.pool) pool ∙ max-without b.tasks.pool h) (ap (λ (z : TaskTable). z.starts) pool) (ap (λ (z : GroupTable). z.tasks) groups)
    (subst (λ (z : TaskTable). AreMembers (members_seen z.pool) (slot_value t.pool) z.starts z.ends) (sym pool)
    (subst (λ (z : GroupTable). AreMembers (members_seen (without b.tasks.pool h)) (slot_value z.pool) b.tasks.starts b.tasks.ends) (sym groups)
    (members-take (members_seen b.tasks.pool) _
    (slot_value b.groups.pool) _ h g b.tasks.starts b.tasks.ends m k.members live rest is (put-by membership (slot_value b.tasks.pool) _ h None
    (slot-without b.tasks.pool h x.t x.live))
    (subst (λ (l : List ℕ). Put (slot_value b.groups.pool) g (Some (record m { ended = rest_of l }))
    (slot_value (changed b.groups.pool g without_first))) is (slot-changed b.groups.pool g without_first m live)))))
    k
  where
    over : is_unended x.t ≡ false
    over = let y = ended-so x.t.state n x.end in ap (λ (z : TaskState). is_none (end_of z)) y.is

-- the member that entered first, of those that haven't ended, is let go
pub leave-first : (b : SchedulerTable) (q : TaskTable) (t : GroupTable) (g h : ℕ) (m : Members) (rest : List ℕ) (x : Member b.tasks.pool g h None)
    → IsScheduler b → slot_value b.groups.pool g ≡ Some m → m.unended ≡ h ∷ rest → q ≡ record b.tasks { pool = detached_in b.tasks.pool h (Some x.t) }
    → t ≡ record b.groups { pool = changed b.groups.pool g without_first_unended } → IsScheduler (record b { tasks = q; groups = t })
leave-first b q t g h m rest x k live is pool groups =
    regrouped b q t
    (λ j. ap (λ (z : TaskTable). seen_in z.pool j) kept
    ∙ put-same (seen_in b.tasks.pool) _ h _ (put-value b.tasks.pool h x.t (without_group x.t) x.live)
    (seen-noted (λ n. record n { group = None; detached = true }) x.t ∙ ap seen (sym x.live)) j)
    (ap (λ (z : TaskTable). max_of z.pool) kept
    ∙ max-value b.tasks.pool h (without_group x.t)) (ap (λ (z : TaskTable). z.starts) kept) (ap (λ (z : GroupTable). z.tasks) groups)
    (subst (λ (z : TaskTable). AreMembers (members_seen z.pool) (slot_value t.pool) z.starts z.ends) (sym kept)
    (subst (λ (z : GroupTable). AreMembers (members_seen (with_value b.tasks.pool h (without_group x.t))) (slot_value z.pool) b.tasks.starts b.tasks.ends)
    (sym groups)
    (members-leave (members_seen b.tasks.pool) _
    (slot_value b.groups.pool) _ h g b.tasks.starts b.tasks.ends m k.members live rest is (put-by membership (slot_value b.tasks.pool) _ h
    (Some (without_group x.t)) (slot-value b.tasks.pool h x.t (without_group x.t) x.live))
    (subst (λ (l : List ℕ). Put (slot_value b.groups.pool) g (Some (record m { unended = rest_of l }))
    (slot_value (changed b.groups.pool g without_first_unended))) is (slot-changed b.groups.pool g without_first_unended m live)))))
    k
  where
    kept : q ≡ record b.tasks { pool = with_value b.tasks.pool h (without_group x.t) }
    kept = pool ∙ ap (λ (c : Bool). record b.tasks { pool = cond c (with_value b.tasks.pool h (without_group x.t)) (without b.tasks.pool h) })
        (unended-so x.t.state x.end)

pub may-free : (p : Slots Task) (g h n : ℕ) → Member p g h (Some n) → IsLiveAnd (λ t. not (is_unended t)) (slot_value p h)
may-free p g h n x = subst (λ (o : Option Task). IsLiveAnd (λ t. not (is_unended t)) o) (sym x.live) (let y = ended-so x.t.state n x.end in
    ap (λ (z : TaskState). not (is_none (end_of z))) y.is)

pub is-live : (p : Slots Task) (g h : ℕ) (e : Option ℕ) → Member p g h e → IsSome (slot_value p h)
is-live p g h e x = subst (λ (o : Option Task). IsSome o) (sym x.live) refl

end-told : (x : TaskState) (e y : TaskEnd) (n : ℕ) → x ≡ Ended y n → end_told (end_of x) ≡ Some e → x ≡ Ended e n
end-told x e y n is told = is ∙ ap (λ (z : TaskEnd). Ended z n) (some_same (sym (ap (λ (z : TaskState). end_told (end_of z)) is) ∙ told))

-- a group has these members now, and its task is gone or changed
parts-made : (b : SchedulerTable) (q : TaskTable) (t : GroupTable) (g h : ℕ) (m now : Members) (f : Members → Members) (x : Task) (pool : Slots Task)
    → slot_value b.groups.pool g ≡ Some m → f m ≡ now → slot_value b.tasks.pool h ≡ Some x → is_member g x ≡ true → LiveAreUsed b.groups.pool
    → q ≡ record b.tasks { pool = pool } → t ≡ record b.groups { pool = changed b.groups.pool g f }
    → Parts b (record b { tasks = q; groups = t }) g h m now x pool
parts-made b q t g h m now f x pool live is task member used tasks groups = record {
  group = live;
  group_now = ap (λ (z : GroupTable). slot_value z.pool g) groups ∙ (slot-changed b.groups.pool g f m live).here ∙ ap Some is;
  task = task;
  member = member;
  becomes = record {
    settings = refl;
    actions_are = refl;
    tasks_are = tasks;
    queues_are = refl;
    groups_are = ap (λ (z : GroupTable). without_members z.pool) groups ∙ members-unseen b.groups.pool g f used;
  };
}

pub takes-made : (b : SchedulerTable) (q : TaskTable) (t : GroupTable) (g h n : ℕ) (e : TaskEnd) (f : FirstIn (slot_value b.groups.pool g) (λ m. m.ended) h)
    (x : Member b.tasks.pool g h (Some n)) → LiveAreUsed b.groups.pool
    → IfSome (slot_value b.tasks.pool h) (λ (task : Task). end_told (end_of task.state) ≡ Some e) → q ≡ record b.tasks { pool = without b.tasks.pool h }
    → t ≡ record b.groups { pool = changed b.groups.pool g without_first } → TakesMember b (record b { tasks = q; groups = t }) g h e
takes-made b q t g h n e f x used told pool groups = record {
  members = f.m;
  rest = f.rest;
  t = x.t;
  number = n;
  list = f.is;
  state = let y = ended-so x.t.state n x.end in
      end-told x.t.state e y.e n y.is (subst (λ (o : Option Task). IfSome o (λ (task : Task). end_told (end_of task.state) ≡ Some e)) x.live told);
  parts = parts-made b q t g h f.m _ without_first x.t _ f.live (ap (λ (l : List ℕ). record f.m { ended = rest_of l }) f.is) x.live x.member used pool groups;
}

pub leaves-made : (b : SchedulerTable) (q : TaskTable) (t : GroupTable) (g h : ℕ) (f : FirstIn (slot_value b.groups.pool g) (λ m. m.unended) h)
    (x : Member b.tasks.pool g h None) → LiveAreUsed b.groups.pool → q ≡ record b.tasks { pool = detached_in b.tasks.pool h (Some x.t) }
    → t ≡ record b.groups { pool = changed b.groups.pool g without_first_unended } → Leaves b (record b { tasks = q; groups = t }) g h
leaves-made b q t g h f x used pool groups = record {
  members = f.m;
  rest = f.rest;
  t = x.t;
  list = f.is;
  parts = parts-made b q t g h f.m _ without_first_unended x.t _ f.live (ap (λ (l : List ℕ). record f.m { unended = rest_of l }) f.is) x.live
      x.member used pool groups;
}

-- Groups that come and go

pub create-scheduler : (b : SchedulerTable) (t : GroupTable) (r : Result GroupHandle MtapiStatus) → IsScheduler b → CreatesGroup b.groups r t
    → IsScheduler (record b { groups = t })
create-scheduler b t (Ok g) k c =
    regrouped b b.tasks t (λ j. refl) refl refl c.2
    (members-create (members_seen b.tasks.pool) (slot_value b.groups.pool) (slot_value t.pool) g.0 b.tasks.starts b.tasks.ends k.members
    (get-insert_before b.groups.pool t.pool g.0 no_members c.1) (slot-insert b.groups.pool t.pool g.0 no_members c.1)) k
create-scheduler b t (Err ErrGroupLimit) k c = subst (λ (z : GroupTable). IsScheduler (record b { groups = z })) (sym c.1) k
create-scheduler b t (Err x) k c = absurd c

pub deleted-told : (o : Option Members) (m : Members) (r : Result (Unit {0}) MtapiStatus) {P : Type 0} → o ≡ Some m → r ≡ delete_reply o → OnOk r P → P
deleted-told o m r e1 e2 e3 = grind (arith, nat_tests)

pub delete-scheduler : (b : SchedulerTable) (t : GroupTable) (g : ℕ) → IsScheduler b → slot_value b.groups.pool g ≡ Some no_members
    → t ≡ record b.groups { pool = without b.groups.pool g } → IsScheduler (record b { groups = t })
delete-scheduler b t g k live is =
    regrouped b b.tasks t (λ j. refl) refl refl (ap (λ (z : GroupTable). z.tasks) is)
    (subst (λ (z : GroupTable). AreMembers (members_seen b.tasks.pool) (slot_value z.pool) b.tasks.starts b.tasks.ends) (sym is)
    (members-delete (members_seen b.tasks.pool) (slot_value b.groups.pool) _ g b.tasks.starts b.tasks.ends k.members live
    (slot-without b.groups.pool g no_members live))) k
