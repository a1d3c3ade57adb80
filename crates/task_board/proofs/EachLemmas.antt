-- What the walks over the members of a group keep.
use Rattle.task_board.proofs.Names.{nat_tests, ◌≡◌, ℕ, ◌+◌, Bool, true, false, not, cond, List, [], ◌∷◌, ◌++◌, length, Option, Some, None, refl, sym, ◌∙◌, ap, subst, arith, is_none, option_or, false≢true, TaskEnd, MtapiStatus, Slots, slot_value, with_value, without, NoneLive, has_handle, Task, TaskState, Scheduled, Running, Ended, end_of, is_unended, is_member, is_unended_member, fault_of, first_fault, without_group, number_noted, TaskTable, Members, no_members, ended_of, start_in, end_number_in, member_as, membership, members_seen, SchedulerTable, IsScheduler, Becomes, is_ended_member, ends_numbered, ending_of, endings_of, Each, frees, lets_go, Leaves, FreesAll, LetsUnendedGo, LetsAllGo, Freed, Left, and_from, and_parts, append-nil, not-true}
use Rattle.task_board.specs.GroupMoves.{TakesMember}
use Rattle.task_board.proofs.SeenLemmas.{some_same}
use Rattle.task_board.proofs.MoveLemmas.{slot-without}
use Rattle.std.proofs.lemmas.List.{length_push}
use Rattle.task_board.proofs.OrderLemmas.{append-middle}
use Rattle.task_board.proofs.MarkLemmas.{named-is}
use Rattle.task_board.proofs.MemberLemmas.{start-here, end-here, unnamed}

-- one more task
each-next : (p : Task → Bool) (move : Slots Task → ℕ → Task → Slots Task) (hs : List ℕ) (old now : Slots Task) (h : ℕ) (t : Task) → Each p move hs old now
    → slot_value now h ≡ Some t → p t ≡ true → Each p move (hs ++ h ∷ []) old (move now h t)
each-next p move [] old now h t e g passes = (t, ap (λ (q : Slots Task). slot_value q h) (sym e) ∙ g, passes, ap (λ (q : Slots Task). move q h t) e)
each-next p move (x ∷ xs) old now h t e g passes = (e.0, e.1, e.2, each-next p move xs (move old x e.0) now h t e.3 g passes)

each-more : (p : Task → Bool) (move : Slots Task → ℕ → Task → Slots Task) (xs ys : List ℕ) (old now new : Slots Task) → Each p move xs old now
    → Each p move ys now new → Each p move (xs ++ ys) old new
each-more p move [] ys old now new a b = subst (λ (q : Slots Task). Each p move ys q new) a b
each-more p move (x ∷ xs) ys old now new a b = (a.0, a.1, a.2, each-more p move xs ys (move old x a.0) now new a.3 b)

-- a member that has ended is let go where it is freed
each-ended : (g : ℕ) (hs : List ℕ) (old new : Slots Task) → Each (is_ended_member g) frees hs old new → Each (is_member g) lets_go hs old new
each-ended g [] old new e = e
each-ended g (h ∷ hs) old new e = (
  e.0,
  e.1,
  (and_parts (is_member g e.0) (not (is_unended e.0)) e.2).0,
  subst (λ (q : Slots Task). Each (is_member g) lets_go hs q new)
      (sym (gone (is_unended e.0) (not-true (is_unended e.0) (and_parts (is_member g e.0) (not (is_unended e.0)) e.2).1)))
      (each-ended g hs (without old h) new e.3),
)
  where
    gone : (b : Bool) → b ≡ false → cond b (with_value old h (without_group e.0)) (without old h) ≡ without old h
    gone b off = grind (arith, nat_tests)

-- Lists

none-left : (xs ys : List ℕ) → length xs ≡ length (xs ++ ys) → ys ≡ []
none-left [] [] e = refl
none-left [] (y ∷ ys) e = absurd (omega (arith, e))
none-left (x ∷ xs) ys e = none-left xs ys (omega (arith, e))

or-none : {A : Type 0} (a : Option A) → option_or a None ≡ a
or-none a = grind (arith, nat_tests)

fault-next : (at : ℕ → Option Task) (hs : List ℕ) (h n : ℕ) (e : TaskEnd) → ends_numbered (at h) ≡ Some (e, n)
    → first_fault (endings_of at (hs ++ h ∷ [])) ≡ option_or (first_fault (endings_of at hs)) (fault_of e)
fault-next at [] h n e is = ap (λ (o : Option _). first_fault (ending_of h o [])) is ∙ or-none (fault_of e)
fault-next at (x ∷ xs) h n e is = grind (arith, nat_tests, fault-next at xs h n e is)

-- Freeing

becomes-next : (old now new : SchedulerTable) (pool : Slots Task) → Becomes old now old.actions (record old.tasks { pool = now.tasks.pool })
    → Becomes now new now.actions (record now.tasks { pool = pool }) → Becomes old new old.actions (record old.tasks { pool = new.tasks.pool })
becomes-next old now new pool e1 e2 = grind (arith, nat_tests)

ended-passes : (g : ℕ) (t : Task) (e : TaskEnd) (n : ℕ) → is_member g t ≡ true → t.state ≡ Ended e n → is_ended_member g t ≡ true
ended-passes g t e n member is = and_from (is_member g t) (not (is_unended t)) member (ap (λ (x : TaskState). not (is_none (end_of x))) is)

pub freed-next : (old now new : SchedulerTable) (g index h : ℕ) (fault : Option MtapiStatus) (e : TaskEnd) → Freed old now g index fault
    → TakesMember now new g h e
    → Freed old new g (index + 1) (option_or fault (fault_of e))
freed-next old now new g index h fault e f x = record {
  members = f.members;
  done = f.done ++ h ∷ [];
  rest = x.rest;
  list = f.list ∙ ap (λ (l : List ℕ). f.done ++ l) rest ∙ append-middle h f.done x.rest;
  count = let n = length_push f.done h in let m = f.count in omega (arith, n, m);
  group = f.group;
  group_now = x.parts.group_now ∙ ap (λ (m : Members). Some (record m { ended = x.rest })) same;
  each = subst (λ (q : Slots Task). Each (is_ended_member g) frees (f.done ++ h ∷ []) old.tasks.pool q) (sym pool)
      (each-next (is_ended_member g) frees f.done old.tasks.pool now.tasks.pool h x.t f.each x.parts.task
      (ended-passes g x.t e x.number x.parts.member x.state));
  kept = λ k t is. f.kept k t (older k t (ap (λ (q : Slots Task). slot_value q k) (sym pool) ∙ is));
  fault_is = ap (λ (o : Option MtapiStatus). option_or o (fault_of e)) f.fault_is
      ∙ sym (fault-next (slot_value old.tasks.pool) f.done h x.number e (ap ends_numbered (f.kept h x.t x.parts.task) ∙ ap end_of x.state));
  becomes = becomes-next old now new (without now.tasks.pool h) f.becomes x.parts.becomes;
}
  where
    same : x.members ≡ record f.members { ended = f.rest }
    same = some_same (sym x.parts.group ∙ f.group_now)

    rest : f.rest ≡ h ∷ x.rest
    rest = ap (λ (m : Members). m.ended) (sym same) ∙ x.list

    pool : new.tasks.pool ≡ without now.tasks.pool h
    pool = ap (λ (q : TaskTable). q.pool) x.parts.becomes.tasks_are

    older : (k : ℕ) (t : Task) → slot_value (without now.tasks.pool h) k ≡ Some t → slot_value now.tasks.pool k ≡ Some t
    older k t is =
        let m = slot-without now.tasks.pool h x.t x.parts.task in
        grind (arith, nat_tests, m.here, m.others k)

pub freed-all : (old now : SchedulerTable) (g index : ℕ) (fault : Option MtapiStatus) → Freed old now g index fault
    → index ≡ length (ended_of (slot_value old.groups.pool g)) → FreesAll old now g fault
freed-all old now g index fault f all = record {
  members = f.members;
  group = f.group;
  group_now = f.group_now ∙ ap (λ (l : List ℕ). Some (record f.members { ended = l })) none;
  each = subst (λ (l : List ℕ). Each (is_ended_member g) frees l old.tasks.pool now.tasks.pool) (sym whole) f.each;
  fault_is = f.fault_is ∙ ap (λ (l : List ℕ). first_fault (endings_of (slot_value old.tasks.pool) l)) (sym whole);
  becomes = f.becomes;
}
  where
    none : f.rest ≡ []
    none = none-left f.done f.rest (f.count ∙ all ∙ ap (λ (o : Option Members). length (ended_of o)) f.group ∙ ap length f.list)

    whole : f.members.ended ≡ f.done
    whole = f.list ∙ ap (λ (l : List ℕ). f.done ++ l) none ∙ append-nil f.done

-- Letting go

pub left-next : (old now new : SchedulerTable) (g index h : ℕ) → Left old now g index → Leaves now new g h → Left old new g (index + 1)
left-next old now new g index h f x = record {
  members = f.members;
  done = f.done ++ h ∷ [];
  rest = x.rest;
  list = f.list ∙ ap (λ (l : List ℕ). f.done ++ l) rest ∙ append-middle h f.done x.rest;
  count = let n = length_push f.done h in let m = f.count in omega (arith, n, m);
  group = f.group;
  group_now = x.parts.group_now ∙ ap (λ (m : Members). Some (record m { unended = x.rest })) same;
  each = subst (λ (q : Slots Task). Each (is_member g) lets_go (f.done ++ h ∷ []) old.tasks.pool q)
      (sym (ap (λ (q : TaskTable). q.pool) x.parts.becomes.tasks_are))
      (each-next (is_member g) lets_go f.done old.tasks.pool now.tasks.pool h x.t f.each x.parts.task x.parts.member);
  becomes = becomes-next old now new (lets_go now.tasks.pool h x.t) f.becomes x.parts.becomes;
}
  where
    same : x.members ≡ record f.members { unended = f.rest }
    same = some_same (sym x.parts.group ∙ f.group_now)

    rest : f.rest ≡ h ∷ x.rest
    rest = ap (λ (m : Members). m.unended) (sym same) ∙ x.list

-- the ended ones are freed, and then the others are let go
pub all-go : (old now new : SchedulerTable) (g : ℕ) (fault : Option MtapiStatus) → FreesAll old now g fault → LetsUnendedGo now new g → LetsAllGo old new g
all-go old now new g fault e1 e2 = grind (arith, nat_tests, each-more, is_member, lets_go, each-ended, some_same, becomes-next)

-- Who is left

number-of : (x : TaskState) → is_none (end_of x) ≡ false → (n : ℕ) × (number_noted (end_of x) ≡ Some n)
number-of Scheduled e = absurd (false≢true (sym e))
number-of (Running w k) e = absurd (false≢true (sym e))
number-of (Ended y n) e = (n, refl)

pub none-ended-left : (b : SchedulerTable) (g : ℕ) (m : Members) → IsScheduler b → slot_value b.groups.pool g ≡ Some m → m.ended ≡ []
    → NoneLive (slot_value b.tasks.pool) (λ t. is_ended_member g t ≡ true)
none-ended-left b g m k live none h t is passes =
    let group = named-is g t.notes.group (and_parts (is_member g t) (not (is_unended t)) passes).0 in
    let n = number-of t.state (not-true (is_unended t) (and_parts (is_member g t) (not (is_unended t)) passes).1) in
    let here : members_seen b.tasks.pool h ≡ Some (record { group = g; detached = t.notes.detached; start = t.start; end = number_noted (end_of t.state) }) =
    ap membership is ∙ ap (member_as t) group in
    false≢true (sym (ap (has_handle h) none)
    ∙ (k.members.ended g m live).listed h n.0 (ap (end_number_in g) here
    ∙ end-here g n.0 (record { group = g; detached = t.notes.detached; start = t.start; end = number_noted (end_of t.state) }) refl n.1))

unended-number : (x : TaskState) → is_none (end_of x) ≡ true → number_noted (end_of x) ≡ None
unended-number x e1 = grind (arith, nat_tests)

pub none-unended-left : (b : SchedulerTable) (g : ℕ) (m : Members) → IsScheduler b → slot_value b.groups.pool g ≡ Some m → m.unended ≡ []
    → NoneLive (slot_value b.tasks.pool) (λ t. is_unended_member g t ≡ true)
none-unended-left b g m k live none h t is passes =
    let group = named-is g t.notes.group (and_parts (is_member g t) (is_unended t) passes).0 in
    let here : members_seen b.tasks.pool h ≡ Some (record { group = g; detached = t.notes.detached; start = t.start; end = number_noted (end_of t.state) }) =
    ap membership is ∙ ap (member_as t) group in
    false≢true (sym (ap (has_handle h) none)
    ∙ (k.members.unended g m live).listed h t.start (ap (start_in g) here
    ∙ start-here g (record { group = g; detached = t.notes.detached; start = t.start; end = number_noted (end_of t.state) }) refl
    (unended-number t.state (and_parts (is_member g t) (is_unended t) passes).1)))

pub none-left-in : (b : SchedulerTable) (g : ℕ) → IsScheduler b → slot_value b.groups.pool g ≡ Some no_members
    → NoneLive (slot_value b.tasks.pool) (λ t. is_member g t ≡ true)
none-left-in b g k live h t is passes =
    unnamed (members_seen b.tasks.pool) (slot_value b.groups.pool) h g b.tasks.starts b.tasks.ends
    (record { group = g; detached = t.notes.detached; start = t.start; end = number_noted (end_of t.state) }) k.members live
    (ap membership is ∙ ap (member_as t) (named-is g t.notes.group passes)) refl

pub freed-group : (old now : SchedulerTable) (g : ℕ) (fault : Option MtapiStatus) → FreesAll old now g fault → IsScheduler now
    → NoneLive (slot_value now.tasks.pool) (λ t. is_ended_member g t ≡ true)
freed-group old now g fault f k = none-ended-left now g (record f.members { ended = [] }) k f.group_now refl
