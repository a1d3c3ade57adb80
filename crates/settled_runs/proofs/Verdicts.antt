-- What a look at a whole group tells in a quiet history: its live members are the tasks that were put into it since the last verdict.
use Rattle.settled_runs.proofs.Names.{◌≡◌, ◌⊎◌, inl, inr, ℕ, ◌≤◌, Bool, true, false, cond, List, [], ◌∷◌, Option, Some, None, refl, ◌∙◌, ap, subst, arith, ◌==◌, is_some, option_and_then, option_or, eq-eqb, MtapiStatus, Listed, live_object, Task, TaskState, Ended, end_of, is_member, Ending, insert, insert_ended, fault_of, first_fault, end_in, some_same, live_listed, true_false, at_skip, at_here, OnceIn, once_rest, live_of, listed, endings, sym, ◌&&◌, is_none, eqb-true, holds, with_fields, gone, with_notes, new_task, Group, freed, Op, State, is_open, tasks, Move, starts_task, notes, leaves, is_fresh, is_served, apply, NodeEntry, IsNext, next, IsMade, all_live, fst_true, snd_true, Every, every_map, always, listed_move, LegalFrom, after_from, list_any, TaskEnd, GroupHandle, NewTask, StartsTask, FreesMembers, FoundAs, is_quiet, starts_member, looks_at_all, change_all, cond_both, Notes, ◌++◌, ◌||◌, not, entry, any_listed, is_unended, with_waiter, new_group, is_unended_member, Reply, opening, groups, after_moves, Allows, moves_of, after_row, verdict, is_pending, after, AllGives, given, on_live, both_true, Legal-front, by_moves, at_issue_here, cut_from, cut_after, found_changed, found_issued, fresh_unlisted, AreQuiet, with_new, members_behind, goes_on, GoOn, IsGroupVerdict, QuietVerdicts, IsCalm, calm_next, calm_along, calm_opening, row, members_of, false_from_ne_true, or_right, or_cases, May, by_made_moves, looks_row, once_from, end_found, ObjectKind, whether, nat_tests}
use Rattle.settled_runs.proofs.{Stays.there_next, Stays.made_there, Granted.any_found, Granted.open_move, Stays.AskedAs, Stays.on_start, Stays.made_objects_stay, Granted.quiet_calls_are_granted, Waits.quiet_looks_are_answered}
use Rattle.history_law.proofs.TaskSteps as step
use Rattle.history_law.proofs.TaskSteps.{Step, Steps, tasks_go, step_handle, step_alive, every_steps}
use Rattle.mtapi_machine.specs.Laws.{IsBy, may_move}
use Rattle.settled_runs.proofs.Waits.{notes_stay, notes_tasks, noting, open_up, legal_behind, none_noted}

-- The first fault of the endings

or_some : {A : Type 0} (x y : Option A) (c : A) → option_or x y ≡ Some c → (x ≡ Some c) ⊎ (y ≡ Some c)
or_some x y c e1 = grind (arith, nat_tests)

-- the third is the first one, if there is any, of the two, in either order
abbrev Joined : Option MtapiStatus → Option MtapiStatus → Option MtapiStatus → Type 0
Joined x y z = (z ≡ option_or x y) ⊎ (z ≡ option_or y x)

joined_some : (x y z : Option MtapiStatus) (c : MtapiStatus) → Joined x y z → z ≡ Some c → (x ≡ Some c) ⊎ (y ≡ Some c)
joined_some x y z c (inl i) e = or_some x y c (sym i ∙ e)
joined_some x y z c (inr i) e = elim (or_some y x c (sym i ∙ e)) as (λ k. (x ≡ Some c) ⊎ (y ≡ Some c)) [ inl k ↦ inr k | inr k ↦ inl k ]

insert_is : (e : Ending) (es : List Ending) → Joined (fault_of e.end) (first_fault es) (first_fault (insert e es))
insert_is e [] = inl refl
insert_is e (f ∷ fs) = grind (arith, nat_tests, insert_is e fs)

ended_is : (h : ℕ) (x : TaskState) (es : List Ending)
    → Joined (option_and_then fault_of (end_in x)) (first_fault es) (first_fault (insert_ended h (end_of x) es))
ended_is h x es = grind (arith, nat_tests, insert_is)

-- what a live member that has ended has to do with them
pub record IsFaulty (g : ℕ) (l : List (Listed Task)) (c : MtapiStatus) : Type 0 where
  pub handle : ℕ
  pub task : Task
  pub found : live_object l handle ≡ Some task
  pub member : is_member g task ≡ true
  pub fault : option_and_then fault_of (end_in task.state) ≡ Some c

-- the endings with one task more
record Joins (g : ℕ) (r : Listed Task) (rs : List (Listed Task)) : Type 0 where
  live : r.live ≡ true
  member : is_member g r.fields ≡ true
  is : endings g (live_of (r ∷ rs)) ≡ insert_ended r.handle (end_of r.fields.state) (endings g (live_of rs))

record Passes (g : ℕ) (r : Listed Task) (rs : List (Listed Task)) : Type 0 where
  other : r.live ≡ true → is_member g r.fields ≡ false
  is : endings g (live_of (r ∷ rs)) ≡ endings g (live_of rs)

one_more : (g : ℕ) (r : Listed Task) (rs : List (Listed Task)) → Joins g r rs ⊎ Passes g r rs
unfolding live_of endings
one_more g r rs = grind (arith, nat_tests)

-- without a fault each live member has none
none_faulty : (g : ℕ) (l : List (Listed Task)) (h : ℕ) (t : Task) → first_fault (endings g (live_of l)) ≡ None → live_object l h ≡ Some t → is_member g t ≡ true
    → option_and_then fault_of (end_in t.state) ≡ None
unfolding live_of
none_faulty g [] h t n e i = absurd (cc)
none_faulty g (r ∷ rs) h t n e i =
    grind (arith, nat_tests, none_faulty g rs h t, one_more g r rs, ended_is r.handle r.fields.state (endings g (live_of rs)))

-- and a fault is that of a live member
one_faulty : (g : ℕ) (l : List (Listed Task)) (c : MtapiStatus) → OnceIn l → first_fault (endings g (live_of l)) ≡ Some c → IsFaulty g l c
unfolding live_of endings listed
one_faulty g [] c o f = absurd (cc)
one_faulty g (r ∷ rs) c o f = by (one_more g r rs) (λ d. later (one_faulty g rs c (once_rest r rs o) d))
  where
    later : IsFaulty g rs c → IsFaulty g (r ∷ rs) c
    later x = record {
      handle = x.handle;
      task = x.task;
      found = at_skip r rs x.handle (grind (arith, nat_tests, o x.handle, live_listed x.handle rs (ap is_some x.found))) ∙ x.found;
      member = x.member;
      fault = x.fault;
    }

    by : Joins g r rs ⊎ Passes g r rs → (first_fault (endings g (live_of rs)) ≡ Some c → IsFaulty g (r ∷ rs) c) → IsFaulty g (r ∷ rs) c
    by (inl x) k = elim (joined_some (option_and_then fault_of (end_in r.fields.state)) (first_fault (endings g (live_of rs)))
        (first_fault (insert_ended r.handle (end_of r.fields.state) (endings g (live_of rs)))) c (ended_is r.handle r.fields.state (endings g (live_of rs)))
        (sym (ap first_fault x.is) ∙ f)) as (λ z. IsFaulty g (r ∷ rs) c) [
          | inl e ↦ record {
            handle = r.handle;
            task = r.fields;
            found = at_here r rs r.handle x.live (eq-eqb r.handle r.handle refl);
            member = x.member;
            fault = e;
          }
          | inr e ↦ k e
        ]
    by (inr x) k = k (sym (ap first_fault x.is) ∙ f)

-- The groups that tasks name

-- a group that the task names is one of these
abbrev pub IsNamed : List (Listed Group) → Task → Type 0
IsNamed groups t = (g : ℕ) → is_member g t ≡ true → 1 ≤ listed g groups

abbrev pub Named : State → Type 0
Named s = Every (IsNamed s.groups) s.tasks

live_group : (made : List (Listed Group)) (o : Option ℕ) (g : ℕ) → all_live made o ≡ true → holds (λ h. h == g) o ≡ true → 1 ≤ listed g made
live_group made o g a e = grind (arith, nat_tests, live_listed)

noted_member : (g : ℕ) (a b : Option ℕ) → (b ≡ a) ⊎ (b ≡ None) → holds (λ h. h == g) b ≡ true → holds (λ h. h == g) a ≡ true
noted_member g a b e1 e2 = grind (arith, nat_tests)

-- a step that notes nothing makes no member
pub step_member : (g : ℕ) (s : State) (r : Listed Task) (m : Move) (q : Listed Task) → Step s r m q
    → ((h : ℕ) (f : Notes → Notes) → m ≡ notes h f → live_object s.tasks h ≡ Some r.fields → holds (λ k. k == g) (f r.fields.notes).group ≡ true
    → is_member g r.fields ≡ true)
    → is_member g q.fields ≡ true → is_member g r.fields ≡ true
step_member g s r _ _ (step.noted h f a i e) k b = k h f refl e b
step_member g s r _ _ (step.freed_of j a i) k b = true_false b refl
step_member g s r _ _ (step.let_go_of j a i) k b = true_false b refl
step_member g s r _ _ _ k b = b

named_move : (who : ℕ) (o : Op) (s : State) (x : Move) → IsMade s o x → May s who o x → Named s → Every (IsNamed s.groups) (apply x s).tasks
named_move who o s x e k v =
    every_steps (IsNamed s.groups) s x s.tasks _ (λ h t i. joins h t (subst (λ (m : Move). may_move s m ≡ true) i e.may))
    (λ r q y c g b. c g (step_member g s r x q y (λ h f i d. keeps g r h f (subst (May s who o) i k) d) b)) (tasks_go s x) v
  where
    joins : (h : ℕ) (t : NewTask) → may_move s (starts_task h t) ≡ true → IsNamed s.groups (new_task t s.starts)
    joins h t e g i =
        live_group s.groups t.group g
        (snd_true (is_open s.phase && is_fresh tasks s h && is_served s t.job t.cores) _ (fst_true _ (all_live s.queues t.queue) e)) i

    keeps : (g : ℕ) (r : Listed Task) (h : ℕ) (f : Notes → Notes) → May s who o (notes h f) → live_object s.tasks h ≡ Some r.fields
        → holds (λ k. k == g) (f r.fields.notes).group ≡ true → is_member g r.fields ≡ true
    keeps g r h f k d =
        noted_member g r.fields.notes.group (f r.fields.notes).group
        (subst (λ (t : Task). ((f t.notes).group ≡ t.notes.group) ⊎ ((f t.notes).group ≡ None)) (some_same (sym k.1 ∙ d)) k.2.group)

named_next : (s : State) (e : NodeEntry) → IsNext s e → Named s → Named (next s e)
named_next s e i v =
    by_made_moves Named s e i
    (λ t m x k u. every_map (IsNamed t.groups) (λ y. Unit {0}) (IsNamed (apply m t).groups) (apply m t).tasks
    (λ y n z g b. listed_move ObjectKind.Group g t e.op m x (n g b)) (named_move e.who e.op t m x k u) (always (apply m t).tasks)) v

pub named_along : (s : State) (L : List NodeEntry) → LegalFrom s L → Named s → Named (after_from s L)
unfolding LegalFrom after_from
named_along s [] l v = v
named_along s (e ∷ es) l v = named_along (next s e) es l.1 (named_next s e l.0 v)

-- Members

abbrev pub has : List ℕ → ℕ → Bool
has hs h = list_any (λ x. x == h) hs

-- what is noted of a member, which nobody but a look at the group takes away
pub record IsIn (g : ℕ) (n : Notes) : Type 0 where
  pub kept : n.detached ≡ false
  pub member : holds (λ h. h == g) n.group ≡ true

abbrev pub InGroup : ℕ → Task → Type 0
InGroup g t = IsIn g t.notes

-- each live member is one of these
unfoldable pub Out : ℕ → List ℕ → List (Listed Task) → Type 0
Out g hs [] = Unit {0}
Out g hs (r ∷ rs) = (r.live ≡ true → is_member g r.fields ≡ true → has hs r.handle ≡ true) × Out g hs rs

-- these are the live members
pub record Members (g : ℕ) (hs : List ℕ) (l : List (Listed Task)) : Type 0 where
  pub into : (h : ℕ) → has hs h ≡ true → FoundAs (InGroup g) l h
  pub out : Out g hs l

-- each live member is one of these, behind steps that make none but one of these
out_steps : (g : ℕ) (hs ks : List ℕ) (s : State) (m : Move) (l k : List (Listed Task)) → ((h : ℕ) → has hs h ≡ true → has ks h ≡ true)
    → ((h : ℕ) (t : NewTask) → m ≡ starts_task h t → is_member g (new_task t s.starts) ≡ true → has ks h ≡ true)
    → ((r : Listed Task) (h : ℕ) (f : Notes → Notes) → m ≡ notes h f → holds (λ k. k == g) (f r.fields.notes).group ≡ true → is_member g r.fields ≡ true)
    → Steps s m l k → Out g hs l → Out g ks k
unfolding Out
out_steps g hs ks s _ _ _ f n c (step.none m) v = tt
out_steps g hs ks s _ _ _ f n c (step.new h t) v = ((λ a b. n h t refl b), tt)
out_steps g hs ks s _ _ _ f n c (step.next m r q rs qs x k) v = (
  (λ a b. ap (has ks) (step_handle s r m q x) ∙ f r.handle (v.0 (step_alive s r m q x a) (step_member g s r m q x (λ h y i e. c r h y i) b))),
  out_steps g hs ks s m rs qs f n c k v.1,
)

out_move : (g : ℕ) (hs ks : List ℕ) (s : State) (m : Move) → ((h : ℕ) → has hs h ≡ true → has ks h ≡ true)
    → ((h : ℕ) (t : NewTask) → m ≡ starts_task h t → is_member g (new_task t s.starts) ≡ true → has ks h ≡ true)
    → ((r : Listed Task) (h : ℕ) (f : Notes → Notes) → m ≡ notes h f → holds (λ k. k == g) (f r.fields.notes).group ≡ true → is_member g r.fields ≡ true)
    → Out g hs s.tasks → Out g ks (apply m s).tasks
out_move g hs ks s m f n c v = out_steps g hs ks s m s.tasks _ f n c (tasks_go s m) v

-- a member of one group is none of another
other_group : (g j : ℕ) (o : Option ℕ) → holds (λ h. h == g) o ≡ true → holds (λ h. h == j) o ≡ true → j ≡ g
other_group g j o e1 e2 = grind (arith, nat_tests)

-- The moves of an op that starts no member, looks at no group as a whole, and notes nothing

no_member : (g : ℕ) (o : Op) (n : NewTask) (k : ℕ) → starts_member g o ≡ false → StartsTask n o → is_member g (new_task n k) ≡ true → ⊥
no_member g o n k e1 e2 e3 = grind (arith, nat_tests)

freeing : (g j : ℕ) (o : Op) → FreesMembers j o → j ≡ g → looks_at_all g o ≡ true
freeing g j o e1 e2 = grind (arith, nat_tests)

pub members_move : (g : ℕ) (hs : List ℕ) (o : Op) → is_quiet o ≡ true → notes_tasks o ≡ false → starts_member g o ≡ false → looks_at_all g o ≡ false
    → (s : State) (x : Move) → IsMade s o x → Members g hs s.tasks → Members g hs (apply x s).tasks
members_move g hs o q n z w s x e v =
    record {
      into = λ h i. notes_stay (IsIn g) (λ m k. k.kept) h o q n
          (λ j t b k d. true_false (freeing g j o b (other_group g j t.notes.group k.member d)) w) s x e (v.into h i);
      out = out_move g hs hs s x (λ h i. i) (λ h t i b. absurd (no_member g o t s.starts z (subst (λ (m : Move). IsBy m o) i e.by) b))
          (λ r h f i b. true_false (noting h o q (subst (λ (m : Move). IsBy m o) i e.by)) n) v.out;
    }

-- A task that is put into the group

abbrev Holds : ℕ → List ℕ → State → Type 0
Holds g hs s = Members g hs s.tasks

pub has_more : (k : ℕ) (hs : List ℕ) (h : ℕ) → has hs h ≡ true → has (k ∷ hs) h ≡ true
has_more k hs h e = or_right (k == h) _ e

more_members : (g : ℕ) (hs : List ℕ) (h : ℕ) (n : NewTask) (s : State) → n.detached ≡ false → holds (λ x. x == g) n.group ≡ true → is_fresh tasks s h ≡ true
    → Holds g hs s → Holds g (h ∷ hs) (apply (starts_task h n) s)
more_members g hs h n s d i e v =
    let here : FoundAs (InGroup g) (apply (starts_task h n) s).tasks h =
    (new_task n s.starts, at_issue_here h (new_task n s.starts) s.tasks (fresh_unlisted ObjectKind.Task s h e), record { kept = d; member = i }) in
    record {
      into = λ k b. elim (or_cases (h == k) (has hs k) b) as (λ z. FoundAs (InGroup g) (apply (starts_task h n) s).tasks k) [
        | inl j ↦ subst (λ (x : ℕ). FoundAs (InGroup g) (apply (starts_task h n) s).tasks x) (eqb-true h k j) here
        | inr j ↦
            (let u = v.into k j in found_issued (InGroup g) h k _ s.tasks u.0 u.1 u.2)
      ];
      out =
          out_move g hs (h ∷ hs) s (starts_task h n) (λ k b. has_more h hs k b)
          (λ k t i b. let same : h ≡ k = cc in subst (λ (x : ℕ). has (h ∷ hs) x ≡ true) same (ap (λ (z : Bool). z || has hs h) (eq-eqb h h refl)))
          (λ r k f i b. absurd (cc)) v.out;
    }

member_start : (g : ℕ) (s : State) (n : NewTask) (o : Op) → starts_member g o ≡ true → AskedAs s n o
    → (n.detached ≡ false) × (holds (λ x. x == g) n.group ≡ true)
member_start g s n o e1 e2 = grind (arith, nat_tests)

put_or_not : (g : ℕ) (hs : List ℕ) (s : State) (w : ℕ) (o : Op) (r : Reply) → starts_member g o ≡ true → Allows (row s w o r) r → Holds g hs s
    → Holds g (with_new r hs) (after_row s (row s w o r))
put_or_not g hs s w o r z a v =
    on_start (λ x ms. Holds g (with_new x hs) (after_moves ms s)) s w r (λ c. v) o (grind (arith, nat_tests, z)) (λ h n b f. let m = member_start g s n o z b in
    more_members g hs h n s m.0 m.1 f v) a

-- What is noted of tasks

abbrev Kept : ℕ → List ℕ → State → Reply → List Move → Type 0
Kept g hs s r ms = Holds g hs (after_moves ms s)

-- what a move notes
abbrev noted_by : Move → Notes → Notes
noted_by (notes h f) n = f n
noted_by _ n = n

waits : (g : ℕ) (hs : List ℕ) (s : State) (j : ℕ) (x : Option ℕ) → ((h : ℕ) → has hs h ≡ true → j ≡ h → ⊥) → Holds g hs s
    → Holds g hs (apply (notes j (with_waiter x)) s)
waits g hs s j x n v = record {
  into = λ h b. let u = v.into h b in found_changed (InGroup g) j h (with_fields (with_notes (with_waiter x))) (λ r. refl) s.tasks u.0 u.1 u.2
      (λ r e a f. absurd (n h b e));
  out =
      out_move g hs hs s (notes j (with_waiter x)) (λ h b. b) (λ h t i b. absurd (cc))
      (λ r h f i b. ap (λ (m : Move). holds (λ k. k == g) (noted_by m r.fields.notes).group) i ∙ b) v.out;
}

goes : (g : ℕ) (hs : List ℕ) (s : State) (j : ℕ) → ((h : ℕ) → has hs h ≡ true → j ≡ h → ⊥) → Holds g hs s → Holds g hs (apply (leaves j) s)
goes g hs s j n v =
    record {
      into = λ h b. let u = v.into h b in found_changed (InGroup g) j h gone (λ r. refl) s.tasks u.0 u.1 u.2 (λ r e a f. absurd (n h b e));
      out = out_move g hs hs s (leaves j) (λ h b. b) (λ h t i b. absurd (cc)) (λ r h f i b. absurd (cc)) v.out;
    }

on_looks : (g : ℕ) (hs : List ℕ) (s : State) (w t : ℕ) (last : Bool) (x : TaskState) → ((h : ℕ) → has hs h ≡ true → t ≡ h → ⊥) → Holds g hs s
    → AllGives (Kept g hs s) (looks_row w t last x)
on_looks g hs s w t last (Ended y k) n v = goes g hs s t n v
on_looks g hs s w t true _ n v = waits g hs s t None n v
on_looks g hs s w t false _ n v = waits g hs s t (Some w) n v

-- a task that one may look at by itself is no member
apart : (g : ℕ) (hs : List ℕ) (s : State) (t : ℕ) (x : Task) → live_object s.tasks t ≡ Some x → (x.notes.detached || is_some x.notes.group) ≡ false
    → Holds g hs s → (h : ℕ) → has hs h ≡ true → t ≡ h → ⊥
apart g hs s t x e1 e2 e3 h e4 e5 = grind (arith, nat_tests)

noted : (g : ℕ) (hs : List ℕ) (s : State) (w : ℕ) (o : Op) (r : Reply) → IsCalm s → notes_tasks o ≡ true → Allows (row s w o r) r → Holds g hs s
    → Holds g hs (after_row s (row s w o r))
noted g hs s w (Op.TaskLook t last) r c n a v =
    given (Kept g hs s) (row s w (Op.TaskLook t last) r) r (λ x. v)
    (λ d. on_live (Kept g hs s) (live_object s.tasks t.0) _ _ v (λ x e f b. on_looks g hs s w t.0 last x.state (apart g hs s t.0 x e f v) v)) a
noted g hs s w o r c n a v = none_noted (Kept g hs s) s w o r c n (λ t last e. cc) (λ x. v) a

-- A look at the whole group

-- the members that have all ended are freed
none_left : (g : ℕ) (l : List (Listed Task)) → any_listed (is_unended_member g) l ≡ false
    → Out g [] (change_all (λ t. is_member g t && not (is_unended t)) freed l)
unfolding live_of change_all Out
none_left g [] n = tt
none_left g (r ∷ rs) n = (grind arith, none_left g rs (grind arith))

-- what is told, and what is left
pub record Tells (g : ℕ) (hs : List ℕ) (s : State) (r : Reply) (ms : List Move) : Type 0 where
  pub left : Members g (cond (is_pending r) hs []) (after_moves ms s).tasks
  pub said : (r ≡ Reply.Pending) ⊎ ((any_listed (is_unended_member g) s.tasks ≡ false) × (r ≡ verdict (first_fault (endings g (live_of s.tasks)))))

looked : (g : GroupHandle) (hs : List ℕ) (s : State) (w : ℕ) (r : Reply) → is_open s.phase ≡ true → live_object s.groups g.0 ≡ Some new_group
    → Allows (row s w (Op.AllLook g false) r) r → Holds g.0 hs s
    → Tells g.0 hs s r (moves_of (row s w (Op.AllLook g false) r))
looked g hs s w r o e a v = grind (arith, nat_tests, none_left g.0 s.tasks, open_up s.phase)

-- An entry

pub record Fine (g : ℕ) (hs : List ℕ) (s : State) : Type 0 where
  pub up : is_open s.phase ≡ true
  pub group : live_object s.groups g ≡ Some new_group
  pub members : Members g hs s.tasks

looking : (g : ℕ) (hs : List ℕ) (s : State) (w : ℕ) (o : Op) (r : Reply) → looks_at_all g o ≡ true → goes_on g o ≡ true → Allows (row s w o r) r → Fine g hs s
    → Members g (cond (is_pending r) hs []) (after_row s (row s w o r)).tasks
looking g hs s w (Op.AllLook x true) r z k a v = true_false k (ap (λ (b : Bool). not (b && true)) z)
looking g hs s w (Op.AllLook x false) r z k a v =
    subst (λ (n : ℕ). Members n hs s.tasks → live_object s.groups n ≡ Some new_group
    → Members n (cond (is_pending r) hs []) (after_row s (row s w (Op.AllLook x false) r)).tasks) (eqb-true x.0 g z)
    (λ y l. (looked x hs s w r v.up l a y).left) v.members v.group
looking g hs s w _ r z k a v = true_false z refl

members_next : (g : ℕ) (hs : List ℕ) (s : State) (e : NodeEntry) → IsNext s e → is_quiet e.op ≡ true → IsCalm s → goes_on g e.op ≡ true → Fine g hs s
    → Members g (members_behind g hs e) (next s e).tasks
members_next g hs s e i q c k v =
    cond_both (looks_at_all g e.op) _ _ (λ ks. Members g ks (next s e).tasks) (λ l. looking g hs s e.who e.op e.reply l k i.allowed v)
    (λ l. cond_both (starts_member g e.op) (with_new e.reply hs) hs (λ ks. Members g ks (next s e).tasks)
    (λ z. put_or_not g hs s e.who e.op e.reply z i.allowed v.members)
    (λ z. whether (notes_tasks e.op) (λ n. noted g hs s e.who e.op e.reply c n i.allowed v.members)
    (λ n. by_moves (λ t. Members g hs t.tasks) s e (λ t x y u. members_move g hs e.op q n z l t x y u) v.members)))

fine_along : (g : ℕ) (hs : List ℕ) (s : State) (L : List NodeEntry) → LegalFrom s L → AreQuiet L → IsCalm s → GoOn g L → Fine g hs s
    → Fine g (members_of g hs L) (after_from s L)
unfolding LegalFrom after_from members_of
fine_along g hs s [] l q c k v = v
fine_along g hs s (e ∷ es) l q c k v =
    fine_along g (members_behind g hs e) (next s e) es l.1 q.1 (calm_next s e l.0 q.0 c) k.1
    (record {
      up = by_moves (λ t. is_open t.phase ≡ true) s e (λ t x y u. open_move e.op (grind (arith, nat_tests, k.0)) t x y u) v.up;
      group = there_next s e Op.GroupCreate g q.0 v.group;
      members = members_next g hs s e l.0 q.0 c k.0 v;
    })

-- The entry that makes the group

no_members : (g : ℕ) (groups : List (Listed Group)) (l : List (Listed Task)) → listed g groups ≡ 0 → Every (IsNamed groups) l → Out g [] l
unfolding Out
no_members g groups [] n v = tt
no_members g groups (r ∷ rs) n v = ((λ a b. let k : 1 ≤ listed g groups = v.0 g b in absurd (omega arith)), no_members g groups rs n v.1)

new_group_fine : (s : State) (w h : ℕ) → Named s → Allows (row s w Op.GroupCreate (Reply.Handle h)) (Reply.Handle h)
    → (is_open (after_row s (row s w Op.GroupCreate (Reply.Handle h))).phase ≡ true)
    × Members h [] (after_row s (row s w Op.GroupCreate (Reply.Handle h))).tasks
new_group_fine s w h v a = grind (arith, nat_tests, no_members h s.groups s.tasks, fresh_unlisted ObjectKind.Group s h)

-- The verdict

out_at : (g : ℕ) (hs : List ℕ) (l : List (Listed Task)) (h : ℕ) (t : Task) → Out g hs l → live_object l h ≡ Some t → is_member g t ≡ true → has hs h ≡ true
unfolding live_of Out
out_at g hs [] h t v e i = absurd (cc)
out_at g hs (r ∷ rs) h t v e i = grind (arith, nat_tests, v.0, out_at g hs rs h t v.1)

has_ended : (x : TaskState) → is_none (end_of x) ≡ false → (end : TaskEnd) × (end_in x ≡ Some end)
has_ended (Ended d n) e = (d, refl)
has_ended _ e = true_false refl e

is_verdict : (g : ℕ) (hs : List ℕ) (s : State) (r : Reply) → any_listed (is_unended_member g) s.tasks ≡ false → OnceIn s.tasks → Members g hs s.tasks
    → r ≡ verdict (first_fault (endings g (live_of s.tasks))) → IsGroupVerdict s hs r
is_verdict g hs s r all o v e = record {
  fault = first_fault (endings g (live_of s.tasks));
  is = e;
  ended = λ h b.
      let u = v.into h b in
      let d = has_ended u.0.state (false_from_ne_true (is_unended u.0)
      (λ k. true_false (any_found (is_unended_member g) s.tasks h u.0 u.1 (both_true (is_member g u.0) _ u.2.member k)) all)) in
      (d.0, end_found s.tasks h u.0 o u.1 ∙ d.1);
  none = λ n h b. let u = v.into h b in ap (option_and_then fault_of) (end_found s.tasks h u.0 o u.1) ∙ none_faulty g s.tasks h u.0 n u.1 u.2.member;
  some = λ c n. let x : IsFaulty g s.tasks c = one_faulty g s.tasks c o n in (
    x.handle,
    out_at g hs s.tasks x.handle x.task v.out x.found x.member,
    ap (option_and_then fault_of) (end_found s.tasks x.handle x.task o x.found)
        ∙ x.fault,
  );
}

pub quiet_verdicts : QuietVerdicts
quiet_verdicts terms before behind maker who g r legal q0 q1 k =
    let e0 : NodeEntry = entry maker Op.GroupCreate (Reply.Handle g.0) in
    let e1 : NodeEntry = entry who (Op.AllLook g false) r in
    let first : State = after_from (opening terms) before in
    let step : IsNext first e0 = cut_from (opening terms) before (behind ++ e1 ∷ []) e0 legal.from in
    let rest : LegalFrom (next first e0) (behind ++ e1 ∷ []) = legal_behind (opening terms) before e0 (behind ++ e1 ∷ []) legal.from in
    let calm : IsCalm (next first e0) = calm_next first e0 step refl
    (calm_along (opening terms) before (Legal-front (opening terms) before _ legal.from) q0 (calm_opening terms)) in
    let named : Named first = named_along (opening terms) before (Legal-front (opening terms) before _ legal.from) tt in
    let made : (is_open (next first e0).phase ≡ true) × Members g.0 [] (next first e0).tasks = new_group_fine first maker g.0 named step.allowed in
    let fine : Fine g.0 (members_of g.0 [] behind) (after_from (next first e0) behind) =
    fine_along g.0 [] (next first e0) behind (Legal-front (next first e0) behind (e1 ∷ []) rest) q1 calm k
    (record { up = made.0; group = made_there first Op.GroupCreate maker g.0 step; members = made.1 }) in
    let last : IsNext (after_from (next first e0) behind) e1 = cut_from (next first e0) behind [] e1 rest in
    let same : after_from (opening terms) (before ++ e0 ∷ behind) ≡ after_from (next first e0) behind = cut_after (opening terms) before behind e0 in
    let told : Tells g.0 (members_of g.0 [] behind) (after_from (next first e0) behind) r
    (moves_of (row (after_from (next first e0) behind) who (Op.AllLook g false) r)) =
    looked g (members_of g.0 [] behind) (after_from (next first e0) behind) who r fine.up fine.group last.allowed fine.members in
    let once : OnceIn (after_from (next first e0) behind).tasks = subst (λ (t : State). OnceIn t.tasks) same (once_from terms (before ++ e0 ∷ behind)) in
    elim told.said as (λ z. (r ≡ Reply.Pending) ⊎ IsGroupVerdict (after terms (before ++ e0 ∷ behind)) (members_of g.0 [] behind) r) [
      | inl e ↦ inl e
      | inr e ↦
          inr (subst (λ (t : State). IsGroupVerdict t (members_of g.0 [] behind) r) (sym same)
          (is_verdict g.0 (members_of g.0 [] behind) (after_from (next first e0) behind) r e.0 once fine.members e.1))
    ]

pub ruleset quiet_law = (made_objects_stay, quiet_calls_are_granted, quiet_looks_are_answered, quiet_verdicts)
