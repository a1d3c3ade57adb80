-- A renaming with one pair more: what it has, and what a state is by it.
use Rattle.mtapi_renaming.proofs.Names.{rules, ◌≡◌, ℕ, ◌+◌, ◌≤◌, true, ◌&&◌, cond, List, [], ◌∷◌, Option, Some, None, inl, inr, refl, sym, ◌∙◌, ap, subst, arith, ◌==◌, option_map, IfSome, eq-eqb, nat_tests, ObjectKind, object_number, Listed, listed, may_issue, issue, inside, Agree, count-inside, listed-issue, Action, Task, NewTask, new_task, State, Objects, Sort, Fields, all_of, makes_action, starts_task, makes, is_fresh, apply, snd_true, of_sort, sort_at, each_so, each_with, Renaming, HasOtherName, IsOneToOne, with_pair, Room, renamed_list, renamed_task, renamed, HasOrNone, HasTaskNames, NoHandle, HasEach, FitsState, listed_in, Only, Follows}
use Rattle.mtapi_values.specs.declared.handles.ObjectKind.TheVariants as kind
use Rattle.mtapi_renaming.proofs.Lists.{same_test, has-issue}
use Rattle.mtapi_renaming.proofs.Moves.{renamed_new, sort-has, has-with, has-so, makes_action-renames, starts_task-renames, makes-renames}

-- a kind is told by its number
same_kind : (j k : ObjectKind) → object_number j ≡ object_number k → j ≡ k
same_kind j k e = grind (arith, nat_tests)

-- the handle is new, and nothing has the other one
pub record IsNew (g : Renaming) (k : ObjectKind) (h other : ℕ) : Type 0 where
  pub absent : g k h ≡ 0
  pub some : 1 ≤ h
  pub others : 1 ≤ other
  pub apart : (a : ℕ) → g k a ≡ other → ⊥

-- where a handle may be issued, it is none of those that were, and not 0
issued-facts : {T : Type 0} (last h : ℕ) (l : List (Listed T)) → may_issue last h l ≡ true → (listed h l ≡ 0) × (1 ≤ h)
unfolding may_issue
issued-facts last h l i = grind (arith, nat_tests)

module _ {T : Type 0} (g : Renaming) (one : IsOneToOne g) (k : ObjectKind) (f : T → T) (P : T → Type 0) where
  pub listed-renamed : (h : ℕ) (l : List (Listed T)) → HasEach g k P l → listed (g k h) (renamed_list (g k) f l) ≡ listed h l
  unfolding listed
  listed-renamed h l n = count-inside (g k) (λ i y. f y) (λ r. r.handle == g k h) (λ r. r.handle == h) l (agree l n)
    where
      agree : (xs : List (Listed T)) → HasEach g k P xs → Agree (g k) (λ i y. f y) (λ r. r.handle == g k h) (λ r. r.handle == h) xs
      agree [] n = tt
      agree (r ∷ rs) n = (same_test g one k r.handle h n.0.0, agree rs n.1)

  new-pair : (h other : ℕ) (l : List (Listed T)) → HasEach g k P l → ((a : ℕ) → HasOtherName g k a → 1 ≤ listed a l) → listed h l ≡ 0 → 1 ≤ h
      → listed other (renamed_list (g k) f l) ≡ 0 → 1 ≤ other → IsNew g k h other
  new-pair h other l v only none some no_other others = grind (arith, nat_tests, listed-renamed)

-- so of the handles that two states may issue
pub is_new : {T : Type 0} (g : Renaming) (x : Room) (s : State) → IsOneToOne g → (o : Objects T) (f : T → T) (P : T → Type 0)
    → o.list (renamed g x s) ≡ renamed_list (g o.kind) f (o.list s) → HasEach g o.kind P (o.list s)
    → ((a : ℕ) → HasOtherName g o.kind a → 1 ≤ listed a (o.list s)) →
    (h other : ℕ) → is_fresh o s h ≡ true → is_fresh o (renamed g x s) other ≡ true → IsNew g o.kind h other
is_new g x s i o f P j l m h other n u = grind (arith, nat_tests, issued-facts, snd_true, new-pair)

module _ (g : Renaming) (k : ObjectKind) (h other : ℕ) where
  pub at-new : with_pair k h other g k h ≡ other
  at-new = λ i. cond (eq-eqb (object_number k) (object_number k) refl i && eq-eqb h h refl i) other (g k h)

  module _ (one : IsOneToOne g) (new : IsNew g k h other) where
    -- what the renaming had, it has still
    pub extends : (j : ObjectKind) (a : ℕ) → HasOtherName g j a → with_pair k h other g j a ≡ g j a
    extends j a has = grind (arith, nat_tests, same_kind j k, new.absent)

    pub has_still : (j : ObjectKind) (a : ℕ) → HasOtherName g j a → HasOtherName (with_pair k h other g) j a
    has_still j a has = subst (λ (m : ℕ). 1 ≤ m) (sym (extends j a has)) has

    pub has_new : HasOtherName (with_pair k h other g) k h
    has_new = subst (λ (m : ℕ). 1 ≤ m) (sym at-new) new.others

    pub one-pair : IsOneToOne (with_pair k h other g)
    one-pair j a b has e = grind (arith, nat_tests, same_kind j k, one j a b, new.apart a, new.apart b, new.others)

    pub zero-pair : (j : ObjectKind) → g j 0 ≡ 0 → with_pair k h other g j 0 ≡ 0
    zero-pair j z = grind (arith, nat_tests, new.some)

    -- a list by the longer renaming
    has-more : {T : Type 0} (j : ObjectKind) (P Q : T → Type 0) → ((y : T) → P y → Q y) → (l : List (Listed T)) → HasEach g j P l
        → HasEach (with_pair k h other g) j Q l
    has-more j P Q keeps [] n = tt
    has-more j P Q keeps (r ∷ rs) n = ((has_still j r.handle n.0.0, keeps r.fields n.0.1), has-more j P Q keeps rs n.1)

    list-same : {T : Type 0} (j : ObjectKind) (P : T → Type 0) (c d : T → T) → ((y : T) → P y → c y ≡ d y) → (l : List (Listed T)) → HasEach g j P l
        → renamed_list (with_pair k h other g j) c l ≡ renamed_list (g j) d l
    unfolding inside
    list-same j P c d same [] n = refl
    list-same j P c d same (r ∷ rs) n = λ i. record { handle = extends j r.handle n.0.0 i; live = r.live; fields = same r.fields n.0.1 i }
        ∷ list-same j P c d same rs n.1 i

    option-same : (j : ObjectKind) (o : Option ℕ) → IfSome o (HasOtherName g j) → option_map (with_pair k h other g j) o ≡ option_map (g j) o
    option-same j None n = refl
    option-same j (Some a) n = ap Some (extends j a n)

    none-same : (j : ObjectKind) (a : ℕ) → g j 0 ≡ 0 → HasOrNone g j a → with_pair k h other g j a ≡ g j a
    none-same j a z (inl e) = ap (with_pair k h other g j) e ∙ zero-pair j z ∙ sym z ∙ ap (g j) (sym e)
    none-same j a z (inr n) = extends j a n

    option-still : (j : ObjectKind) (o : Option ℕ) → IfSome o (HasOtherName g j) → IfSome o (HasOtherName (with_pair k h other g) j)
    option-still j None n = tt
    option-still j (Some a) n = has_still j a n

    none-still : (j : ObjectKind) (a : ℕ) → HasOrNone g j a → HasOrNone (with_pair k h other g) j a
    none-still j a (inl e) = inl e
    none-still j a (inr n) = inr (has_still j a n)

    task-same : g kind.Mutex 0 ≡ 0 → g kind.Shmem 0 ≡ 0 → (t : Task) → HasTaskNames g t → renamed_task (with_pair k h other g) t ≡ renamed_task g t
    task-same z w t n = λ i. record t {
      queue = option-same kind.Queue t.queue n.queue i;
      notes = record t.notes {
        group = option-same kind.Group t.notes.group n.notes.group i;
        tally = record t.notes.tally {
          mutex = none-same kind.Mutex t.notes.tally.mutex z n.notes.tally.mutex i;
          segment = none-same kind.Shmem t.notes.tally.segment w n.notes.tally.segment i;
        };
      };
    }

    task-still : (t : Task) → HasTaskNames g t → HasTaskNames (with_pair k h other g) t
    task-still t n = record {
      queue = option-still kind.Queue t.queue n.queue;
      notes = record {
        group = option-still kind.Group t.notes.group n.notes.group;
        tally = record {
          mutex = none-still kind.Mutex t.notes.tally.mutex n.notes.tally.mutex;
          segment = none-still kind.Shmem t.notes.tally.segment n.notes.tally.segment;
        };
      };
    }

    new-still : (t : NewTask) (start : ℕ) → IfSome t.group (HasOtherName g kind.Group) → IfSome t.queue (HasOtherName g kind.Queue)
        → HasTaskNames (with_pair k h other g) (new_task t start)
    new-still t start a b = record {
      queue = option-still kind.Queue t.queue b;
      notes = record { group = option-still kind.Group t.group a; tally = record { mutex = inl refl; segment = inl refl } };
    }

    new-same : (t : NewTask) → IfSome t.group (HasOtherName g kind.Group) → IfSome t.queue (HasOtherName g kind.Queue)
        → renamed_new (with_pair k h other g) t ≡ renamed_new g t
    new-same t a b = λ i. record t { group = option-same kind.Group t.group a i; queue = option-same kind.Queue t.queue b i }

    -- it fits the state still
    fits-more : (s : State) → FitsState g s → FitsState (with_pair k h other g) s
    fits-more s n = search (rules, one-pair, zero-pair, has-more, task-still)

    -- and has just what was issued in a state in which the new handle was issued too
    only-more : (s t : State) → Only g s → ((j : ObjectKind) (a : ℕ) → listed_in j s a ≤ listed_in j t a) → 1 ≤ listed_in k t h → Only (with_pair k h other g) t
    only-more s t o more there j a has = grind (arith, nat_tests, same_kind j k, o j a, more j a, there)

    module _ (x : Room) (s : State) (n : FitsState g s) where
      state-same : renamed (with_pair k h other g) x s ≡ renamed g x s
      state-same = λ i. record (renamed g x s) {
        actions = list-same kind.Action NoHandle (λ y. y) (λ y. y) (λ y v. refl) s.actions n.actions i;
        tasks = list-same kind.Task (HasTaskNames g) (renamed_task (with_pair k h other g)) (renamed_task g)
            (task-same (n.zero kind.Mutex) (n.zero kind.Shmem)) s.tasks n.tasks i;
        groups = list-same kind.Group NoHandle (λ y. y) (λ y. y) (λ y v. refl) s.groups n.groups i;
        queues = list-same kind.Queue NoHandle (λ y. y) (λ y. y) (λ y v. refl) s.queues n.queues i;
        mutexes = list-same kind.Mutex NoHandle (λ y. y) (λ y. y) (λ y v. refl) s.mutexes n.mutexes i;
        sems = list-same kind.Sem NoHandle (λ y. y) (λ y. y) (λ y v. refl) s.sems n.sems i;
        rwls = list-same kind.Rwl NoHandle (λ y. y) (λ y. y) (λ y v. refl) s.rwls n.rwls i;
        segments = list-same kind.Shmem NoHandle (λ y. y) (λ y. y) (λ y v. refl) s.segments n.segments i;
      }

-- what is listed after a new object

at_least : (m : ℕ) → m ≤ m
at_least m = omega arith

issue_more : {T : Type 0} (h a : ℕ) (w : T) (l : List (Listed T)) → listed a l ≤ listed a (issue h w l)
issue_more h a w l = omega (arith, listed-issue a h w l)

issue_there : {T : Type 0} (h : ℕ) (w : T) (l : List (Listed T)) → 1 ≤ listed h (issue h w l)
issue_there h w l = grind (arith, nat_tests, listed-issue h h w l)

-- each list of a state with a new object has what it had
abbrev HasMore : ℕ → (T : Type 0) → Objects T → List (Listed T) → List (Listed T) → Type 0
HasMore b T o l m = listed b l ≤ listed b m

module _ (s : State) (h : ℕ) where
  action_more : (a : Action) (j : ObjectKind) (b : ℕ) → listed_in j s b ≤ listed_in j (apply (makes_action h a) s) b
  action_more a j b = each_so (HasMore b) (λ T o l. at_least (listed b l)) s s.phase s.released s.stopped s.starts s.ends _ s.tasks (issue_more h b a s.actions)
      (at_least (listed b s.tasks)) j

  task_more : (t : NewTask) (j : ObjectKind) (b : ℕ) → listed_in j s b ≤ listed_in j (apply (starts_task h t) s) b
  task_more t j b = each_so (HasMore b) (λ T o l. at_least (listed b l)) s s.phase s.released s.stopped (s.starts
      + 1) s.ends s.actions _ (at_least (listed b s.actions)) (issue_more h b (new_task t s.starts) s.tasks) j

  sort_more : (t : Sort) (w : Fields t) (j : ObjectKind) (b : ℕ) → listed_in j s b ≤ listed_in j (apply (makes t h w) s) b
  sort_more t w j b = each_with (HasMore b) (λ T o l. at_least (listed b l)) s t _ (issue_more h b w ((all_of t).list s)) j

  sort_there : (t : Sort) (w : Fields t) → 1 ≤ listed_in (all_of t).kind (apply (makes t h w) s) h
  sort_there t w = of_sort (λ T o. 1 ≤ listed h (o.list (apply (makes t h w) s))) t
      (subst (λ (l : List (Listed (Fields t))). 1 ≤ listed h l) (sym (sort_at t _ s)) (issue_there h w ((all_of t).list s)))

-- a new object: the state after it by the longer renaming, and what that renaming has
pub record MakesPair (g : Renaming) (x : Room) (s : State) (k : ObjectKind) (h other : ℕ) (own others : State) : Type 0 where
  pub same : renamed (with_pair k h other g) x own ≡ others
  pub follows : Follows (with_pair k h other g) own

module _ (g : Renaming) (x : Room) (s : State) (n : Follows g s) (h other : ℕ) where
  pub makes_action-pair : (a : Action) → IsNew g kind.Action h other
      → MakesPair g x s kind.Action h other (apply (makes_action h a) s) (apply (makes_action other a) (renamed g x s))
  makes_action-pair a new =
      let more : FitsState (with_pair kind.Action h other g) s = fits-more g kind.Action h other n.fits.one new s n.fits in
      record {
        same = makes_action-renames (with_pair kind.Action h other g) x s h a
            ∙ (λ i. apply (makes_action (at-new g kind.Action h other i) a) (state-same g kind.Action h other n.fits.one new x s n.fits i));
        follows = record {
          fits = has-so (with_pair kind.Action h other g) s more s.phase s.released s.stopped s.starts s.ends _ s.tasks
              (has-issue (with_pair kind.Action h other g) kind.Action NoHandle h a s.actions
              (has_new g kind.Action h other n.fits.one new) tt more.actions) more.tasks;
          only = only-more g kind.Action h other n.fits.one new s (apply (makes_action h a) s) n.only (action_more s h a) (issue_there h a s.actions);
        };
      }

  pub starts_task-pair : (t : NewTask) → IfSome t.group (HasOtherName g kind.Group) → IfSome t.queue (HasOtherName g kind.Queue) → IsNew g kind.Task h other →
      MakesPair g x s kind.Task h other (apply (starts_task h t) s) (apply (starts_task other (renamed_new g t)) (renamed g x s))
  starts_task-pair t a b new =
      let more : FitsState (with_pair kind.Task h other g) s = fits-more g kind.Task h other n.fits.one new s n.fits in
      record {
        same = starts_task-renames (with_pair kind.Task h other g) x s h t (more.zero kind.Mutex) (more.zero kind.Shmem)
            ∙ (λ i. apply (starts_task (at-new g kind.Task h other i) (new-same g kind.Task h other n.fits.one new t a b i))
            (state-same g kind.Task h other n.fits.one new x s n.fits i));
        follows = record {
          fits = has-so (with_pair kind.Task h other g) s more s.phase s.released s.stopped _ s.ends s.actions _ more.actions
              (has-issue (with_pair kind.Task h other g) kind.Task (HasTaskNames (with_pair kind.Task h other g)) h (new_task t s.starts) s.tasks
              (has_new g kind.Task h other n.fits.one new) (new-still g kind.Task h other n.fits.one new t s.starts a b) more.tasks);
          only = only-more g kind.Task h other n.fits.one new s (apply (starts_task h t) s) n.only (task_more s h t)
              (issue_there h (new_task t s.starts) s.tasks);
        };
      }

  pub makes-pair : (k : Sort) (w : Fields k) → IsNew g (all_of k).kind h other
      → MakesPair g x s (all_of k).kind h other (apply (makes k h w) s) (apply (makes k other w) (renamed g x s))
  makes-pair k w new =
      let more : FitsState (with_pair (all_of k).kind h other g) s = fits-more g (all_of k).kind h other n.fits.one new s n.fits in
      record {
        same = makes-renames (with_pair (all_of k).kind h other g) x s k h w
            ∙ (λ i. apply (makes k (at-new g (all_of k).kind h other i) w) (state-same g (all_of k).kind h other n.fits.one new x s n.fits i));
        follows = record {
          fits = has-with (with_pair (all_of k).kind h other g) s more k _
              (has-issue (with_pair (all_of k).kind h other g) (all_of k).kind NoHandle h w ((all_of k).list s)
              (has_new g (all_of k).kind h other n.fits.one new) tt (sort-has (with_pair (all_of k).kind h other g) k s more));
          only = only-more g (all_of k).kind h other n.fits.one new s (apply (makes k h w) s) n.only (sort_more s h k w) (sort_there s h k w);
        };
      }
