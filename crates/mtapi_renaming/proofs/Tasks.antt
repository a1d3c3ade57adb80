-- What is read of a task, and what its list becomes, once its handles are others.
use Rattle.mtapi_renaming.proofs.Names.{nat_tests, ◌≡◌, ℕ, ◌+◌, Bool, ◌&&◌, cond, List, [], ◌∷◌, Option, refl, ap, ◌==◌, option_map, option_or, IfSome, ObjectKind, TaskEnd, holds, Listed, live_of, inside, Action, some_below, is_eligible, has_worker, Task, is_unended, end_of, ended, end_each, is_member, is_unended_member, Ending, insert, insert_ended, endings, fault_of, first_fault, is_in, is_unended_in, is_head, Renaming, HasOtherName, IsOneToOne, renamed_list, renamed_task, HasTaskNames, NoHandle, HasEach, arith}
use Rattle.mtapi_values.specs.declared.handles.ObjectKind.TheVariants as kind
use Rattle.handle_pool.specs.Inside.{turned as turned_one}
use Rattle.mtapi_renaming.proofs.Lists.{same_any}

-- the tasks with their other handles
abbrev pub renamed_tasks : Renaming → List (Listed Task) → List (Listed Task)
renamed_tasks g l = renamed_list (g kind.Task) (renamed_task g) l

-- two tests that agree on every task whose handles have other ones
abbrev pub SameTest : Renaming → (Task → Bool) → (Task → Bool) → Type 0
SameTest g q m = (t : Task) → HasTaskNames g t → q (renamed_task g t) ≡ m t

-- the workers that can take tasks
below_same : (n : ℕ) (p q : ℕ → Bool) → ((w : ℕ) → p w ≡ q w) → some_below n p ≡ some_below n q
below_same n p q i = grind (arith, nat_tests)

-- the ends of tasks leave what the renaming has
pub has-ends : (g : Renaming) (p : Task → Bool) (e : TaskEnd) (n : ℕ) (l : List (Listed Task)) → HasEach g kind.Task (HasTaskNames g) l
    → HasEach g kind.Task (HasTaskNames g) (end_each p e n l)
unfolding end_each
has-ends g p e n [] v = tt
has-ends g p e n (r ∷ rs) v = grind (arith, v.0, has-ends g p e n rs v.1, has-ends g p e (n + 1) rs v.1)

-- the faults of ended tasks
abbrev pub renamed_ending : Renaming → Ending → Ending
renamed_ending g x = record x { task = g kind.Task x.task }

abbrev pub renamed_endings : Renaming → List Ending → List Ending
renamed_endings g [] = []
renamed_endings g (x ∷ xs) = renamed_ending g x ∷ renamed_endings g xs

pub fault-renamed : (g : Renaming) (xs : List Ending) → first_fault (renamed_endings g xs) ≡ first_fault xs
fault-renamed g [] = refl
fault-renamed g (x ∷ xs) = ap (option_or (fault_of x.end)) (fault-renamed g xs)

insert-renamed : (g : Renaming) (x : Ending) (xs : List Ending) → renamed_endings g (insert x xs) ≡ insert (renamed_ending g x) (renamed_endings g xs)
insert-renamed g x [] = refl
insert-renamed g x (y ∷ ys) = grind (arith, insert-renamed g x ys)

insert_ended-renamed : (g : Renaming) (h : ℕ) (x : Option (TaskEnd × ℕ)) (xs ys : List Ending) → ys ≡ renamed_endings g xs
    → insert_ended (g kind.Task h) x ys ≡ renamed_endings g (insert_ended h x xs)
insert_ended-renamed g h x xs ys i = grind (arith, nat_tests, insert-renamed)

module _ (g : Renaming) (one : IsOneToOne g) where
  same_handle : (k : ObjectKind) (h : ℕ) (o : Option ℕ) → IfSome o (HasOtherName g k) → holds (λ a. a == g k h) (option_map (g k) o) ≡ holds (λ a. a == h) o
  same_handle k h o i = grind (arith, nat_tests)

  pub same_member : (h : ℕ) → SameTest g (is_member (g kind.Group h)) (is_member h)
  same_member h t n = same_handle kind.Group h t.notes.group n.notes.group

  pub same_unended_member : (h : ℕ) → SameTest g (is_unended_member (g kind.Group h)) (is_unended_member h)
  same_unended_member h t n = ap (λ (b : Bool). b && is_unended t) (same_member h t n)

  pub same_in : (q : ℕ) → SameTest g (is_in (g kind.Queue q)) (is_in q)
  same_in q t n = same_handle kind.Queue q t.queue n.queue

  pub same_unended_in : (q : ℕ) → SameTest g (is_unended_in (g kind.Queue q)) (is_unended_in q)
  same_unended_in q t n = ap (λ (b : Bool). b && is_unended t) (same_in q t n)

  -- the task is the head of its queue
  pub same_head : (q : ℕ) (t : Task) (l : List (Listed Task)) → HasEach g kind.Task (HasTaskNames g) l
      → is_head (g kind.Queue q) (renamed_task g t) (live_of (renamed_tasks g l)) ≡ is_head q t (live_of l)
  same_head q t l i = grind (arith, nat_tests, same_any, same_unended_in)

  pub same_workers : (workers job cores : ℕ) (l : List (Listed Action)) → HasEach g kind.Action NoHandle l
      → has_worker workers job cores (live_of (renamed_list (g kind.Action) (λ x. x) l)) ≡ has_worker workers job cores (live_of l)
  unfolding has_worker
  same_workers workers job cores l n = below_same workers _ _
      (λ w. same_any g one kind.Action (λ x. x) NoHandle (is_eligible workers w job cores) (is_eligible workers w job cores) (λ x m. refl) l n)

  abbrev one_task : Listed Task → Listed Task
  one_task x = turned_one (g kind.Task) (λ h y. renamed_task g y) x

  -- the first task ends or doesn't, and then those of the others that pass
  abbrev with_first : Bool → Listed Task → List (Listed Task) → (Task → Bool) → TaskEnd → ℕ → List (Listed Task)
  with_first b r rs q e n = cond b (ended e n (one_task r) ∷ end_each q e (n + 1) (renamed_tasks g rs)) (one_task r ∷ end_each q e n (renamed_tasks g rs))

  -- every live task that passes ends
  pub end_each-renamed : (q m : Task → Bool) → SameTest g q m → (e : TaskEnd) (n : ℕ) (l : List (Listed Task)) → HasEach g kind.Task (HasTaskNames g) l
      → renamed_tasks g (end_each m e n l) ≡ end_each q e n (renamed_tasks g l)
  unfolding end_each inside
  end_each-renamed q m same e n [] v = refl
  end_each-renamed q m same e n (r ∷ rs) v =
      grind (arith, same r.fields v.0.1, end_each-renamed q m same e n rs v.1, end_each-renamed q m same e (n + 1) rs v.1)

  -- the members that have ended, in the order of their ends
  pub endings-renamed : (h : ℕ) (l : List (Listed Task)) → HasEach g kind.Task (HasTaskNames g) l
      → endings (g kind.Group h) (live_of (renamed_tasks g l)) ≡ renamed_endings g (endings h (live_of l))
  unfolding endings live_of inside
  endings-renamed h [] v = refl
  endings-renamed h (r ∷ rs) v = grind (
    arith,
    same_member h r.fields v.0.1,
    insert_ended-renamed g r.handle (end_of r.fields.state) (endings h (live_of rs))
        (endings (g kind.Group h) (live_of (renamed_tasks g rs))) (endings-renamed h rs v.1),
    endings-renamed h rs v.1,
  )
