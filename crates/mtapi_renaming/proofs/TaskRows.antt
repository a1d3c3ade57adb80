-- The rows of tasks, groups and queues, in the renamed state.
use Rattle.mtapi_renaming.proofs.Names.{arith, nat_tests, ◌≡◌, ℕ, Bool, true, false, cond, List, [], ◌∷◌, Option, Some, None, refl, sym, ◌∙◌, ap, subst, not, is_none, is_some, option_map, ObjectKind, MtapiStatus, Cancelled, holds, live_object, any_listed, count_listed, Action, Task, TaskState, Scheduled, Running, Ending, in_no_group, Queue, opened, is_in, is_unended_in, is_shut_in, Reply, Ok, State, workers, Queues, Groups, ends_waiting, alters, is_served, gives, looks_at, cancels, verdict, gives_end, gives_first, Renaming, HasOtherName, Room, renamed_task, renamed, HasTaskNames, NoHandle, FitsState}
use Rattle.mtapi_values.specs.declared.handles.ObjectKind.TheVariants as kind
use Rattle.mtapi_objects.specs.Tasks.{Ended}
use Rattle.mtapi_renaming.proofs.Rows.{is_plain}
use Rattle.mtapi_renaming.proofs.Lists.{found-renamed, found-has, same_any, same_count}
use Rattle.mtapi_renaming.proofs.Tasks.{SameTest, same_in, same_unended_in, same_workers, renamed_endings}
use Rattle.mtapi_renaming.proofs.Moves.{one_move, then_moves, notes-renames, leaves-renames, ends_task-renames, ends_waiting-renames, alters-renames}
use Rattle.mtapi_renaming.proofs.Rows.{Alike, sort-found, gives_renamed, gives_alike, says_alike, never_alike, not_yet_alike, live_alike}

pub is_none-map : {T U : Type 0} (f : T → U) (o : Option T) → is_none (option_map f o) ≡ is_none o
is_none-map f o = grind (arith, nat_tests)

pub is_some-map : {T U : Type 0} (f : T → U) (o : Option T) → is_some (option_map f o) ≡ is_some o
is_some-map f o = grind (arith, nat_tests)

pub verdict_plain : (c : Option MtapiStatus) → is_plain (verdict c) ≡ true
verdict_plain c = grind (arith, nat_tests)

-- what is read of the lists
module _ {g : Renaming} {s : State} (n : FitsState g s) (x : Room) where
  pub action-any : (p : Action → Bool) → any_listed p (renamed g x s).actions ≡ any_listed p s.actions
  action-any p = same_any g n.one kind.Action (λ y. y) NoHandle p p (λ y v. refl) s.actions n.actions

  pub task-any : (q m : Task → Bool) → SameTest g q m → any_listed q (renamed g x s).tasks ≡ any_listed m s.tasks
  task-any q m same = same_any g n.one kind.Task (renamed_task g) (HasTaskNames g) q m same s.tasks n.tasks

  pub served : (job cores : ℕ) → is_served (renamed g x s) job cores ≡ is_served s job cores
  served job cores = same_workers g n.one (workers s) job cores s.actions n.actions

  pub group_missing : (h : Option ℕ) → holds (λ a. is_none (live_object (renamed g x s).groups a)) (option_map (g kind.Group) h)
      ≡ holds (λ a. is_none (live_object s.groups a)) h
  group_missing None = refl
  group_missing (Some h) = ap is_none (sort-found n x Groups h) ∙ is_none-map (λ y. y) (live_object s.groups h)

  -- the tasks of disabled queues
  pub same_shut : SameTest g (is_shut_in (renamed g x s).queues) (is_shut_in s.queues)
  same_shut t v = by_queue t.queue
    where
      by_object : (o : Option Queue) → holds (λ q. not q.enabled) (option_map (λ y. y) o) ≡ holds (λ q. not q.enabled) o
      by_object None = refl
      by_object (Some q) = refl

      by_queue : (o : Option ℕ) → holds (λ h. holds (λ q. not q.enabled) (live_object (renamed g x s).queues h)) (option_map (g kind.Queue) o)
          ≡ holds (λ h. holds (λ q. not q.enabled) (live_object s.queues h)) o
      by_queue None = refl
      by_queue (Some h) = ap (holds (λ q. not q.enabled)) (sort-found n x Queues h) ∙ by_object (live_object s.queues h)

  pub count-in : (q : ℕ) → count_listed (is_unended_in (g kind.Queue q)) (renamed g x s).tasks ≡ count_listed (is_unended_in q) s.tasks
  count-in q = same_count g n.one kind.Task (renamed_task g) (HasTaskNames g) (is_unended_in (g kind.Queue q)) (is_unended_in q)
      (same_unended_in g n.one q) s.tasks n.tasks

module _ {g : Renaming} {x : Room} {s : State} (n : FitsState g s) {k : Option ObjectKind} {r : Reply} where
  -- Looking and cancelling

  pub looks_at_alike : (who h : ℕ) (last : Bool) (y : TaskState) → Alike g x s k r (looks_at who h last y) (looks_at who (g kind.Task h) last y)
  looks_at_alike who h last (Ended e m) = gives_alike n refl (one_move (leaves-renames g x s n h))
  looks_at_alike who h true _ = gives_alike n refl
      (one_move (notes-renames g x s n h _ _ (λ y. refl) (λ y v. record { group = v.group; tally = v.tally })))
  looks_at_alike who h false _ = gives_alike n refl
      (one_move (notes-renames g x s n h _ _ (λ y. refl) (λ y v. record { group = v.group; tally = v.tally })))

  pub cancels_alike : (h : ℕ) (y : TaskState) → Alike g x s k r (cancels h y) (cancels (g kind.Task h) y)
  cancels_alike h Scheduled = gives_alike n refl (one_move (ends_task-renames g x s n h Cancelled))
  cancels_alike h (Running w m) = gives_alike n refl (one_move (notes-renames g x s n h _ _ (λ y. refl) (λ y v. record { group = v.group; tally = v.tally })))
  cancels_alike h (Ended e m) = says_alike n refl

  -- Groups

  gives_end_alike : (h : ℕ) (y : TaskState) → HasOtherName g kind.Task h → Alike g x s k r (gives_end h y) (gives_end (g kind.Task h) y)
  gives_end_alike h (Ended e m) v =
      gives_renamed n v (then_moves (notes-renames g x s n h in_no_group in_no_group (λ y. refl) (λ y w. record { group = tt; tally = w.tally }))
      (λ f. one_move (leaves-renames g x _ f h)))
  gives_end_alike h _ v = never_alike n

  pub gives_first_alike : (last : Bool) (xs ys : List Ending) → ys ≡ renamed_endings g xs
      → Alike g x s k r (gives_first s last xs) (gives_first (renamed g x s) last ys)
  gives_first_alike last xs ys e = subst (λ (zs : List Ending). Alike g x s k r (gives_first s last xs) (gives_first (renamed g x s) last zs)) (sym e)
      (by_first xs)
    where
      by_first : (zs : List Ending) → Alike g x s k r (gives_first s last zs) (gives_first (renamed g x s) last (renamed_endings g zs))
      by_first [] = not_yet_alike n last _ refl
      by_first (z ∷ zs) =
          live_alike n (renamed_task g) _ _ (found-renamed g n.one kind.Task (renamed_task g) (HasTaskNames g) z.task s.tasks n.tasks) (never_alike n)
          (λ y d. gives_end_alike z.task y.state (found-has g kind.Task (HasTaskNames g) z.task y s.tasks n.tasks d).0)

  -- Queues

  pub disables_alike : (q : ℕ) (retain : Bool) →
      Alike g x s k r (gives Ok (alters Queues q (opened false) ∷ cond retain [] (ends_waiting (is_in q) Cancelled ∷ [])))
      (gives Ok (alters Queues (g kind.Queue q) (opened false) ∷ cond retain [] (ends_waiting (is_in (g kind.Queue q)) Cancelled ∷ [])))
  disables_alike q true = gives_alike n refl (one_move (alters-renames g x s n Queues q (opened false)))
  disables_alike q false = gives_alike n refl
      (then_moves (alters-renames g x s n Queues q (opened false))
      (λ f. one_move (ends_waiting-renames g x _ f (is_in (g kind.Queue q)) (is_in q) (same_in g n.one q) Cancelled)))
