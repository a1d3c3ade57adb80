-- Each move of a state is, in the renamed state, the same move with the other handles, and leaves what the renaming has.
use Rattle.mtapi_renaming.proofs.Names.{rules, arith, nat_tests, ◌≡◌, ℕ, ◌+◌, Bool, true, ◌&&◌, List, [], ◌∷◌, refl, sym, ◌∙◌, ap, not, slice_set, option_map, Kind, TaskEnd, Failed, MtapiStatus, Listed, live_of, change, issue, update, retire, gone, with_fields, change-inside, update-inside, retire-inside, issue-inside, Action, with_enabled, has_worker, Task, NewTask, Notes, is_unstarted, is_unended, ended, with_notes, is_member, freed, let_go, Phase, State, workers, end_tasks, Move, Sort, Groups, Queues, Mutexes, Sems, Rwls, Segments, Fields, all_of, phase_is, released, stops, makes_action, enables, withdraws, starts_task, runs_task, ends_task, ends_waiting, notes, leaves, frees_members, lets_members_go, makes, alters, removes, apply, after_moves, Renaming, Room, renamed_list, renamed_task, renamed_notes, renamed, HasNotes, HasTaskNames, NoHandle, HasEach, FitsState}
use Rattle.mtapi_values.specs.declared.handles.ObjectKind.TheVariants as kind
use Rattle.handle_pool.specs.Inside.{turned as turned_one}
use Rattle.mtapi_renaming.proofs.Lists.{apart, same_count, change_all-renamed, has-change, has-change_all}
use Rattle.mtapi_renaming.proofs.Tasks.{SameTest, same_member, same_workers, end_each-renamed, has-ends}

-- the move is, in the renamed state, this other one
pub record MoveRenames (g : Renaming) (x : Room) (s : State) (other move : Move) : Type 0 where
  pub same : renamed g x (apply move s) ≡ apply other (renamed g x s)
  pub fits : FitsState g (apply move s)

-- so of several moves, one after the other
pub record MovesRename (g : Renaming) (x : Room) (s : State) (others moves : List Move) : Type 0 where
  pub same : renamed g x (after_moves moves s) ≡ after_moves others (renamed g x s)
  pub fits : FitsState g (after_moves moves s)

pub no_move : {g : Renaming} {x : Room} {s : State} → FitsState g s → MovesRename g x s [] []
no_move n = record { same = refl; fits = n }

-- one move
pub one_move : {g : Renaming} {x : Room} {s : State} {m w : Move} → MoveRenames g x s m w → MovesRename g x s (m ∷ []) (w ∷ [])
one_move e = record { same = e.same; fits = e.fits }

-- a move, and then more of them
pub then_moves : {g : Renaming} {x : Room} {s : State} {m w : Move} {ms ws : List Move} → MoveRenames g x s m w
    → (FitsState g (apply w s) → MovesRename g x (apply w s) ms ws) → MovesRename g x s (m ∷ ms) (w ∷ ws)
then_moves {g} {x} {s} {m} {w} {ms} {ws} e f = let r = f e.fits in record { same = r.same ∙ ap (after_moves ms) e.same; fits = r.fits }

-- a new task, with the other handles of its group and its queue
abbrev pub renamed_new : Renaming → NewTask → NewTask
renamed_new g t = record t { group = option_map (g kind.Group) t.group; queue = option_map (g kind.Queue) t.queue }

-- what is noted changes so that its handles have other ones
abbrev pub NoteKeeps : Renaming → (Notes → Notes) → Type 0
NoteKeeps g f = (y : Notes) → HasNotes g y → HasNotes g (f y)

-- the objects of a kind in the renamed state
pub sort-list : (g : Renaming) (x : Room) (k : Sort) (s : State)
    → (all_of k).list (renamed g x s) ≡ renamed_list (g (all_of k).kind) (λ y. y) ((all_of k).list s)
sort-list g x Groups s = refl
sort-list g x t s = refl

pub sort-with : (g : Renaming) (x : Room) (k : Sort) (l : List (Listed (Fields k))) (s : State)
    → renamed g x ((all_of k).with_list l s) ≡ (all_of k).with_list (renamed_list (g (all_of k).kind) (λ y. y) l) (renamed g x s)
sort-with g x Groups l s = refl
sort-with g x t l s = refl

pub sort-has : (g : Renaming) (k : Sort) (s : State) → FitsState g s → HasEach g (all_of k).kind NoHandle ((all_of k).list s)
sort-has g Groups s n = n.groups
sort-has g Queues s n = n.queues
sort-has g Mutexes s n = n.mutexes
sort-has g Sems s n = n.sems
sort-has g Rwls s n = n.rwls
sort-has g Segments s n = n.segments

-- the state with another list of a kind that no rule of tasks speaks of
pub has-with : (g : Renaming) (s : State) → FitsState g s → (k : Sort) (l : List (Listed (Fields k))) → HasEach g (all_of k).kind NoHandle l
    → FitsState g ((all_of k).with_list l s)
has-with g s n Groups l v = search rules
has-with g s n _ l v = search rules

-- the state with other actions and tasks, and what is no object
pub has-so : (g : Renaming) (s : State) → FitsState g s
    → (p : Phase) (b : Bool) (marks : List Bool) (starts ends : ℕ) (l : List (Listed Action)) (ts : List (Listed Task)) → HasEach g kind.Action NoHandle l
    → HasEach g kind.Task (HasTaskNames g) ts →
    FitsState g (record s { phase = p; released = b; stopped = marks; starts = starts; ends = ends; actions = l; tasks = ts })
has-so g s n p b marks starts ends l ts v w = search rules

-- new objects, whatever the renaming has
module _ (g : Renaming) (x : Room) (s : State) where
  pub makes_action-renames : (h : ℕ) (a : Action) → renamed g x (apply (makes_action h a) s) ≡ apply (makes_action (g kind.Action h) a) (renamed g x s)
  makes_action-renames h a = λ i. record (renamed g x s) { actions = issue-inside (g kind.Action) (λ j y. y) h a s.actions i }

  pub starts_task-renames : (h : ℕ) (t : NewTask) → g kind.Mutex 0 ≡ 0 → g kind.Shmem 0 ≡ 0
      → renamed g x (apply (starts_task h t) s) ≡ apply (starts_task (g kind.Task h) (renamed_new g t)) (renamed g x s)
  starts_task-renames h t i j = grind (arith, nat_tests, issue-inside)

  pub makes-renames : (k : Sort) (h : ℕ) (v : Fields k) → renamed g x (apply (makes k h v) s) ≡ apply (makes k (g (all_of k).kind h) v) (renamed g x s)
  makes-renames k h v =
      sort-with g x k (issue h v ((all_of k).list s)) s
      ∙ ap (λ (l : List (Listed (Fields k))). (all_of k).with_list l (renamed g x s)) (issue-inside (g (all_of k).kind) (λ j y. y) h v ((all_of k).list s)
      ∙ ap (issue (g (all_of k).kind h) v) (sym (sort-list g x k s)))

module _ (g : Renaming) (x : Room) (s : State) (n : FitsState g s) where
  with_tasks : (starts ends : ℕ) (ts : List (Listed Task)) → HasEach g kind.Task (HasTaskNames g) ts
      → FitsState g (record s { starts = starts; ends = ends; tasks = ts })
  with_tasks starts ends ts w = has-so g s n s.phase s.released s.stopped starts ends s.actions ts n.actions w

  pub phase-renames : (p : Phase) → MoveRenames g x s (phase_is p) (phase_is p)
  phase-renames p = record { same = refl; fits = has-so g s n p s.released s.stopped s.starts s.ends s.actions s.tasks n.actions n.tasks }

  pub released-renames : MoveRenames g x s released released
  released-renames = record { same = refl; fits = has-so g s n s.phase true s.stopped s.starts s.ends s.actions s.tasks n.actions n.tasks }

  pub stops-renames : (w : ℕ) → MoveRenames g x s (stops w) (stops w)
  stops-renames w = record {
    same = refl;
    fits = has-so g s n s.phase s.released (slice_set s.stopped w true) s.starts s.ends s.actions s.tasks n.actions n.tasks;
  }

  pub enables-renames : (h : ℕ) → MoveRenames g x s (enables (g kind.Action h)) (enables h)
  enables-renames h = record {
    same = λ i. record (renamed g x s) {
      actions =
          update-inside (g kind.Action) (λ j y. y) h (with_enabled true) (with_enabled true) s.actions (λ v. refl)
          (apart g n.one kind.Action (λ y. y) NoHandle h s.actions n.actions) i;
    };
    fits = has-so g s n s.phase s.released s.stopped s.starts s.ends _ s.tasks
        (has-change g kind.Action NoHandle h (with_fields (with_enabled true)) (λ r. refl) (λ r v. tt) s.actions n.actions) n.tasks;
  }

  task_changes : (h : ℕ) (F G : Task → Task) → ((t : Task) → renamed_task g (F t) ≡ G (renamed_task g t))
      → renamed g x (record s { tasks = update h F s.tasks }) ≡ record (renamed g x s) { tasks = update (g kind.Task h) G (renamed g x s).tasks }
  task_changes h F G to = λ i. record (renamed g x s) {
    tasks = update-inside (g kind.Task) (λ j y. renamed_task g y) h F G s.tasks to
        (apart g n.one kind.Task (renamed_task g) (HasTaskNames g) h s.tasks n.tasks) i;
  }

  pub runs_task-renames : (h w : ℕ) (k : Kind) → MoveRenames g x s (runs_task (g kind.Task h) w k) (runs_task h w k)
  runs_task-renames h w k = grind (arith, nat_tests, task_changes, with_tasks, has-change)

  pub notes-renames : (h : ℕ) (f c : Notes → Notes) → ((y : Notes) → renamed_notes g (f y) ≡ c (renamed_notes g y)) → NoteKeeps g f
      → MoveRenames g x s (notes (g kind.Task h) c) (notes h f)
  notes-renames h f c to keeps = record {
    same = task_changes h (with_notes f) (with_notes c) (λ t. ap (λ (y : Notes). record (renamed_task g t) { notes = y }) (to t.notes));
    fits = with_tasks s.starts s.ends _ (has-change g kind.Task (HasTaskNames g) h (with_fields (with_notes f)) (λ r. refl)
        (λ r v. record { queue = v.queue; notes = keeps r.fields.notes v.notes }) s.tasks n.tasks);
  }

  pub ends_task-renames : (h : ℕ) (e : TaskEnd) → MoveRenames g x s (ends_task (g kind.Task h) e) (ends_task h e)
  ends_task-renames h e = record {
    same = λ i. record (renamed g x s) {
      tasks = change-inside (g kind.Task) (λ j y. renamed_task g y) h (ended e s.ends) (ended e s.ends) s.tasks (λ r d. refl)
          (apart g n.one kind.Task (renamed_task g) (HasTaskNames g) h s.tasks n.tasks) i;
      ends = s.ends + 1;
    };
    fits = with_tasks s.starts _ _ (has-change g kind.Task (HasTaskNames g) h (ended e s.ends) (λ r. refl)
        (λ r v. record { queue = v.queue; notes = v.notes }) s.tasks n.tasks);
  }

  pub leaves-renames : (h : ℕ) → MoveRenames g x s (leaves (g kind.Task h)) (leaves h)
  leaves-renames h = record {
    same = λ i. record (renamed g x s) {
      tasks = retire-inside (g kind.Task) (λ j y. renamed_task g y) h s.tasks (apart g n.one kind.Task (renamed_task g) (HasTaskNames g) h s.tasks n.tasks) i;
    };
    fits = with_tasks s.starts s.ends _ (has-change g kind.Task (HasTaskNames g) h gone (λ r. refl) (λ r v. v) s.tasks n.tasks);
  }

  -- every task that passes ends
  ends-same : (q m : Task → Bool) → SameTest g q m → (e : TaskEnd) → renamed g x (end_tasks m e s) ≡ end_tasks q e (renamed g x s)
  ends-same q m i e = grind (arith, nat_tests, end_each-renamed, same_count)

  pub ends_waiting-renames : (q m : Task → Bool) → SameTest g q m → (e : TaskEnd) → MoveRenames g x s (ends_waiting q e) (ends_waiting m e)
  ends_waiting-renames q m i e = grind (arith, nat_tests, ends-same, with_tasks, has-ends)

  pub frees_members-renames : (h : ℕ) → MoveRenames g x s (frees_members (g kind.Group h)) (frees_members h)
  frees_members-renames h = record {
    same = λ i. record (renamed g x s) {
      tasks = change_all-renamed g n.one kind.Task (renamed_task g) (HasTaskNames g) (λ t. is_member (g kind.Group h) t
          && not (is_unended t)) (λ t. is_member h t
          && not (is_unended t))
          (λ t v. ap (λ (b : Bool). b && not (is_unended t)) (same_member g n.one h t v)) freed freed (λ r. refl) s.tasks n.tasks i;
    };
    fits = with_tasks s.starts s.ends _ (has-change_all g kind.Task (HasTaskNames g) (λ t. is_member h t
        && not (is_unended t)) freed (λ r. refl) (λ r v. record { queue = v.queue; notes = record { group = tt; tally = v.notes.tally } }) s.tasks n.tasks);
  }

  pub lets_members_go-renames : (h : ℕ) → MoveRenames g x s (lets_members_go (g kind.Group h)) (lets_members_go h)
  lets_members_go-renames h = record {
    same = λ i. record (renamed g x s) {
      tasks = change_all-renamed g n.one kind.Task (renamed_task g) (HasTaskNames g) (is_member (g kind.Group h)) (is_member h)
          (same_member g n.one h) let_go let_go
          (λ r. refl) s.tasks n.tasks i;
    };
    fits = with_tasks s.starts s.ends _ (has-change_all g kind.Task (HasTaskNames g) (is_member h) let_go (λ r. refl)
        (λ r v. record { queue = v.queue; notes = record { group = tt; tally = v.notes.tally } }) s.tasks n.tasks);
  }

  -- an action is taken away, or disabled
  module _ (h : ℕ) (f : Listed Action → Listed Action) (same : (r : Listed Action) → (f r).handle ≡ r.handle) (to : (r : Listed Action)
      → turned_one (g kind.Action) (λ j y. y) (f r) ≡ f (turned_one (g kind.Action) (λ j y. y) r)) where
    others : renamed_list (g kind.Action) (λ y. y) (change h f s.actions) ≡ change (g kind.Action h) f (renamed g x s).actions
    others = change-inside (g kind.Action) (λ j y. y) h f f s.actions (λ r d. to r) (apart g n.one kind.Action (λ y. y) NoHandle h s.actions n.actions)

    abbrev is_left : List (Listed Action) → Task → Bool
    is_left l t = is_unstarted t && not (has_worker (workers s) t.job t.cores (live_of l))

    follow : HasEach g kind.Action NoHandle (change h f s.actions)
    follow = has-change g kind.Action NoHandle h f same (λ r p. tt) s.actions n.actions

    same_left : SameTest g (is_left (change (g kind.Action h) f (renamed g x s).actions)) (is_left (change h f s.actions))
    same_left t v =
        ap (λ (b : Bool). is_unstarted t && not b) (ap (λ (l : List (Listed Action)). has_worker (workers s) t.job t.cores (live_of l)) (sym others)
        ∙ same_workers g n.one (workers s) t.job t.cores (change h f s.actions) follow)

    pub withdraws-renames : (c : MtapiStatus) → MoveRenames g x s (withdraws (g kind.Action h) f c) (withdraws h f c)
    withdraws-renames c = record {
      same = λ i. record (ends-same (is_left (change (g kind.Action h) f (renamed g x s).actions)) (is_left (change h f s.actions)) same_left
          (Failed c) i) { actions = others i };
      fits = has-so g s n s.phase s.released s.stopped s.starts _ _ _ follow (has-ends g (is_left (change h f s.actions)) (Failed c) s.ends s.tasks n.tasks);
    }

  -- objects that no rule of tasks speaks of
  pub alters-renames : (k : Sort) (h : ℕ) (f : Fields k → Fields k) → MoveRenames g x s (alters k (g (all_of k).kind h) f) (alters k h f)
  alters-renames k h f = record {
    same = sort-with g x k (update h f ((all_of k).list s)) s
        ∙ ap (λ (l : List (Listed (Fields k))). (all_of k).with_list l (renamed g x s))
        (update-inside (g (all_of k).kind) (λ j y. y) h f f ((all_of k).list s) (λ v. refl)
        (apart g n.one (all_of k).kind (λ y. y) NoHandle h ((all_of k).list s) (sort-has g k s n))
        ∙ ap (update (g (all_of k).kind h) f) (sym (sort-list g x k s)));
    fits = has-with g s n k _ (has-change g (all_of k).kind NoHandle h (with_fields f) (λ r. refl) (λ r v. tt) ((all_of k).list s) (sort-has g k s n));
  }

  pub removes-renames : (k : Sort) (h : ℕ) → MoveRenames g x s (removes k (g (all_of k).kind h)) (removes k h)
  removes-renames k h = record {
    same = sort-with g x k (retire h ((all_of k).list s)) s
        ∙ ap (λ (l : List (Listed (Fields k))). (all_of k).with_list l (renamed g x s))
        (retire-inside (g (all_of k).kind) (λ j y. y) h ((all_of k).list s)
        (apart g n.one (all_of k).kind (λ y. y) NoHandle h ((all_of k).list s) (sort-has g k s n))
        ∙ ap (retire (g (all_of k).kind h)) (sym (sort-list g x k s)));
    fits = has-with g s n k _ (has-change g (all_of k).kind NoHandle h gone (λ r. refl) (λ r v. tt) ((all_of k).list s) (sort-has g k s n));
  }
