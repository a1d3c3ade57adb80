-- The rows by which workers take tasks and end them, and those of tallies, in the renamed state.
use Rattle.mtapi_renaming.proofs.Names.{◌≡◌, ℕ, Bool, true, false, ◌&&◌, ◌||◌, List, Option, Some, None, inr, refl, sym, ◌∙◌, ap, subst, length, ◌==◌, not, nat_lt, is_some, ℤ, option_map, ObjectKind, MtapiStatus, TaskEnd, holds, live_of, live_object, first_handle, Action, is_eligible, Task, Notes, is_unstarted, is_unended, Adds, asked_once, with_tally, tally_has, Queue, lets, Mutex, locked_by, unlocked, Segment, with_attached, Reply, Picked, State, workers, is_past_open, is_stop, Queues, Mutexes, Segments, Row, is_ready, can_take, has_better, picks, on_tally, gives_up, takes_both, locks, gives_back, Renaming, HasOtherName, Room, renamed_task, renamed_notes, renamed, HasTaskNames, NoHandle, FitsState, renamed_answer, arith}
use Rattle.mtapi_values.specs.declared.handles.ObjectKind.TheVariants as kind
use Rattle.mtapi_renaming.proofs.Lists.{found-renamed, found-has, first-has}
use Rattle.mtapi_renaming.proofs.Tasks.{SameTest, same_head}
use Rattle.mtapi_renaming.proofs.Moves.{NoteKeeps, one_move, then_moves, runs_task-renames, ends_task-renames, notes-renames, alters-renames}
use Rattle.mtapi_renaming.proofs.Rows.{Alike, sort-found, sort-first, unless_alike, gives_renamed, gives_alike, says_alike, never_alike, cond_alike, only_alike, live_alike, on_task, chosen_sort}
use Rattle.mtapi_renaming.proofs.TaskRows.{is_none-map, action-any, task-any}

pub asked_same : (g : Renaming) (y : Notes) → renamed_notes g (asked_once y) ≡ asked_once (renamed_notes g y)
asked_same g y = grind arith

pub asked_keeps : (g : Renaming) → NoteKeeps g asked_once
asked_keeps g y v = grind (arith, v.group, v.tally)

-- Picking

module _ {g : Renaming} {s : State} (n : FitsState g s) (x : Room) where
  queue_lets : (t : Task) (o : Option ℕ) → holds (λ h. holds (lets h (renamed_task g t) (live_of (renamed g x s).tasks)) (live_object (renamed g x s).queues h))
      (option_map (g kind.Queue) o) ≡ holds (λ h. holds (lets h t (live_of s.tasks)) (live_object s.queues h)) o
  queue_lets t None = refl
  queue_lets t (Some h) = ap (holds (lets (g kind.Queue h) (renamed_task g t) (live_of (renamed g x s).tasks))) (sort-found n x Queues h)
      ∙ by_object (live_object s.queues h)
    where
      by_object : (o : Option Queue) → holds (lets (g kind.Queue h) (renamed_task g t) (live_of (renamed g x s).tasks)) (option_map (λ y. y) o)
          ≡ holds (lets h t (live_of s.tasks)) o
      by_object None = refl
      by_object (Some q) = ap (λ (b : Bool). q.enabled && (not q.ordered || b)) (same_head g n.one h t s.tasks n.tasks)

  same_ready : SameTest g (is_ready (renamed g x s)) (is_ready s)
  unfolding is_ready
  same_ready t v = λ i. is_unstarted t && (is_none-map (g kind.Queue) t.queue i || queue_lets t t.queue i)

  same_take : (w : ℕ) → SameTest g (can_take (renamed g x s) w) (can_take s w)
  unfolding can_take
  same_take w t v = λ i. same_ready t v i && action-any n x (is_eligible (workers s) w t.job t.cores) i

  same_better : (w priority : ℕ) → has_better (renamed g x s) w priority ≡ has_better s w priority
  unfolding has_better
  same_better w priority = task-any n x _ _ (λ t v. ap (λ (b : Bool). b && nat_lt t.priority priority) (same_take w t v))

  same_may : (w : ℕ) (t : Task) (a : Action) → HasTaskNames g t
      → (is_ready (renamed g x s) (renamed_task g t) && is_eligible (workers (renamed g x s)) w (renamed_task g t).job (renamed_task g t).cores a
      && not (has_better (renamed g x s) w (renamed_task g t).priority))
      ≡ (is_ready s t && is_eligible (workers s) w t.job t.cores a && not (has_better s w t.priority))
  same_may w t a v = λ i. same_ready t v i && is_eligible (workers s) w t.job t.cores a && not (same_better w t.priority i)

  pub same_stop : is_stop (renamed g x s) ≡ is_stop s
  same_stop = ap (λ (b : Bool). is_past_open s.phase && not b) (task-any n x is_unended is_unended (λ t v. refl))

  pub picks_alike : (w : ℕ) (r : Reply) → Alike g x s None r (picks s w r) (picks (renamed g x s) w (renamed_answer g None r))
  picks_alike w (Picked t a k args) =
      live_alike n (renamed_task g) _ _ (found-renamed g n.one kind.Task (renamed_task g) (HasTaskNames g) t.0 s.tasks n.tasks) (never_alike n) (λ y d.
      let has : HasOtherName g kind.Task t.0 × HasTaskNames g y = found-has g kind.Task (HasTaskNames g) t.0 y s.tasks n.tasks d in
      live_alike n (λ z. z) _ _ (found-renamed g n.one kind.Action (λ z. z) NoHandle a.0 s.actions n.actions) (never_alike n) (λ z e.
      only_alike n (same_may w y z has.1) (λ c. gives_renamed n (has.0, (found-has g kind.Action NoHandle a.0 z s.actions n.actions e).0)
      (one_move (runs_task-renames g x s n t.0 w z.kind)))))
  picks_alike w r = only_alike n (ap not (task-any n x (can_take (renamed g x s) w) (can_take s w) (same_take w))) (λ c. says_alike n refl)

-- Tallies

module _ {g : Renaming} {x : Room} {s : State} (n : FitsState g s) {k : Option ObjectKind} {r : Reply} where
  pub on_tally_alike : (who h : ℕ) (v w : Task → Row) → ((y : Task) → HasTaskNames g y → Alike g x s k r (v y) (w (renamed_task g y)))
      → Alike g x s k r (on_tally s who h v) (on_tally (renamed g x s) who (g kind.Task h) w)
  on_tally_alike who h v w e = unless_alike n refl refl (on_task n h _ _ (λ y m. unless_alike n refl refl (e y m)))

  gives_up_alike : (h : ℕ) (c : MtapiStatus) → Alike g x s k r (gives_up h c) (gives_up (g kind.Task h) c)
  gives_up_alike h c = gives_alike n refl
      (one_move (notes-renames g x s n h _ _ (λ y. refl)
      (λ y v. record { group = v.group; tally = record { mutex = v.tally.mutex; segment = v.tally.segment } })))

  takes_both_alike : (who h cell : ℕ) (a b : Option ℕ) → ((i : ℕ) → a ≡ Some i → HasOtherName g kind.Mutex i)
      → ((i : ℕ) → b ≡ Some i → HasOtherName g kind.Shmem i) →
      Alike g x s k r (takes_both s who h cell a b)
      (takes_both (renamed g x s) who (g kind.Task h) cell (option_map (g kind.Mutex) a) (option_map (g kind.Shmem) b))
  takes_both_alike who h cell (Some a) (Some b) v w =
      live_alike n (λ y. y) _ _ (sort-found n x Mutexes a) (gives_up_alike h _)
      (λ y d. live_alike n (λ z. z) _ _ (sort-found n x Segments b) (gives_up_alike h _) (λ z e.
      cond_alike n (not (nat_lt cell (length z.cells))) (not (nat_lt cell (length z.cells))) refl (gives_up_alike h _)
      (cond_alike n (is_some y.owner) (is_some y.owner) refl (says_alike n refl)
      (gives_alike n refl (then_moves (alters-renames g x s n Mutexes a (locked_by who))
      (λ f. then_moves (alters-renames g x _ f Segments b (with_attached who true))
      (λ l. one_move (notes-renames g x _ l h (with_tally (tally_has a b)) (with_tally (tally_has (g kind.Mutex a) (g kind.Shmem b))) (λ u. refl)
      (λ u m. record { group = m.group; tally = record { mutex = inr (v a refl); segment = inr (w b refl) } })))))))))
  takes_both_alike who h cell _ _ v w = gives_up_alike h _

  pub locks_alike : (who h : ℕ) (args : List ℤ) (y : Option Adds) → Alike g x s k r (locks s who h args y) (locks (renamed g x s) who (g kind.Task h) args y)
  locks_alike who h args None = gives_up_alike h _
  locks_alike who h args (Some y) =
      subst (λ (o : Option ℕ). Alike g x s k r (locks s who h args (Some y))
      (takes_both (renamed g x s) who (g kind.Task h) y.cell o (first_handle segment_of (live_of (renamed g x s).segments))))
      (sym (sort-first n x Mutexes mutex_of))
      (subst (λ (o : Option ℕ). Alike g x s k r (locks s who h args (Some y))
      (takes_both (renamed g x s) who (g kind.Task h) y.cell (option_map (g kind.Mutex) (first_handle mutex_of (live_of s.mutexes))) o))
      (sym (sort-first n x Segments segment_of))
      (takes_both_alike who h y.cell (first_handle mutex_of (live_of s.mutexes)) (first_handle segment_of (live_of s.segments))
      (λ i e. first-has g kind.Mutex NoHandle mutex_of s.mutexes i n.mutexes e) (λ i e. first-has g kind.Shmem NoHandle segment_of s.segments i n.segments e)))
    where
      mutex_of : Mutex → Bool
      mutex_of m = m.id == y.mutex

      segment_of : Segment → Bool
      segment_of m = m.id == y.segment

  pub gives_back_alike : (who h : ℕ) (y : Task) (e : TaskEnd)
      → Alike g x s k r (gives_back s who h y e) (gives_back (renamed g x s) who (g kind.Task h) (renamed_task g y) e)
  gives_back_alike who h y e =
      chosen_sort n Segments y.notes.tally.segment _ _ (λ z. chosen_sort n Mutexes y.notes.tally.mutex _ _ (λ m. gives_alike n refl
      (then_moves (alters-renames g x s n Segments y.notes.tally.segment (with_attached who false))
      (λ f. then_moves (alters-renames g x _ f Mutexes y.notes.tally.mutex unlocked) (λ l. one_move (ends_task-renames g x _ l h e))))))
