-- The rows of the ops that make objects, seen from inside.
use Rattle.mtapi_layouts.proofs.Names.{◌≡◌, ℕ, true, [], ◌∷◌, Option, Some, inl, refl, sym, ◌∙◌, ap, subst, arith, ◌==◌, not, IfSome, ObjectKind, Two, names_kind, is_full, same_tests, has_job, has_enabled_job, Reply, Handle, State, Objects, actions, tasks, queues, Move, Queues, Sort, Fields, all_of, makes_action, starts_task, makes, is_fresh, Row, unless, gives, only, mtapi_unless, handle_of, on, creates, Keyed, creates_keyed, start_refusals, renamed_task, HasTaskNames, NoHandle, HasEach, FitsState, renamed_answer, found-has, has-issue, is_plain, Alike, gives_renamed, says_alike, unless_then, unless_alike, only_alike, live_alike, sort-found, sort-any, action-any, served, group_missing, inward, NamesThisKind, turned_list, room_one, state_in_one, nat_tests}
use Rattle.mtapi_values.specs.declared.handles.ObjectKind.TheVariants as kind
use Rattle.mtapi_objects.specs.Actions.{Action}
use Rattle.mtapi_objects.specs.Tasks.{NewTask, new_task}
use Rattle.mtapi_objects.specs.Queues.{Queue}
use Rattle.mtapi_machine.proofs.Made.{fst_true, snd_true}
use Rattle.mtapi_renaming.specs.Renaming.{HasOtherName}
use Rattle.mtapi_renaming.proofs.Moves.{MovesRename, one_move, renamed_new, sort-list, sort-has, has-with, has-so, makes_action-renames, starts_task-renames, makes-renames}
use Rattle.mtapi_renaming.proofs.Creates.{group_has, limit_plain}
use Rattle.mtapi_layouts.proofs.Handles.{names-of, named-kind, inward-zero}
use Rattle.mtapi_layouts.proofs.Lists.{may_issue-generation, same_full, same_may_issue}

-- the handle in a reply with other handles
handle_turned : (k : ObjectKind) (r : Reply) → handle_of (renamed_answer inward (Some k) r) ≡ inward k (handle_of r)
handle_turned k r = grind (arith, nat_tests, inward-zero)

module _ {s : State} (n : FitsState inward s) (two : s.terms.layout ≡ Two) where
  -- a handle that may be issued names its kind
  fresh_names : {T : Type 0} (o : Objects T) (h : ℕ) → is_fresh o s h ≡ true → NamesThisKind o.kind h
  fresh_names o h e = grind (arith, nat_tests, names-of o.kind h, names_kind, fst_true, may_issue-generation, snd_true)

  module _ {T : Type 0} (o : Objects T) (f : T → T) (P : T
      → Type 0) (is : o.list (state_in_one s) ≡ turned_list o.kind f (o.list s)) (v : HasEach inward o.kind P (o.list s)) where
    -- it may be issued inside, where it is turned
    same_fresh : (h : ℕ) → is_fresh o (state_in_one s) (inward o.kind h) ≡ is_fresh o s h
    same_fresh h = grind (arith, nat_tests, same_tests, is_fresh, nat_tests, same_may_issue, named-kind, may_issue-generation, fresh_names)

    creates_alike : (make other : ℕ → Move) → is_plain o.limit ≡ true
        → ((h : ℕ) → NamesThisKind o.kind h → MovesRename inward (room_one s.terms) s (other (inward o.kind h) ∷ []) (make h ∷ [])) → (r : Reply) →
        Alike inward (room_one s.terms) s (Some o.kind) r (creates o s r make) (creates o (state_in_one s) (renamed_answer inward (Some o.kind) r) other)
    creates_alike make other limit moves r =
        subst (λ (h : ℕ). Alike inward (room_one s.terms) s (Some o.kind) r (creates o s r make)
        (unless (is_full s.terms.settings.generations (o.max s.terms.settings) (o.list (state_in_one s))) o.limit
        (only (is_fresh o (state_in_one s) h) (gives (Handle h) (other h ∷ [])))))
        (sym (handle_turned o.kind r))
        (unless_alike n (ap (is_full s.terms.settings.generations (o.max s.terms.settings)) is
        ∙ same_full o.kind f P s.terms.settings.generations (o.max s.terms.settings) (o.list s) v) limit
        (only_alike n (same_fresh (handle_of r))
        (λ e. gives_renamed n {y = Handle (handle_of r)} (fresh_names o (handle_of r) e) (moves (handle_of r) (fresh_names o (handle_of r) e)))))

  pub creates_action : (a : Action) (r : Reply)
      → Alike inward (room_one s.terms) s (Some kind.Action) r (creates actions s r (λ h. makes_action h a))
      (creates actions (state_in_one s) (renamed_answer inward (Some kind.Action) r) (λ h. makes_action h a))
  creates_action a r =
      creates_alike actions (λ y. y) NoHandle refl n.actions (λ h. makes_action h a) (λ h. makes_action h a) refl
      (λ h some. one_move (record {
        same = makes_action-renames inward (room_one s.terms) s h a;
        fits = has-so inward s n s.phase s.released s.stopped s.starts s.ends _ s.tasks
            (has-issue inward kind.Action NoHandle h a s.actions some tt n.actions) n.tasks;
      })) r

  pub creates_task : (t : NewTask) → IfSome t.group (HasOtherName inward kind.Group) → IfSome t.queue (HasOtherName inward kind.Queue) → (r : Reply) →
      Alike inward (room_one s.terms) s (Some kind.Task) r (creates tasks s r (λ h. starts_task h t))
      (creates tasks (state_in_one s) (renamed_answer inward (Some kind.Task) r) (λ h. starts_task h (renamed_new inward t)))
  creates_task t a b r =
      creates_alike tasks (renamed_task inward) (HasTaskNames inward) refl n.tasks (λ h. starts_task h t) (λ h. starts_task h (renamed_new inward t)) refl
      (λ h some. one_move (record {
        same = starts_task-renames inward (room_one s.terms) s h t (n.zero kind.Mutex) (n.zero kind.Shmem);
        fits = has-so inward s n s.phase s.released s.stopped _ s.ends s.actions _ n.actions
            (has-issue inward kind.Task (HasTaskNames inward) h (new_task t s.starts) s.tasks some
            (record { queue = b; notes = record { group = a; tally = record { mutex = inl refl; segment = inl refl } } }) n.tasks);
      })) r

  pub creates_sort : (t : Sort) (w : Fields t) (r : Reply)
      → Alike inward (room_one s.terms) s (Some (all_of t).kind) r (creates (all_of t) s r (λ h. makes t h w))
      (creates (all_of t) (state_in_one s) (renamed_answer inward (Some (all_of t).kind) r) (λ h. makes t h w))
  creates_sort t w r =
      creates_alike (all_of t) (λ y. y) NoHandle (sort-list inward (room_one s.terms) t s) (sort-has inward t s n) (λ h. makes t h w) (λ h. makes t h w)
      (limit_plain t)
      (λ h some. one_move (record {
        same = makes-renames inward (room_one s.terms) s t h w;
        fits = has-with inward s n t _ (has-issue inward (all_of t).kind NoHandle h w ((all_of t).list s) some tt (sort-has inward t s n));
      })) r

  -- a new object, where no live one has its id
  pub keyed_creates : {t : Sort} (o : Keyed t) (w : Fields t) (r : Reply) → is_plain o.exists ≡ true →
      Alike inward (room_one s.terms) s (Some (all_of t).kind) r (creates_keyed o s r w)
      (creates_keyed o (state_in_one s) (renamed_answer inward (Some (all_of t).kind) r) w)
  keyed_creates {t} o w r p = unless_alike n (sort-any n (room_one s.terms) t (λ y. o.id y == o.id w)) p (creates_sort t w r)

  module _ {k : Option ObjectKind} {r : Reply} where
    pub starts_alike : (t : NewTask) {own other : Row} → (IfSome t.group (HasOtherName inward kind.Group) → Alike inward (room_one s.terms) s k r own other) →
        Alike inward (room_one s.terms) s k r (mtapi_unless (start_refusals s t) own)
        (mtapi_unless (start_refusals (state_in_one s) (renamed_new inward t)) other)
    starts_alike t w =
        unless_alike n (ap not (action-any n (room_one s.terms) (has_job t.job))) refl (unless_then n (group_missing n (room_one s.terms) t.group) refl (λ b.
        unless_alike n (ap not (action-any n (room_one s.terms) (has_enabled_job t.job))) refl
        (unless_alike n (ap not (served n (room_one s.terms) t.job t.cores)) refl (w (group_has n t.group b)))))

    -- an enqueue on the live queue of a handle
    pub on_queue : (q : ℕ) (v w : Queue → Row) → ((y : Queue) → HasOtherName inward kind.Queue q → Alike inward (room_one s.terms) s k r (v y) (w y)) →
        Alike inward (room_one s.terms) s k r (on queues s q v) (on queues (state_in_one s) (inward kind.Queue q) w)
    on_queue q v w e = live_alike n (λ y. y) v w (sort-found n (room_one s.terms) Queues q) (says_alike n refl)
        (λ y d. e y (found-has inward kind.Queue NoHandle q y s.queues n.queues d).0)
