-- What each move changes in what decides how tasks end.
use Rattle.run_report.proofs.Names.{nat_tests, ◌≡◌, ℕ, ◌+◌, ◌≤◌, Bool, true, false, ◌&&◌, cond, List, [], ◌∷◌, ◌++◌, Option, Some, None, refl, sym, ◌∙◌, ap, arith, ◌==◌, not, option_map, is_none, TaskEnd, Listed, live_of, live_object, change_all, update, retire, issue, with_fields, gone, listed, Distinct, live_of-issue, live_of-update, live_of-retire, at-issue, at-update, at-retire, Action, Queue, Task, TaskState, Running, Ended, NewTask, new_task, Notes, end_of, scheduled, is_unstarted, is_unended, with_state, with_notes, ended, is_member, freed, let_go, State, end_task, end_tasks, end_in, end_at, Unstarted, LiveQueue, SeenRun, FollowsSeen, unstarted_of, unstarted_in, unstarted_at, live_queue_of, live_queue_at, put_at, with_action, without_action, ends_where, with_end, opened_live}
use Rattle.handle_pool.proofs.LiveLemmas.{pairs_changed, pairs_without}
use Rattle.mtapi_objects.specs.Queues as queues
use Rattle.mtapi_values.specs.declared.kinds.Kind.{Kind}
use Rattle.run_report.proofs.Listed.{first_at, end_read, ends_first, unstarted_first, unlisted, entry_of, first-set, first-kept, first-none, first-issued, first-all, first-ends, same_number}

-- What is seen of a state

abbrev pub seen_of : State → SeenRun
seen_of s = record { ends = end_at s.tasks; unstarted = unstarted_at s.tasks; actions = live_of s.actions; queues = live_queue_at s.queues }

pub follows_self : (s : State) → FollowsSeen (seen_of s) s
follows_self s = record { ends = λ h. refl; unstarted = λ h. refl; actions = refl; queues = λ h. refl }

pub follows_path : (v : SeenRun) (s : State) → FollowsSeen v s → v ≡ seen_of s
follows_path v s f = λ i. record { ends = λ h. f.ends h i; unstarted = λ h. f.unstarted h i; actions = f.actions i; queues = λ h. f.queues h i }

-- nothing that is seen changes
pub follows_same : (v : SeenRun) (s t : State) → FollowsSeen v s → t.tasks ≡ s.tasks → t.actions ≡ s.actions → t.queues ≡ s.queues → FollowsSeen v t
follows_same v s t e1 e2 e3 e4 = grind (arith, nat_tests)

-- Tasks

-- tasks that are read as before
as_read : (v : SeenRun) (s : State) (l : List (Listed Task)) → FollowsSeen v s → ((h : ℕ) → first_at end_read l h ≡ first_at end_read s.tasks h)
    → ((h : ℕ) → first_at unstarted_in l h ≡ first_at unstarted_in s.tasks h) → FollowsSeen v (record s { tasks = l })
as_read v s l e1 e2 e3 = grind (arith, nat_tests, ends_first, unstarted_first)

pub follows_notes : (v : SeenRun) (s : State) (k : ℕ) (g : Notes → Notes) (t : Task) → FollowsSeen v s → ((h : ℕ) → listed h s.tasks ≤ 1)
    → live_object s.tasks k ≡ Some t
    → FollowsSeen v (record s { tasks = update k (with_notes g) s.tasks })
follows_notes v s k g t f once found = as_read v s _ f
    (λ h. first-kept end_read h k (with_fields (with_notes g)) t (λ r. refl) refl s.tasks (once k) found)
    (λ h. first-kept unstarted_in h k (with_fields (with_notes g)) t (λ r. refl) refl s.tasks (once k) found)

ended_unstarted : (x : TaskState) → not (is_none (end_of x)) ≡ true → scheduled x ≡ false
ended_unstarted x e1 = grind (arith, nat_tests)

not_waiting : (a : Bool) (t : Task) → is_unstarted t ≡ false → cond (a && is_unstarted t) (Some (unstarted_of t)) None ≡ None
not_waiting a t e1 = grind (arith, nat_tests)

pub follows_leaves : (v : SeenRun) (s : State) (k : ℕ) (t : Task) → FollowsSeen v s → ((h : ℕ) → listed h s.tasks ≤ 1) → live_object s.tasks k ≡ Some t
    → not (is_unended t) ≡ true
    → FollowsSeen v (record s { tasks = retire k s.tasks })
follows_leaves v s k t f once found over = as_read v s _ f
    (λ h. first-kept end_read h k gone t (λ r. refl) refl s.tasks (once k) found)
    (λ h. first-kept unstarted_in h k gone t (λ r. refl) (sym (not_waiting true t (ended_unstarted t.state over))) s.tasks (once k) found)

and_second : (a b : Bool) → (a && b) ≡ true → b ≡ true
and_second a b e1 = grind (arith, nat_tests)

pub follows_frees : (v : SeenRun) (s : State) (g : ℕ) → FollowsSeen v s
    → FollowsSeen v (record s { tasks = change_all (λ t. is_member g t && not (is_unended t)) freed s.tasks })
follows_frees v s g f = as_read v s _ f
    (λ h. first-all end_read h _ freed (λ r. refl) (λ r e. refl) s.tasks)
    (λ h. first-all unstarted_in h _ freed (λ r. refl)
    (λ r e. sym (not_waiting r.live r.fields (ended_unstarted r.fields.state (and_second (is_member g r.fields) _ e)))) s.tasks)

still_waits : (a : Bool) (x : TaskState) → ((a && is_none (end_of x)) && scheduled x) ≡ (a && scheduled x)
still_waits a x = grind (arith, nat_tests)

pub follows_lets_go : (v : SeenRun) (s : State) (g : ℕ) → FollowsSeen v s → FollowsSeen v (record s { tasks = change_all (is_member g) let_go s.tasks })
follows_lets_go v s g f = as_read v s _ f
    (λ h. first-all end_read h _ let_go (λ r. refl) (λ r e. refl) s.tasks)
    (λ h. first-all unstarted_in h _ let_go (λ r. refl) (λ r e. λ i. cond (still_waits r.live r.fields.state i) (Some (unstarted_of r.fields)) None) s.tasks)

-- where nothing was read, nothing is put
put_none : {X : Type 0} (h k : ℕ) (l : List (Listed Task)) (g : Listed Task → Option X) → listed h l ≡ 0 → cond (h == k) None (first_at g l k) ≡ first_at g l k
put_none h k l g e1 = grind (arith, nat_tests, first_at, first-none, same_number)

pub follows_starts : (v : SeenRun) (s : State) (h : ℕ) (t : NewTask) → FollowsSeen v s → listed h s.tasks ≡ 0
    → FollowsSeen (record v { unstarted = put_at h (Some (unstarted_of (new_task t s.starts))) v.unstarted })
    (record s { tasks = issue h (new_task t s.starts) s.tasks; starts = s.starts + 1 })
follows_starts v s h t f none = grind (arith, nat_tests, ends_first, unstarted_first, first-issued, put_none, end_read, unstarted_in)

unstarted_open : (x : TaskState) → scheduled x ≡ true → end_in x ≡ None
unstarted_open x e1 = grind (arith, nat_tests)

pub follows_runs : (v : SeenRun) (s : State) (h w : ℕ) (k : Kind) (t : Task) → FollowsSeen v s → ((j : ℕ) → listed j s.tasks ≤ 1)
    → live_object s.tasks h ≡ Some t
    → is_unstarted t ≡ true
    → FollowsSeen (record v { unstarted = put_at h None v.unstarted }) (record s { tasks = update h (with_state (Running w k)) s.tasks })
follows_runs v s h w k t f once found fresh = record {
  ends = λ j.
      f.ends j ∙ ends_first s.tasks j
      ∙ sym (first-kept end_read j h (with_fields (with_state (Running w k))) t (λ r. refl) (sym (unstarted_open t.state fresh)) s.tasks (once h) found)
      ∙ sym (ends_first _ j);
  unstarted = λ j.
      (λ i. cond (h == j) None (f.unstarted j i))
      ∙ (λ i. cond (h == j) None (unstarted_first s.tasks j i))
      ∙ sym (first-set unstarted_in j h (with_fields (with_state (Running w k))) t (λ r. refl) s.tasks (once h) found)
      ∙ sym (unstarted_first _ j);
  actions = f.actions;
  queues = f.queues;
}

and_false : (a : Bool) (x : Option Unstarted) → cond (a && false) x None ≡ None
and_false a x = grind (arith, nat_tests)

pub follows_end : (v : SeenRun) (s : State) (h : ℕ) (e : TaskEnd) (t : Task) → FollowsSeen v s → ((j : ℕ) → listed j s.tasks ≤ 1)
    → live_object s.tasks h ≡ Some t
    → FollowsSeen (with_end h e v) (end_task h e s)
follows_end v s h e t f once found = record {
  ends = λ j.
      (λ i. cond (h == j) (Some e) (f.ends j i))
      ∙ (λ i. cond (h == j) (Some e) (ends_first s.tasks j i))
      ∙ sym (first-set end_read j h (ended e s.ends) t (λ r. refl) s.tasks (once h) found)
      ∙ sym (ends_first _ j);
  unstarted = λ j.
      (λ i. cond (h == j) (sym (and_false (not t.notes.detached) (Some (unstarted_of (with_state (Ended e s.ends) t)))) i) (f.unstarted j i))
      ∙ (λ i. cond (h == j) (unstarted_in (ended e s.ends (entry_of h t))) (unstarted_first s.tasks j i))
      ∙ sym (first-set unstarted_in j h (ended e s.ends) t (λ r. refl) s.tasks (once h) found)
      ∙ sym (unstarted_first _ j);
  actions = f.actions;
  queues = f.queues;
}

-- every task that hasn't begun and passes ends
pub follows_ends : (v : SeenRun) (s : State) (p : Unstarted → Bool) (e : TaskEnd) → FollowsSeen v s
    → FollowsSeen (ends_where p e v) (end_tasks (λ t. is_unstarted t && p (unstarted_of t)) e s)
follows_ends v s p e e1 = grind (arith, nat_tests, unstarted_first, ends_first, first-ends, end_read, unstarted_in, and_false)

-- Actions

changed_same : (h : ℕ) (f : Action → Action) (es : List (ℕ × Action)) → with_action h f es ≡ pairs_changed h f es
changed_same h f es = grind (arith, nat_tests)

without_same : (h : ℕ) (es : List (ℕ × Action)) → without_action h es ≡ pairs_without h es
without_same h es = grind (arith, nat_tests)

pub action_changed : (h : ℕ) (f : Action → Action) (l : List (Listed Action)) → with_action h f (live_of l) ≡ live_of (update h f l)
action_changed h f l = changed_same h f (live_of l) ∙ sym (live_of-update h f l)

pub action_gone : (h : ℕ) (l : List (Listed Action)) → without_action h (live_of l) ≡ live_of (retire h l)
action_gone h l = without_same h (live_of l) ∙ sym (live_of-retire h l)

pub follows_actions : (v : SeenRun) (s : State) (es : List (ℕ × Action)) (l : List (Listed Action)) → FollowsSeen v s → es ≡ live_of l
    → FollowsSeen (record v { actions = es }) (record s { actions = l })
follows_actions v s es l f same = record { ends = f.ends; unstarted = f.unstarted; actions = same; queues = f.queues }

pub action_made : (h : ℕ) (a : Action) (l : List (Listed Action)) → live_of l ++ (h, a) ∷ [] ≡ live_of (issue h a l)
action_made h a l = sym (live_of-issue h a l)

-- Queues

follows_queues : (v : SeenRun) (s : State) (q : ℕ → Option LiveQueue) (l : List (Listed Queue)) → FollowsSeen v s → ((h : ℕ) → q h ≡ live_queue_at l h)
    → FollowsSeen (record v { queues = q }) (record s { queues = l })
follows_queues v s q l f same = record { ends = f.ends; unstarted = f.unstarted; actions = f.actions; queues = same }

-- what a test chooses, under a function
mapped : (b : Bool) (x : Option Queue) (y : Option Queue)
    → cond b (option_map live_queue_of x) (option_map live_queue_of y) ≡ option_map live_queue_of (cond b x y)
mapped b x y = grind (arith, nat_tests)

pub follows_queue_made : (v : SeenRun) (s : State) (h : ℕ) (x : Queue) → FollowsSeen v s → listed h s.queues ≡ 0
    → FollowsSeen (record v { queues = put_at h (Some (live_queue_of x)) v.queues }) (record s { queues = issue h x s.queues })
follows_queue_made v s h x f none = grind (arith, nat_tests, follows_queues, mapped, live_queue_of, at-issue, unlisted)

pub follows_queue_changed : (v : SeenRun) (s : State) (h : ℕ) (on : Bool) (x : Queue) → FollowsSeen v s → live_object s.queues h ≡ Some x
    → FollowsSeen (record v { queues = put_at h (option_map (opened_live on) (v.queues h)) v.queues })
    (record s { queues = update h (queues.opened on) s.queues })
follows_queue_changed v s h on x f found = follows_queues v s _ _ f (λ k.
    (λ i. cond (h == k) (option_map (opened_live on) (f.queues h i)) (f.queues k i))
    ∙ (λ i. cond (h == k) (option_map (opened_live on) (option_map live_queue_of (found i))) (live_queue_at s.queues k))
    ∙ mapped (h == k) (Some (queues.opened on x)) (live_object s.queues k)
    ∙ ap (option_map live_queue_of) (sym (at-update h k (queues.opened on) x s.queues found)))

pub follows_queue_gone : (v : SeenRun) (s : State) (h : ℕ) → FollowsSeen v s → Distinct (live_of s.queues)
    → FollowsSeen (record v { queues = put_at h None v.queues }) (record s { queues = retire h s.queues })
follows_queue_gone v s h e1 e2 = grind (arith, nat_tests, follows_queues, mapped, live_object, option_map, live_queue_of, at-retire)
