-- The lists that the laws refuse, by computing.
use Rattle.history_law.proofs.Names.{nat_tests, ◌≡◌, ℕ, ◌<◌, ◌≤◌, Bool, true, false, inl, inr, ap, List, [], ◌∷◌, ◌++◌, Option, Some, None, refl, sym, ◌∙◌, arith, pos, IsSome, slice_set, no_marks, TaskHandle, Op, Task, Segment, Listed, live_of, issue, change, listed, issued_at, retired, is_full, may_issue, has_worker, end_each, is_ready, can_take, has_better, NodeEntry, LegalFrom, after_from, after, kept, DropsToSame, end_at, usual, main_entry, worker, worked_first_handle, next_handle, task_handle, the_action, add_task, some_entry, is_live_object, EndsAfterClose, HasMutex, MutexesKeepTo, MadeWith, RwlsKeepTo, tally_got, h1, two_workers, gets_both, tallies_begin, record_of, number_added, sum_of, writes_to, HoldsTheSum, EndedBefore, RunsInOrder, Cancelled, Completed, NeverAgain, second_core_mask, too_early, up_to_the_end, again, given_twice, puts_one, two_put, picks_second, final_first, cancelled_first, completed_then, makes_sem, both_hold, both_own, makes_rwl, reads_beside, written_untold, caller_gets, beside_a_tally, LawsRefuse, three_read, one_reads_twice, gives_back_unread, reads_none, gives_anothers, gets_none, gives_unlocked, some_same}
use Rattle.mtapi_values.specs.declared.kinds.Kind.TheVariants as kind
use Rattle.mtapi_values.specs.declared.handles.ObjectKind.TheVariants as object
use Rattle.mtapi_machine.specs.declared.ops.Op.TheVariants as op
use Rattle.mtapi_machine.specs.declared.replies.Reply.TheVariants as reply
use Rattle.history_law.specs.Refused.{refused_action_op, leaves, gives_first_twice}

pub not_some : {A : Type 0} {x : A} → None ≡ Some x → ⊥
not_some e = cc

pub no_end : end_at (after usual too_early).tasks worked_first_handle ≡ None
unfolding too_early end_at after_from live_of issue change listed issued_at retired is_full may_issue has_worker end_each is_ready can_take has_better
no_end = refl

refuses_close : EndsAfterClose usual too_early worked_first_handle → ⊥
unfolding too_early
refuses_close f =
    let before : List NodeEntry = main_entry op.Initialize reply.Ok ∷ main_entry refused_action_op (reply.Handle worked_first_handle)
    ∷ main_entry (add_task 0) (reply.Handle worked_first_handle)
    ∷ [] in
    let prefix : List NodeEntry = main_entry op.Initialize reply.Ok ∷ main_entry refused_action_op (reply.Handle worked_first_handle) ∷ [] in
    let x = f before [] prefix (main_entry op.Final reply.Ok ∷ []) (main_entry (add_task 0) (reply.Handle worked_first_handle)) 1 refl refl refl in
    not_some (sym no_end ∙ x.ended)

is_there : is_live_object object.Task worked_first_handle (after usual up_to_the_end) ≡ true
unfolding up_to_the_end end_at after_from live_of issue change listed issued_at retired is_full may_issue has_worker end_each is_ready can_take has_better
is_there = refl

is_gone : is_live_object object.Task worked_first_handle (after usual (up_to_the_end ++ leaves)) ≡ false
unfolding up_to_the_end end_at after_from live_of issue change listed issued_at retired is_full may_issue has_worker end_each is_ready can_take has_better
is_gone = refl

pub true_false : true ≡ false → ⊥
true_false e = cc

refuses_reuse : NeverAgain usual (up_to_the_end ++ (leaves ++ again)) object.Task worked_first_handle → ⊥
unfolding up_to_the_end
refuses_reuse f = true_false (f up_to_the_end leaves again [] refl is_there is_gone).none

not_run : end_at (after usual two_put).tasks worked_first_handle ≡ None
unfolding two_put end_at after_from live_of issue change listed issued_at retired is_full may_issue has_worker end_each is_ready can_take has_better
not_run = refl

is_none_some : {A : Type 0} (o : Option A) → o ≡ None → IsSome o → ⊥
is_none_some o e1 e2 = grind (arith, nat_tests)

refuses_order : RunsInOrder usual (two_put ++ picks_second) worked_first_handle → ⊥
unfolding two_put
refuses_order f =
    let z : List NodeEntry = main_entry op.Initialize reply.Ok ∷ main_entry refused_action_op (reply.Handle worked_first_handle) ∷ [] in
    let x = f z [] [] [] [] (main_entry (op.QueueCreate 1 1 0 2 true true) (reply.Handle worked_first_handle))
    (main_entry puts_one (reply.Handle worked_first_handle))
    (main_entry puts_one (reply.Handle next_handle)) (worker op.Pick (reply.Picked (task_handle next_handle) the_action kind.Add []))
    worked_first_handle next_handle refl refl refl refl refl in
    is_none_some _ not_run x.ended

refuses_final : DropsToSame usual final_first → ⊥
unfolding kept LegalFrom
refuses_final e1 = grind (arith, nat_tests)

sem_made : MadeWith object.Sem (makes_sem ∷ both_hold) worked_first_handle 1
sem_made = record { before = []; by = makes_sem; behind = both_hold; cut = refl; issued = refl; limited = refl }

apart : Some Cancelled ≡ Some (Completed []) → ⊥
apart e = cc

apart_seats : (v w : ℕ) → v < w → v ≡ w → ⊥
apart_seats v w l e = omega arith

-- the tally has the mutex after its entry
tally_has_it : HasMutex (after two_workers (tallies_begin ++ gets_both 0 h1 ∷ [])) h1 h1
unfolding after_from live_of issue change listed issued_at retired is_full may_issue has_worker end_each is_ready can_take has_better
tally_has_it = (_, refl, refl)

refuses_tally_mutex : MutexesKeepTo two_workers beside_a_tally → ⊥
unfolding beside_a_tally
refuses_tally_mutex f =
    let held : 0 < 1 = omega arith in
    apart_seats 0 2 (omega arith)
    ((f beside_a_tally [] h1 refl).one 0 2 (inr
    (record { task = task_handle h1; before = tallies_begin; since = caller_gets; cut = refl; got = tally_has_it; unended = refl })) (inl held))

refuses_beside : RwlsKeepTo (makes_rwl ∷ reads_beside) → ⊥
refuses_beside f =
    let made : MadeWith object.Rwl (makes_rwl ∷ reads_beside) worked_first_handle 2 =
    record { before = []; by = makes_rwl; behind = _; cut = refl; issued = refl; limited = refl } in
    grind (arith, nat_tests, (f (makes_rwl ∷ reads_beside) [] worked_first_handle refl).held 2 made)

refuses_readers : RwlsKeepTo three_read → ⊥
refuses_readers f =
    let made : MadeWith object.Rwl three_read worked_first_handle 2 =
    record { before = []; by = makes_rwl; behind = _; cut = refl; issued = refl; limited = refl } in
    grind (arith, nat_tests, (f three_read [] worked_first_handle refl).held 2 made)

-- a cell of that segment holds 9
abbrev nine : Segment
nine = record { id = 1; cells = pos 9 ∷ []; attached = slice_set no_marks 1 true }

holds_nine : record_of (after usual (written_untold ++ final_first)).segments worked_first_handle ≡ Some nine
unfolding written_untold record_of after_from live_of issue change listed issued_at retired is_full may_issue
holds_nine = refl

no_tasks : (after usual (written_untold ++ final_first)).tasks ≡ []
unfolding written_untold after_from live_of issue change listed issued_at retired is_full may_issue
no_tasks = refl

is_lock : NodeEntry → Bool
is_lock e = by_op e.op
  where
    by_op : Op → Bool
    by_op (op.TallyLock t) = true
    by_op _ = false

some_lock : (A B : List NodeEntry) (w : ℕ) (t : TaskHandle) → some_entry is_lock (A ++ tally_got w t ∷ B) ≡ true
unfolding is_lock
some_lock [] B w t = refl
some_lock (e ∷ A) B w t = grind (arith, nat_tests, some_lock A B w t)

no_lock : some_entry is_lock (written_untold ++ final_first) ≡ false
unfolding written_untold is_lock
no_lock = refl

no_write : some_entry (writes_to worked_first_handle 0) (written_untold ++ final_first) ≡ false
unfolding written_untold
no_write = refl

refuses_sum : HoldsTheSum usual (written_untold ++ final_first) worked_first_handle 0 → ⊥
refuses_sum f =
    apart_numbers
    (f written_untold [] 1 0 nine refl holds_nine (omega arith) no_write
    (λ A B w t x cut a b. absurd (true_false (sym (some_lock A B w t) ∙ (ap (some_entry is_lock) (sym cut) ∙ no_lock))))
    ∙ ap (λ (l : List (Listed Task)). sum_of (number_added worked_first_handle 0) l) no_tasks)
  where
    apart_numbers : pos 9 ≡ pos 0 → ⊥
    apart_numbers e = cc

pub laws_refuse : LawsRefuse
laws_refuse = record {
  one_end = λ f. apart (sym (f [] (completed_then ∷ []) cancelled_first Cancelled refl refl)
      ∙ f (cancelled_first ∷ []) [] completed_then (Completed []) refl refl);
  end_after_close = refuses_close;
  no_reuse = refuses_reuse;
  kind = λ terms f. (f refl refl).entries refl refl;
  affinity = λ f. let prefix : List NodeEntry =
      main_entry (op.ActionCreate 1 kind.Add second_core_mask) (reply.Handle worked_first_handle) ∷ main_entry (add_task 0) (reply.Handle worked_first_handle)
      ∷ [] in
      let x = f prefix [] 0 (task_handle worked_first_handle) the_action kind.Add (pos 2 ∷ pos 3 ∷ []) refl refl in
      true_false (sym (x.action [] (main_entry (add_task 0) (reply.Handle worked_first_handle)
      ∷ []) (main_entry (op.ActionCreate 1 kind.Add second_core_mask) (reply.Handle worked_first_handle)) 2 refl refl refl));
  group_order = λ f. let x : EndedBefore (after usual given_twice) worked_first_handle worked_first_handle =
      f [] [] [] gives_first_twice gives_first_twice worked_first_handle worked_first_handle refl refl refl in
      let same : x.first ≡ x.second = some_same (sym x.first_end ∙ x.second_end) in
      let less : x.first < x.second = x.less in
      omega arith;
  ordered = refuses_order;
  mutexes = λ f. let held : 0 < 1 = omega arith in
      apart_seats 1 2 (omega arith) ((f both_own [] worked_first_handle refl).one 1 2 (inl held) (inl held));
  tally_mutex = refuses_tally_mutex;
  mutex_each = λ f. let each : 1 ≤ 0 = (f gives_unlocked [] worked_first_handle refl).each 1 in omega arith;
  sems = λ f. let most : 2 ≤ 1 = (f (makes_sem ∷ both_hold) [] worked_first_handle refl).most 1 sem_made in
      omega arith;
  sem_each = λ f. let each : 1 ≤ 0 = (f gives_anothers [] worked_first_handle refl).each 2 in omega arith;
  sem_unmade = λ f. apart_seats 0 1 (omega arith) (sym ((f gets_none [] worked_first_handle refl).unmade refl));
  rwls = refuses_beside;
  rwl_readers = refuses_readers;
  rwl_once = λ f. let once : 2 ≤ 1 = (f one_reads_twice [] worked_first_handle refl).once false 1 in omega arith;
  rwl_each = λ f. let each : 1 ≤ 0 = (f gives_back_unread [] worked_first_handle refl).each false 2 in omega arith;
  rwl_unmade = λ f. apart_seats 0 1 (omega arith) (sym ((f reads_none [] worked_first_handle refl).unmade refl false));
  tally = refuses_sum;
  drop = refuses_final;
}
