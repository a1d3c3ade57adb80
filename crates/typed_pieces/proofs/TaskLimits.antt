-- A run of pieces that is refused with ErrTaskLimit has more pieces than its node may have tasks.
use Rattle.typed_pieces.proofs.Names.{◌≡◌, ◌≤◌, ◌<◌, ℕ, ◌+◌, zero, suc, pos, false, Some, List, [], ◌∷◌, ◌++◌, length, Result, Err, IfErr, inl, inr, refl, sym, ap, subst, ◌∙◌, append_assoc, arith, nat_tests, entries_of, entry, NodeSettings, MtapiStatus, NodeEntry, Legal, Journal, Seat, MainOpens, IsClientRun, HasStarted, StopsAt, at_action, at_group, at_start, at_look, spent, every_worker, starts_of, terms_of_main}
use Rattle.std.specs.Prelude.{is_some, replicate, cond, true, Bool, ◌==◌}
use Rattle.mtapi_values.specs.declared.handles.GroupHandle.{GroupHandle}
use Rattle.mtapi_values.specs.declared.handles.ObjectKind.TheVariants as kind
use Rattle.mtapi_values.specs.declared.kinds.Kind.TheVariants.{Echo}
use Rattle.mtapi_values.specs.declared.statuses.MtapiStatus.TheVariants.{ErrTaskLimit}
use Rattle.mtapi_machine.specs.declared.ops.Op.{Op}
use Rattle.mtapi_machine.specs.declared.ops.Op.TheVariants.{Initialize, Release, ActionCreate, GroupCreate, TaskStart, AllLook, Close, Final, Pick, WatchEnd, TallyEnd}
use Rattle.mtapi_machine.specs.declared.replies.Reply.TheVariants as reply
use Rattle.mtapi_machine.specs.declared.terms.Terms.{Terms}
use Rattle.mtapi_machine.specs.State.{opening}
use Rattle.mtapi_machine.proofs.Lists.{Legal-prefix}
use Rattle.history_law.specs.Accepted.{accepted}
use Rattle.history_law.specs.Seats.{BySeats}
use Rattle.history_law.specs.Words.{makes_object}
use Rattle.history_law.proofs.Bounds.{by_seats}
use Rattle.limit_laws.specs.TaskLimit.{FindsNoRoom, tasks_accepted}
use Rattle.limit_laws.proofs.TaskLimit.{limit_is_reached}
use Rattle.workload_runners.specs.Rounds.{Round, WorkerAs, Tallying, all_in, entries_in, watch_asks, retries, tally_steps}
use Rattle.workload_runners.specs.Rounds.{Rested, Ran, Watched, Tallied, GivesUp, Reads, Writes}
use Rattle.workload_runners.proofs.Names.{entries-append}
use Rattle.workload_runners.proofs.OwnParts.{own_at}
use Rattle.node_with_workers.specs.Clients.{IsCallRefused}
use Rattle.node_with_workers.specs.Runs.{Refuses}
use Rattle.typed_pieces.specs.Runs.{MeansTooMany}
use Rattle.typed_pieces.proofs.Runs.{AwaitsPieces}

-- How many tasks a list of entries accepted

abbrev one : NodeEntry → ℕ
one e = cond (is_some (accepted e)) 1 0

both : (xs ys : List NodeEntry) → tasks_accepted (xs ++ ys) ≡ tasks_accepted xs + tasks_accepted ys
both [] ys = omega arith
both (x ∷ xs) ys = let rest = both xs ys in omega arith

-- a worker's rounds accept none

no_asks : (w : ℕ) (t : _) (bs : List Bool) → tasks_accepted (watch_asks w t bs) ≡ 0
no_asks w t [] = refl
no_asks w t (b ∷ bs) = let rest = no_asks w t bs in omega arith

no_retries : (w : ℕ) (t : _) (n : ℕ) → tasks_accepted (retries w t n) ≡ 0
no_retries w t zero = refl
no_retries w t (suc n) = let rest = no_retries w t n in omega arith

no_steps : (w : ℕ) (t : _) (x : Tallying) → tasks_accepted (tally_steps w t x) ≡ 0
no_steps w t GivesUp = refl
no_steps w t (Reads z) = refl
no_steps w t (Writes z v) = refl

no_round : (w : ℕ) (r : Round) → tasks_accepted (entries_in w r) ≡ 0
no_round w Rested = refl
no_round w (Ran t a k args done) = refl
no_round w (Watched t a k args reported end) =
    let asked = no_asks w t reported in
    let all = both (watch_asks w t reported) (entry w (WatchEnd t) (reply.Ended end) ∷ []) in
    omega arith
no_round w (Tallied t a k args pending steps end) =
    let tried = no_retries w t pending in
    let stepped = no_steps w t steps in
    let front = both (retries w t pending) (tally_steps w t steps) in
    let all = both (retries w t pending ++ tally_steps w t steps) (entry w (TallyEnd t) (reply.Ended end) ∷ []) in
    omega arith

no_rounds : (w : ℕ) (rs : List Round) → tasks_accepted (all_in w rs) ≡ 0
unfolding all_in
no_rounds w [] = refl
no_rounds w (r ∷ rs) =
    let here = no_round w r in
    let rest = no_rounds w rs in
    let all = both (entries_in w r) (all_in w rs) in
    omega arith

by_worker : (w : ℕ) (es : List NodeEntry) → WorkerAs w es → tasks_accepted es ≡ 0
by_worker w es x =
    let rounds = no_rounds w x.rounds in
    let all = both (all_in w x.rounds) (entry w Pick reply.Stop ∷ []) in
    let is = ap tasks_accepted x.is in
    omega arith

-- where the seats below one accepted none, all are by that one

at_seat : (k : ℕ) (e : NodeEntry) (es : List NodeEntry) (b : Bool) → (e.who == k) ≡ b
    → tasks_accepted (entries_of k (e ∷ es)) ≡ cond b (one e) 0 + tasks_accepted (entries_of k es)
at_seat k e es true is =
    let here : tasks_accepted (entries_of k (e ∷ es)) ≡ one e + tasks_accepted (entries_of k es) =
    ap (λ (b : Bool). tasks_accepted (cond b (e ∷ entries_of k es) (entries_of k es))) is in
    omega arith
at_seat k e es false is =
    let here : tasks_accepted (entries_of k (e ∷ es)) ≡ tasks_accepted (entries_of k es) =
    ap (λ (b : Bool). tasks_accepted (cond b (e ∷ entries_of k es) (entries_of k es))) is in
    omega arith

own : (k : ℕ) → (k == k) ≡ true
own k = grind (arith, nat_tests)

below : (w n : ℕ) → w < n + 1 → (w == n) ≡ false → w < n
below w n e1 e2 = grind (arith, nat_tests)

all_by : (n : ℕ) (L : List NodeEntry) → BySeats (n + 1) L → ((k : ℕ) → k < n → tasks_accepted (entries_of k L) ≡ 0)
    → tasks_accepted L ≤ tasks_accepted (entries_of n L)
all_by n [] by none = omega arith
all_by n (e ∷ es) by none = at (all_by n es by.1 (λ k l. split k l (e.who == k) refl)) (e.who == n) refl
  where
    split : (k : ℕ) → k < n → (b : Bool) → (e.who == k) ≡ b → tasks_accepted (entries_of k es) ≡ 0
    split k l b is = let here = at_seat k e es b is in let whole = none k l in omega arith

    at : tasks_accepted es ≤ tasks_accepted (entries_of n es) → (b : Bool) → (e.who == n) ≡ b
        → tasks_accepted (e ∷ es) ≤ tasks_accepted (entries_of n (e ∷ es))
    at rest true is = let here = at_seat n e es true is in omega arith
    at rest false is =
        let here = at_seat n e es false is in
        let other = at_seat e.who e es true (own e.who) in
        let whole = none e.who (below e.who n by.0 is) in
        omega arith

-- an entry that was refused accepted none
refused_one : (w : ℕ) (o : Op) → tasks_accepted (entry w o (reply.Mtapi ErrTaskLimit) ∷ []) ≡ 0
refused_one w o = grind (arith, nat_tests)

-- In a run whose workers only work

-- the calls that main made before one that was answered ErrTaskLimit: the op starts a task, and they started as many as there may be
pub refused_in : {C T : Type 0} (promise : C → Seat → Seat → T → Type 0) (client : C) (settings : NodeSettings) (told : T) (j : Journal)
    → (r : IsClientRun promise client settings told j) → (xs : List NodeEntry) (o : Op)
    → r.called.after.mine ≡ xs ++ entry settings.workers o (reply.Mtapi ErrTaskLimit) ∷ []
    → (makes_object kind.Task o ≡ true) × (settings.tasks ≤ tasks_accepted xs)
refused_in promise client settings told j r xs o mine =
    let terms = terms_of_main settings in
    let w = settings.workers in
    let e = entry w o (reply.Mtapi ErrTaskLimit) in
    let main = r.ended.main in
    let own_is : entries_of w main.before ≡ xs ++ e ∷ [] = main.main_before ∙ (r.called.all ∙ mine) in
    let cut = own_at w xs main.before e [] own_is in
    let A = cut.0 in
    let behind = entry w Close r.ended.close ∷ (main.behind ++ entry w Final reply.Ok ∷ main.rest) in
    let tail = cut.1 ++ behind in
    let whole : r.history ≡ (A ++ e ∷ []) ++ tail =
    main.is ∙ (ap (λ (l : List NodeEntry). l ++ behind) cut.2 ∙ (append_assoc A (e ∷ cut.1) behind ∙ sym (append_assoc A (e ∷ []) tail))) in
    let legal : Legal terms (A ++ e ∷ []) = Legal-prefix terms (A ++ e ∷ []) tail (subst (λ (l : List NodeEntry). Legal terms l) whole r.legal) in
    let law : FindsNoRoom terms A e = limit_is_reached terms A e legal refl in
    let front : Legal terms A = Legal-prefix terms A (e ∷ []) legal in
    let by_main : tasks_accepted A ≤ tasks_accepted (entries_of w A) =
    all_by w A (by_seats (opening terms) A front.from)
    (λ k l. none A (e ∷ tail) k (whole ∙ append_assoc A (e ∷ []) tail) (by_worker k _ (r.ended.worked k l).0)) in
    let more : tasks_accepted (entries_of w A) ≤ tasks_accepted (entries_of w main.before) = part w main.before A (e ∷ cut.1) cut.2 in
    let sum : tasks_accepted (entries_of w main.before) ≡ tasks_accepted xs =
    let all = ap tasks_accepted own_is in
    let parts = both xs (e ∷ []) in
    let last = refused_one w o in
    omega arith in
    (law.asked, omega (arith, law.full, by_main, more, sum))
  where
    part : (k : ℕ) (H A B : List NodeEntry) → H ≡ A ++ B → tasks_accepted (entries_of k A) ≤ tasks_accepted (entries_of k H)
    part k H A B is =
        let split : tasks_accepted (entries_of k H) ≡ tasks_accepted (entries_of k A) + tasks_accepted (entries_of k B) =
        ap (λ (l : List NodeEntry). tasks_accepted (entries_of k l)) is ∙ (ap tasks_accepted (entries-append k A B) ∙ both (entries_of k A) (entries_of k B)) in
        omega arith

    none : (A B : List NodeEntry) (k : ℕ) → r.history ≡ A ++ B → tasks_accepted (entries_of k r.history) ≡ 0 → tasks_accepted (entries_of k A) ≡ 0
    none A B k is nothing = let p = part k r.history A B is in omega arith

-- What a client of all pieces was refused

none_started : (calls : List NodeEntry) (a z : Seat) → MainOpens a.number a.mine → z.mine ≡ a.mine ++ calls → tasks_accepted z.mine ≡ tasks_accepted calls
none_started calls a z opened mine =
    let all = ap tasks_accepted mine in
    let parts = both a.mine calls in
    let first = ap tasks_accepted opened in
    omega arith

starts_count : (who : ℕ) (g : GroupHandle) (place : ℕ) (tasks : List ℕ) → tasks_accepted (starts_of who g place tasks) ≡ length tasks
starts_count who g place [] = refl
starts_count who g place (t ∷ ts) = let rest = starts_count who g (suc place) ts in omega arith

started_count : (g : GroupHandle) (n : ℕ) (a z : Seat) → MainOpens a.number a.mine → HasStarted g n a z → tasks_accepted z.mine ≡ n
started_count g n a z opened s =
    let started = none_started _ a z opened s.made.mine in
    let each = starts_count a.number g 0 s.tasks in
    let many = s.many in
    omega arith

-- the op of a call that was refused with ErrTaskLimit starts a task
other_op : (A : Type 0) (o : Op) → makes_object kind.Task o ≡ true → makes_object kind.Task o ≡ false → A
other_op A o is isnt = absurd (cc)

pub stopped_by_limit : {C : Type 0} (places : C → ℕ) (client : C) (settings : NodeSettings) (told : Result (Unit {0}) MtapiStatus) (j : Journal)
    → IsClientRun (AwaitsPieces places) client settings told j → told ≡ Err ErrTaskLimit → settings.tasks < places client
stopped_by_limit places client settings told j r is =
    by_call (subst (λ (x : Result (Unit {0}) MtapiStatus). IfErr x
    (λ status. StopsAt (places client) status r.called.before r.called.after)) is r.called.promised.1)
  where
    w : ℕ
    w = settings.workers

    opened : MainOpens r.called.before.number r.called.before.mine
    opened = subst (λ (n : ℕ). MainOpens n r.called.before.mine) (sym r.called.number) r.called.opened

    -- the call that was refused, behind these
    at : (xs : List NodeEntry) (n : ℕ) (o : Op) → n ≡ w → r.called.after.mine ≡ xs ++ entry n o (reply.Mtapi ErrTaskLimit) ∷ []
        → (makes_object kind.Task o ≡ true) × (settings.tasks ≤ tasks_accepted xs)
    at xs n o by mine =
        refused_in (AwaitsPieces places) client settings told j r xs o (mine ∙ ap (λ (k : ℕ). xs ++ entry k o (reply.Mtapi ErrTaskLimit) ∷ []) by)

    by_call : StopsAt (places client) ErrTaskLimit r.called.before r.called.after → settings.tasks < places client
    by_call (at_action x) =
        let a = r.called.before in
        other_op (settings.tasks < places client) (ActionCreate 1 Echo every_worker)
        (at a.mine a.number (ActionCreate 1 Echo every_worker) r.called.number x.mine).0
        refl
    by_call (at_group action x) =
        let a = r.called.before in
        let calls = entry a.number (ActionCreate 1 Echo every_worker) (reply.Handle action) ∷ [] in
        other_op (settings.tasks < places client) GroupCreate (at (a.mine ++ calls) a.number GroupCreate r.called.number
        (x.mine ∙ sym (append_assoc a.mine calls (entry a.number GroupCreate (reply.Mtapi ErrTaskLimit) ∷ [])))).0 refl
    by_call (at_start g n b few s x) =
        let found = at b.mine b.number (TaskStart 1 (pos n ∷ []) 0 every_worker false (Some g)) (s.made.same.number ∙ r.called.number) x.mine in
        let count = started_count g n r.called.before b opened s in
        omega (arith, found.1, count, few)
    by_call (at_look g b looks s x) =
        let calls = replicate looks (entry b.number (AllLook g false) reply.Pending) in
        other_op (settings.tasks < places client) (AllLook g false) (at (b.mine ++ calls) b.number (AllLook g false) (s.made.same.number ∙ r.called.number)
        (x.mine ∙ sym (append_assoc b.mine calls (entry b.number (AllLook g false) (reply.Mtapi ErrTaskLimit) ∷ [])))).0 refl
    by_call (spent e shown) = absurd (cc)

-- and neither the opening of the node nor its end is refused so

never_by : (t : Terms) (who : ℕ) (es : List NodeEntry) (o : Op) → makes_object kind.Task o ≡ false → IsCallRefused t who es o ErrTaskLimit → ⊥
never_by t who es o other x = other_op ⊥ o (limit_is_reached t x.history (entry who o (reply.Mtapi ErrTaskLimit)) x.legal refl).asked other

pub refused_otherwise : {C T : Type 0} (promise : C → Seat → Seat → T → Type 0) (client : C) (settings : NodeSettings) (status : MtapiStatus) (places : ℕ)
    → Refuses promise client settings status → MeansTooMany settings places status
refused_otherwise promise client settings status places x is = absurd (never (subst (Refuses promise client settings) is x))
  where
    never : Refuses promise client settings ErrTaskLimit → ⊥
    never (inl (inl y)) = never_by _ _ _ Initialize refl y
    never (inl (inr y)) = never_by _ _ _ Release refl y
    never (inr y) = never_by _ _ _ Final refl y.4

-- so the client of all pieces that is refused with ErrTaskLimit has more of them
pub too_many : {C : Type 0} (places : C → ℕ) (client : C) (settings : NodeSettings) (told : Result (Unit {0}) MtapiStatus) (status : MtapiStatus)
    (j : Journal) (n : ℕ) → IsClientRun (AwaitsPieces places) client settings told j → told ≡ Err status → places client ≤ n → MeansTooMany settings n status
too_many places client settings told status j n r is few e =
    let stopped = stopped_by_limit places client settings told j r (is ∙ ap Err e) in
    omega (arith, stopped, few)
