-- Of the run of a node, whatever its client promises, and of calls that were refused.
use Rattle.typed_pieces.proofs.Names.{◌≡◌, ℕ, ◌+◌, suc, pos, false, Some, None, List, [], ◌∷◌, ◌++◌, length, Result, Ok, Err, inl, inr, refl, sym, ap, subst, ◌∙◌, append_assoc, take, arith, length-append, nat_tests, entry, NodeSettings, TaskAttributes, TaskHandle, MtapiStatus, Reply, NodeEntry, Journal, AnswersReply, Called, Waited, start_of, with_handle_number, done, handle_told, mtapi_standard, SameNodeSeat, Seat, SeatGoesOn, IsClientRun, EndsRefused, HasAwaited, HasRun, HasStarted, RefusesPieces, StopsAt, at_action, at_group, at_start, at_look, spent, every_worker, starts_of, IfOk, IfErr, append-nil}
use Rattle.mtapi_values.specs.declared.handles.ActionHandle.{ActionHandle}
use Rattle.mtapi_values.specs.declared.handles.GroupHandle.{GroupHandle}
use Rattle.mtapi_values.specs.declared.kinds.Kind.TheVariants.{Echo}
use Rattle.mtapi_machine.specs.declared.ops.Op.TheVariants.{ActionCreate, GroupCreate, TaskStart, AllLook}
use Rattle.mtapi_machine.specs.declared.replies.Reply.TheVariants as reply
use Rattle.workload_runs.specs.declared.calls.Wanted.TheVariants.{AllMembers}
use Rattle.workload_runners.specs.Looks.{node_pends}
use Rattle.node_with_workers.proofs.Calls.{begins_more, begins_same}
use Rattle.mtapi_machine.specs.declared.ops.Op.{Op}
use Rattle.std.specs.Prelude.{Bool, replicate, ◌^◌, ◌<◌, ◌≤◌, ◌⊎◌}
use Rattle.mtapi_values.specs.declared.statuses.MtapiStatus.TheVariants.{ErrSpent}
use Rattle.typed_pieces.specs.Runs.{IsRefusedBehind, MadeJust}
use Rattle.typed_pieces.proofs.Callers.{run_says}
use Rattle.typed_pieces.proofs.Cancels.{read_done}

pub has_run : {C T : Type 0} (promise : C → Seat → Seat → T → Type 0) (client : C) (settings : NodeSettings) (told : T) (j : Journal)
    → IsClientRun promise client settings told j → HasRun settings j
has_run promise client settings told j r = run_says {C = Unit {0}} {T = Unit {0}} (λ _ _ _ _. Unit {0}) promise tt client tt told settings j (λ a z p. tt) r

refused_done : (r : Reply) (status : MtapiStatus) → AnswersReply mtapi_standard done r (Err status) → r ≡ reply.Mtapi status
refused_done r status e1 = grind (arith, nat_tests)

-- The starts of the client of all pieces

starts_more : (who : ℕ) (g : GroupHandle) (place : ℕ) (tasks : List ℕ) (task : ℕ) (n : ℕ) → length tasks + place ≡ n
    → starts_of who g place tasks ++ entry who (TaskStart 1 (pos n ∷ []) 0 every_worker false (Some g)) (reply.Handle task) ∷ []
    ≡ starts_of who g place (tasks ++ task ∷ [])
starts_more who g place [] task n is =
    let here : n ≡ place = omega (arith, is) in
    ap (λ (k : ℕ). entry who (TaskStart 1 (pos k ∷ []) 0 every_worker false (Some g)) (reply.Handle task) ∷ []) here
starts_more who g place (t ∷ tasks) task n is =
    ap (λ (l : List NodeEntry). entry who (TaskStart 1 (pos place ∷ []) 0 every_worker false (Some g)) (reply.Handle t)
    ∷ l) (starts_more who g (suc place) tasks task n (omega (arith, is)))

-- Calls that a seat made, and no other ones

just_none : (a : Seat) → MadeJust [] a a
just_none a = record { same = record { cell = refl; number = refl; terms = refl }; mine = sym (append-nil a.mine) }

just_then : (xs ys : List NodeEntry) (a b c : Seat) → MadeJust xs a b → MadeJust ys b c → MadeJust (xs ++ ys) a c
just_then xs ys a b c x y = record {
  same = record { cell = y.same.cell ∙ x.same.cell; number = y.same.number ∙ x.same.number; terms = y.same.terms ∙ x.same.terms };
  mine = y.mine ∙ (ap (λ (es : List NodeEntry). es ++ ys) x.mine ∙ append_assoc a.mine xs ys);
}

-- the reply from which a handle is read, and the one by which a call that gives one was refused
read_handle : (r : Reply) (h : ℕ) → AnswersReply mtapi_standard handle_told r (Ok h) → r ≡ reply.Handle h
read_handle r h e1 = grind (arith, nat_tests)

refused_by : (r : Reply) (status : MtapiStatus) → AnswersReply mtapi_standard handle_told r (Err status) → r ≡ reply.Mtapi status
refused_by r status e1 = grind (arith, nat_tests)

just_told : (o : Op) (old new : Seat) (x : Result ℕ MtapiStatus) (h : ℕ) → Called mtapi_standard handle_told o old new x → x ≡ Ok h
    → MadeJust (entry old.number o (reply.Handle h) ∷ []) old new
just_told o old new (Ok k) h (inl c) is =
    let told : c.0 ≡ reply.Handle h = read_handle c.0 k c.2 ∙ cc in
    record { same = c.1.same; mine = c.1.mine ∙ ap (λ (r : Reply). old.mine ++ entry old.number o r ∷ []) told }
just_told o old new (Ok k) h (inr c) is = absurd (cc)
just_told o old new (Err e) h c is = absurd (cc)

-- one more call behind others, each with the number of the first seat
then_told : {H : Type 0} (number : H → ℕ) (xs : List NodeEntry) (o : Op) (a b c : Seat) (x : Result H MtapiStatus) (h : H)
    → MadeJust xs a b → Called mtapi_standard handle_told o b c (with_handle_number number x) → x ≡ Ok h
    → MadeJust (xs ++ entry a.number o (reply.Handle (number h)) ∷ []) a c
then_told number xs o a b c x h w called is =
    let here = just_told o b c (with_handle_number number x) (number h) called (ap (with_handle_number number) is) in
    just_then xs (entry a.number o (reply.Handle (number h)) ∷ []) a b c w
    (subst (λ (n : ℕ). MadeJust (entry n o (reply.Handle (number h)) ∷ []) b c) w.same.number here)

-- The calls of the client of all pieces

pub started_none : (g : GroupHandle) (a b c : Seat) (x : Result ActionHandle MtapiStatus) (h : ActionHandle) (y : Result GroupHandle MtapiStatus)
    → Called mtapi_standard handle_told (ActionCreate 1 Echo every_worker) a b (with_handle_number (λ k. k.0) x) → x ≡ Ok h
    → Called mtapi_standard handle_told GroupCreate b c (with_handle_number (λ k. k.0) y) → y ≡ Ok g → HasStarted g 0 a c
started_none g a b c x h y made is grouped was =
    let create = ActionCreate 1 Echo every_worker in
    record {
      action = h.0;
      tasks = [];
      many = refl;
      made = then_told (λ (k : GroupHandle). k.0) (entry a.number create (reply.Handle h.0)
          ∷ []) GroupCreate a b c y g (then_told (λ (k : ActionHandle). k.0) [] create a a b x h (just_none a) made is) grouped was;
    }

pub started_more : (g : GroupHandle) (n : ℕ) (attr : TaskAttributes) (a b c : Seat) (x : Result TaskHandle MtapiStatus) (t : TaskHandle)
    → attr ≡ record { detached = false; instances = 1; priority = 0; affinity = 18446744073709551615 }
    → HasStarted g n a b → Called mtapi_standard handle_told (start_of 1 (pos n ∷ []) attr (Some g)) b c (with_handle_number (λ k. k.0) x) → x ≡ Ok t
    → HasStarted g (n + 1) a c
started_more g n attr a b c x t usual s called is =
    let before = entry a.number (ActionCreate 1 Echo every_worker) (reply.Handle s.action) ∷ entry a.number GroupCreate (reply.Handle g.0) ∷ [] in
    let start = TaskStart 1 (pos n ∷ []) 0 every_worker false (Some g) in
    let so : Called mtapi_standard handle_told start b c (with_handle_number (λ k. k.0) x) =
    subst (λ (u : TaskAttributes). Called mtapi_standard handle_told (start_of 1 (pos n ∷ []) u (Some g)) b c (with_handle_number (λ k. k.0) x)) usual called in
    record {
      action = s.action;
      tasks = s.tasks ++ t.0 ∷ [];
      many = length-append s.tasks (t.0 ∷ []) ∙ ap (λ (k : ℕ). k + 1) s.many;
      made =
          subst (λ (l : List NodeEntry). MadeJust (before ++ l) a c) (starts_more a.number g 0 s.tasks t.0 n (omega (arith, s.many)))
          (then_told (λ (k : TaskHandle). k.0) (before ++ starts_of a.number g 0 s.tasks) start a b c x t s.made so is);
    }

-- such a seat is the same, and its entries begin with those that it had
pub goes_on : (g : GroupHandle) (n : ℕ) (a b : Seat) → HasStarted g n a b → SameNodeSeat a b × SeatGoesOn a b × HasStarted g n a b
goes_on g n a b s =
    let calls = entry a.number (ActionCreate 1 Echo every_worker) (reply.Handle s.action) ∷ entry a.number GroupCreate (reply.Handle g.0)
    ∷ starts_of a.number g 0 s.tasks in
    (s.made.same, subst (λ (es : List NodeEntry). take (length a.mine) es ≡ a.mine) (sym s.made.mine) (begins_more a.mine a.mine calls (begins_same a.mine)), s)

-- a wait without a limit that was told that all tasks have ended: so many looks before it
abbrev AllTold : GroupHandle → Seat → Seat → Type 0
AllTold g old new = (looks : ℕ) × MadeJust (replicate looks (entry old.number (AllLook g false) reply.Pending) ++ entry old.number (AllLook g false) reply.Ok
    ∷ []) old new

all_told : (g : GroupHandle) (old new : Seat) (u : Unit {0}) → Waited mtapi_standard done (AllMembers g) None old new (Ok u) → AllTold g old new
all_told g old new u (inl a) =
    let l = a.1 in
    let looks = node_pends old.number (AllMembers g) l.pending in (
      l.pending,
      record {
        same = l.same;
        mine = l.mine ∙ (ap (λ (b : Bool). old.mine ++ (looks ++ entry old.number (AllLook g b) a.0 ∷ [])) l.bound
            ∙ ap (λ (r : Reply). old.mine ++ (looks ++ entry old.number (AllLook g false) r ∷ [])) (read_done a.0 u a.2));
      },
    )
all_told g old new u (inr a) = absurd (cc)

pub awaited : (g : GroupHandle) (n m : ℕ) (a b c : Seat) (x : Result (Unit {0}) MtapiStatus) → n ≡ m → HasStarted g n a b
    → Waited mtapi_standard done (AllMembers g) None b c x → IfOk x (λ _. HasAwaited m a c)
awaited g n m a b c (Err e) same s w = tt
awaited g n m a b c (Ok u) same s w =
    let told = all_told g b c u w in
    record { group = g; before = b; started = subst (λ (k : ℕ). HasStarted g k a b) same s; looks = told.0; waited = told.1 }

-- The calls of the client of all pieces, where one was refused

-- a call that was refused is made alone; or it wasn't made, since the turns were used up
refused_alone : (o : Op) (old new : Seat) (x : Result ℕ MtapiStatus) (status : MtapiStatus) → Called mtapi_standard handle_told o old new x → x ≡ Err status
    → IsRefusedBehind [] o status old new ⊎ ((status ≡ ErrSpent) × (2 ^ 62 ≤ new.shown))
refused_alone o old new (Ok h) status c is = absurd (cc)
refused_alone o old new (Err e) status (inl c) is =
    let told : c.0 ≡ reply.Mtapi status = refused_by c.0 e c.2 ∙ cc in
    inl (record { same = c.1.same; mine = c.1.mine ∙ ap (λ (r : Reply). old.mine ++ entry old.number o r ∷ []) told })
refused_alone o old new (Err e) status (inr c) is = inr (cc, c.0.shown)

number_refused : {H : Type 0} (f : H → ℕ) (x : Result H MtapiStatus) (status : MtapiStatus) → x ≡ Err status → with_handle_number f x ≡ Err status
number_refused f (Ok h) status is = absurd (cc)
number_refused f (Err e) status is = cc

pub stops_at_action : (n : ℕ) (a b : Seat) (x : Result ActionHandle MtapiStatus) (status : MtapiStatus)
    → Called mtapi_standard handle_told (ActionCreate 1 Echo every_worker) a b (with_handle_number (λ k. k.0) x) → x ≡ Err status → StopsAt n status a b
stops_at_action n a b x status made is = elim (refused_alone (ActionCreate 1 Echo every_worker) a b _ status made (number_refused _ x status is)) [
  | inl r ↦ at_action r
  | inr r ↦ spent r.0 r.1
]

pub stops_at_group : (n : ℕ) (a b c : Seat) (x : Result ActionHandle MtapiStatus) (h : ActionHandle) (y : Result GroupHandle MtapiStatus) (status : MtapiStatus)
    → Called mtapi_standard handle_told (ActionCreate 1 Echo every_worker) a b (with_handle_number (λ k. k.0) x) → x ≡ Ok h
    → Called mtapi_standard handle_told GroupCreate b c (with_handle_number (λ k. k.0) y) → y ≡ Err status → StopsAt n status a c
stops_at_group n a b c x h y status made is grouped was =
    let create = ActionCreate 1 Echo every_worker in
    let before = then_told (λ (k : ActionHandle). k.0) [] create a a b x h (just_none a) made is in
    elim (refused_alone GroupCreate b c _ status grouped (number_refused _ y status was)) [
      | inl r ↦
          at_group h.0 (just_then (entry a.number create (reply.Handle h.0) ∷ []) (entry a.number GroupCreate (reply.Mtapi status) ∷ []) a b c before
          (subst (λ (n : ℕ). MadeJust (entry n GroupCreate (reply.Mtapi status) ∷ []) b c) before.same.number r))
      | inr r ↦ spent r.0 r.1
    ]

pub stops_at_start : (g : GroupHandle) (n places : ℕ) (attr : TaskAttributes) (a b c : Seat) (x : Result TaskHandle MtapiStatus) (status : MtapiStatus)
    → attr ≡ record { detached = false; instances = 1; priority = 0; affinity = 18446744073709551615 } → n < places
    → HasStarted g n a b → Called mtapi_standard handle_told (start_of 1 (pos n ∷ []) attr (Some g)) b c (with_handle_number (λ k. k.0) x) → x ≡ Err status
    → StopsAt places status a c
stops_at_start g n places attr a b c x status usual few s called is =
    let start = TaskStart 1 (pos n ∷ []) 0 every_worker false (Some g) in
    let so : Called mtapi_standard handle_told start b c (with_handle_number (λ k. k.0) x) =
    subst (λ (u : TaskAttributes). Called mtapi_standard handle_told (start_of 1 (pos n ∷ []) u (Some g)) b c (with_handle_number (λ k. k.0) x)) usual called in
    elim (refused_alone start b c _ status so (number_refused _ x status is)) [
      | inl r ↦ at_start g n b few s r
      | inr r ↦ spent r.0 r.1
    ]

-- a wait without a limit that was refused: so many looks before the one that was
looks_refused : (g : GroupHandle) (old new : Seat) (status : MtapiStatus) → Waited mtapi_standard done (AllMembers g) None old new (Err status)
    → ((looks : ℕ) × IsRefusedBehind (replicate looks (entry old.number (AllLook g false) reply.Pending)) (AllLook g false) status old new)
    ⊎ ((status ≡ ErrSpent) × (2 ^ 62 ≤ new.shown))
looks_refused g old new status (inl a) =
    let l = a.1 in
    let looks = node_pends old.number (AllMembers g) l.pending in
    inl (
      l.pending,
      record {
        same = l.same;
        mine = l.mine ∙ (ap (λ (b : Bool). old.mine ++ (looks ++ entry old.number (AllLook g b) a.0 ∷ [])) l.bound
            ∙ ap (λ (r : Reply). old.mine ++ (looks ++ entry old.number (AllLook g false) r ∷ [])) (refused_done a.0 status a.2));
      },
    )
looks_refused g old new status (inr a) = inr (cc, a.0.shown)

pub stops_at_look : (g : GroupHandle) (n m : ℕ) (a b c : Seat) (x : Result (Unit {0}) MtapiStatus) → n ≡ m → HasStarted g n a b
    → Waited mtapi_standard done (AllMembers g) None b c x → IfErr x (λ status. StopsAt m status a c)
stops_at_look g n m a b c (Ok u) same s w = tt
stops_at_look g n m a b c (Err e) same s w = elim (looks_refused g b c e w) [
  | inl r ↦ at_look g b r.0 (subst (λ (k : ℕ). HasStarted g k a b) same s) r.1
  | inr r ↦ spent r.0 r.1
]

-- what the client promises where it was told a status
pub refused_told : (n : ℕ) (a c : Seat) (x : Result (Unit {0}) MtapiStatus) (status : MtapiStatus) → x ≡ Err status → StopsAt n status a c
    → IfOk x (λ _. HasAwaited n a c) × IfErr x (λ s. StopsAt n s a c)
refused_told n a c (Ok u) status is s = absurd (cc)
refused_told n a c (Err e) status is s =
    let same : status ≡ e = cc in
    (tt, subst (λ (k : MtapiStatus). StopsAt n k a c) same s)

-- a seat that stops so ends refused
behind : (xs ys : List NodeEntry) (o : Op) (status : MtapiStatus) (a b c : Seat) → MadeJust xs a b → IsRefusedBehind ys o status b c → EndsRefused status c
behind xs ys o status a b c w r =
    inl (
      b.mine ++ ys,
      o,
      r.mine ∙ (sym (append_assoc b.mine ys (entry b.number o (reply.Mtapi status) ∷ []))
          ∙ ap (λ (n : ℕ). (b.mine ++ ys) ++ entry n o (reply.Mtapi status) ∷ []) (sym r.same.number)),
    )

ends_refused : (places : ℕ) (status : MtapiStatus) (old new : Seat) → StopsAt places status old new → EndsRefused status new
ends_refused places status old new (at_action r) = behind [] [] _ status old old new (just_none old) r
ends_refused places status old new (at_group action r) =
    behind [] (entry old.number (ActionCreate 1 Echo every_worker) (reply.Handle action) ∷ []) GroupCreate status old old new (just_none old) r
ends_refused places status old new (at_start g n b few s r) = behind _ [] _ status old b new s.made r
ends_refused places status old new (at_look g b looks s r) =
    behind _ (replicate looks (entry b.number (AllLook g false) reply.Pending)) (AllLook g false) status old b new s.made r
ends_refused places status old new (spent is shown) = inr (is, shown)

-- What the client of all pieces promises, of a run

abbrev pub AwaitsPieces : {C : Type 0} → (C → ℕ) → C → Seat → Seat → Result (Unit {0}) MtapiStatus → Type 0
AwaitsPieces places all old new told = IfOk told (λ _. HasAwaited (places all) old new) × IfErr told (λ status. StopsAt (places all) status old new)

pub told_why : {C : Type 0} (places : C → ℕ) (client : C) (settings : NodeSettings) (told : Result (Unit {0}) MtapiStatus) (status : MtapiStatus) (j : Journal)
    → IsClientRun (AwaitsPieces places) client settings told j → told ≡ Err status → RefusesPieces settings status
told_why places client settings told status j r is =
    inr (
      j,
      run_says {C = Unit {0}} {T = MtapiStatus} (λ _ _ s refused. EndsRefused refused s) (AwaitsPieces places) tt client status told settings j
          (λ a z p. ends_refused (places client) status a z
          (subst (λ (x : Result (Unit {0}) MtapiStatus). IfErr x (λ s. StopsAt (places client) s a z)) is p.1)) r,
    )
