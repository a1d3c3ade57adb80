-- The seats of a node's callers and workers, from one to the next.
use Rattle.std.proofs.Common.{List, [], ap, append_assoc, arith, drop, length, refl, subst, suc, sym, take, Vec, vec_len, vec_capacity, zero, ℕ, ◌++◌, ◌+◌, ◌-◌, ◌<◌, ◌∙◌, ◌∷◌, ◌≡◌, ◌≤◌}
use Rattle.std.proofs.lemmas.Bool.Decides.{nat_tests}
use Rattle.std.proofs.lemmas.List.{append-nil, length-append, same_from_push}
use Rattle.std.proofs.lemmas.List.Elements.{All-nil, All-cons, AllZip-push}
use Rattle.std.specs.Prelude.{All}
use Rattle.std.specs.List.{AllZip}
use Rattle.std.specs.declared.alloc.Global.{Global}
use Rattle.turn_cell.specs.Seats.{HasSeenMore, fresh_seat, fresh_seats}
use Rattle.turn_cell.proofs.Complete.{fresh-drop, fresh-take}
use Rattle.mtapi_machine.specs.declared.ops.Op.TheVariants.{Close}
use Rattle.mtapi_machine.specs.declared.replies.Reply.{Reply}
use Rattle.mtapi_machine.specs.declared.terms.Terms.{Terms}
use Rattle.mtapi_machine.specs.Legal.{NodeEntry}
use Rattle.workload_runners.specs.Turns.{Seat, SameNodeSeat, AddsOwn, NodeTurned}
use Rattle.workload_runners.specs.Rounds.{AtRest}
use Rattle.workload_runners.specs.Crews.{Cell, GaveUp}
use Rattle.workload_runners.specs.Runs.{MadeNone}
use Rattle.node_core.specs.declared.journaled.JournaledTerms.{JournaledTerms}
use Rattle.workload_runners.proofs.Starts.{new_at_rest}
use Rattle.workload_runners.proofs.Meets.{met_zip}
use Rattle.workload_runners.proofs.Adds.{same_then}
use Rattle.workload_runners.specs.declared.crew.holder.Held.{Held}
use Rattle.workload_runners.specs.declared.crew.serving.Served.{Served}
use Rattle.workload_runners.specs.declared.crew.callers.UnstartedCallers.{UnstartedCallers}
use Rattle.workload_runners.specs.declared.crew.callers.ReturnedCallers.{ReturnedCallers}
use Rattle.workload_runners.specs.declared.crew.workers.UnstartedThreads.{UnstartedThreads}
use Rattle.workload_runners.specs.declared.crew.workers.Crew.{Crew}
use Rattle.workload_runners.specs.Crews.{HasServed, HasHeld, MayCall, EachHeld, IsOneMore, HaveHeld, IsClosedBy, AreReady, IsJoined, CameFrom, HaveCome}

-- The seats that a cell begins with

pub fresh_more : (z : Cell) (k n j : ℕ) → j ≡ k + n
    → (let l : List Seat = fresh_seats z.terms z.id k (suc n) in l) ≡ fresh_seats z.terms z.id k n ++ fresh_seat z.terms z.id j ∷ []
fresh_more z k zero j e = let f : k ≡ j = omega arith in ap (λ (i : ℕ). fresh_seat z.terms z.id i ∷ []) f
fresh_more z k (suc n) j e = ap (λ (l : List Seat). fresh_seat z.terms z.id k ∷ l) (fresh_more z (suc k) n j (omega arith))

pub fresh_length : (z : Cell) (t : JournaledTerms) (k n : ℕ) → (let l : List Seat = fresh_seats t z.id k n in length l) ≡ n
fresh_length z t k zero = refl
fresh_length z t k (suc n) = let r = fresh_length z t (suc k) n in omega arith

-- main gave up before its client made a call
pub none_made : (z : Cell) (w n : ℕ) (h s : Seat) → h ≡ fresh_seat z.terms z.id w → w ≡ n → GaveUp h s → (s.number ≡ n) × MadeNone s
none_made z w n h s e1 e2 e3 = grind (arith, nat_tests)

-- Dealing

single : (xs : List Seat) (x y : Seat) → xs ++ x ∷ [] ≡ y ∷ [] → x ≡ y
single [] x y e = cc
single (w ∷ []) x y e = absurd (cc)
single (w ∷ v ∷ xs) x y e = absurd (cc)

pub record DealtLists (z : Cell) (w n : ℕ) (main : Seat) (callers workers : List Seat) : Type 0 where
  pub main_is : main ≡ fresh_seat z.terms z.id w
  pub callers_are : callers ≡ fresh_seats z.terms z.id (w + 1) (n - w - 1)
  pub workers_are : workers ≡ fresh_seats z.terms z.id 0 w

pub dealt : (z : Cell) (w n : ℕ) (all workers rest one callers popped : List Seat) (main : Seat) → all ≡ fresh_seats z.terms z.id 0 n → w < n
    → workers ≡ take w all → rest ≡ drop w all → one ≡ take 1 rest → callers ≡ drop 1 rest → one ≡ popped ++ main ∷ []
    → DealtLists z w n main callers workers
dealt z w n all workers rest one callers popped main is l ws rs os cs p =
    let zero_is : 0 + w ≡ w = omega arith in
    let rest_is : rest ≡ fresh_seats z.terms z.id w (n - w) =
    rs ∙ (ap (λ (xs : List Seat). drop w xs) is
    ∙ (fresh-drop _ _ _ z.terms z.id 0 w n (omega arith) ∙ ap (λ (k : ℕ). fresh_seats z.terms z.id k (n - w)) zero_is)) in
    let first : one ≡ fresh_seat z.terms z.id w ∷ [] =
    os ∙ (ap (λ (xs : List Seat). take 1 xs) rest_is ∙ fresh-take _ _ _ z.terms z.id w 1 (n - w) (omega arith)) in
    record {
      main_is = single popped main (fresh_seat z.terms z.id w) (sym p ∙ first);
      callers_are = cs ∙ (ap (λ (xs : List Seat). drop 1 xs) rest_is ∙ fresh-drop _ _ _ z.terms z.id w 1 (n - w) (omega arith));
      workers_are = ws ∙ (ap (λ (xs : List Seat). take w xs) is ∙ fresh-take _ _ _ z.terms z.id 0 w n (omega arith));
    }

-- One further caller's seat goes out, and comes back

-- a client and a seat were taken from the ends of the lists
pub record TakenOut {C D U : Type 0} (z : Cell) (h : UnstartedCallers C D U) (s : Seat) : Type 0 where
  pub may : MayCall z h
  pub seat_is : s ≡ fresh_seat z.terms z.id (z.terms.node.settings.workers + 1 + length h.others.items)

pub taken_out : {C D U : Type 0} (z : Cell) (h : UnstartedCallers C D U) (seats : Vec Seat Global) (others : Vec D Global) (s : Seat) (d : D) → MayCall z h
    → h.others.items ≡ others.items ++ d ∷ [] → vec_len others + 1 ≡ vec_len h.others → h.seats.items ≡ seats.items ++ s ∷ []
    → TakenOut z (record h { seats = seats; others = others }) s
taken_out {D} z h seats others s d m e l f =
    let w1 = z.terms.node.settings.workers + 1 in
    let n = length others.items in
    let long : length h.others.items ≡ suc n = omega (arith, ap (λ (l : List D). length l) e, length-append others.items (d ∷ [])) in
    let all : h.seats.items ≡ fresh_seats z.terms z.id w1 n ++ fresh_seat z.terms z.id (w1 + n) ∷ [] =
    m.seats ∙ (ap (λ (k : ℕ). fresh_seats z.terms z.id w1 k) long ∙ fresh_more z w1 n (w1 + n) refl) in
    let both = same_from_push seats.items (fresh_seats z.terms z.id w1 n) s (fresh_seat z.terms z.id (w1 + n)) (sym f ∙ all) in
    record {
      may = record {
        main = m.main;
        seats = both.0;
        empty = m.empty;
        untold = m.untold;
        room = (let r = m.room in omega arith);
        room_told = (let r = m.room_told in omega arith);
      };
      seat_is = both.1;
    }

each_more : {D U : Type 0} (Q : D → Terms → ℕ → U → List NodeEntry → Type 0) (z : Cell) (who j : ℕ) (ds : List D) (bs : List Seat) (us : List U) (d : D)
    (b : Seat) (u : U)
    → j ≡ who + length ds → EachHeld Q z who ds bs us → HasHeld Q d (fresh_seat z.terms z.id j) b u
    → EachHeld Q z who (ds ++ d ∷ []) (bs ++ b ∷ []) (us ++ u ∷ [])
each_more {U = U} Q z who j [] bs us d b u e a h =
    let here : j ≡ who = omega arith in
    let first = subst (λ (k : ℕ). HasHeld Q d (fresh_seat z.terms z.id k) b u) here h in
    (b, [], u, [], ap (λ (l : List Seat). l ++ b ∷ []) a.0, ap (λ (l : List U). l ++ u ∷ []) a.1, first, (refl, refl))
each_more {U = U} Q z who j (x ∷ ds) bs us d b u e a h =
    let seats = ap (λ (l : List Seat). l ++ b ∷ []) a.4 in
    let told = ap (λ (l : List U). l ++ u ∷ []) a.5 in
    let rest = each_more Q z (suc who) j ds a.1 a.3 d b u (omega arith) a.7 h in
    (a.0, a.1 ++ b ∷ [], a.2, a.3 ++ u ∷ [], seats, told, a.6, rest)

pub one_more_back : {C D T U : Type 0} (P : C → Terms → ℕ → T → List NodeEntry → Type 0) (Q : D → Terms → ℕ → U → List NodeEntry → Type 0) (z : Cell)
    (h : UnstartedCallers C D U) (seats : Vec Seat Global) (others : Vec D Global) (s : Seat) (d : D) (c c' : ReturnedCallers T U) (k : Held U)
    → h.others.items ≡ others.items ++ d ∷ [] → vec_len others + 1 ≡ vec_len h.others → TakenOut z (record h { seats = seats; others = others }) s
    → HasHeld Q d s k.seat k.told → IsOneMore c k c'
    → HaveHeld P Q z (record h { seats = seats; others = others }) c → HaveHeld P Q z h c'
one_more_back {C} {D} {T} {U} P Q z h seats others s d c c' k items len t came j b =
    let w1 = z.terms.node.settings.workers + 1 in
    record {
      main = subst (λ (x : Seat). HasHeld P h.client h.main x c'.told) (sym j.main) (subst (λ (x : T). HasHeld P h.client h.main c.main x) (sym j.told) b.main);
      others =
          subst (λ (ds : List D). EachHeld Q z w1 ds c'.seats.items c'.others.items) (sym items)
          (subst (λ (bs : List Seat). EachHeld Q z w1 (others.items ++ d ∷ []) bs c'.others.items) (sym j.seats)
          (subst (λ (us : List U). EachHeld Q z w1 (others.items ++ d ∷ []) (c.seats.items ++ k.seat ∷ []) us) (sym j.others)
          (each_more Q z w1 (w1 + length others.items) others.items c.seats.items c.others.items d k.seat k.told refl b.others
          (subst (λ (x : Seat). HasHeld Q d x k.seat k.told) t.seat_is came))));
      len = (let l = j.len in let m = b.len in (omega arith, omega arith));
      room = (let l = j.room in let m = b.room in (omega arith, omega arith));
    }

-- what is owed of the seat of a further caller
pub record IsNewIn (z : Cell) (s : Seat) : Type 0 where
  pub cell : s.cell ≡ z.id
  pub number : s.terms.node.settings.workers ≤ s.number
  pub new : s.mine ≡ []

pub new_in : {C D U : Type 0} (z : Cell) (h : UnstartedCallers C D U) (s : Seat) → TakenOut z h s → IsNewIn z s
new_in z h s e1 = grind (arith, nat_tests)

-- One worker's seat goes out, and comes back

pub record WorkerOut {C D U A : Type 0} (z : Cell) (h : UnstartedThreads C D U A) (s : Seat) : Type 0 where
  pub ready : AreReady z h
  pub seat_is : s ≡ fresh_seat z.terms z.id (vec_len h.workers)
  pub rest : AtRest s

pub worker_out : {C D U A : Type 0} (z : Cell) (h : UnstartedThreads C D U A) (workers : Vec Seat Global) (s : Seat) → AreReady z h
    → h.workers.items ≡ workers.items ++ s ∷ [] → vec_len workers + 1 ≡ vec_len h.workers → WorkerOut z (record h { workers = workers }) s
worker_out z h workers s m e l =
    let n = vec_len workers in
    let all : h.workers.items ≡ fresh_seats z.terms z.id 0 n ++ fresh_seat z.terms z.id n ∷ [] =
    m.workers ∙ ((let long : vec_len h.workers ≡ suc n = omega arith in ap (λ (k : ℕ). fresh_seats z.terms z.id 0 k) long)
    ∙ fresh_more z 0 n n (omega arith)) in
    let both = same_from_push workers.items (fresh_seats z.terms z.id 0 n) s (fresh_seat z.terms z.id n) (sym e ∙ all) in
    let few = m.few in
    record {
      ready = record {
        workers = both.0;
        few = omega arith;
        callers = m.callers;
        none = m.none;
        room = (let r = m.room in omega arith);
        room_sets = (let r = m.room_sets in omega arith);
      };
      seat_is = both.1;
      rest = subst AtRest (sym both.1) (new_at_rest (fresh_seat z.terms z.id n) (omega arith) refl);
    }

pub worker_back : {C D T U A : Type 0} (W : ℕ → List NodeEntry → Type 0) (P : C → Terms → ℕ → T → List NodeEntry → Type 0) (Q : D → Terms → ℕ → U
    → List NodeEntry → Type 0) (z : Cell)
    (h : UnstartedThreads C D U A) (workers : Vec Seat Global) (s : Seat) (c c' : Crew T U A) (o : Served A)
    → vec_len workers + 1 ≡ vec_len h.workers → WorkerOut z (record h { workers = workers }) s → HasServed W s o → IsJoined c o c'
    → HaveCome W P Q z (record h { workers = workers }) c → HaveCome W P Q z h c'
worker_back {C} {D} {T} {U} {A} W P Q z h workers s c c' o len out did j b =
    let n = vec_len workers in
    let k = b.came in
    let main0 : Seat = fresh_seat z.terms z.id z.terms.node.settings.workers in
    let more : vec_len h.workers ≡ suc n = omega arith in
    let list : (let l : List Seat = fresh_seats z.terms z.id 0 (vec_len h.workers) in l) ≡ fresh_seats z.terms z.id 0 n ++ s ∷ [] =
    ap (λ (i : ℕ). fresh_seats z.terms z.id 0 i) more
    ∙ (fresh_more z 0 n n (omega arith) ∙ ap (λ (x : Seat). fresh_seats z.terms z.id 0 n ++ x ∷ []) (sym out.seat_is)) in
    record {
      came = record {
        called = k.called;
        worked = k.worked ++ o.seat ∷ [];
        whole = j.seats ∙ (ap (λ (xs : List Seat). xs ++ o.seat ∷ []) k.whole ∙ append_assoc k.called k.worked (o.seat ∷ []));
        main = record {
          held = k.main.held;
          did = subst (λ (x : T). HasHeld P h.callers.client main0 k.main.held x) (sym j.told) k.main.did;
          met = k.main.met;
          more = k.main.more;
          knows = k.main.knows;
          same = subst (λ (x : Seat). SameNodeSeat k.main.met x) (sym j.main) k.main.same;
          closed = λ e. subst (λ (x : Seat). (r : Reply) × NodeTurned k.main.met Close r x) (sym j.main) (k.main.closed (j.crew e));
        };
        callers = subst (λ (v : Vec U Global). EachHeld Q z (z.terms.node.settings.workers + 1) h.callers.others.items k.called v.items)
            (sym j.others) k.callers;
        workers = subst (λ (xs : List Seat). AllZip SameNodeSeat xs (k.worked ++ o.seat ∷ [])) (sym list)
            (AllZip-push SameNodeSeat (fresh_seats z.terms z.id 0 n) k.worked s o.seat k.workers did.same);
        served = λ e. subst (λ (xs : List Seat). AllZip (AddsOwn W) xs (k.worked ++ o.seat ∷ [])) (sym list)
            (AllZip-push (AddsOwn W) (fresh_seats z.terms z.id 0 n) k.worked s o.seat (k.served (j.crew e)) (did.did (j.back e)));
      };
      sets = (let l = j.len in let m = b.sets in omega arith);
      len = (let l = j.len in let m = b.len in omega arith);
      room = (let l = j.room in let m = b.room in (omega arith, omega arith));
    }

-- All callers came back, and main began the end

pub held_met : {D U : Type 0} (Q : D → Terms → ℕ → U → List NodeEntry → Type 0) (z : Cell) (who : ℕ) (ds : List D) (bs cs : List Seat) (us : List U)
    → EachHeld Q z who ds bs us → AllZip HasSeenMore bs cs → EachHeld Q z who ds cs us
held_met Q z who [] bs [] us a m = (refl, a.1)
held_met Q z who [] bs (c ∷ cs) us a m = absurd (subst (λ (l : List Seat). AllZip HasSeenMore l (c ∷ cs)) a.0 m)
held_met Q z who (d ∷ ds) bs [] us a m = absurd (subst (λ (l : List Seat). AllZip HasSeenMore l []) a.4 m)
held_met Q z who (d ∷ ds) bs (c ∷ cs) us a m =
    let n = subst (λ (l : List Seat). AllZip HasSeenMore l (c ∷ cs)) a.4 m in
    let held : HasHeld Q d (fresh_seat z.terms z.id who) c a.2 = record {
      same = same_then (fresh_seat z.terms z.id who) a.0 c a.6.same (record { cell = n.0.cell; number = n.0.number; terms = n.0.terms });
      kept = subst (λ (es : List NodeEntry). Q d z.terms.node who a.2 es) (sym n.0.mine) a.6.kept;
    } in
    (c, cs, a.2, a.3, refl, a.5, held, held_met Q z (suc who) ds a.1 cs a.3 a.7 n.1)

pub all_closed : {C D T U A : Type 0} (W : ℕ → List NodeEntry → Type 0) (P : C → Terms → ℕ → T → List NodeEntry → Type 0) (Q : D → Terms → ℕ → U
    → List NodeEntry → Type 0) (z : Cell)
    (h : UnstartedThreads C D U A) (k : ReturnedCallers T U) (c : Crew T U A) → vec_len h.workers ≡ 0 → AreReady z h → HaveHeld P Q z h.callers k
    → IsClosedBy k h.sets c
    → HaveCome W P Q z h c
all_closed {C} {D} {T} {U} {A} W P Q z h k c none ready b e =
    let w = z.terms.node.settings.workers in
    record {
      came = record {
        called = c.seats.items;
        worked = [];
        whole = sym (append-nil c.seats.items);
        main = record {
          held = k.main;
          did = subst (λ (x : T). HasHeld P h.callers.client (fresh_seat z.terms z.id w) k.main x) (sym e.told)
              (subst (λ (s : Seat). HasHeld P h.callers.client s k.main k.told) ready.callers.main b.main);
          met = e.met;
          more = e.meets.main;
          knows = e.meets.knows;
          same = e.same;
          closed = e.closed;
        };
        callers =
            subst (λ (v : Vec U Global). EachHeld Q z (w + 1) h.callers.others.items c.seats.items v.items) (sym e.others)
            (held_met Q z (w + 1) h.callers.others.items k.seats.items c.seats.items k.others.items b.others (met_zip e.meets));
        workers = subst (λ (n : ℕ). AllZip SameNodeSeat (fresh_seats z.terms z.id 0 n) []) (sym none) tt;
        served = λ q. subst (λ (n : ℕ). AllZip (AddsOwn W) (fresh_seats z.terms z.id 0 n) []) (sym none) tt;
      };
      sets = (let l = ap vec_len e.sets_are in let m = ready.none in omega arith);
      len = (let l = e.room in let m = b.len in omega arith);
      room = (let l = e.room in let m = b.room in let s = ap vec_capacity e.sets_are in (omega arith, omega arith));
    }

-- All of them are of the cell

pub each_of_cell : {D U : Type 0} (Q : D → Terms → ℕ → U → List NodeEntry → Type 0) (z : Cell) (who : ℕ) (ds : List D) (bs : List Seat) (us : List U)
    → EachHeld Q z who ds bs us → All (λ (s : Seat). s.cell ≡ z.id) bs
each_of_cell Q z who [] bs us a = subst (All (λ (s : Seat). s.cell ≡ z.id)) (sym a.0) (All-nil (λ (s : Seat). s.cell ≡ z.id))
each_of_cell Q z who (d ∷ ds) bs us a = subst (All (λ (s : Seat). s.cell ≡ z.id)) (sym a.4)
    (All-cons (λ (s : Seat). s.cell ≡ z.id) a.0 a.1 a.6.same.cell (each_of_cell Q z (suc who) ds a.1 a.3 a.7))

all_both : {X : Type 0} (F : X → Type 0) (xs ys : List X) → All F xs → All F ys → All F (xs ++ ys)
all_both F [] ys a b = b
all_both F (x ∷ xs) ys a b = All-cons F x (xs ++ ys) (a 0 x (omega arith)) (all_both F xs ys (λ k d h. a (suc k) d (omega arith)) b)

zip_cells : (z : Cell) (who n : ℕ) (ys : List Seat) → AllZip SameNodeSeat (fresh_seats z.terms z.id who n) ys → All (λ (s : Seat). s.cell ≡ z.id) ys
zip_cells z who zero [] a = All-nil (λ (s : Seat). s.cell ≡ z.id)
zip_cells z who zero (y ∷ ys) a = absurd a
zip_cells z who (suc n) [] a = absurd a
zip_cells z who (suc n) (y ∷ ys) a = All-cons (λ (s : Seat). s.cell ≡ z.id) y ys a.0.cell (zip_cells z (suc who) n ys a.1)

pub whole_cells : {C D T U A : Type 0} (W : ℕ → List NodeEntry → Type 0) (P : C → Terms → ℕ → T → List NodeEntry → Type 0) (Q : D → Terms → ℕ → U
    → List NodeEntry → Type 0) (z : Cell)
    (client : C) (others : List D) (n : ℕ) (c : Crew T U A) → CameFrom W P Q z client others n c → All (λ (s : Seat). s.cell ≡ z.id) c.seats.items
whole_cells W P Q z client others n c x = subst (All (λ (s : Seat). s.cell ≡ z.id)) (sym x.whole)
    (all_both (λ (s : Seat). s.cell ≡ z.id) x.called x.worked (each_of_cell Q z (z.terms.node.settings.workers + 1) others x.called c.others.items x.callers)
    (zip_cells z 0 n x.worked x.workers))
