-- What the closed cell's history is worth, once all seats of a node came back.
use Rattle.std.specs.declared.alloc.Global.{Global}
use Rattle.std.proofs.Common.{List, None, Ok, Vec, [], ap, append_assoc, arith, inl, length, refl, subst, suc, sym, ℕ, ◌++◌, ◌+◌, ◌-◌, ◌<◌, ◌∙◌, ◌∷◌, ◌≡◌}
use Rattle.std.proofs.lemmas.Result.{IfOk-at_ok}
use Rattle.std.specs.Prelude.{IfOk}
use Rattle.std.specs.List.{AllZip}
use Rattle.history.specs.Histories.{entry, entries_of}
use Rattle.turn_cell.specs.Lists.{AllItems}
use Rattle.turn_cell.specs.Seats.{HasSeenMore, IsComplete, IsSeatOf, fresh_seat, fresh_seats}
use Rattle.turn_cell.proofs.Complete.{Has, all_has, fresh_in, has_back, has_front, numbered_has, zip_has}
use Rattle.turn_cell.proofs.Ends.{all_after}
use Rattle.mtapi_machine.specs.declared.ops.Op.TheVariants.{Close, Final}
use Rattle.mtapi_machine.specs.declared.replies.Reply.{Reply}
use Rattle.mtapi_machine.specs.declared.terms.Terms.{Terms}
use Rattle.mtapi_machine.specs.Legal.{NodeEntry, Legal}
use Rattle.node_journals.specs.declared.entries.Journal.{Journal}
use Rattle.node_core.specs.Keeping.{KeptAs}
use Rattle.node_core.specs.Logs.{journal_seats}
use Rattle.workload_runners.specs.Turns.{Seat, SameNodeSeat, AddsOwn, NodeTurned}
use Rattle.workload_runners.specs.Crews.{Cell, MainKnows}
use Rattle.workload_runners.proofs.Adds.{all_own, all_more}
use Rattle.workload_runners.proofs.Meets.{zip_front, each_of, met_zip, known_more}
use Rattle.workload_runners.proofs.OwnParts.{MainCuts, known_front, has_longer, Ending, main_cuts, in_order, before_final, whole_from}
use Rattle.workload_runners.proofs.WholeRun.{is_worker, is_main, is_caller, is_none, place_of}
use Rattle.workload_runners.specs.declared.crew.end.Ended.{Ended}
use Rattle.workload_runners.specs.declared.crew.workers.Crew.{Crew}
use Rattle.workload_runners.specs.Crews.{EachHeld, IsEnded, CameFrom}
use Rattle.workload_runners.specs.Ran.{StandsIn, EachCalled, RanAs}
use Rattle.workload_runners.proofs.CrewSeats.{held_met}

module _ {A : Type 0} where
  each_front : (F : A → Type 0) (xs ys : List A) → AllItems F (xs ++ ys) → AllItems F xs
  each_front F [] ys a = tt
  each_front F (x ∷ xs) ys a = (a.0, each_front F xs ys a.1)

-- each of the further callers' seats came back
held_same : {D U : Type 0} (Q : D → Terms → ℕ → U → List NodeEntry → Type 0) (z : Cell) (who : ℕ) (ds : List D) (bs : List Seat) (us : List U)
    → EachHeld Q z who ds bs us → AllZip SameNodeSeat (fresh_seats z.terms z.id who (length ds)) bs
held_same Q z who [] bs us a = subst (λ (l : List Seat). AllZip SameNodeSeat [] l) (sym a.0) tt
held_same Q z who (d ∷ ds) bs us a =
    subst (λ (l : List Seat). AllZip SameNodeSeat (fresh_seats z.terms z.id who (suc (length ds))) l) (sym a.4)
    (a.6.same, held_same Q z (suc who) ds a.1 a.3 a.7)

-- a seat whose entries m knew, in a history that goes on behind what m had seen
stands : (k : ℕ) (m s : Seat) (H M T : List NodeEntry) → s.number ≡ k → entries_of k H ≡ s.mine → MainKnows m s → H ≡ m.seen ++ (M ++ T)
    → StandsIn k (m.seen ++ M) T (entries_of k H)
stands k m s H M T number own knows is =
    let prefix : entries_of k knows.prefix ≡ entries_of k H = (ap (λ (n : ℕ). entries_of n knows.prefix) (sym number) ∙ knows.own) ∙ sym own in
    let h = has_longer k m.seen M T (entries_of k H) (known_front k H m.seen (M ++ T) knows.prefix (entries_of k H) knows.begins prefix is refl) in
    record { there = h.there; none = h.none }

each_called : {D U : Type 0} (Q : D → Terms → ℕ → U → List NodeEntry → Type 0) (z : Cell) (m : Seat) (H M T : List NodeEntry) (who : ℕ) (ds : List D)
    (bs : List Seat) (us : List U)
    → H ≡ m.seen ++ (M ++ T) → AllItems (IsSeatOf z.terms H) bs → AllItems (MainKnows m) bs → EachHeld Q z who ds bs us
    → EachCalled Q z.terms.node H (m.seen ++ M) T who ds us
each_called {U = U} Q z m H M T who [] bs us is seats knows a = subst (λ (l : List U). EachCalled Q z.terms.node H (m.seen ++ M) T who [] l) (sym a.1) tt
each_called {U = U} Q z m H M T who (d ∷ ds) bs us is seats knows a =
    let s = subst (λ (l : List Seat). AllItems (IsSeatOf z.terms H) l) a.4 seats in
    let n = subst (λ (l : List Seat). AllItems (MainKnows m) l) a.4 knows in
    let number : a.0.number ≡ who = a.6.same.number in
    let mine : entries_of who H ≡ a.0.mine = ap (λ (k : ℕ). entries_of k H) (sym number) ∙ s.0.mine in
    let did = subst (λ (es : List NodeEntry). Q d z.terms.node who a.2 es) (sym mine) a.6.kept in
    subst (λ (l : List U). EachCalled Q z.terms.node H (m.seen ++ M) T who (d ∷ ds) l) (sym a.5)
    ((did, stands who m a.0 H M T number mine n.0 is), each_called Q z m H M T (suc who) ds a.1 a.3 is s.1 n.1 a.7)

module _ {C D T U A : Type 0} (W : ℕ → List NodeEntry → Type 0) (P : C → Terms → ℕ → T → List NodeEntry → Type 0) (Q : D → Terms → ℕ → U → List NodeEntry
    → Type 0) (z : Cell)
    (client : C) (others : List D) (c : Crew T U A) (x : CameFrom W P Q z client others z.terms.node.settings.workers c) (e : Ended)
    (y : IsEnded Final c.main c.seats.items e) where
  abbrev w : ℕ
  w = z.terms.node.settings.workers

  abbrev all : List Seat
  all = e.others.items ++ e.main ∷ []

  zipped : AllZip HasSeenMore (x.called ++ x.worked) e.others.items
  zipped = subst (λ (l : List Seat). AllZip HasSeenMore l e.others.items) x.whole (met_zip y.meets)

  abbrev cut : (us : List Seat) × (vs : List Seat) × (e.others.items ≡ us ++ vs) × AllZip HasSeenMore x.called us × AllZip HasSeenMore x.worked vs
  cut = zip_front HasSeenMore x.called x.worked e.others.items zipped

  callers_now : EachHeld Q z (w + 1) others cut.0 c.others.items
  callers_now = held_met Q z (w + 1) others x.called cut.0 c.others.items x.callers cut.3

  same_more : (xs ys zs : List Seat) → AllZip SameNodeSeat xs ys → AllZip HasSeenMore ys zs → AllZip SameNodeSeat xs zs
  same_more [] [] [] a b = tt
  same_more [] [] (s ∷ zs) a b = absurd b
  same_more [] (s ∷ ys) zs a b = absurd a
  same_more (s ∷ xs) [] zs a b = absurd a
  same_more (s ∷ xs) (t ∷ ys) [] a b = absurd b
  same_more (s ∷ xs) (t ∷ ys) (u ∷ zs) a b =
      (record { cell = b.0.cell ∙ a.0.cell; number = b.0.number ∙ a.0.number; terms = b.0.terms ∙ a.0.terms }, same_more xs ys zs a.1 b.1)

  workers_same : AllZip SameNodeSeat (fresh_seats z.terms z.id 0 w) cut.1
  workers_same = same_more (fresh_seats z.terms z.id 0 w) x.worked cut.1 x.workers cut.4

  pub main_same : SameNodeSeat (fresh_seat z.terms z.id w) e.main
  main_same =
      let h = x.main.did.same in let m = x.main.more in let s = x.main.same in let n = y.meets.main in let t = y.same in
      record {
        cell = t.cell ∙ (n.cell ∙ (s.cell ∙ (m.cell ∙ h.cell)));
        number = t.number ∙ (n.number ∙ (s.number ∙ (m.number ∙ h.number)));
        terms = t.terms ∙ (n.terms ∙ (s.terms ∙ (m.terms ∙ h.terms)));
      }

  among : (s : Seat) → Has (cut.0 ++ cut.1) s → Has all s
  among s h = subst (λ (l : List Seat). Has (l ++ e.main ∷ []) s) (sym cut.2) (has_front (cut.0 ++ cut.1) (e.main ∷ []) s h)

  main_has : Has all e.main
  main_has = has_back e.others.items (e.main ∷ []) e.main (inl refl)

  -- they are all seats of the cell
  pub complete : z.terms.node.callers ≡ length others + 1 → IsComplete (journal_seats z.terms) all
  complete count k l = elim (place_of w (w + (length others + 1)) k) [
    | is_worker h ↦ let b = zip_has SameNodeSeat (fresh_seats z.terms z.id 0 w) cut.1 (fresh_seat z.terms z.id k) workers_same
        (fresh_in _ _ _ z.terms z.id 0 w k (omega arith) (omega arith)) in
        numbered_has k b.0 all (among b.0 (has_back cut.0 cut.1 b.0 b.1)) b.2.number
    | is_main h ↦ numbered_has k e.main all main_has (main_same.number ∙ sym h)
    | is_caller h g ↦ let b = zip_has SameNodeSeat (fresh_seats z.terms z.id (w + 1) (length others)) cut.0 (fresh_seat z.terms z.id k)
        (held_same Q z (w + 1) others cut.0 c.others.items callers_now)
        (fresh_in _ _ _ z.terms z.id (w + 1) (length others) k (omega arith) (omega arith)) in
        numbered_has k b.0 all (among b.0 (has_front cut.0 cut.1 b.0 b.1)) b.2.number
    | is_none h ↦ absurd (omega arith)
  ]

  module _ (none : c.spent ≡ None) (last : Reply) (is : e.answer ≡ Ok last) (H : List NodeEntry) (legal : Legal z.terms.node H)
      (seats : AllItems (IsSeatOf z.terms H) all) (j : Journal) (kept : KeptAs z.terms.node j H) where
    abbrev close : (r : Reply) × NodeTurned x.main.met Close r c.main
    close = x.main.closed none

    final : NodeTurned y.met Final last e.main
    final = IfOk-at_ok (λ (r : Reply). NodeTurned y.met Final r e.main) is y.answered

    abbrev ending : Ending w x.main.met c.main y.met e.main close.0 last
    ending = record { number = x.main.more.number ∙ x.main.did.same.number; closed = close.1; more = y.meets.main; final = final }

    main_is : IsSeatOf z.terms H e.main
    main_is = all_has (IsSeatOf z.terms H) all e.main seats main_has

    abbrev cuts : MainCuts w H x.main.met.mine close.0 last
    cuts = main_cuts w x.main.met c.main y.met e.main close.0 last ending H main_is.seen main_is.mine

    came_back : AllItems (IsSeatOf z.terms H) (cut.0 ++ cut.1)
    came_back = subst (λ (l : List Seat). AllItems (IsSeatOf z.terms H) l) cut.2 (each_front (IsSeatOf z.terms H) e.others.items (e.main ∷ []) seats)

    served_now : AllZip (AddsOwn W) (fresh_seats z.terms z.id 0 w) cut.1
    served_now = all_more W (fresh_seats z.terms z.id 0 w) x.worked cut.1 (x.served none) cut.4

    knows_workers : AllItems (MainKnows y.met) cut.1
    knows_workers = all_after (MainKnows y.met) cut.0 cut.1
        (subst (λ (l : List Seat). AllItems (MainKnows y.met) l) cut.2 (each_of (MainKnows y.met) e.others.items y.meets.knows))

    knows_callers : AllItems (MainKnows x.main.met) cut.0
    knows_callers = known_more x.main.met x.called cut.0 (each_of (MainKnows x.main.met) x.called x.main.knows) cut.3

    one_worker : (k : ℕ) → k < w → W k (entries_of k H)
        × StandsIn k (cuts.before ++ entry w Close close.0 ∷ cuts.behind) (entry w Final last ∷ cuts.rest) (entries_of k H)
    one_worker k l =
        let b = zip_has (AddsOwn W) (fresh_seats z.terms z.id 0 w) cut.1 (fresh_seat z.terms z.id k) served_now
        (fresh_in _ _ _ z.terms z.id 0 w k (omega arith) (omega arith)) in
        let number : b.0.number ≡ k = b.2.same.number in
        let s = all_has (IsSeatOf z.terms H) all b.0 seats (among b.0 (has_back cut.0 cut.1 b.0 b.1)) in
        let own : entries_of k H ≡ b.0.mine = ap (λ (n : ℕ). entries_of n H) (sym number) ∙ s.mine in
        let knows = all_has (MainKnows y.met) cut.1 b.0 knows_workers b.1 in (
          subst (λ (es : List NodeEntry). W k es) (sym own) (all_own W (fresh_seat z.terms z.id k) b.0 refl b.2),
          subst (λ (S : List NodeEntry). StandsIn k S (entry w Final last ∷ cuts.rest) (entries_of k H))
              (before_final w x.main.met c.main y.met e.main close.0 last ending H main_is.seen main_is.mine)
              (stands k y.met b.0 H ending.final.between (entry w Final last ∷ cuts.rest) number own knows
              (whole_from w x.main.met c.main y.met e.main close.0 last ending H main_is.seen main_is.mine)),
        )

    pub ran_as : (sets : Vec A Global) → RanAs W P Q client others z.terms.node
        (record { told = c.told; others = c.others; last = last; journal = j; sets = sets })
    ran_as sets = record {
      history = H;
      legal = legal;
      kept = kept;
      own = x.main.met.mine;
      close = close.0;
      ends = record {
        before = cuts.before;
        behind = cuts.behind;
        rest = cuts.rest;
        is = cuts.is;
        main_before = cuts.main_before;
        main_behind = cuts.main_behind;
        main_rest = cuts.main_rest;
      };
      main = subst (λ (es : List NodeEntry). P client z.terms.node w c.told es) (sym x.main.more.mine) x.main.did.kept;
      called =
          each_called Q z x.main.met H ending.closed.between
          (entry w Close close.0 ∷ (cuts.behind ++ entry w Final last ∷ cuts.rest)) (w + 1) others cut.0 c.others.items
          (in_order w x.main.met c.main y.met e.main close.0 last ending H main_is.seen main_is.mine
          ∙ append_assoc x.main.met.seen ending.closed.between (entry w Close close.0 ∷ (cuts.behind ++ entry w Final last ∷ cuts.rest)))
          (each_front (IsSeatOf z.terms H) cut.0 cut.1 came_back) knows_callers callers_now;
      worked = one_worker;
    }
