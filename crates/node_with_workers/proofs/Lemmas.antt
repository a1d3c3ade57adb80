-- What a caller's calls come to, and what a node's history says of its clients.
use Rattle.node_with_workers.proofs.Names.{nat_tests, ◌≡◌, ℕ, zero, suc, true, ◌+◌, ◌-◌, ◌≤◌, ◌<◌, ◌^◌, List, length, take, drop, [], ◌∷◌, ◌++◌, None, Result, Ok, Err, inl, inr, refl, sym, ◌∙◌, ap, subst, append_assoc, arith, append-nil, take-append-drop, map, length-map, StartsWith, entry, entries_of, NodeSettings, MtapiStatus, Op, Initialize, Release, Close, Final, Reply, Terms, NodeEntry, Legal, Journal, JournaledTerms, KeptAs, Entrance, Seat, SameNodeSeat, AnswersReply, Waited, mtapi_standard, done, SeatGoesOn, MainOpens, CallerEnters, HasCalled, IfRefused, IsCallRefused, IsNotOpened, IsKeptOut, SaysOf, Opens, Enters, HasThreads, IfFailed, IfNoThread, IsUnbegun, IsUnopened, MadeNoCall, is_no_thread, AreRefused, terms_among, IsRunBy, IsRunOfAllBy, HaveCalled, HasEndedBy, Refuses, RefusesOne, IsNotEnded}
use Rattle.history.proofs.Growth.{entries_append}
use Rattle.turn_looks.proofs.OwnEntries.{entries-append}
use Rattle.mtapi_machine.proofs.Lists.{Legal-prefix, Legal-rest}
use Rattle.mtapi_machine.proofs.Answered.{answered}
use Rattle.mtapi_machine.specs.Legal.{LegalFrom, after, after_from}
use Rattle.mtapi_machine.specs.State.{opening, terms_with}
use Rattle.mtapi_values.specs.declared.handles.Layout.TheVariants.{Two}
use Rattle.mtapi_machine.specs.declared.replies.Reply.TheVariants as reply
use Rattle.sched_workers.specs.Answers.{Called as Asked}
use Rattle.sched_workers.proofs.CallAnswers.{fits_by}
use Rattle.workload_runners.specs.Replies.{says_something}
use Rattle.workload_runners.proofs.OwnParts.{own_one}
use Rattle.workload_runners.specs.Ran.{EachCalled, MainEnds, RanAs, StandsIn}
use Rattle.workload_runners.specs.declared.crew.holder.Held.{Held}
use Rattle.workload_runners.specs.declared.crew.run.RanNode.{RanNode}
use Rattle.run_beside.specs.Pairs.{Counts}
use Rattle.node_with_workers.specs.Ends.{IsShownAs, IsUnpacked, IsUnpackedTo}
use Rattle.node_with_workers.specs.declared.failure.NodeFailure.{NodeFailure}
use Rattle.node_with_workers.specs.declared.failure.NodeFailure.TheVariants as node
use Rattle.node_with_workers.specs.declared.failure.Failure.{Failure}
use Rattle.node_with_workers.specs.declared.failure.Failure.TheVariants as failure
use Rattle.node_with_workers.specs.declared.run.AllDone.{AllDone}

-- What a refusal says

pub refused_weaker : (P Q : MtapiStatus → Type 0) (f : Failure) → ((s : MtapiStatus) → P s → Q s) → IfRefused f P → IfRefused f Q
refused_weaker P Q f e1 e2 = grind (arith, nat_tests)

-- The calls of one seat

pub same_then : (a b c : Seat) → SameNodeSeat a b → SameNodeSeat b c → SameNodeSeat a c
same_then a b c x y = record { cell = y.cell ∙ x.cell; number = y.number ∙ x.number; terms = y.terms ∙ x.terms }

-- the seat made one more call, which was done
pub record MadeOne (o : Op) (old new : Seat) : Type 0 where
  pub same : SameNodeSeat old new
  pub mine : new.mine ≡ old.mine ++ entry old.number o reply.Ok ∷ []

asked_same : (o : Op) (old new : Seat) (x : Result (Unit {0}) MtapiStatus) → Asked mtapi_standard done o old new x → SameNodeSeat old new
asked_same o old new x e1 = grind (arith, nat_tests)

-- the seat's entries begin with those that it had
goes_on : (old new : Seat) → SeatGoesOn old new → StartsWith new.mine old.mine
goes_on old new g =
    (drop (length old.mine) new.mine, sym (take-append-drop (length old.mine) new.mine) ∙ ap (λ (l : List NodeEntry). l ++ drop (length old.mine) new.mine) g)

-- a call that was done, and one that was refused
made_one : (o : Op) (old new : Seat) (x : Result (Unit {0}) MtapiStatus) (u : Unit {0}) → Asked mtapi_standard done o old new x → x ≡ Ok u → MadeOne o old new
made_one o old new x u e1 e2 = grind (arith, nat_tests)

read_refusal : (r : Reply) (e : MtapiStatus) → AnswersReply mtapi_standard done r (Err e) → r ≡ reply.Mtapi e
read_refusal r e e1 = grind (arith, nat_tests)

turn_refused : (o : Op) (old new : Seat) (x : Result (Unit {0}) MtapiStatus) (status : MtapiStatus) → Asked mtapi_standard done o old new x → x ≡ Err status
    → new.shown < 2 ^ 62 → IsCallRefused old.terms.node old.number old.mine o status
turn_refused o old new (Ok v) status c is few = absurd (cc)
turn_refused o old new (Err e) status (inr c) is few = let shown = c.0.shown in absurd (omega arith)
turn_refused o old new (Err e) status (inl c) is few =
    let says_something : c.0 ≡ reply.Mtapi status = read_refusal c.0 e c.2 ∙ cc in
    let turn = c.1 in
    record {
      history = old.seen ++ turn.between;
      own = entries_append old.number old.seen turn.between
          ∙ (ap (λ (l : List NodeEntry). entries_of old.number old.seen ++ l) turn.others ∙ (append-nil _ ∙ turn.before));
      legal =
          subst (λ (t : JournaledTerms). Legal t.node ((old.seen ++ turn.between) ++ entry old.number o (reply.Mtapi status) ∷ [])) turn.same.terms
          (subst (λ (r : Reply). Legal new.terms.node ((old.seen ++ turn.between) ++ entry old.number o r ∷ [])) says_something
          (subst (Legal new.terms.node) turn.seen turn.legal));
    }

-- the same of a caller that is made of the seat and gives it back
pub says_of : (o : Op) (seat start tried given : Seat) (x : Result (Unit {0}) MtapiStatus) (status : MtapiStatus) (f : Failure)
    → start ≡ seat → Asked mtapi_standard done o start tried x → x ≡ Err status → given ≡ tried → SaysOf given status f
    → IfRefused f (IsCallRefused seat.terms.node seat.number seat.mine o)
says_of o seat start tried given x status (failure.Refused s) first called is back says_something =
    subst (IsCallRefused seat.terms.node seat.number seat.mine o) (sym says_something.0)
    (subst (λ (q : Seat). IsCallRefused q.terms.node q.number q.mine o status) first
    (turn_refused o start tried x status called is (subst (λ (q : Seat). q.shown < 2 ^ 62) back says_something.1)))
says_of o seat start tried given x status _ first called is back says_something = tt

-- Main opens the node, and lets the others in

pub not_opened : (seat start tried given : Seat) (x : Result (Unit {0}) MtapiStatus) (status : MtapiStatus) (f : Failure)
    → seat.mine ≡ [] → start ≡ seat → Asked mtapi_standard done Initialize start tried x → x ≡ Err status → given ≡ tried → SaysOf given status f
    → IfRefused f (IsNotOpened seat.terms.node seat.number)
not_opened seat start tried given x status f new first called is back says_something =
    refused_weaker (IsCallRefused seat.terms.node seat.number seat.mine Initialize) (IsNotOpened seat.terms.node seat.number) f
    (λ s r. inl (subst (λ (l : List NodeEntry). IsCallRefused seat.terms.node seat.number l Initialize s) new r))
    (says_of Initialize seat start tried given x status f first called is back says_something)

opened_once : (seat start one : Seat) (x : Result (Unit {0}) MtapiStatus) (u : Unit {0}) → start ≡ seat → Asked mtapi_standard done Initialize start one x
    → x ≡ Ok u
    → MadeOne Initialize seat one
opened_once seat start one x u first called is = subst (λ (s : Seat). MadeOne Initialize s one) first (made_one Initialize start one x u called is)

entry_first : (seat one : Seat) → seat.mine ≡ [] → MadeOne Initialize seat one → one.mine ≡ entry seat.number Initialize reply.Ok ∷ []
entry_first seat one new p = p.mine ∙ ap (λ (l : List NodeEntry). l ++ entry seat.number Initialize reply.Ok ∷ []) new

pub not_released : (seat start one two given : Seat) (x y : Result (Unit {0}) MtapiStatus) (u : Unit {0}) (status : MtapiStatus) (f : Failure)
    → seat.mine ≡ [] → start ≡ seat → Asked mtapi_standard done Initialize start one x → x ≡ Ok u → Asked mtapi_standard done Release one two y → y ≡ Err status
    → given ≡ two
    → SaysOf given status f
    → IfRefused f (IsNotOpened seat.terms.node seat.number)
not_released seat start one two given x y u status f new first a ai b bi back says_something =
    let p : MadeOne Initialize seat one = opened_once seat start one x u first a ai in
    refused_weaker (IsCallRefused one.terms.node one.number one.mine Release) (IsNotOpened seat.terms.node seat.number) f
    (λ s r. inr (
    subst (λ (l : List NodeEntry). IsCallRefused seat.terms.node seat.number l Release s) (entry_first seat one new p)
    (subst (λ (n : ℕ). IsCallRefused seat.terms.node n one.mine Release s) p.same.number
    (subst (λ (t : JournaledTerms). IsCallRefused t.node one.number one.mine Release s) p.same.terms r))
    ))
    (says_of Release one one two given y status f refl b bi back says_something)

pub main_opened : (seat start one two : Seat) (x y : Result (Unit {0}) MtapiStatus) (u v : Unit {0})
    → seat.mine ≡ [] → start ≡ seat → Asked mtapi_standard done Initialize start one x → x ≡ Ok u → Asked mtapi_standard done Release one two y → y ≡ Ok v
    → SameNodeSeat seat two × MainOpens seat.number two.mine
main_opened seat start one two x y u v e1 e2 e3 e4 e5 e6 = grind (arith, nat_tests)

-- A further caller is let in

pub entered : (seat start before : Seat) (x : Result (Unit {0}) MtapiStatus) (u : Unit {0})
    → seat.mine ≡ [] → start ≡ seat → Waited mtapi_standard done Entrance None start before x → x ≡ Ok u
    → SameNodeSeat seat before × CallerEnters seat.number before.mine
entered seat start before x u e1 e2 e3 e4 = grind (arith, nat_tests)

pub kept_out : (seat start tried given : Seat) (x : Result (Unit {0}) MtapiStatus) (status : MtapiStatus) (f : Failure)
    → seat.mine ≡ [] → start ≡ seat → Waited mtapi_standard done Entrance None start tried x → x ≡ Err status → given ≡ tried
    → Legal given.terms.node given.seen
    → entries_of given.number given.seen ≡ given.mine
    → SaysOf given status f → IfRefused f (IsKeptOut seat.terms.node seat.number)
kept_out seat start tried given x status f e1 e2 e3 e4 e5 e6 e7 e8 = grind (arith, nat_tests)

pub waited_same : (seat start tried given : Seat) (x : Result (Unit {0}) MtapiStatus) → start ≡ seat → Waited mtapi_standard done Entrance None start tried x
    → given ≡ tried → SameNodeSeat seat given
waited_same seat start tried given x e1 e2 e3 = grind (arith, nat_tests)

-- Whoever came in has its client call

pub has_called : {C T : Type 0} (opens : ℕ → List NodeEntry → Type 0) (promise : C → Seat → Seat → T
    → Type 0) (client : C) (told : T) (seat before worked back : Seat)
    → SameNodeSeat seat before × opens seat.number before.mine → SameNodeSeat before worked → SeatGoesOn before worked → promise client before worked told
    → back ≡ worked
    → HasCalled opens promise client seat.terms.node seat.number told back.mine
has_called opens promise client told seat before worked back came same goes promised kept = record {
  before = before;
  number = came.0.number;
  terms = ap (λ (t : JournaledTerms). t.node) came.0.terms;
  opened = came.1;
  after = worked;
  same = same;
  goes_on = goes_on before worked goes;
  promised = promised;
  all = ap (λ (s : Seat). s.mine) kept;
}

pub same_back : (seat before worked back : Seat) → SameNodeSeat seat before → SameNodeSeat before worked → back ≡ worked → SameNodeSeat seat back
same_back seat before worked back e1 e2 e3 = grind (arith, nat_tests)

-- Main's seat comes back where the node wasn't opened

pub first_refused : {C T : Type 0} (promise : C → Seat → Seat → T → Type 0) (client : C) (seat start tried given : Seat) (x : Result (Unit {0}) MtapiStatus)
    (status : MtapiStatus) (h : Held (Result T Failure)) → seat.mine ≡ [] → start ≡ seat → Asked mtapi_standard done Initialize start tried x → x ≡ Err status
    → given ≡ tried → IsUnopened given status h → Opens promise client seat.terms.node seat.number h.told h.seat.mine
first_refused {T = T} promise client seat start tried given x status h new first called is back u =
    subst (λ (r : Result T Failure). Opens promise client seat.terms.node seat.number r h.seat.mine) (sym u.told)
    (u.started, not_opened seat start tried given x status u.failure new first called is back u.says)

pub second_refused : {C T : Type 0} (promise : C → Seat → Seat → T → Type 0) (client : C) (seat start one two given : Seat)
    (x y : Result (Unit {0}) MtapiStatus) (v : Unit {0}) (status : MtapiStatus) (h : Held (Result T Failure)) → seat.mine ≡ [] → start ≡ seat
    → Asked mtapi_standard done Initialize start one x → x ≡ Ok v → Asked mtapi_standard done Release one two y → y ≡ Err status → given ≡ two
    → IsUnopened given status h
    → Opens promise client seat.terms.node seat.number h.told h.seat.mine
second_refused {T = T} promise client seat start one two given x y v status h new first a ai b bi back u =
    subst (λ (r : Result T Failure). Opens promise client seat.terms.node seat.number r h.seat.mine) (sym u.told)
    (u.started, not_released seat start one two given x y v status u.failure new first a ai b bi back u.says)

pub first_same : {T : Type 0} (seat start tried given : Seat) (x : Result (Unit {0}) MtapiStatus) (status : MtapiStatus) (h : Held (Result T Failure))
    → start ≡ seat → Asked mtapi_standard done Initialize start tried x → given ≡ tried → IsUnopened given status h → SameNodeSeat seat h.seat
first_same seat start tried given x status h first called back u =
    same_then seat tried h.seat (subst (λ (s : Seat). SameNodeSeat s tried) first (asked_same Initialize start tried x called))
    (subst (λ (s : Seat). SameNodeSeat s h.seat) back u.same)

pub second_same : {T : Type 0} (seat start one two given : Seat) (x y : Result (Unit {0}) MtapiStatus) (status : MtapiStatus) (h : Held (Result T Failure))
    → start ≡ seat → Asked mtapi_standard done Initialize start one x → Asked mtapi_standard done Release one two y → given ≡ two → IsUnopened given status h
    → SameNodeSeat seat h.seat
second_same seat start one two given x y status h first a b back u =
    same_then seat two h.seat (same_then seat one two (subst (λ (s : Seat). SameNodeSeat s one) first (asked_same Initialize start one x a))
    (asked_same Release one two y b))
    (subst (λ (s : Seat). SameNodeSeat s h.seat) back u.same)

-- What the history says of main

-- all calls of main in front of its end
main_front : (w : ℕ) (H own : List NodeEntry) (a b : Reply) (x : MainEnds w H own a b)
    → entries_of w (x.before ++ entry w Close a ∷ x.behind) ≡ own ++ entry w Close a ∷ []
main_front w H own a b x =
    let tail : entries_of w (entry w Close a ∷ x.behind) ≡ entry w Close a ∷ [] =
    entries-append w (entry w Close a ∷ []) x.behind ∙ (λ i. own_one w (entry w Close a) refl i ++ x.main_behind i) in
    entries-append w x.before (entry w Close a ∷ x.behind) ∙ (λ i. x.main_before i ++ tail i)

parted : (w : ℕ) (H own : List NodeEntry) (a b : Reply) (x : MainEnds w H own a b)
    → H ≡ (x.before ++ entry w Close a ∷ x.behind) ++ entry w Final b ∷ x.rest
parted w H own a b x = x.is ∙ sym (append_assoc x.before (entry w Close a ∷ x.behind) (entry w Final b ∷ x.rest))

-- and all of them
pub main_all : (w : ℕ) (H own : List NodeEntry) (a b : Reply) (x : MainEnds w H own a b)
    → entries_of w H ≡ own ++ entry w Close a ∷ entry w Final b ∷ []
main_all w H own a b x =
    let S = x.before ++ entry w Close a ∷ x.behind in
    let fin : entries_of w (entry w Final b ∷ x.rest) ≡ entry w Final b ∷ [] =
    entries-append w (entry w Final b ∷ []) x.rest ∙ (λ i. own_one w (entry w Final b) refl i ++ x.main_rest i) in
    ap (λ (l : List NodeEntry). entries_of w l) (parted w H own a b x)
    ∙ (entries-append w S (entry w Final b ∷ x.rest) ∙ ((λ i. main_front w H own a b x i ++ fin i)
    ∙ append_assoc own (entry w Close a ∷ []) (entry w Final b ∷ [])))

-- main's last call is answered with Ok or a status
last_says : (t : Terms) (S R : List NodeEntry) (w : ℕ) (last : Reply) → Legal t (S ++ entry w Final last ∷ R) → says_something mtapi_standard done last ≡ true
unfolding LegalFrom after_from
last_says t S R w last l =
    let n = Legal-rest (opening t) S (entry w Final last ∷ R) l.from in
    fits_by (after t S) w Final last _ (answered (after t S) w Final last n.0.allowed)

-- What it says of the further callers

module _ {D B U : Type 0} (of : B → D) (Q : D → Seat → Seat → U → Type 0) where
  -- what the holder of a further caller's seat promises
  abbrev pub Held_as : B → Terms → ℕ → Result U Failure → List NodeEntry → Type 0
  Held_as b t who r es = Enters Q (of b) t who r es

  each_told : (t : Terms) (H front behind : List NodeEntry) (who : ℕ) (bs : List B) (us : List U)
      → EachCalled Held_as t H front behind who bs (map Ok us) → HaveCalled Q t H who (map of bs) us
  each_told t H front behind who [] [] e = tt
  each_told t H front behind who [] (u ∷ us) e = absurd e
  each_told t H front behind who (b ∷ bs) [] e = absurd e
  each_told t H front behind who (b ∷ bs) (u ∷ us) e = (e.0.0, each_told t H front behind (suc who) bs us e.1)

  -- one of them wasn't let in
  record IsOut (t : Terms) (who count : ℕ) (f : Failure) : Type 0 where
    place : ℕ
    few : place < count
    started : HasThreads f
    why : IfRefused f (IsKeptOut t (who + place))

  out_at : (t : Terms) (H front behind : List NodeEntry) (who : ℕ) (bs : List B) (us : List U) (rest : List (Result U Failure)) (f : Failure)
      → EachCalled Held_as t H front behind who bs (map Ok us ++ Err f ∷ rest) → IsOut t who (length bs) f
  out_at t H front behind who [] [] rest f e = absurd e
  out_at t H front behind who [] (u ∷ us) rest f e = absurd e
  out_at t H front behind who (b ∷ bs) [] rest f e =
      let here : who ≡ who + 0 = omega arith in
      record { place = 0; few = omega arith; started = e.0.0.0; why = subst (λ (n : ℕ). IfRefused f (IsKeptOut t n)) here e.0.0.1 }
  out_at t H front behind who (b ∷ bs) (u ∷ us) rest f e =
      let x = out_at t H front behind (suc who) bs us rest f e.1 in
      let there : suc who + x.place ≡ who + suc x.place = omega arith in
      let low = x.few in
      record { place = suc x.place; few = omega arith; started = x.started; why = subst (λ (n : ℕ). IfRefused f (IsKeptOut t n)) there x.why }

  each_stands : (t : Terms) (H front behind : List NodeEntry) (who : ℕ) (bs : List B) (rs : List (Result U Failure))
      → EachCalled Held_as t H front behind who bs rs → (i : ℕ) → i < length bs → StandsIn (who + i) front behind (entries_of (who + i) H)
  each_stands t H front behind who [] rs e i l = absurd (omega arith)
  each_stands t H front behind who (b ∷ bs) [] e i l = absurd e
  each_stands t H front behind who (b ∷ bs) (r ∷ rs) e zero l =
      let here : who ≡ who + 0 = omega arith in subst (λ (k : ℕ). StandsIn k front behind (entries_of k H)) here e.0.1
  each_stands t H front behind who (b ∷ bs) (r ∷ rs) e (suc i) l =
      let there : suc who + i ≡ who + suc i = omega arith in
      subst (λ (k : ℕ). StandsIn k front behind (entries_of k H)) there (each_stands t H front behind (suc who) bs rs e.1 i (omega arith))

-- What a node that ended gives, from what its callers were told

module _ {C D B E T U A : Type 0} (rounds : ℕ → List NodeEntry → Type 0) (main_of : E → C) (of : B → D) (P : C → Seat → Seat → T → Type 0) (Q : D → Seat → Seat
    → U → Type 0) (m : E) (bs : List B)
    (settings : NodeSettings) (r : RanNode (Result T Failure) (Result U Failure) A) where
  abbrev MainAs : E → Terms → ℕ → Result T Failure → List NodeEntry → Type 0
  MainAs o t who told es = Opens P (main_of o) t who told es

  module _ (t : Terms) (x : RanAs rounds MainAs (Held_as of Q) m bs t r) where
    abbrev w : ℕ
    w = t.settings.workers

    pub says_last : says_something mtapi_standard done r.last ≡ true
    says_last =
        last_says t (x.ends.before ++ entry w Close x.close ∷ x.ends.behind) x.ends.rest w r.last
        (subst (Legal t) (parted w x.history x.own x.close r.last x.ends) x.legal)

    ends_so : t.callers ≡ length bs + 1 → HasEndedBy rounds t x.history x.own r.last
    ends_so count = record {
      close = x.close;
      main = x.ends;
      further = λ k low high.
          let at : (w + 1) + (k - (w + 1)) ≡ k = omega arith in
          subst (λ (n : ℕ). StandsIn n x.ends.before (entry w Close x.close
          ∷ (x.ends.behind ++ entry w Final r.last ∷ x.ends.rest)) (entries_of n x.history)) at
          (each_stands of Q t x.history x.ends.before _ (w + 1) bs r.others.items x.called (k - (w + 1)) (omega arith));
      worked = x.worked;
    }

  pub run_is : (n : ℕ) (x : RanAs rounds MainAs (Held_as of Q) m bs (terms_among settings n) r) (ds : List D) (d : AllDone T U A) → n ≡ length ds → map of
      bs ≡ ds
      → IsUnpacked r d → IsRunOfAllBy rounds P Q (main_of m) ds settings d.told d.others.items d.journal
  run_is n x ds d count are u =
      let long : length bs ≡ length ds = sym (length-map bs of) ∙ ap (λ (l : List D). length l) are in
      let t = terms_among settings n in
      let ended : HasEndedBy rounds t x.history x.own reply.Ok =
      subst (λ (y : Reply). HasEndedBy rounds t x.history x.own y) u.last (ends_so t x (omega arith)) in
      let each = each_told of Q t x.history x.ends.before _ (settings.workers + 1) bs d.others.items
      (subst (λ (rs : List (Result U Failure)). EachCalled (Held_as of Q) t x.history x.ends.before
      (entry settings.workers Close x.close ∷ (x.ends.behind ++ entry settings.workers Final r.last ∷ x.ends.rest)) (settings.workers + 1) bs rs)
      (sym u.others) x.called) in
      let main = subst (λ (y : Result T Failure). Opens P (main_of m) t settings.workers y x.own) u.told x.main in
      record {
        history = x.history;
        legal = subst (λ (k : ℕ). Legal (terms_among settings k) x.history) count x.legal;
        kept = subst (λ (k : ℕ). KeptAs (terms_among settings k) d.journal x.history) count
            (subst (λ (j : Journal). KeptAs t j x.history) (sym u.journal) x.kept);
        mine = x.own;
        called = subst (λ (k : ℕ). HasCalled MainOpens P (main_of m) (terms_among settings k) settings.workers d.told x.own) count main;
        ended = subst (λ (k : ℕ). HasEndedBy rounds (terms_among settings k) x.history x.own reply.Ok) count ended;
        others_called = subst (λ (l : List D). HaveCalled Q (terms_among settings (length ds)) x.history (settings.workers + 1) l d.others.items) are
            (subst (λ (k : ℕ). HaveCalled Q (terms_among settings k) x.history (settings.workers + 1) (map of bs) d.others.items) count each);
      }

  -- main was refused the end
  unended_so : (n : ℕ) (x : RanAs rounds MainAs (Held_as of Q) m bs (terms_among settings n) r) (told : T) (status : MtapiStatus) → r.told ≡ Ok told
      → r.last ≡ reply.Mtapi status → IsNotEnded P (main_of m) (terms_among settings n) status
  unended_so n x told status e l =
      let t = terms_among settings n in
      let v = settings.workers in
      let S = x.ends.before ++ entry v Close x.close ∷ x.ends.behind in
      let whole : x.history ≡ (S ++ entry v Final r.last ∷ []) ++ x.ends.rest =
      parted v x.history x.own x.close r.last x.ends ∙ sym (append_assoc S (entry v Final r.last ∷ []) x.ends.rest) in
      let legal : Legal t (S ++ entry v Final r.last ∷ []) =
      Legal-prefix t (S ++ entry v Final r.last ∷ []) x.ends.rest (subst (Legal t) whole x.legal) in (
        told,
        x.own,
        subst (λ (y : Result T Failure). Opens P (main_of m) t v y x.own) e x.main,
        x.close,
        record {
          history = S;
          own = main_front v x.history x.own x.close r.last x.ends;
          legal = subst (λ (y : Reply). Legal t (S ++ entry v Final y ∷ [])) l legal;
        },
      )

  -- why it gave nothing back
  pub causes_are : (n : ℕ) (x : RanAs rounds MainAs (Held_as of Q) m bs (terms_among settings n) r) (f : Failure) → n ≡ length bs → IsUnpackedTo r f
      → HasThreads f × IfRefused f (RefusesOne P (main_of m) n settings)
  causes_are n x f count (inl e) =
      let main = subst (λ (y : Result T Failure). Opens P (main_of m) (terms_among settings n) settings.workers y x.own) e x.main in (
        main.0,
        refused_weaker (IsNotOpened (terms_among settings n) settings.workers) (RefusesOne P (main_of m) n settings) f (λ s y. inl (inl y)) main.1,
      )
  causes_are n x f count (inr (inl (inl e))) =
      subst (λ (g : Failure). HasThreads g × IfRefused g (RefusesOne P (main_of m) n settings)) (sym e) (tt, tt)
  causes_are n x f count (inr (inl (inr l))) =
      let k = out_at of Q (terms_among settings n) x.history x.ends.before _ (settings.workers + 1) bs l.told l.rest f
      (subst (λ (rs : List (Result U Failure)). EachCalled (Held_as of Q) (terms_among settings n) x.history x.ends.before
      (entry settings.workers Close x.close ∷ (x.ends.behind ++ entry settings.workers Final r.last ∷ x.ends.rest)) (settings.workers
      + 1) bs rs) l.all x.called) in
      let low = k.few in (
        k.started,
        refused_weaker (IsKeptOut (terms_among settings n) (settings.workers + 1 + k.place)) (RefusesOne P (main_of m) n settings) f
            (λ s y. inl (inr (k.place, omega arith, y))) k.why,
      )
  causes_are n x f count (inr (inr l)) =
      subst (λ (g : Failure). HasThreads g × IfRefused g (RefusesOne P (main_of m) n settings)) (sym l.refusal.is)
      (tt, inr (unended_so n x l.value l.refusal.status l.told l.refusal.answered))

  -- the same of a node that was made with such terms
  module _ (t : Terms) (k n : ℕ) (made : t ≡ terms_with Two settings k) (all : k ≡ n + 1) (x : RanAs rounds MainAs (Held_as of Q) m bs t r) (ds : List D)
      (count : n ≡ length ds) (are : map of bs ≡ ds) where
    abbrev among : RanAs rounds MainAs (Held_as of Q) m bs (terms_among settings n) r
    among = subst (λ (u : Terms). RanAs rounds MainAs (Held_as of Q) m bs u r) (made ∙ ap (λ (j : ℕ). terms_with Two settings j) all) x

    pub run_from : (d : AllDone T U A) → IsUnpacked r d → IsRunOfAllBy rounds P Q (main_of m) ds settings d.told d.others.items d.journal
    run_from d u = run_is n among ds d count are u

    pub causes_from : (f : Failure) → IsUnpackedTo r f → HasThreads f × IfRefused f (RefusesOne P (main_of m) n settings)
    causes_from f l =
        let long : length bs ≡ length ds = sym (length-map bs of) ∙ ap (λ (l : List D). length l) are in
        causes_are n among f (omega arith) l

-- What a failure says

pub started : (w : ℕ) (f : Failure) → HasThreads f → IfNoThread f w
started w (failure.NoThread shown) h = absurd h
started w (failure.Refused status) h = tt
started w (failure.Spent spent) h = tt
started w failure.Memory h = tt

-- What shows that a thread was refused

pub some_refused : (f : NodeFailure) (a b : ℕ) → a ≡ 0 → Counts (is_no_thread f) a b → is_no_thread f ≡ true → 0 < b
some_refused f a b e1 e2 e3 = grind (arith, nat_tests)

pub shown_causes : (P : MtapiStatus → Type 0) (f : NodeFailure) (e : Failure) → IsShownAs f e → IfFailed f (λ g. IfRefused g P) → IfRefused e P
shown_causes P (node.NoThread main) (failure.NoThread shown) s c = tt
shown_causes P (node.NoThread main) (failure.Refused status) s c = absurd s
shown_causes P (node.NoThread main) (failure.Spent spent) s c = absurd s
shown_causes P (node.NoThread main) failure.Memory s c = absurd s
shown_causes P (node.Failed f) e s c = subst (λ (g : Failure). IfRefused g P) (sym s) c

pub shown_unbegun : (w : ℕ) (f : NodeFailure) (e : Failure) → IsShownAs f e → IsUnbegun w f → IfNoThread e w
shown_unbegun w (node.NoThread main) (failure.NoThread shown) s u = subst (MadeNoCall w) (sym s) u
shown_unbegun w (node.NoThread main) (failure.Refused status) s u = absurd s
shown_unbegun w (node.NoThread main) (failure.Spent spent) s u = absurd s
shown_unbegun w (node.NoThread main) failure.Memory s u = absurd s
shown_unbegun w (node.Failed f) e s u = subst (λ (g : Failure). IfNoThread g w) (sym s) u

-- Main alone

pub run_alone : {C D T U : Type 0} {rounds : ℕ → List NodeEntry → Type 0} (promise : C → Seat → Seat → T → Type 0) (further : D → Seat → Seat → U
    → Type 0) (client : C) (others : List D) (settings : NodeSettings) (told : T) (us : List U) (j : Journal)
    → others ≡ [] → IsRunOfAllBy rounds promise further client others settings told us j → IsRunBy rounds promise client settings told j
run_alone {D = D} {rounds = rounds} promise further client others settings told us j e r =
    let x = subst (λ (ds : List D). IsRunOfAllBy rounds promise further client ds settings told us j) e r in
    record { history = x.history; legal = x.legal; kept = x.kept; mine = x.mine; called = x.called; ended = x.ended }

pub causes_alone : {C T : Type 0} (promise : C → Seat → Seat → T → Type 0) (client : C) (n : ℕ) (settings : NodeSettings) (f : Failure) → n ≡ 0
    → IfRefused f (RefusesOne promise client n settings) → IfRefused f (Refuses promise client settings)
causes_alone promise client n settings f e1 e2 = grind (arith, nat_tests)
