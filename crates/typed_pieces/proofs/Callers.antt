-- Of clients that call beside a table of pieces, and of the clients that these were made of.
use Rattle.typed_pieces.proofs.Names.{◌≡◌, ◌+◌, ℕ, suc, List, [], ◌∷◌, length, map, subst, sym, ◌∙◌, ap, inl, inr, Result, Err, IfErr, length-map, entries_of, NodeSettings, MtapiStatus, NodeEntry, Legal, Journal, Seat, MainOpens, CallerEnters, HasCalled, IfRefused, HaveCalled, IsRunOfAll, RefusesOne, terms_among, terms_of_main, refused_weaker}
use Rattle.mtapi_machine.specs.declared.terms.Terms.{Terms}
use Rattle.mtapi_machine.specs.declared.replies.Reply.TheVariants as reply
use Rattle.node_core.specs.Keeping.{KeptAs}
use Rattle.node_with_workers.specs.Runs.{RunHasEnded, IsRunBy, Refuses}
use Rattle.node_with_workers.specs.declared.failure.Failure.{Failure}

-- what the promise of a client that was made of another says is what that one promises
abbrev pub Says : {D B U : Type 0} → (D → Seat → Seat → U → Type 0) → (B → Seat → Seat → U → Type 0) → (B → D) → Type 0
Says {D} {B} {U} inner outer of = (b : B) (a z : Seat) (u : U) → outer b a z u → inner (of b) a z u

-- so what is said of the calls of the one is said of the other's
has_called : {C B T U : Type 0} (inner : C → Seat → Seat → T → Type 0) (outer : B → Seat → Seat → U → Type 0) (opens : ℕ → List NodeEntry → Type 0)
    (c : C) (b : B) (v : T) (u : U) (t : Terms) (who : ℕ) (es : List NodeEntry) → ((a z : Seat) → outer b a z u → inner c a z v)
    → HasCalled opens outer b t who u es → HasCalled opens inner c t who v es
has_called inner outer opens c b v u t who es says h =
    record {
      before = h.before;
      number = h.number;
      terms = h.terms;
      opened = h.opened;
      after = h.after;
      same = h.same;
      goes_on = h.goes_on;
      promised = says h.before h.after h.promised;
      all = h.all;
    }

-- and of a run with main alone, whatever its workers did
pub run_says : {C B T U : Type 0} {rounds : ℕ → List NodeEntry → Type 0} (inner : C → Seat → Seat → T → Type 0) (outer : B → Seat → Seat → U
    → Type 0) (c : C) (b : B) (v : T) (u : U) (settings : NodeSettings) (j : Journal) → ((a z : Seat) → outer b a z u → inner c a z v)
    → IsRunBy rounds outer b settings u j → IsRunBy rounds inner c settings v j
run_says inner outer c b v u settings j says r =
    record {
      history = r.history;
      legal = r.legal;
      kept = r.kept;
      mine = r.mine;
      called = has_called inner outer MainOpens c b v u (terms_of_main settings) settings.workers r.mine says r.called;
      ended = r.ended;
    }

have_called : {D B U : Type 0} (inner : D → Seat → Seat → U → Type 0) (outer : B → Seat → Seat → U → Type 0) (of : B → D) → Says inner outer of
    → (t : Terms) (history : List NodeEntry) (who : ℕ) (bs : List B) (us : List U) → HaveCalled outer t history who bs us
    → HaveCalled inner t history who (map of bs) us
have_called inner outer of says t history who [] [] h = tt
have_called inner outer of says t history who [] (u ∷ us) h = absurd h
have_called inner outer of says t history who (b ∷ bs) [] h = absurd h
have_called inner outer of says t history who (b ∷ bs) (u ∷ us) h = (
  has_called inner outer CallerEnters (of b) b u u t who (entries_of who history) (λ x y. says b x y u) h.0,
  have_called inner outer of says t history (suc who) bs us h.1,
)

-- a run of such clients is one of those that they were made of
pub run_of_all : {C B D E T U : Type 0} (inner : C → Seat → Seat → T → Type 0) (outer : B → Seat → Seat → T → Type 0) (of : B → C) → Says inner outer of
    → (further : D → Seat → Seat → U → Type 0) (beside : E → Seat → Seat → U → Type 0) (each : E → D) → Says further beside each
    → (b : B) (others : List D) (es : List E) (settings : NodeSettings) (told : T) (us : List U) (j : Journal)
    → map each es ≡ others → IsRunOfAll outer beside b es settings told us j → IsRunOfAll inner further (of b) others settings told us j
run_of_all inner outer of says further beside each also b others es settings told us j are r =
    let same : length es ≡ length others = sym (length-map es each) ∙ ap length are in
    record {
      history = r.history;
      legal = subst (λ n. Legal (terms_among settings n) r.history) same r.legal;
      kept = subst (λ n. KeptAs (terms_among settings n) j r.history) same r.kept;
      mine = r.mine;
      called = subst (λ n. HasCalled MainOpens inner (of b) (terms_among settings n) settings.workers told r.mine) same
          (has_called inner outer MainOpens (of b) b told told (terms_among settings (length es)) settings.workers r.mine (λ x y. says b x y told) r.called);
      ended = subst (λ n. RunHasEnded (terms_among settings n) r.history r.mine reply.Ok) same r.ended;
      others_called =
          subst (λ l. HaveCalled further (terms_among settings (length others)) r.history (settings.workers + 1) l us) are
          (have_called further beside each also (terms_among settings (length others)) r.history (settings.workers + 1) es us
          (subst (λ n. HaveCalled beside (terms_among settings n) r.history (settings.workers + 1) es us) same r.others_called));
    }

-- and so is a refusal
pub refused_of_all : {C B T : Type 0} (inner : C → Seat → Seat → T → Type 0) (outer : B → Seat → Seat → T → Type 0) (of : B → C) → Says inner outer of
    → (b : B) (n m : ℕ) (settings : NodeSettings) (f : Failure) → n ≡ m → IfRefused f (RefusesOne outer b n settings)
    → IfRefused f (RefusesOne inner (of b) m settings)
refused_of_all inner outer of says b n m settings f same =
    refused_weaker (RefusesOne outer b n settings) (RefusesOne inner (of b) m settings) f
    (λ status r. subst (λ k. RefusesOne inner (of b) k settings status) same (refused_one status r))
  where
    refused_one : (status : MtapiStatus) → RefusesOne outer b n settings status → RefusesOne inner (of b) n settings status
    refused_one status (inl a) = inl a
    refused_one status (inr r) =
        inr (r.0, r.1, has_called inner outer MainOpens (of b) b r.0 r.0 (terms_among settings n) settings.workers r.1 (λ x y. says b x y r.0) r.2, r.3, r.4)

-- main's refusal, whatever its client promises
pub refused_whatever : {C T : Type 0} (promise : C → Seat → Seat → T → Type 0) (client : C) (settings : NodeSettings) (status : MtapiStatus)
    → Refuses promise client settings status → Refuses {C = Unit {0}} {T = Unit {0}} (λ _ _ _ _. Unit {0}) tt settings status
refused_whatever promise client settings status (inl a) = inl a
refused_whatever promise client settings status (inr r) =
    inr (
      tt,
      r.1,
      has_called (λ _ _ _ _. Unit {0}) promise MainOpens tt client tt r.0 (terms_of_main settings) settings.workers r.1 (λ a z p. tt) r.2,
      r.3,
      r.4,
    )

-- a failure that is passed on has its cause
pub passed_on : {T : Type 0} (r : Result T Failure) (f : Failure) (P : Failure → Type 0) → r ≡ Err f → P f → IfErr r P
passed_on r f P same p = subst (λ x. IfErr x P) (sym same) p
