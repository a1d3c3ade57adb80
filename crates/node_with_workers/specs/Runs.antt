-- What a node gives back.
use Rattle.std.specs.Prelude.{◌≡◌, ◌⊎◌, ◌+◌, ◌<◌, ℕ, suc, List, [], ◌∷◌, ◌++◌, length}
use Rattle.history.specs.Histories.{entry, entries_of}
use Rattle.mtapi_values.specs.Attributes.{NodeSettings}
use Rattle.mtapi_values.specs.declared.handles.Layout.TheVariants.{Two}
use Rattle.mtapi_values.specs.declared.statuses.MtapiStatus.{MtapiStatus}
use Rattle.mtapi_machine.specs.declared.ops.Op.TheVariants.{Close, Final}
use Rattle.mtapi_machine.specs.declared.replies.Reply.{Reply}
use Rattle.mtapi_machine.specs.declared.replies.Reply.TheVariants as reply
use Rattle.mtapi_machine.specs.declared.terms.Terms.{Terms}
use Rattle.mtapi_machine.specs.State.{terms_with}
use Rattle.mtapi_machine.specs.Legal.{NodeEntry, Legal}
use Rattle.node_journals.specs.declared.entries.Journal.{Journal}
use Rattle.node_core.specs.Keeping.{KeptAs}
use Rattle.workload_runners.specs.Turns.{Seat}
use Rattle.workload_runners.specs.Rounds.{WorkerAs}
use Rattle.workload_runners.specs.Ran.{MainEnds, StandsIn}
use Rattle.node_with_workers.specs.Clients.{MainOpens, CallerEnters, HasCalled, IsCallRefused, IsNotOpened, IsKeptOut}

-- the terms of a node with these settings, main and so many further callers
abbrev pub terms_among : NodeSettings → ℕ → Terms
terms_among settings others = terms_with Two settings (others + 1)

-- and main alone
abbrev pub terms_of_main : NodeSettings → Terms
terms_of_main settings = terms_with Two settings 1

-- In this history of a node with these terms main made these calls; then it began the end, later it ended the node, which was answered `last`,
-- and it made no other call. All calls of the further callers stand before main began the end. The entries of each worker are such rounds, all
-- before main ended the node.
pub record HasEndedBy (rounds : ℕ → List NodeEntry → Type 0) (t : Terms) (history mine : List NodeEntry) (last : Reply) : Type 0 where
  pub close : Reply
  pub main : MainEnds t.settings.workers history mine close last
  pub further : (k : ℕ) → t.settings.workers < k → k < t.settings.workers + t.callers
      → StandsIn k main.before (entry t.settings.workers Close close ∷ (main.behind ++ entry t.settings.workers Final last ∷ main.rest)) (entries_of k history)
  pub worked : (k : ℕ) → k < t.settings.workers → rounds k (entries_of k history)
      × StandsIn k (main.before ++ entry t.settings.workers Close close ∷ main.behind) (entry t.settings.workers Final last ∷ main.rest) (entries_of k history)

-- the same, where each worker made rounds and was told to stop
abbrev pub RunHasEnded : Terms → List NodeEntry → List NodeEntry → Reply → Type 0
RunHasEnded t history mine last = HasEndedBy WorkerAs t history mine last

-- main's entries are those of its client, one that begins the end, and one that ends the node
abbrev pub MainEndsOnce : Type 0
MainEndsOnce = (t : Terms) (history mine : List NodeEntry) (last : Reply) (x : RunHasEnded t history mine last)
    → entries_of t.settings.workers history
    ≡ mine ++ entry t.settings.workers Close x.close ∷ entry t.settings.workers Final last ∷ []

-- There is one legal history of such a node. The journal is what is kept of it. In it main opened the node, the client's promise holds of main's
-- seat before its calls and after them, and of what it was told; and behind these calls main ended the node, and the workers' entries are such
-- rounds.
pub record IsRunBy {C T : Type 0} (rounds : ℕ → List NodeEntry → Type 0) (promise : C → Seat → Seat → T
    → Type 0) (client : C) (settings : NodeSettings) (told : T) (j : Journal) : Type 0 where
  pub history : List NodeEntry
  pub legal : Legal (terms_of_main settings) history
  pub kept : KeptAs (terms_of_main settings) j history
  pub mine : List NodeEntry
  pub called : HasCalled MainOpens promise client (terms_of_main settings) settings.workers told mine
  pub ended : HasEndedBy rounds (terms_of_main settings) history mine reply.Ok

-- the same, where each worker made rounds and was told to stop
abbrev pub IsClientRun : {C T : Type 0} → (C → Seat → Seat → T → Type 0) → C → NodeSettings → T → Journal → Type 0
IsClientRun promise client settings told j = IsRunBy WorkerAs promise client settings told j

-- In this history of a node with these terms the callers with the numbers from this one on were let in, and the promises of these clients hold,
-- one for each caller, of its seat before its calls and after them, and of what it was told.
abbrev pub HaveCalled : {D U : Type 0} → (D → Seat → Seat → U → Type 0) → Terms → List NodeEntry → ℕ → List D → List U → Type 0
HaveCalled promise t history who [] [] = Unit {0}
HaveCalled promise t history who (d ∷ ds) (u ∷ us) =
    HasCalled CallerEnters promise d t who u (entries_of who history) × HaveCalled promise t history (suc who) ds us
HaveCalled promise t history who _ _ = ⊥

-- There is one legal history of a node with main and a further caller for each of the other clients. The journal is what is kept of it. In it main
-- opened the node and let the others in, the promises of all clients hold, each of the seat of its caller before its calls and after them, and
-- of what it was told; and behind all these calls main ended the node, and the workers' entries are such rounds. The further callers have the
-- numbers behind main's, in their order.
pub record IsRunOfAllBy {C D T U : Type 0} (rounds : ℕ → List NodeEntry → Type 0) (promise : C → Seat → Seat → T → Type 0) (further : D → Seat → Seat → U
    → Type 0) (client : C) (others : List D) (settings : NodeSettings) (told : T) (others_told : List U) (j : Journal) : Type 0 where
  pub history : List NodeEntry
  pub legal : Legal (terms_among settings (length others)) history
  pub kept : KeptAs (terms_among settings (length others)) j history
  pub mine : List NodeEntry
  pub called : HasCalled MainOpens promise client (terms_among settings (length others)) settings.workers told mine
  pub ended : HasEndedBy rounds (terms_among settings (length others)) history mine reply.Ok
  pub others_called : HaveCalled further (terms_among settings (length others)) history (settings.workers + 1) others others_told

-- the same, where each worker made rounds and was told to stop
abbrev pub IsRunOfAll : {C D T U : Type 0} → (C → Seat → Seat → T → Type 0) → (D → Seat → Seat → U → Type 0) → C → List D → NodeSettings → T
    → List U → Journal → Type 0
IsRunOfAll promise further client others settings told others_told j = IsRunOfAllBy WorkerAs promise further client others settings told others_told j

-- main couldn't open the node, or one of so many further callers wasn't let in
abbrev pub AreRefused : Terms → ℕ → MtapiStatus → Type 0
AreRefused t others status = IsNotOpened t t.settings.workers status ⊎ ((k : ℕ) × (k < others) × IsKeptOut t (t.settings.workers + 1 + k) status)

-- main, which has called a node with these terms and then begun its end, was refused the end with this status
abbrev pub IsNotEnded : {C T : Type 0} → (C → Seat → Seat → T → Type 0) → C → Terms → MtapiStatus → Type 0
IsNotEnded {C} {T} promise client t status =
    (told : T) × (mine : List NodeEntry) × HasCalled MainOpens promise client t t.settings.workers told mine
    × (close : Reply) × IsCallRefused t t.settings.workers (mine ++ entry t.settings.workers Close close ∷ []) Final status

-- Main's opening of such a node was refused with this status; or its end was, after the client's calls.
abbrev pub Refuses : {C T : Type 0} → (C → Seat → Seat → T → Type 0) → C → NodeSettings → MtapiStatus → Type 0
Refuses promise client settings status =
    IsNotOpened (terms_of_main settings) settings.workers status ⊎ IsNotEnded promise client (terms_of_main settings) status

-- The same of a node with so many further callers, or one of them wasn't let in.
abbrev pub RefusesOne : {C T : Type 0} → (C → Seat → Seat → T → Type 0) → C → ℕ → NodeSettings → MtapiStatus → Type 0
RefusesOne promise client others settings status =
    AreRefused (terms_among settings others) others status ⊎ IsNotEnded promise client (terms_among settings others) status
