-- What a node that threads ran gives back.
use Rattle.std.specs.Prelude.{◌≡◌, ◌+◌, ◌<◌, ℕ, suc, List, [], ◌∷◌, ◌++◌}
use Rattle.history.specs.Histories.{entry, entries_of}
use Rattle.mtapi_machine.specs.declared.ops.Op.TheVariants.{Close, Final}
use Rattle.mtapi_machine.specs.declared.replies.Reply.{Reply}
use Rattle.mtapi_machine.specs.declared.terms.Terms.{Terms}
use Rattle.mtapi_machine.specs.Legal.{NodeEntry, Legal}
use Rattle.node_core.specs.Keeping.{KeptAs}
use Rattle.workload_runners.specs.declared.crew.run.RanNode.{RanNode}

-- main, with this number, made these calls; then it began the end, later it ended the node, and made no other call
pub record MainEnds (w : ℕ) (history own : List NodeEntry) (close last : Reply) : Type 0 where
  pub before : List NodeEntry
  pub behind : List NodeEntry
  pub rest : List NodeEntry
  pub is : history ≡ before ++ entry w Close close ∷ (behind ++ entry w Final last ∷ rest)
  pub main_before : entries_of w before ≡ own
  pub main_behind : entries_of w behind ≡ []
  pub main_rest : entries_of w rest ≡ []

-- all entries of this seat stand in front, where behind comes this
pub record StandsIn (who : ℕ) (front behind mine : List NodeEntry) : Type 0 where
  pub there : entries_of who front ≡ mine
  pub none : entries_of who behind ≡ []

-- The promises of these clients hold, one for each further caller from this number on, of what it was told and of its entries, all of which stand
-- in front of the begin of the end.
abbrev pub EachCalled : {D U : Type 0} → (D → Terms → ℕ → U → List NodeEntry → Type 0) → Terms → (history front behind : List NodeEntry) → ℕ → List D
    → List U → Type 0
EachCalled Q t history front behind who [] [] = Unit {0}
EachCalled Q t history front behind who (d ∷ ds) (u ∷ us) =
    (Q d t who u (entries_of who history) × StandsIn who front behind (entries_of who history)) × EachCalled Q t history front behind (suc who) ds us
EachCalled Q t history front behind who _ _ = ⊥

-- There is one legal history of the node. The journal is what is kept of it. In it main's promise holds of what it was told and of the calls that
-- it made before it began the end; behind these it made only the end, and was answered `last`. The promises of the further callers hold, and all
-- their calls stand before main began the end. The entries of each worker are such as W says, all
-- before main ended the node.
pub record RanAs {C D T U A : Type 0} (W : ℕ → List NodeEntry → Type 0) (P : C → Terms → ℕ → T → List NodeEntry → Type 0) (Q : D → Terms → ℕ → U
    → List NodeEntry → Type 0) (client : C) (others : List D) (t : Terms) (r : RanNode T U A) : Type 0 where
  pub history : List NodeEntry
  pub legal : Legal t history
  pub kept : KeptAs t r.journal history
  pub own : List NodeEntry
  pub close : Reply
  pub ends : MainEnds t.settings.workers history own close r.last
  pub main : P client t t.settings.workers r.told own
  pub called : EachCalled Q t history ends.before (entry t.settings.workers Close close ∷ (ends.behind ++ entry t.settings.workers Final r.last ∷ ends.rest))
      (t.settings.workers + 1) others r.others.items
  pub worked : (k : ℕ) → k < t.settings.workers → W k (entries_of k history)
      × StandsIn k (ends.before ++ entry t.settings.workers Close close ∷ ends.behind) (entry t.settings.workers Final r.last
      ∷ ends.rest) (entries_of k history)
