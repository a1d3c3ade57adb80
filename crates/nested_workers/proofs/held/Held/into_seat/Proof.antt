-- The field says only that a proof of `Since` exists. An entailment is a proposition, so the proof may be opened in front of the walk that
-- Rattle made.
use base.Logic.{mono_r, via}
use borrow.Fn.Kinds.{sig_of}
use contract.Monad.{fact_mono}
use denote.Triple.Entry.{on_entry}
use mathlib.Core.Logic.{∥∥₁_elim}
use seplogic.Bi.Basic.{Entails-prop}
use Rattle.nested_workers.specs.Starts.{Since}
use Rattle.nested_workers.proofs.held.Held.into_seat.Statement.{statement}
use Rattle.nested_workers.proofs.held.Held.into_seat.Lts as lts
use Rattle.nested_workers.proofs.held.Held.into_seat.Reads as reads
use Rattle.nested_workers.proofs.held.Held.into_seat.Tie as tie

pub into_seat_spec : {M : Type 1} → statement M
into_seat_spec {M} =
    tie.close (λ A LA b bd w met_b 𝓤 𝓛 𝓣 y.
    ∥∥₁_elim y.0.3.0.since (Entails-prop 𝓤.op _ _) (λ since.
    via 𝓤 _ (mono_r 𝓤 (on_entry 𝓛 (sig_of 2 (lts.ps A LA b bd) (lts.r A LA b bd)) y.0.0 y.0.1 y.0.3 y.0.4)
    (fact_mono 𝓤 _ (Since b.began y.0.3.0.seat) (λ _. since)))
    (lts.spec A LA b bd (λ κs a. Since b.began a.0.seat) (reads.Post A LA b bd)
    (λ c. c.requires) 𝓤 𝓛 𝓣 y)))
