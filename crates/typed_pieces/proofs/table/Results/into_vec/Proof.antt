-- The field says only that a proof of `AreKept` exists. An entailment is a proposition, so the proof may be opened in front of the walk that
-- Rattle made.
use Rattle.typed_pieces.proofs.Names.{Entails-prop, ∥∥₁_elim, via, mono_r, on_entry, sig_of, fact_mono, AreKept}
use Rattle.typed_pieces.proofs.table.Results.into_vec.Statement.{statement}
use Rattle.typed_pieces.proofs.table.Results.into_vec.Lts as lts
use Rattle.typed_pieces.proofs.table.Results.into_vec.Reads as reads
use Rattle.typed_pieces.proofs.table.Results.into_vec.Tie as tie

pub into_vec_spec : {M : Type 1} → statement M
into_vec_spec {M} =
    tie.close (λ A B C LA LB LC h hd p pd bd cd w met_h met_p drops drops_done 𝓤 𝓛 𝓣 y.
    ∥∥₁_elim y.0.3.0.kept (Entails-prop 𝓤.op _ _) (λ kept.
    via 𝓤 _ (mono_r 𝓤 (on_entry 𝓛 (sig_of 3 (lts.ps A B C LA LB LC h hd p pd bd cd) (lts.r A B C LA LB LC h hd p pd bd cd)) y.0.0 y.0.1 y.0.3 y.0.4)
    (fact_mono 𝓤 _ (AreKept p.promise h.pieces y.0.3.0.done.items) (λ _. kept)))
    (lts.spec A B C LA LB LC h hd p pd bd cd (λ κs a. AreKept p.promise h.pieces a.0.done.items) (reads.Post A B C LA LB LC h hd p pd bd cd)
    (λ c. (c.requires, c.args.self.places)) 𝓤 𝓛 𝓣 y)))
