-- The field says only that a proof of `IsKeptAt` exists. An entailment is a proposition, so the proof may be opened in front of the walk that
-- Rattle made.
use Rattle.typed_pieces.proofs.Names.{Entails-prop, ∥∥₁_elim, via, mono_r, on_entry, sig_of, fact_mono, refl}
use Rattle.typed_pieces.specs.Places.{IsKeptAt}
use Rattle.nested_pieces.specs.Works.{Came}
use Rattle.nested_pieces.proofs.parts.Ended.into_parts.Statement.{statement}
use Rattle.nested_pieces.proofs.parts.Ended.into_parts.Lts as lts
use Rattle.nested_pieces.proofs.parts.Ended.into_parts.Reads as reads
use Rattle.nested_pieces.proofs.parts.Ended.into_parts.Tie as tie

pub into_parts_spec : {M : Type 1} → statement M
into_parts_spec {M} =
    tie.close (λ A B C D LA LB LC LD n nd p pd bd cd dd w met_n met_p drops drops_done drops_join 𝓤 𝓛 𝓣 y.
    ∥∥₁_elim y.0.3.0.kept (Entails-prop 𝓤.op _ _) (λ kept.
    via 𝓤 _ (mono_r 𝓤 (on_entry 𝓛 (sig_of 5 (lts.ps A B C D LA LB LC LD n nd p pd bd cd dd)
    (lts.r A B C D LA LB LC LD n nd p pd bd cd dd)) y.0.0 y.0.1 y.0.3 y.0.4)
    (fact_mono 𝓤 _ (IsKeptAt (Came p.promise p.joined) y.0.3.0.place.parts.value.value.items y.0.3.0.place.index y.0.3.0.done) (λ _. kept)))
    (lts.spec A B C D LA LB LC LD n nd p pd bd cd dd (λ κs a. IsKeptAt (Came p.promise p.joined) a.0.place.parts.value.value.items a.0.place.index a.0.done)
    (reads.Post A B C D LA LB LC LD n nd p pd bd cd dd) (λ c. (c.requires, refl)) 𝓤 𝓛 𝓣 y)))
