-- The field says only that a proof of the piece's condition exists. An entailment is a proposition, so the proof may be opened in front of the
-- walk that Rattle made.
use Rattle.typed_pieces.proofs.Names.{Entails-prop, ∥∥₁_elim, via, mono_r, on_entry, sig_of, fact_mono}
use Rattle.typed_pieces.proofs.workers.Ready.run.Statement.{statement}
use Rattle.typed_pieces.proofs.workers.Ready.run.Lts as lts
use Rattle.typed_pieces.proofs.workers.Ready.run.Reads as reads
use Rattle.typed_pieces.proofs.workers.Ready.run.Tie as tie

pub run_spec : {M : Type 1} → statement M
run_spec {M} =
    tie.close (λ T D R LT LD LR p pd jd dd r rd w met_p drops drops_done met_r 𝓤 𝓛 𝓣 known y.
    ∥∥₁_elim y.0.3.0.ready (Entails-prop 𝓤.op _ _) (λ ready.
    via 𝓤 _ (mono_r 𝓤 (on_entry 𝓛 (sig_of 6 (lts.ps T D R LT LD LR p pd jd dd r rd) (lts.r T D R LT LD LR p pd jd dd r rd)) y.0.0 y.0.1 y.0.3 y.0.4)
    (fact_mono 𝓤 _ (reads.Pre T D R LT LD LR p pd jd dd r rd y.0.0 y.0.3 × p.ready y.0.3.0.piece) (λ lives. (lives, ready))))
    (lts.spec T D R LT LD LR p pd jd dd r rd (tie.the-claims T D R LT LD LR p pd jd dd r rd) (λ κs a. reads.Pre T D R LT LD LR p pd jd dd r rd κs a
    × p.ready a.0.piece) (reads.Post T D R LT LD LR p pd jd dd r rd) (λ c κs l. (l.0, (l.1.0, (l.1.1, c.requires.1)))) (λ c. c.go.ensures)
    (λ κs a q. (q.0.0, (q.0.1.0, (q.0.1.1, tt)))) 𝓤 𝓛 𝓣 known y)))
