-- Of the run of a node whose workers' tasks start tasks.
use Rattle.typed_pieces.proofs.Names.{◌≡◌, Result, Ok, Err, IfOk, IfErr, inl, inr, subst, NodeSettings, MtapiStatus, Journal, Seat, IfRefused, HasAwaited, StopsAt, refused_weaker}
use Rattle.node_with_workers.specs.Runs.{IsRunBy, Refuses}
use Rattle.node_with_workers.specs.declared.failure.Failure.{Failure}
use Rattle.nested_workers.specs.Rounds.{NestsAs}
use Rattle.typed_pieces.proofs.Callers.{refused_whatever, run_says}
use Rattle.nested_pieces.specs.Runs.{HasRunNested, RefusesNested}

-- what the client of the root promises
abbrev pub AwaitsRoot : {C : Type 0} → C → Seat → Seat → Result (Unit {0}) MtapiStatus → Type 0
AwaitsRoot client old new told = IfOk told (λ _. HasAwaited 1 old new) × IfErr told (λ status. StopsAt 1 status old new)

pub has_run_nested : {C : Type 0} (client : C) (settings : NodeSettings) (told : Result (Unit {0}) MtapiStatus) (u : Unit {0}) (j : Journal)
    → IsRunBy NestsAs AwaitsRoot client settings told j → told ≡ Ok u → HasRunNested settings j
has_run_nested client settings told u j r is =
    run_says {C = Unit {0}} {T = Unit {0}} (λ _ old new _. HasAwaited 1 old new) AwaitsRoot tt client tt told settings j
    (λ a z p. subst (λ (x : Result (Unit {0}) MtapiStatus). IfOk x (λ _. HasAwaited 1 a z)) is p.0) r

pub told_why_nested : {C : Type 0} (client : C) (settings : NodeSettings) (told : Result (Unit {0}) MtapiStatus) (status : MtapiStatus) (j : Journal)
    → IsRunBy NestsAs AwaitsRoot client settings told j → told ≡ Err status → RefusesNested settings status
told_why_nested client settings told status j r is =
    inr (
      j,
      run_says {C = Unit {0}} {T = MtapiStatus} (λ _ old new refused. StopsAt 1 refused old new) AwaitsRoot tt client status told settings j
          (λ a z p. subst (λ (x : Result (Unit {0}) MtapiStatus). IfErr x (λ s. StopsAt 1 s a z)) is p.1) r,
    )

pub node_why_nested : {C : Type 0} (client : C) (settings : NodeSettings) (f : Failure)
    → IfRefused f (Refuses AwaitsRoot client settings) → IfRefused f (RefusesNested settings)
node_why_nested client settings f =
    refused_weaker (Refuses AwaitsRoot client settings) (RefusesNested settings) f (λ s r. inl (refused_whatever AwaitsRoot client settings s r))
