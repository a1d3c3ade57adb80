-- What a node gives back is what its callers were told, and what main's last call was answered.
use Rattle.std.specs.Prelude.{◌≡◌, ◌⊎◌, List, ◌∷◌, ◌++◌, map, Result, Ok, Err}
use Rattle.mtapi_values.specs.declared.statuses.MtapiStatus.{MtapiStatus}
use Rattle.mtapi_machine.specs.declared.replies.Reply.{Reply}
use Rattle.mtapi_machine.specs.declared.replies.Reply.TheVariants as reply
use Rattle.workload_runners.specs.declared.crew.run.RanNode.{RanNode}
use Rattle.workload_runners.specs.declared.run.RunError.{RunError}
use Rattle.workload_runners.specs.declared.run.RunError.TheVariants as error
use Rattle.node_with_workers.specs.declared.failure.Failure.{Failure}
use Rattle.node_with_workers.specs.declared.failure.Failure.TheVariants as failure
use Rattle.node_with_workers.specs.declared.failure.NodeFailure.{NodeFailure}
use Rattle.node_with_workers.specs.declared.failure.NodeFailure.TheVariants as node
use Rattle.node_with_workers.specs.declared.run.AllDone.{AllDone}

-- the first of these that wasn't told anything failed so
pub record IsFirstLost {U : Type 0} (rs : List (Result U Failure)) (f : Failure) : Type 0 where
  pub told : List U
  pub rest : List (Result U Failure)
  pub all : rs ≡ map Ok told ++ Err f ∷ rest

-- there was no memory, or one of them failed so
abbrev pub IsLostOf : {U : Type 0} → List (Result U Failure) → Failure → Type 0
IsLostOf rs f = (f ≡ failure.Memory) ⊎ IsFirstLost rs f

-- the failure is that this refused
pub record IsRefusal (last : Reply) (f : Failure) : Type 0 where
  pub status : MtapiStatus
  pub answered : last ≡ reply.Mtapi status
  pub is : f ≡ failure.Refused status

-- all callers were told something, and main ended the node
pub record IsUnpacked {T U A : Type 0} (r : RanNode (Result T Failure) (Result U Failure) A) (d : AllDone T U A) : Type 0 where
  pub told : r.told ≡ Ok d.told
  pub others : map Ok d.others.items ≡ r.others.items
  pub last : r.last ≡ reply.Ok
  pub journal : d.journal ≡ r.journal
  pub sets : d.sets ≡ r.sets

-- main's client was told something, and main was refused the end
pub record IsUnended {T U A : Type 0} (r : RanNode (Result T Failure) (Result U Failure) A) (f : Failure) : Type 0 where
  pub value : T
  pub told : r.told ≡ Ok value
  pub refusal : IsRefusal r.last f

-- main failed so, or one of the others; or main was refused the end
abbrev pub IsUnpackedTo : {T U A : Type 0} → RanNode (Result T Failure) (Result U Failure) A → Failure → Type 0
IsUnpackedTo r f = (r.told ≡ Err f) ⊎ (IsLostOf r.others.items f ⊎ IsUnended r f)

-- why there is no journal of a node
abbrev pub IsFailureOf : RunError → NodeFailure → Type 0
IsFailureOf (error.Refused main) e = e ≡ node.NoThread main
IsFailureOf (error.Spent spent) e = e ≡ node.Failed (failure.Spent spent)
IsFailureOf error.Memory e = e ≡ node.Failed failure.Memory

-- the same, with what shows that a thread was refused
abbrev pub IsShownAs : NodeFailure → Failure → Type 0
IsShownAs (node.NoThread main) (failure.NoThread shown) = shown.main ≡ main
IsShownAs (node.NoThread main) _ = ⊥
IsShownAs (node.Failed f) e = e ≡ f
