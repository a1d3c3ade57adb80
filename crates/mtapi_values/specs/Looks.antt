-- What one look at a resource answers.
use Rattle.std.specs.Prelude.{Bool, true, false, Option, Some, None}
use Rattle.mtapi_values.specs.declared.looks.Look.{Look}
use Rattle.mtapi_values.specs.declared.looks.Look.TheVariants.{Got, Busy, Refused}
use Rattle.mtapi_values.specs.declared.statuses.MrapiStatus.{MrapiStatus}

module _ {T : Type 0} where
  -- a refusal, or that others hold it, or what the look got
  abbrev pub answer : Option MrapiStatus → Bool → T → Look T
  answer (Some c) busy got = Refused c
  answer None true got = Busy
  answer None false got = Got got

  -- the look got the resource
  abbrev pub is_got : Look T → Bool
  is_got (Got _) = true
  is_got Busy = false
  is_got (Refused c) = false
