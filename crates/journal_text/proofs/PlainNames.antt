-- The names of statuses consist of ASCII characters.
use Rattle.std.proofs.lemmas.Bool.Decides.{nat_tests}
use Rattle.std.proofs.Common.{arith, ◌≡◌, true}
use Rattle.std.specs.Prelude.{nat_le}
use Rattle.std.specs.List.{list_all}
use Rattle.mtapi_values.specs.declared.statuses.MtapiStatus.{MtapiStatus}
use Rattle.mtapi_values.specs.declared.statuses.MrapiStatus.{MrapiStatus}
use Rattle.mtapi_values.specs.Statuses.{mtapi_name, mrapi_name}

pub mtapi_plain : (s : MtapiStatus) → list_all (λ b. nat_le b 127) (mtapi_name s) ≡ true
mtapi_plain s = grind (arith, nat_tests)

pub mrapi_plain : (s : MrapiStatus) → list_all (λ b. nat_le b 127) (mrapi_name s) ≡ true
mrapi_plain s = grind (arith, nat_tests)
