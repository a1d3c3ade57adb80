-- The lists of values that have names: each has every value.
use Rattle.std.proofs.Common.{◌≡◌, Some, refl}
use Rattle.mtapi_values.specs.declared.statuses.MtapiStatus.{MtapiStatus}
use Rattle.mtapi_values.specs.declared.statuses.MrapiStatus.{MrapiStatus}
use Rattle.mtapi_values.specs.declared.statuses.MtapiStatus.TheVariants as t
use Rattle.mtapi_values.specs.declared.statuses.MrapiStatus.TheVariants as r
use Rattle.mtapi_values.specs.declared.kinds.Kind.{Kind}
use Rattle.mtapi_values.specs.declared.kinds.Kind.TheVariants as k
use Rattle.mtapi_values.specs.Statuses.{mtapi_name, mrapi_name, mtapi_all, mrapi_all}
use Rattle.mtapi_values.specs.Kinds.{kind_word, kind_all}
use Rattle.mtapi_values.proofs.NameLemmas.{FindsEach, found_by}

mtapi_own : (x : MtapiStatus) → found_by mtapi_name mtapi_all (mtapi_name x) ≡ Some x
mtapi_own t.Success = refl
mtapi_own _ = refl

pub mtapi_finds_each : FindsEach mtapi_name mtapi_all
mtapi_finds_each = record { own = mtapi_own }

mrapi_own : (x : MrapiStatus) → found_by mrapi_name mrapi_all (mrapi_name x) ≡ Some x
mrapi_own r.Success = refl
mrapi_own _ = refl

pub mrapi_finds_each : FindsEach mrapi_name mrapi_all
mrapi_finds_each = record { own = mrapi_own }

kind_own : (x : Kind) → found_by kind_word kind_all (kind_word x) ≡ Some x
kind_own k.Add = refl
kind_own _ = refl

pub kind_finds_each : FindsEach kind_word kind_all
kind_finds_each = record { own = kind_own }
