-- What the search finds has the name, by the rule for a list that has each value.
use Rattle.mtapi_values.proofs.NameLemmas.{known_by_name, unknown_by_name}
use Rattle.mtapi_values.proofs.ValueTables.{kind_finds_each}
use Rattle.mtapi_values.specs.Kinds.{kind_named}
use Rattle.mtapi_values.proofs.kinds.Kind.from_word.Goals as goal

pub returns-clause-value : goal.returns-clause-value
unfolding kind_named
returns-clause-value c = c.value_named.ensures

pub returns-clause-known : goal.returns-clause-known
returns-clause-known c = known_by_name kind_finds_each _ _ c.value_named.ensures

pub returns-clause-unknown : goal.returns-clause-unknown
returns-clause-unknown c = unknown_by_name kind_finds_each _ _ c.value_named.ensures
