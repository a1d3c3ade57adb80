-- What a journal that a node made is to the laws.
use Rattle.node_journals.specs.declared.entries.Journal.{Journal}
use Rattle.mtapi_machine.specs.State.{terms_with}
use Rattle.mtapi_machine.specs.Legal.{Legal}

-- its entries are a legal history of a node with its terms
abbrev pub HasLegalEntries : Journal → Type 0
HasLegalEntries j = Legal (terms_with j.layout j.settings j.callers) j.entries.entries
