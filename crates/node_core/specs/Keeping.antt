-- What a journal keeps of a history.
use Rattle.std.specs.Prelude.{◌≡◌, List}
use Rattle.mtapi_machine.specs.declared.terms.Terms.{Terms}
use Rattle.mtapi_machine.specs.State.{opening}
use Rattle.mtapi_machine.specs.Legal.{NodeEntry, Legal, after}
use Rattle.mtapi_machine.specs.Kept.{kept, skipped, no_counts}
use Rattle.node_journals.specs.declared.entries.Journal.{Journal}

-- the journal of a list: the node's terms, and the kept entries with their numbers, which are legal, and lead to the same state
pub record KeptAs (t : Terms) (j : Journal) (L : List NodeEntry) : Type 0 where
  pub layout : j.layout ≡ t.layout
  pub settings : j.settings ≡ t.settings
  pub callers : j.callers ≡ t.callers
  pub entries : j.entries.entries ≡ kept (opening t) L
  pub numbers : j.entries.skipped ≡ skipped (opening t) no_counts L
  pub legal : Legal t j.entries.entries
  pub leads : after t j.entries.entries ≡ after t L
