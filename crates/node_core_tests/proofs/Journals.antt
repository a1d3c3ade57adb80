-- The journal of a node's history is legal, under the terms that it names.
use Rattle.std.proofs.Common.{List, sym, subst}
use Rattle.mtapi_values.specs.Attributes.{NodeSettings}
use Rattle.mtapi_values.specs.declared.handles.Layout.{Layout}
use Rattle.mtapi_machine.specs.declared.terms.Terms.{Terms}
use Rattle.mtapi_machine.specs.State.{terms_with}
use Rattle.mtapi_machine.specs.Legal.{NodeEntry, Legal}
use Rattle.node_journals.specs.declared.entries.Journal.{Journal}
use Rattle.node_core.specs.Keeping.{KeptAs}
use Rattle.node_core_tests.specs.Journals.{HasLegalEntries}

pub kept_legal : (t : Terms) (j : Journal) (L : List NodeEntry) → KeptAs t j L → HasLegalEntries j
kept_legal t j L k =
    subst (λ (a : Layout). Legal (terms_with a j.settings j.callers) j.entries.entries) (sym k.layout)
    (subst (λ (a : NodeSettings). Legal (terms_with t.layout a j.callers) j.entries.entries) (sym k.settings)
    (subst (λ a. Legal (terms_with t.layout t.settings a) j.entries.entries) (sym k.callers) k.legal))
