use Rattle.node_core.proofs.Names.{subst, Terms, IsKeptJournal, terms_of_node, node_history_of}
use Rattle.node_core.proofs.LogLemmas.{journal_none, journal_has, journal_lost, journal_kept}
use Rattle.node_core.proofs.journaled.Journaled.into_journal.Goals as goal

pub returns-clause-none : goal.returns-clause-none
returns-clause-none c = journal_none _ c.args.self.log.kept c.journal_in.result c.journal_in.ensures

pub returns-clause-terms : goal.returns-clause-terms
returns-clause-terms c =
    journal_has (terms_of_node c.args.self.node) c.args.self.log.kept c.journal_in.result
    (subst (λ (t : Terms). IsKeptJournal t c.args.self.log.kept c.journal_in.result) c.told_terms-terms.ensures.terms c.journal_in.ensures)

pub returns-clause-lost : goal.returns-clause-lost
returns-clause-lost c = journal_lost _ c.args.self.log.kept c.journal_in.result c.journal_in.ensures

pub returns-clause-kept : goal.returns-clause-kept
returns-clause-kept c L st =
    journal_kept (terms_of_node c.args.self.node) c.args.self.log.kept c.journal_in.result L
    (subst (λ (t : Terms). IsKeptJournal t c.args.self.log.kept c.journal_in.result) c.told_terms-terms.ensures.terms c.journal_in.ensures) st.log.kept
    (node_history_of c.args.self.node L st.node)
