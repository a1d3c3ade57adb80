use Rattle.mtapi_top.proofs.Names.{◌≡◌, ℕ, List, sym, subst, Ok, Asked, IsReadAgain}
use Rattle.journal_text.specs.Journals.{journal_of}
use Rattle.mtapi_top.proofs.Kept.{writable}
use Rattle.mtapi_top.proofs.run_output.output_of.Goals as goal

pub returns-in_ok-extend_from_slice-in-Journal-clause-again : goal.returns-in_ok-extend_from_slice-in-Journal-clause-again
returns-in_ok-extend_from_slice-in-Journal-clause-again c =
    subst (λ (asked : Asked). IsReadAgain asked c.args.journal.now) (sym c.in-Journal.is)
    (subst (λ (text : List ℕ). journal_of text ≡ Ok c.args.journal.now) c.in_ok-lines-in-Journal.ensures.text
    (c.in_ok-lines-in-Journal.ensures.again (writable c.args.load.now c.args.journal.now c.requires.formed c.requires.run)))
