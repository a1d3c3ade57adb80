use Rattle.std.proofs.Common.{◌≡◌, ℕ, List, Some, refl, sym, ◌∙◌, subst}
use Rattle.std.proofs.lemmas.Bool.Decides.{Decides-eqb}
use Rattle.std.proofs.lemmas.Slice.Eq.{slice_eq-Decides}
use Rattle.workload_file.specs.declared.table.Word.TheVariants.{Start}
use Rattle.workload_file.specs.Table.{statement_row, word_of, word_text}
use Rattle.workload_file.proofs.table.Word.from_text.Goals as goal

starts : (text : List ℕ) → text ≡ word_text Start → Some Start ≡ word_of text
unfolding word_of statement_row
starts text e = subst (λ (t : List ℕ). Some Start ≡ word_of t) (sym e) refl

pub returns-then-eq : goal.returns-then-eq
returns-then-eq c = starts c.args.text.now ((slice_eq-Decides Decides-eqb c.args.text.now c.text.result.now c.eq.result c.eq.ensures).0 c.if-eq.true
    ∙ c.text.ensures)
