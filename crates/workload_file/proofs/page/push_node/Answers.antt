use Rattle.workload_file.proofs.Cited.{on_ok}
use Rattle.workload_file.proofs.Phrases.{words_more}
use Rattle.workload_file.proofs.page.push_node.Goals as goal

pub returns : goal.returns
returns c = rw (c.text.ensures, c.fields.ensures, c.deref.ensures.value, c.in_ok-values.ensures) at (on_ok c.push_options.result _ _
    (λ e. words_more c.args.out.now.items c.extend_from_slice.new.self.items c.push_options.new.out.items c.text.result.now _
    c.in_ok-extend_from_slice.ensures.items e) c.push_options.ensures)
