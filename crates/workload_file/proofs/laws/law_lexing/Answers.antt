use Rattle.workload_file.proofs.Alike.{blank_adds, comment_adds, inner_space, first_space, last_space, swapped_adds, written_adds, texts_alike}
use Rattle.workload_file.proofs.laws.law_lexing.Goals as goal

pub returns : goal.returns
returns c = search (blank_adds, comment_adds, inner_space, first_space, last_space, swapped_adds, written_adds, texts_alike)
