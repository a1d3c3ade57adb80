use Rattle.workload_file.proofs.Cited.{◌≡◌, ◌++◌, length, filter, nat_lt, pieces_of, words_of, texts_of_words, left_len}
use Rattle.workload_file.proofs.cut.words_of.Given as goal

abbrev pub invariant-cutting : goal.invariant-cutting
invariant-cutting l = texts_of_words l.words.items ++ filter (λ w. nat_lt 0 (length w)) (pieces_of 32 l.left) ≡ words_of l.line

abbrev pub decreases-cutting : goal.decreases-cutting
decreases-cutting l = left_len l.left
