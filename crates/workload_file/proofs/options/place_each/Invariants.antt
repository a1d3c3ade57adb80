use Rattle.workload_file.proofs.Cited.{◌≡◌, drop, map, list_all, true, is_known, has_twice, fields}
use Rattle.std.specs.Option.{option_copied}
use Rattle.workload_file.specs.Texts.{texts_of_words}
use Rattle.workload_file.specs.Steps.{texts_in}
use Rattle.workload_file.proofs.options.place_each.Given as goal

abbrev pub invariant-words : goal.invariant-words
invariant-words l = (map option_copied l.given.items ≡ texts_in (fields l.fn.word) (texts_of_words (drop l.at l.words)))
    × (l.twice ≡ has_twice (texts_of_words (drop l.at l.words))) × (true ≡ list_all (is_known (fields l.fn.word)) (texts_of_words (drop l.at l.words)))
