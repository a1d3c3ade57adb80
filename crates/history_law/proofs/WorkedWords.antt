-- The words of the laws, by computing.
use Rattle.history_law.proofs.Names.{arith, nat_tests}
use Rattle.history_law.specs.Order.{number_at}
use Rattle.history_law.specs.Quiet.{task_at}
use Rattle.history_law.specs.Tally.{record_of}
use Rattle.history_law.specs.WorkedWords.{WorkedOps, WorkedHandled, WorkedWordReplies, WorkedEntries, WorkedLists, WorkedWords}

ops : WorkedOps
ops = grind (arith, nat_tests)

handled : WorkedHandled
handled = grind (arith, nat_tests)

replies : WorkedWordReplies
replies = grind (arith, nat_tests)

entries : WorkedEntries
entries = grind (arith, nat_tests)

lists : WorkedLists
unfolding number_at task_at record_of
lists = grind (arith, nat_tests)

pub worked_words : WorkedWords
worked_words = record { ops = ops; handled = handled; replies = replies; entries = entries; lists = lists }
