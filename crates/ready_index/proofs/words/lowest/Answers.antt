use Rattle.std.proofs.Common.{w64, arith}
use Rattle.std.proofs.lemmas.Nat.Bits.{bit_at-trailing_zeros}
use Rattle.ready_index.proofs.words.lowest.Goals as goal

pub returns-else-word-eq0-clause-found : goal.returns-else-word-eq0-clause-found
returns-else-word-eq0-clause-found c =
    let found = bit_at-trailing_zeros w64 c.args.word (omega arith) (omega arith) in
    (found.0, found.1)
