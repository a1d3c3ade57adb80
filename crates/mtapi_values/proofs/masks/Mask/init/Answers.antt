-- Each of the 64 bits of the greatest number is set.
use Rattle.std.proofs.Common.{nat_eq, ap, sym, ◌∙◌}
use Rattle.std.proofs.lemmas.Nat.Bits.{bit_at_ones}
use Rattle.mtapi_values.proofs.masks.Mask.init.Goals as goal

pub returns-then-all-clause-cores : goal.returns-then-all-clause-cores
returns-then-all-clause-cores c = λ core lt. ap (λ b. nat_eq b 1) (bit_at_ones 64 core lt) ∙ sym c.if-all.true
