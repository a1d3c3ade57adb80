-- Totals, one number after another.
use Rattle.run_report.proofs.Names.{◌≡◌, ℤ, sym, ◌∙◌, ap, Totals, with_summand}

abbrev with_sum : Totals → ℤ → Totals
with_sum t s = record t { sum = s }

-- a number changes the sum alone
pub kept_more : (first t next : Totals) (z : ℤ) → t ≡ record first { sum = t.sum } → next ≡ with_summand t z → next ≡ record first { sum = next.sum }
kept_more first t next z kept is = is ∙ ap (λ (x : Totals). with_summand x z) kept ∙ ap (with_sum first) (sym (ap (λ (x : Totals). x.sum) is))
