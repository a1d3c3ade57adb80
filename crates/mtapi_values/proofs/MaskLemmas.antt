-- One bit set or cleared, as a set of cores.
use Rattle.std.proofs.Common.{◌≡◌, ◌≢◌, ℕ, ◌*◌, ◌%◌, ◌^◌, ◌<◌, Bool, true, false, nat_eq, bit_and, bit_or, refl, sym, ap, ◌∙◌, w64}
use Rattle.std.specs.Prelude.{if◌then◌else◌}
use Rattle.std.specs.Int.{bit_at, bit_not}
use Rattle.std.proofs.lemmas.Bool.{eqb-true, eqb-false}
use Rattle.std.proofs.lemmas.Nat.Bits.{bit_at_set_same, bit_at_set_other, bit_at_clear_same, bit_at_clear_other}
use Rattle.mtapi_values.specs.Masks.{in_mask, SetsCore}

-- a mask whose bit of one core says `on`, and whose other bits are as before
from_bits : (core old new : ℕ) (on : Bool) → in_mask core new ≡ on → ((other : ℕ) → other < 64 → other ≢ core → bit_at new other ≡ bit_at old other)
    → SetsCore core on old new
from_bits core old new on same others other lt =
    elim (nat_eq other core) as (λ b. nat_eq other core ≡ b → in_mask other new ≡ (if b then on else in_mask other old)) [
      | true ↦ λ is. ap (λ k. in_mask k new) (eqb-true other core is) ∙ same
      | false ↦ λ is. ap (λ b. nat_eq b 1) (others other lt (eqb-false other core is))
    ] refl

pub set_core : (core bits : ℕ) (on : Bool) → core < 64 → on ≡ true → SetsCore core on bits (bit_or bits (1 * 2 ^ core % 2 ^ 64))
set_core core bits on lt is =
    from_bits core bits _ on (ap (λ b. nat_eq b 1) (bit_at_set_same w64 bits core lt)
    ∙ sym is) (λ other below differs. bit_at_set_other w64 bits core lt other differs)

pub clear_core : (core bits : ℕ) (on : Bool) → core < 64 → on ≡ false → SetsCore core on bits (bit_and bits (bit_not w64 (1 * 2 ^ core % 2 ^ 64)))
clear_core core bits on lt is =
    from_bits core bits _ on (ap (λ b. nat_eq b 1) (bit_at_clear_same w64 bits core lt)
    ∙ sym is) (λ other below differs. bit_at_clear_other w64 bits core lt other below differs)
