-- The line of a number, found by going on from line to line.
use Rattle.std.proofs.Common.{◌≡◌, ℕ, zero, suc, ◌-◌, List, [], ◌∷◌, refl, arith}
use Rattle.journal_reasons.specs.Pages.{nth_line}

pub at_first : (lines rest : List (List ℕ)) (line x : List ℕ) (above : ℕ) → above ≡ 0 → lines ≡ line ∷ rest → nth_line lines above ≡ x → line ≡ x
unfolding nth_line
at_first lines rest line x above none same so_far = rw (none, same) at so_far

pub past_last : (lines : List (List ℕ)) (line x : List ℕ) (above : ℕ) → (above ≡ 0 → ⊥) → lines ≡ line ∷ [] → nth_line lines above ≡ x → [] ≡ x
unfolding nth_line
past_last lines line x zero some same so_far = absurd (some refl)
past_last lines line x (suc above) some same so_far = rw same at so_far

pub at_next : (lines rest : List (List ℕ)) (line x : List ℕ) (above : ℕ) → (above ≡ 0 → ⊥) → lines ≡ line ∷ rest → nth_line lines above ≡ x
    → nth_line rest (above - 1) ≡ x
unfolding nth_line
at_next lines rest line x zero some same so_far = absurd (some refl)
at_next lines rest line x (suc above) some same so_far =
    let one : suc above - 1 ≡ above = omega arith in
    rw one (rw same at so_far)
