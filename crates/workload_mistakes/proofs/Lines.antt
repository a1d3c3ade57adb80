-- Lines that are written one after the other.
use Rattle.workload_mistakes.proofs.Names.{◌≡◌, ℕ, ◌+◌, ◌≤◌, List, [], ◌∷◌, ◌++◌, Bool, length, Option, Some, None, refl, ◌∙◌, arith, append_assoc, ◌==◌, is_some, if◌then◌else◌, join_with_byte, between, pieces_of, ap, replicate}
use Rattle.std.proofs.lemmas.List.{append-nil}
use Rattle.std.proofs.lemmas.List.Splits.{length-slice_split}
use Rattle.workload_mistakes.specs.Mending.{with_line}
use lib.ListN.{replicate-append-replicate}
use denote.Ref.{Bor}

-- the first of some lines, and a line feed
more : (at number : ℕ) (mend : List ℕ → List ℕ) (line : List ℕ) (lines : List (List ℕ)) → 1 ≤ length lines
    → join_with_byte 10 (line ∷ with_line at number mend lines) ≡ line ++ 10 ∷ join_with_byte 10 (with_line at number mend lines)
unfolding with_line
more at number mend line [] some = absurd (omega (arith, some))
more at number mend line (next ∷ lines) some = refl

last_step : (out line whole : List ℕ) → out ++ line ≡ whole → (out ++ (line ++ [])) ++ [] ≡ whole
last_step out line whole h = append-nil (out ++ (line ++ [])) ∙ (λ i. out ++ append-nil line i) ∙ h

next_step : (out line rest whole : List ℕ) → out ++ (line ++ 10 ∷ rest) ≡ whole → (out ++ (line ++ 10 ∷ [])) ++ rest ≡ whole
next_step out line rest whole h = append_assoc out (line ++ 10 ∷ []) rest ∙ (λ i. out ++ append_assoc line (10 ∷ []) rest i) ∙ h

-- one line was written, and the others are left
pub line_written : (out new : List ℕ) (at number : ℕ) (mend : List ℕ → List ℕ) (line : List ℕ) (after : Option (Bor (List ℕ))) (ends : Bool) (whole : List ℕ)
    → ends ≡ is_some after → new ≡ out ++ ((if at == number then mend line else line) ++ (if ends then 10 ∷ [] else []))
    → out ++ join_with_byte 10 (with_line at number mend (line ∷ pieces_of 10 after)) ≡ whole
    → new ++ join_with_byte 10 (with_line (at + 1) number mend (pieces_of 10 after)) ≡ whole
unfolding with_line
line_written out new at number mend line None ends whole known e h =
    rw (e, known) (last_step out (if at == number then mend line else line) whole h)
line_written out new at number mend line (Some rest) ends whole known e h =
    let some : 1 ≤ length (between 10 rest.now) = omega (arith, length-slice_split (λ b. b == 10) rest.now) in
    let cut = more (at + 1) number mend (if at == number then mend line else line) (between 10 rest.now) some in
    rw (e, known) (next_step out (if at == number then mend line
    else line) (join_with_byte 10 (with_line (at + 1) number mend (between 10 rest.now))) whole (rw cut at h))

-- all were written
pub lines_written : (out : List ℕ) (at number : ℕ) (mend : List ℕ → List ℕ) (whole : List ℕ)
    → out ++ join_with_byte 10 (with_line at number mend []) ≡ whole → out ≡ whole
unfolding with_line
lines_written out at number mend whole h = rw (append-nil out) at h

-- one space more was written
pub space_more : (new out initial : List ℕ) (count : ℕ) → out ≡ initial ++ replicate count 32 → new ≡ out ++ 32 ∷ [] → new ≡ initial ++ replicate (count + 1) 32
space_more new out initial count h n =
    n ∙ ap (λ (v : List ℕ). v ++ 32 ∷ []) h ∙ append_assoc initial (replicate count 32) (32 ∷ [])
    ∙ ap (λ (v : List ℕ). initial ++ v) (replicate-append-replicate count 1 32)
