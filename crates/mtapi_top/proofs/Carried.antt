-- What the runs of workloads need, and what is known of their journals.
use Rattle.mtapi_top.proofs.Names.{◌≡◌, ◌≤◌, ℕ, List, [], ◌∷◌, ◌++◌, length, sym, ap, subst, arith, codes, join_with_byte, Layout, Two, Part, Workload, WellFormed, MainFirst, terms_with, Legal, Journal, journal_text, head_for, entry_lines, lines_text, IsRun, IsTextTwo}
use Rattle.journal_text.specs.Heads.{head_text, version, first_texts, last_texts}

some_part : (ps : List Part) → MainFirst ps → 1 ≤ length ps
some_part [] f = absurd f
some_part (p ∷ ps) f = omega arith

-- there is a part
pub has_part : (load : Workload) → WellFormed load → 1 ≤ length load.parts
has_part load formed = some_part load.parts formed.main

-- the journal of a run is legal by its own terms
pub told_legal : (load : Workload) (j : Journal) → IsRun load j → Legal (terms_with j.layout j.settings j.callers) j.entries.entries
told_legal load j r =
    subst (λ (n : ℕ). Legal (terms_with j.layout j.settings n) j.entries.entries) (sym r.callers)
    (subst (λ x. Legal (terms_with j.layout x (length load.parts)) j.entries.entries) (sym r.settings)
    (subst (λ (x : Layout). Legal (terms_with x load.settings (length load.parts)) j.entries.entries) (sym r.layout) r.legal))

-- and it is written as text 2
pub text_two : (j : Journal) → j.layout ≡ Two → IsTextTwo (journal_text j)
unfolding journal_text head_text
text_two j l =
    let settings = join_with_byte 32 (first_texts (head_for j) ++ last_texts (head_for j)) in
    let behind = 10 ∷ lines_text (entry_lines (head_for j) j.entries.entries j.entries.skipped) in
    (settings ++ behind, ap (λ (x : Layout). (codes "mtapi-journal" ++ 32 ∷ (version x ++ 32 ∷ settings)) ++ behind) l)
