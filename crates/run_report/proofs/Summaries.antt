-- The totals of the parts, one part after another.
use Rattle.run_report.proofs.Names.{nat_tests, ◌≡◌, ℕ, ◌+◌, ◌≤◌, List, [], ◌∷◌, ◌++◌, append_assoc, length, Result, sym, ◌∙◌, ap, arith, get_or, IfOk, Option, codes, signed_decimal, TaskEnd, NodeEntry, flat_map, length-append, length-map, Layout, Reply, Legal, Statement, Part, Workload, nothing_seen, seen_from, run_terms, parts_told, Totals, reported_part, further_told, all_told, calls_before, no_totals, with_tasks, with_parts, totals, counted_line, totals_text, statements_in}
use Rattle.std.specs.declared.alloc.AllocError.{AllocError}
use Rattle.workload_file.specs.Formed.{WellFormed, part_lines, line_if_any}
use Rattle.run_report.proofs.History.{ends_by_entries}
use Rattle.run_report.proofs.Parts.{rest_of, first_with}

-- what the other parts add to what the first added
pub further_with : (by : ℕ → Option TaskEnd) (t u : Totals) (who : ℕ) (es : List NodeEntry) (p : Part) (ps : List Part) → 1 ≤ length ps → p ≡ get_or ps 0 p
    → u ≡ with_tasks by t p.statements (reported_part who 1 es p).replies
    → with_parts by u (further_told (who + 1) es (rest_of ps)) ≡ with_parts by t (further_told who es ps)
unfolding further_told with_parts
further_with by t u who es p ps h is made =
    ap (λ (x : Totals). with_parts by x (further_told (who + 1) es (rest_of ps))) made
    ∙ sym (ap (λ (l : List Part). with_parts by t (further_told who es l)) (first_with ps p h is))

pub all_with : (by : ℕ → Option TaskEnd) (t u : Totals) (main : ℕ) (es : List NodeEntry) (p : Part) (ps : List Part) (before : ℕ) → 1 ≤ length ps
    → p ≡ get_or ps 0 p → before ≡ calls_before p.statements
    → u ≡ with_tasks by t p.statements (reported_part main before es p).replies
    → with_parts by u (further_told (main + 1) es (rest_of ps)) ≡ with_parts by t (all_told main es ps)
unfolding with_parts
all_with by t u main es p ps before e1 e2 e3 e4 = grind (arith, nat_tests, with_parts, further_told, rest_of, with_tasks, all_told, first_with)

pub if_totals : (r : Result Totals AllocError) (a b : Totals) → a ≡ b → IfOk r (λ t. t ≡ a) → IfOk r (λ t. t ≡ b)
if_totals r a b e1 e2 = grind (arith, nat_tests)

-- ---- the line

-- a piece behind what is written, before what is still to be
onto : (out new piece rest whole : List ℕ) → new ≡ out ++ piece → out ++ (piece ++ rest) ≡ whole → new ++ rest ≡ whole
onto out new piece rest whole made so = ap (λ x. x ++ rest) made ∙ append_assoc out piece rest ∙ so

-- the pieces of the line, one after another
pub line_is : (t : Totals) (a b c d e f g h out : List ℕ) → a ≡ [] → b ≡ a ++ counted_line (codes "tasks ") t.tasks
    → c ≡ b ++ counted_line (codes " completed ") t.completed → d ≡ c ++ counted_line (codes " cancelled ") t.cancelled
    → e ≡ d ++ counted_line (codes " error ") t.failed → f ≡ e ++ counted_line (codes " refused ") t.refused → g ≡ f ++ codes " sum "
    → h ≡ g ++ signed_decimal t.sum
    → out ≡ h ++ 10 ∷ [] → out ≡ totals_text t
unfolding totals_text
line_is t a b c d e f g h out ia ib ic iid ie iff ig ih io =
    io
    ∙ onto g h (signed_decimal t.sum) _ _ ih
    (onto f g (codes " sum ") _ _ ig (onto e f (counted_line (codes " refused ") t.refused) _ _ iff
    (onto d e (counted_line (codes " error ") t.failed) _ _ ie (onto c d (counted_line (codes " cancelled ") t.cancelled) _ _ iid
    (onto b c (counted_line (codes " completed ") t.completed) _ _ ic
    (onto a b (counted_line (codes "tasks ") t.tasks) _ _ ib (ap (λ x. x ++ totals_text t) ia)))))))

-- ---- the whole

-- the same from totals that are the same
pub part_is : (t u : Totals) (by : ℕ → Option TaskEnd) (ss : List Statement) (rs : List Reply) → t ≡ no_totals → u ≡ with_tasks by t ss rs
    → u ≡ with_tasks by no_totals ss rs
part_is t u by ss rs none made = made ∙ ap (λ (x : Totals). with_tasks by x ss rs) none

-- the totals by the ends that were found
pub totals_are : (load : Workload) (es : List NodeEntry) (ends : ℕ → Option TaskEnd) (n : ℕ) (parts : List Part)
    → ((h : ℕ) → ends h ≡ (seen_from n nothing_seen es).ends h) → n ≡ load.settings.workers → parts ≡ load.parts
    → with_parts ends no_totals (all_told n es parts) ≡ with_parts (seen_from load.settings.workers nothing_seen es).ends no_totals (parts_told load es)
totals_are load es ends n parts e1 e2 e3 = grind (arith, nat_tests)

-- for a legal list the ends that entries show are those in the last state
pub summary_is : (layout : Layout) (load : Workload) (es : List NodeEntry) → Legal (run_terms layout load) es
    → with_parts (seen_from load.settings.workers nothing_seen es).ends no_totals (parts_told load es) ≡ totals layout load es
unfolding totals
summary_is layout load es legal = ap (λ (f : ℕ → Option TaskEnd). with_parts f no_totals (parts_told load es))
    (λ j h. ends_by_entries (run_terms layout load) es legal h j)

-- a well-formed workload has at most 20,000 statements
lines_more : (p : Part) (rest : List ℕ) → length p.statements + length rest ≤ length (part_lines p ++ rest)
lines_more p rest = grind (arith, nat_tests, length-append, part_lines, line_if_any, length-map)

parts_more : (ps : List Part) → statements_in ps ≤ length (flat_map part_lines ps)
parts_more [] = omega arith
parts_more (p ∷ ps) = let rest = parts_more ps in let here = lines_more p (flat_map part_lines ps) in omega (arith, rest, here)

pub few_statements : (load : Workload) → WellFormed load → statements_in load.parts ≤ 20000
few_statements load e1 = grind (arith, nat_tests, length-append, line_if_any, flat_map, part_lines, parts_more)
