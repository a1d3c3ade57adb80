-- The lines of the parts, one part after another.
use Rattle.run_report.proofs.Names.{nat_tests, ◌≡◌, ℕ, ◌+◌, ◌-◌, ◌≤◌, List, [], ◌∷◌, ◌++◌, Result, sym, ◌∙◌, ap, arith, length, get_or, take, drop, append_assoc, IfOk, Option, flat_map, take_all, TaskEnd, Part, NodeEntry, Legal, Workload, task_lines, call_lines, nothing_seen, seen_from, Layout, terms_with, run_terms, parts_told, report_by, report, Told, reported_part, further_told, all_told, calls_before}
use Rattle.std.specs.Global.{Vec}
use Rattle.mtapi_values.specs.Attributes.{NodeSettings}
use Rattle.run_report.proofs.History.{ends_by_entries}

abbrev pub rest_of : {X : Type 0} → List X → List X
rest_of xs = take (length xs - 1) (drop 1 xs)

first_rest : {X : Type 0} (xs : List X) (d : X) → 1 ≤ length xs → xs ≡ get_or xs 0 d ∷ rest_of xs
first_rest xs d e1 = grind (arith, nat_tests, take_all)

pub first_with : {X : Type 0} (xs : List X) (d : X) → 1 ≤ length xs → d ≡ get_or xs 0 d → xs ≡ d ∷ rest_of xs
first_with xs d h is = first_rest xs d h ∙ ap (λ x. x ∷ rest_of xs) (sym is)

-- a text with two pieces behind it
pub two_pieces : (now mid out a b whole : List ℕ) → whole ≡ a ++ b → mid ≡ now ++ a → out ≡ mid ++ b → out ≡ now ++ whole
two_pieces now mid out a b whole is first second = second ∙ ap (λ x. x ++ b) first ∙ append_assoc now a b ∙ ap (λ x. now ++ x) (sym is)

-- what the parts of further callers show is what the first shows, and then what the others show
pub further_more : (f : Told → List ℕ) (who : ℕ) (es : List NodeEntry) (p : Part) (ps : List Part) → 1 ≤ length ps → p ≡ get_or ps 0 p
    → flat_map f (further_told who es ps) ≡ f (reported_part who 1 es p) ++ flat_map f (further_told (who + 1) es (rest_of ps))
unfolding further_told
further_more f who es p ps h is = ap (λ l. flat_map f (further_told who es l)) (first_with ps p h is)

pub all_more : (f : Told → List ℕ) (main : ℕ) (es : List NodeEntry) (p : Part) (ps : List Part) (before : ℕ) → 1 ≤ length ps → p ≡ get_or ps 0 p
    → before ≡ calls_before p.statements
    → flat_map f (all_told main es ps) ≡ f (reported_part main before es p) ++ flat_map f (further_told (main + 1) es (rest_of ps))
all_more f main es p ps before e1 e2 e3 = grind (arith, nat_tests, flat_map, all_told, first_with, further_told)

-- The whole report

pub if_ok : {E : Type 0} (r : Result (Vec ℕ) E) (a b : List ℕ) → a ≡ b → IfOk r (λ v. v.items ≡ a) → IfOk r (λ v. v.items ≡ b)
if_ok r a b e1 e2 = grind (arith, nat_tests)

-- the text by the ends that were found and by the lines that were put together
pub text_is : (load : Workload) (es : List NodeEntry) (ends : ℕ → Option TaskEnd) (n : ℕ) (parts : List Part) (no_tasks no_calls tasks calls : List ℕ)
    → ((h : ℕ) → ends h ≡ (seen_from n nothing_seen es).ends h)
    → n ≡ load.settings.workers → parts ≡ load.parts → no_tasks ≡ [] → no_calls ≡ []
    → tasks ≡ no_tasks ++ flat_map (task_lines ends) (all_told n es parts) → calls ≡ no_calls ++ flat_map call_lines (all_told n es parts)
    → tasks ++ calls ≡ report_by (seen_from load.settings.workers nothing_seen es).ends (parts_told load es)
text_is load es ends n parts no_tasks no_calls tasks calls e1 e2 e3 e4 e5 e6 e7 = grind (arith, nat_tests)

pub report_is : (layout : Layout) (load : Workload) (es : List NodeEntry) → Legal (run_terms layout load) es
    → report_by (seen_from load.settings.workers nothing_seen es).ends (parts_told load es) ≡ report layout load es
unfolding report
report_is layout load es legal = ap (λ (f : ℕ → Option TaskEnd). report_by f (parts_told load es)) (λ j h. ends_by_entries (run_terms layout load) es legal h j)

-- a journal with the terms of the workload is legal for these
pub legal_same : (layout : Layout) (load : Workload) (settings : NodeSettings) (callers : ℕ) (es fs : List NodeEntry) → settings ≡ load.settings
    → callers ≡ length load.parts → es ≡ fs
    → Legal (terms_with layout settings callers) fs → Legal (run_terms layout load) es
legal_same layout load settings callers es fs e1 e2 e3 e4 = grind (arith, nat_tests)
