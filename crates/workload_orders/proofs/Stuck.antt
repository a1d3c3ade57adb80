-- Where the machine allows looks and refusals behind the journal of a stop, by which no seat goes on, it is a deadlock.
use Rattle.std.specs.Prelude.{take}
use Rattle.std.proofs.Common.{◌≡◌, ℕ, ◌+◌, ◌<◌, ◌≤◌, List, [], ◌∷◌, ◌++◌, length, get_or, sym, ◌∙◌, ap, subst, append_assoc}
use Rattle.std.proofs.lemmas.Grind.{take_at_read}
use Rattle.std.proofs.lemmas.List.{take_all, append-nil}
use Rattle.mtapi_machine.specs.declared.terms.Terms.{Terms}
use Rattle.mtapi_machine.specs.State.{terms_with}
use Rattle.mtapi_machine.specs.Legal.{NodeEntry, Legal}
use Rattle.workload_file.specs.declared.workload.Workload.{Workload}
use Rattle.node_journals.specs.declared.entries.Journal.{Journal}
use Rattle.run_report.specs.Report.{run_terms}
use Rattle.begun_runs.specs.Begun.{Stuck}
use Rattle.begun_runs.specs.Halts.{Halts}
use Rattle.begun_runs.proofs.Deadlocks.{halts_is_stuck}
use Rattle.workload_orders.specs.Names.{IsLegal}
use Rattle.workload_orders.specs.declared.listed.Deadlock.{Deadlock}
use Rattle.workload_orders.specs.Shown.{HasHistory}

-- a list that is put behind another, entry by entry
pub append_none : (L M : List NodeEntry) → L ≡ L ++ take 0 M
append_none L M = sym (append-nil L)

pub append_more : (L M : List NodeEntry) (i : ℕ) (e : NodeEntry) (old new : List NodeEntry) → i < length M → e ≡ get_or M i e → old ≡ L ++ take i M
    → new ≡ old ++ e ∷ [] → new ≡ L ++ take (i + 1) M
append_more L M i e old new l at is more =
    more ∙ (ap (λ (x : List NodeEntry). x ++ e ∷ []) is ∙ (append_assoc L (take i M) (e ∷ [])
    ∙ ap (λ (x : List NodeEntry). L ++ x) (ap (λ (y : NodeEntry). take i M ++ y ∷ []) at ∙ sym (take_at_read M i e l).1)))

pub append_all : (L M : List NodeEntry) (i : ℕ) (new : List NodeEntry) → length M ≤ i → new ≡ L ++ take i M → new ≡ L ++ M
append_all L M i new l e = e ∙ ap (λ (x : List NodeEntry). L ++ x) (take_all i M l)

pub three_parts : (A B C one two three : List NodeEntry) → one ≡ [] ++ A → two ≡ one ++ B → three ≡ two ++ C → three ≡ A ++ (B ++ C)
three_parts A B C one two three a b c =
    c ∙ (ap (λ (x : List NodeEntry). x ++ C) (b ∙ ap (λ (x : List NodeEntry). x ++ B) a) ∙ append_assoc A B C)

-- the terms of a workload's journal are those of its runs
pub stuck_if : (load : Workload) (d : Deadlock) (longer : Journal) (looks refused : List NodeEntry) → HasHistory load d → longer.layout ≡ d.journal.layout
    → longer.settings ≡ d.journal.settings → longer.callers ≡ d.journal.callers
    → longer.entries.entries ≡ d.journal.entries.entries ++ (refused ++ looks) → IsLegal longer
    → Halts load d.journal.entries.entries looks refused
    → Stuck load d.journal.layout d.journal.entries.entries d.journal.entries.skipped
stuck_if load d longer looks refused h layout settings callers entries legal halts =
    halts_is_stuck load d.journal.layout d.journal.entries.entries looks refused d.journal.entries.skipped
    (subst (λ (t : Terms). Legal t (d.journal.entries.entries ++ (refused ++ looks)))
    (λ i. terms_with (layout i) ((settings ∙ h.settings) i) ((callers ∙ h.callers) i))
    (subst (λ (l : List NodeEntry). Legal (terms_with longer.layout longer.settings longer.callers) l) entries legal)) h.begun
    (λ run. h.unended (record { settings = h.settings; callers = h.callers; run = run })) halts
