-- What was told of an end; and what was run, or is a workload, is no refused text.
use Rattle.mtapi_top.proofs.Names.{◌≡◌, ◌⊎◌, ℕ, true, List, Option, Some, None, sym, ap, subst, ◌∙◌, inl, inr, arith, IfSome, IfOk, Result, Ok, Err, Workload, Loads, Journal, Asked, End, Outcome, reads_workload, RanWorkload, IsRead, IsLoadOf, HasRead, IsWorkload, IsRefused, status_of, has_line, IsTold}
use Rattle.workload_file.specs.declared.faults.LoadError.{LoadError}
use Rattle.mtapi_top.specs.declared.words.Asked.TheVariants as asks
use Rattle.mtapi_top.specs.declared.ends.End.TheVariants as end

-- what was told of an end
abbrev pub Told : End → ℕ → ℕ → Option (List ℕ) → Option (List ℕ) → Outcome → Type 0
Told e f f' p p' outcome = IsTold e f f' p p' outcome ⊎ ((has_line e ≡ true) × IsTold end.Memory f f' p p' outcome)

-- What holds of the status of the end, and of 6, holds of the status that was told.
pub told_status : (Q : ℕ → Type 0) (e : End) (f f' : ℕ) (p p' : Option (List ℕ)) (outcome : Outcome) → Q (status_of e) → Q 6 → Told e f f' p p' outcome
    → Q outcome.status
told_status Q e f f' p p' outcome q six (inl t) = subst Q (sym t.status) q
told_status Q e f f' p p' outcome q six (inr t) = subst Q (sym t.1.status) six

-- what was run was no refused text
not_refused : (words : Option Asked) (t : List ℕ) (j : Journal) (P : List ℕ → Type 0) → RanWorkload words (Some t) j P → reads_workload words ≡ true
    → IsRefused t → ⊥
not_refused words t j P r e i = by i (was_read r.asked t r.load (ap reads_workload (sym r.asks) ∙ e) r.is)
  where
    was_read : (asked : Asked) (t : List ℕ) (load : Workload) → reads_workload (Some asked) ≡ true → IsLoadOf asked (Some t) load → IsRead (Some t) load
    was_read asks.Report t load e h = h
    was_read asks.Journal t load e h = h
    was_read (asks.Generated n w) t load e h = absurd (cc)
    was_read asks.Check t load e h = absurd (cc)

    by : IsRefused t → IsRead (Some t) r.load → ⊥
    by (inl long) read = omega (arith, read.0)
    by (inr none) read = let both = sym none.2 ∙ read.1 in cc

-- and no workload is refused
pub not_workload : (t : List ℕ) → IsWorkload t → IsRefused t → ⊥
not_workload t x (inl long) = omega (arith, x.0)
not_workload t x (inr none) = let both = sym none.2 ∙ x.2 in cc

pub nothing_asked : (words : Option Asked) → words ≡ None → reads_workload words ≡ true → ⊥
nothing_asked words e q = let none = ap reads_workload (sym e) ∙ q in cc

-- where a run came back, what was read isn't refused
pub no_refusal : (Q : Type 0) (words : Option Asked) (bytes : Option (List ℕ)) (j : Journal) (P : List ℕ → Type 0) → RanWorkload words bytes j P
    → reads_workload words ≡ true
    → IfSome bytes (λ t. IsRefused t → Q)
no_refusal Q words None j P r e = tt
no_refusal Q words (Some t) j P r e = λ i. absurd (not_refused words t j P r e i)

-- and what was read as a workload is one
pub read_is_workload : (words : Option Asked) (bytes left : Option (List ℕ)) (result : Result Workload LoadError) → IfSome bytes (λ t. Loads t left result)
    → IfOk result (λ load. HasRead words bytes)
read_is_workload words bytes left (Err e) h = tt
read_is_workload words None left (Ok load) h = λ r. tt
read_is_workload words (Some t) left (Ok load) h = λ r. (h.0, load, h.1)
