-- What is refused is not judged, and what is judged has one verdict.
use Rattle.mtapi_top.proofs.Names.{◌≡◌, ◌⊎◌, ◌≤◌, ℕ, List, length, refl, sym, ap, subst, ◌∙◌, inl, inr, arith, Result, Ok, Err, Workload, workload_of, Journal, Verdict, IsVerdict, End, IsWorkload, IsRefused, status_of, IsInput, IsRefusedInput, IsUnjudged, FirstPartFails, LastPartFails, same_split}
use Rattle.journal_text.specs.declared.faults.TextError.{TextError}
use Rattle.journal_text.specs.declared.faults.TextError.TheVariants as errors
use Rattle.journal_text.specs.Journals.{journal_of}
use Rattle.journal_check.specs.declared.verdicts.Verdict.TheVariants as verdict
use Rattle.mtapi_top.specs.declared.ends.End.TheVariants as end
use Rattle.mtapi_top.proofs.Refused.{not_workload}

pub one_value : {A E : Type 0} (r : Result A E) (x y : A) → r ≡ Ok x → r ≡ Ok y → x ≡ y
one_value r x y i k = let both = sym i ∙ k in cc

no_error : {A E : Type 0} (r : Result A E) (x : A) (e : E) → r ≡ Ok x → r ≡ Err e → ⊥
no_error r x e i k = let both = sym i ∙ k in cc

-- an input that is a workload and a journal isn't refused
pub input_not_refused : (t : List ℕ) (load : Workload) (j : Journal) → IsInput t load j → IsRefusedInput t → ⊥
input_not_refused t load j i (inl long) = omega (arith, i.0, long)
input_not_refused t load j i (inr refused) = by refused.1.holds
  where
    same : (i.1.front ≡ refused.1.front) × (i.1.rest ≡ refused.1.rest)
    same = same_split t i.1.front i.1.rest refused.1.front refused.1.rest i.1.split refused.1.split

    by : IsRefused refused.1.front ⊎ (IsWorkload refused.1.front × (error : TextError) × (journal_of refused.1.rest ≡ Err error)) → ⊥
    by (inl none) = not_workload i.1.front (i.1.holds.0, load, i.1.holds.1) (subst IsRefused (sym same.0) none)
    by (inr faulty) = no_error (journal_of i.1.rest) j faulty.1 i.1.holds.2 (ap journal_of same.1 ∙ faulty.2)

-- one workload and one journal stand there
pub same_load : (t : List ℕ) (load load' : Workload) (j j' : Journal) → IsInput t load j → IsInput t load' j' → load ≡ load'
same_load t load load' j j' i i' =
    let same = same_split t i.1.front i.1.rest i'.1.front i'.1.rest i.1.split i'.1.split in
    one_value (workload_of i.1.front) load load' i.1.holds.1 (ap workload_of same.0 ∙ i'.1.holds.1)

pub same_journal : (t : List ℕ) (load load' : Workload) (j j' : Journal) → IsInput t load j → IsInput t load' j' → j ≡ j'
same_journal t load load' j j' i i' =
    let same = same_split t i.1.front i.1.rest i'.1.front i'.1.rest i.1.split i'.1.split in
    one_value (journal_of i.1.rest) j j' i.1.holds.2 (ap journal_of same.1 ∙ i'.1.holds.2)

-- and there is one verdict on them
pub same_verdict : (load : Workload) (j : Journal) (v w : Verdict) → IsVerdict load j v → IsVerdict load j w → w ≡ v
same_verdict load j verdict.Yes w h k = k.yes.1 (h.yes.0 refl)
same_verdict load j (verdict.Illegal n) w h k = (k.illegal n).1 ((h.illegal n).0 refl)
same_verdict load j verdict.NotRun w h k = k.not_run.1 (h.not_run.0 refl)

-- a first part that fails with the status 3 is refused
front_refused : (front : List ℕ) (e : End) → status_of e ≡ 3 → FirstPartFails front e → IsRefused front
front_refused front (end.Refused line cause) q f = inr (f.0, record { line = line; cause = cause }, f.1)
front_refused front end.TooLong q f = inl f
front_refused front end.Memory q f = absurd (cc)
front_refused front _ q f = absurd f

rest_refused : (rest : List ℕ) (e : End) → status_of e ≡ 3 → LastPartFails rest e → (error : TextError) × (journal_of rest ≡ Err error)
rest_refused rest (end.JournalLine line) q f = (errors.BadLine line, f)
rest_refused rest end.JournalCut q f = (errors.PartialEnd, f)
rest_refused rest end.Memory q f = absurd (cc)
rest_refused rest _ q f = absurd f

-- an input that has no verdict, though there was memory, is refused
pub unjudged_refused : (t : List ℕ) (e : End) → status_of e ≡ 3 → length t ≤ 67108864 → IsUnjudged t e → IsRefusedInput t
unjudged_refused t e q short u = by u.holds
  where
    by : FirstPartFails u.front e ⊎ (IsWorkload u.front × LastPartFails u.rest e) → IsRefusedInput t
    by (inl f) = inr (short, record { front = u.front; rest = u.rest; split = u.split; holds = inl (front_refused u.front e q f) })
    by (inr f) = let faulty = rest_refused u.rest e q f.1 in
        inr (short, record { front = u.front; rest = u.rest; split = u.split; holds = inr (f.0, faulty.0, faulty.1) })
