-- What is found of a journal comes exactly where it holds.
use Rattle.std.proofs.Common.{◌≡◌, ℕ, ◌<◌, List, take, drop, Some, None, refl, sym, subst, ap, arith, take-append-drop}
use Rattle.mtapi_machine.specs.declared.terms.Terms.{Terms}
use Rattle.mtapi_machine.specs.Legal.{NodeEntry, Legal as IsLegalList}
use Rattle.mtapi_machine.specs.Laws.{PrefixIsLegal}
use Rattle.node_journals.specs.declared.entries.Journal.{Journal}
use Rattle.workload_file.specs.declared.workload.Workload.{Workload}
use Rattle.journal_check.specs.Judged.{IsLegalOr}
use Rattle.journal_check.specs.Verdicts.{IsLegal, IsFirstIllegal, IsVerdict, terms_of_journal}
use Rattle.journal_check.specs.declared.verdicts.Verdict.{Verdict}
use Rattle.journal_check.specs.declared.verdicts.Verdict.TheVariants as verdict
use Rattle.std.specs.Global.{Vec}
use Rattle.journal_reasons.specs.Judged.{IsJudgement, AreInstead}
use Rattle.journal_reasons.specs.declared.judging.Judgement.TheVariants.{Legal, Illegal}

-- a legal list has no first entry that isn't
none_first : PrefixIsLegal → (terms : Terms) (L : List NodeEntry) (n : ℕ) → IsLegalList terms L → IsFirstIllegal terms L n → ⊥
none_first prefix terms L n h f = f.illegal (prefix terms (take n L) (drop n L) (subst (IsLegalList terms) (sym (take-append-drop n L)) h))

-- there is one first entry alone
one_first : (terms : Terms) (L : List NodeEntry) (m n : ℕ) → IsFirstIllegal terms L m → IsFirstIllegal terms L n → m < n → ⊥
one_first terms L m n f g less = f.illegal (g.before m f.some less)

same_first : (terms : Terms) (L : List NodeEntry) (m n : ℕ) → IsFirstIllegal terms L m → IsFirstIllegal terms L n → m ≡ n
same_first terms L m n f g = omega (arith, one_first terms L m n f g, one_first terms L n m g f)

pub judged_legal : PrefixIsLegal → (j : Journal) → IsLegal j → IsJudgement j Legal
judged_legal prefix j h = record {
  legal = (λ e. h, λ i. refl);
  refused = λ n. (λ e. absurd (cc), λ f. absurd (none_first prefix (terms_of_journal j) j.entries.entries n h f));
  instead = tt;
}

pub judged_illegal : PrefixIsLegal → (j : Journal) (n : ℕ) (instead : Vec NodeEntry) (why : Vec ℕ) → IsFirstIllegal (terms_of_journal j) j.entries.entries n
    → AreInstead (terms_of_journal j) j.entries.entries n instead.items → IsJudgement j (Illegal n instead why)
judged_illegal prefix j n instead why f all = record {
  legal = (λ e. absurd (cc), λ h. absurd (none_first prefix (terms_of_journal j) j.entries.entries n h f));
  refused = λ m. (
    λ e. let i : n ≡ m = cc in subst (IsFirstIllegal (terms_of_journal j) j.entries.entries) i f,
    λ g. ap Some (same_first (terms_of_journal j) j.entries.entries n m f g),
  );
  instead = all;
}

-- what a verdict beside some workload says of the journal alone
pub legal_by_yes : (load : Workload) (j : Journal) (v : Verdict) → IsVerdict load j v → v ≡ verdict.Yes → IsLegalOr (terms_of_journal j) j.entries.entries None
legal_by_yes load j v is same = (is.yes.0 same).0

pub legal_by_no : (load : Workload) (j : Journal) (v : Verdict) → IsVerdict load j v → v ≡ verdict.NotRun
    → IsLegalOr (terms_of_journal j) j.entries.entries None
legal_by_no load j v is same = (is.not_run.0 same).0

pub first_by_place : (load : Workload) (j : Journal) (v : Verdict) (n : ℕ) → IsVerdict load j v → v ≡ verdict.Illegal n
    → IsLegalOr (terms_of_journal j) j.entries.entries (Some n)
first_by_place load j v n is same = (is.illegal n).0 same
