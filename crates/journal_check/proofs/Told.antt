-- The verdict of what was told.
use Rattle.journal_check.proofs.Names.{◌≡◌, ℕ, ◌<◌, List, refl, ap, subst, arith, Terms, NodeEntry, Legal, IsLegal, IsFirstIllegal, IsJournalRun, IsVerdict, nat_tests, eqb-true, eq-eqb}
use Rattle.workload_file.specs.declared.workload.Workload.{Workload}
use Rattle.node_journals.specs.declared.entries.Journal.{Journal}
use Rattle.journal_check.specs.declared.verdicts.Verdict.TheVariants.{Yes, Illegal, NotRun}
use Rattle.journal_check.specs.Verdicts.{terms_of_journal}
use Rattle.journal_check.proofs.Prefixes.{legal_front}

-- a legal list has no first entry that isn't
none_first : (terms : Terms) (L : List NodeEntry) (n : ℕ) → Legal terms L → IsFirstIllegal terms L n → ⊥
none_first terms L n h f = f.illegal (legal_front terms L n h)

-- and there is one first entry alone
one_first : (terms : Terms) (L : List NodeEntry) (m n : ℕ) → IsFirstIllegal terms L m → IsFirstIllegal terms L n → m < n → ⊥
one_first terms L m n f g less = f.illegal (g.before m f.some less)

same_first : (terms : Terms) (L : List NodeEntry) (m n : ℕ) → IsFirstIllegal terms L m → IsFirstIllegal terms L n → m ≡ n
same_first terms L m n f g = omega (arith, one_first terms L m n f g, one_first terms L n m g f)

pub illegal_verdict : (load : Workload) (j : Journal) (n : ℕ) → IsFirstIllegal (terms_of_journal j) j.entries.entries n → IsVerdict load j (Illegal n)
illegal_verdict load j n f = record {
  yes = (λ e. absurd (cc), λ a. absurd (none_first (terms_of_journal j) j.entries.entries n a.0 f));
  illegal = λ m. (
    λ e. let i : n ≡ m = cc in
        subst (IsFirstIllegal (terms_of_journal j) j.entries.entries) i f,
    λ g. ap Illegal (same_first (terms_of_journal j) j.entries.entries n m f g),
  );
  not_run = (λ e. absurd (cc), λ a. absurd (none_first (terms_of_journal j) j.entries.entries n a.0 f));
}

pub yes_verdict : (load : Workload) (j : Journal) → IsLegal j → IsJournalRun load j → IsVerdict load j Yes
yes_verdict load j h r = record {
  yes = (λ e. (h, r), λ a. refl);
  illegal = λ m. (λ e. absurd (cc), λ g. absurd (none_first (terms_of_journal j) j.entries.entries m h g));
  not_run = (λ e. absurd (cc), λ a. absurd (a.1 r));
}

pub not_run_verdict : (load : Workload) (j : Journal) → IsLegal j → (IsJournalRun load j → ⊥) → IsVerdict load j NotRun
not_run_verdict load j h never = record {
  yes = (λ e. absurd (cc), λ a. absurd (never a.1));
  illegal = λ m. (λ e. absurd (cc), λ g. absurd (none_first (terms_of_journal j) j.entries.entries m h g));
  not_run = (λ e. (h, never), λ a. refl);
}
