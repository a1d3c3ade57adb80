-- The journal of a run can be written, and is judged yes.
use Rattle.mtapi_top.proofs.Names.{◌≡◌, ℕ, ◌≤◌, ◌+◌, List, [], ◌∷◌, length, refl, sym, ap, subst, arith, Ok, AllByRecursion, Layout, Two, Workload, WellFormed, workload_of, opening, NodeEntry, Journal, journal_text, head_for, IsVerdict, IsLegal, terms_of_journal, IsRun, terms_for, IsInput}
use Rattle.history_law.specs.Seats.{BySeats}
use Rattle.history_law.proofs.Bounds.{by_seats}
use Rattle.journal_text.specs.declared.heads.Head.{Head}
use Rattle.journal_text.specs.Fits.{HasPlace, IsWritable}
use Rattle.journal_text.specs.Lines.{has_words}
use Rattle.journal_text.specs.Journals.{journal_of}
use Rattle.journal_check.specs.declared.verdicts.Verdict.TheVariants.{Yes}
use Rattle.journal_check.proofs.Prefixes.{legal_front}
use Rattle.journal_text.specs.Splits.{IsSplit}
use Rattle.mtapi_top.proofs.Carried.{has_part, told_legal}

pub judged_yes : (load : Workload) (j : Journal) → IsRun load j → IsVerdict load j Yes
judged_yes load j r =
    let legal : IsLegal j = told_legal load j r in
    record {
      yes = (λ q. (legal, record { settings = r.settings; callers = r.callers; run = r.run }), λ p. refl);
      illegal = λ n. (λ q. absurd (cc), λ f. absurd (f.illegal (legal_front (terms_of_journal j) j.entries.entries n legal)));
      not_run = (λ q. absurd (cc), λ p. absurd (p.1 (record { settings = r.settings; callers = r.callers; run = r.run })));
    }

-- entries by seats have their places in text 2
all_placed : (head : Head) (es : List NodeEntry) → head.layout ≡ Two → BySeats (head.settings.workers + head.callers) es → AllByRecursion (HasPlace head) es
all_placed head [] l b = tt
all_placed head (e ∷ es) l b = (record { seat = b.0; words = ap (λ (x : Layout). has_words x e) l }, all_placed head es l b.1)

seats_are : (load : Workload) (j : Journal) → IsRun load j → BySeats (j.settings.workers + j.callers) j.entries.entries
seats_are load j r =
    subst (λ (n : ℕ). BySeats (j.settings.workers + n) j.entries.entries) (sym r.callers)
    (subst (λ x. BySeats (x.workers + length load.parts) j.entries.entries) (sym r.settings)
    (by_seats (opening (terms_for load)) j.entries.entries r.legal.from))

pub writable : (load : Workload) (j : Journal) → WellFormed load → IsRun load j → IsWritable j
writable load j f r =
    let some = has_part load f in
    let few = f.count in
    let same = r.callers in
    record {
      some = omega (arith, some, same);
      few = omega (arith, few, same);
      places = all_placed (head_for j) j.entries.entries r.layout (seats_are load j r);
    }

pub kept_input : (bytes front : List ℕ) (load : Workload) (j : Journal) → length bytes ≤ 67108864 → IsSplit bytes front (journal_text j)
    → length front ≤ 1048576 → workload_of front ≡ Ok load → journal_of (journal_text j) ≡ Ok j → IsInput bytes load j
kept_input bytes front load j short split few same again = (short, record { front = front; rest = journal_text j; split = split; holds = (few, same, again) })
