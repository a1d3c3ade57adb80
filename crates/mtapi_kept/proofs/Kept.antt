-- What the command wrote of a run is its report and the text of its journal.
use Rattle.std.specs.Io.KnownBytes.{Appends}
use Rattle.std.proofs.Common.{◌≡◌, ℕ, ◌+◌, ◌-◌, List, [], ◌++◌, length, take, Option, Some, sym, ap, subst, ◌∙◌, arith, length-append}
use Rattle.std.proofs.Math.Seq.{take-append_seam}
use Rattle.node_journals.specs.declared.entries.Journal.{Journal}
use Rattle.workload_file.specs.declared.workload.Workload.{Workload}
use Rattle.workload_runners.specs.RunJournals.{IsRun}
use Rattle.journal_text.specs.Journals.{journal_text}
use Rattle.mtapi_top.specs.declared.words.Asked.{Asked}
use Rattle.mtapi_top.specs.declared.words.Asked.TheVariants as asks
use Rattle.mtapi_top.specs.Headline.{IsLoadOf, RanWorkload, output}
use Rattle.mtapi_kept.specs.Kept.{IsKept}

front_of : (held shown kept : List ℕ) → held ≡ shown ++ kept → take (length held - length kept) held ≡ shown
front_of held shown kept e =
    let long : length held ≡ length shown + length kept = ap length e ∙ length-append shown kept in
    let count : length held - length kept ≡ length shown = omega (arith, long) in
    subst (λ n. take n held ≡ shown) (sym count) (subst (λ l. take (length shown) l ≡ shown) (sym e) (take-append_seam shown kept))

pub kept_of : (bytes held text : List ℕ) (j : Journal) → RanWorkload (Some asks.Journal) (Some bytes) j (Appends (Some []) (Some held)) → text ≡ journal_text j
    → IsKept bytes (take (length held - length text) held) text
kept_of bytes held text j r t = by r.asked r.load r.asks r.is r.is_run r.written
  where
    by : (asked : Asked) (load : Workload) → Some asks.Journal ≡ Some asked → IsLoadOf asked (Some bytes) load → IsRun load j
        → held ≡ output asked load j → IsKept bytes (take (length held - length text) held) text
    by asks.Journal load e is run w = record {
      load = load;
      is = is;
      journal = j;
      is_run = run;
      reports =
          front_of held (output asks.Report load j) text (subst (λ x. held ≡ output asks.Report load j ++ x) (sym t) w);
      keeps = t;
    }
    by asks.Report load e is run w = absurd (cc)
    by (asks.Generated n m) load e is run w = absurd (cc)
    by asks.Check load e is run w = absurd (cc)
