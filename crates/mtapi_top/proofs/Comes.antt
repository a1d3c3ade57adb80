-- How the command comes to each of its ends.
use Rattle.mtapi_top.proofs.Names.{◌≡◌, ◌≤◌, ◌⊎◌, ℕ, true, false, List, Option, Some, None, Err, arith, refl, sym, ap, subst, inl, inr, IfSome, Appends, AppendsFront, IsAtEnd, TakesAtMost, ReadsClean, Workload, WellFormed, Journal, IsRun, Asked, InRange, End, reads_workload, judges, output, IsLoadOf, IsReadAgain, RanWorkload, Outside, Ends, HasRead, status_of, Checks, IsPastReading, IsReadFor, StartsNothing}
use Rattle.std.specs.Prelude.{IsErrOf}
use Rattle.journal_text.specs.Journals.{ReadsJournalClean as ReadsInput}
use Rattle.workload_file.specs.declared.faults.LoadError.{LoadError}
use Rattle.workload_file.specs.declared.faults.LoadError.TheVariants as errors
use Rattle.workload_file.specs.Loading.{HoldsBut}
use Rattle.workload_runners.specs.declared.run.NoRun.{NoRun}
use Rattle.workload_runners.specs.declared.run.NoRun.TheVariants as reason
use Rattle.workload_runners.specs.Reasons.{HasReason}
use Rattle.mtapi_top.specs.declared.words.Asked.TheVariants as asks
use Rattle.mtapi_top.specs.declared.ends.End.TheVariants as end
use Rattle.mtapi_top.specs.Command.{journal_in_end}
use Rattle.mtapi_top.specs.PartEnds.{ComesTo, HasNoWorkload, WritesOutput, without_load, without_run}
use Rattle.mtapi_top.proofs.Ended.{judges_one, not_both, not_six, starts_early}

-- Words that ask for nothing.
pub usage_comes : (words : Option Asked) (s : Option (List ℕ)) (a : Outside) → words ≡ None → ComesTo words s s a a end.Usage
usage_comes words s a n = record {
  range = subst (λ (w : Option Asked). IfSome w InRange) (sym n) tt;
  run = λ j. (n, refl);
  check = λ j. absurd (none words n j);
  read = record {
    unread = λ r j. (refl, refl);
    clean = λ r past. absurd (none_read words n r);
    whole = λ r. tt;
    input = λ j past. absurd (none words n j);
    few = λ r. absurd (none_read words n r);
    few_judged = λ j. absurd (none words n j);
    faultless = λ m. refl;
  };
  threads = λ m. refl;
  later = (omega arith, omega arith);
}
  where
    none : (w : Option Asked) → w ≡ None → judges w ≡ true → ⊥
    none None e j = cc
    none (Some x) e j = cc

    none_read : (w : Option Asked) → w ≡ None → reads_workload w ≡ true → ⊥
    none_read None e j = cc
    none_read (Some x) e j = cc

-- A journal that is judged.
pub check_comes : (words : Option Asked) (old new : Option (List ℕ)) (r r' w w' t : ℕ) (held held' : Option (List ℕ)) (e : End) → words ≡ Some asks.Check
    → Checks old (record { reads = r; writes = w; held = held }) (record { reads = r'; writes = w'; held = held' }) e
    → (IsPastReading (status_of e) → ReadsInput r r' old new) → TakesAtMost 67108865 old new → ((status_of e ≡ 4 → ⊥) → r' ≡ r) → (r ≤ r') × (w ≤ w')
    → ComesTo words old new (record { reads = r; writes = w; threads = t; held = held }) (record { reads = r'; writes = w'; threads = t; held = held' }) e
check_comes words old new r r' w w' t held held' e is h clean taken faultless later =
    let j : judges words ≡ true = ap judges is in
    record {
      range = subst (λ (x : Option Asked). IfSome x InRange) (sym is) tt;
      run = λ k. absurd (judges_one words k j);
      check = λ k. h;
      read = record {
        unread = λ x k. absurd (judges_one words k j);
        clean = λ x past. absurd (not_both words x j);
        whole = λ x. absurd (not_both words x j);
        input = λ k. clean;
        few = λ x. absurd (not_both words x j);
        few_judged = λ k. taken;
        faultless = faultless;
      };
      threads = λ n. refl;
      later = later;
    }

module _ (asked : Asked) (old new : Option (List ℕ)) (j : judges (Some asked) ≡ false) (g : InRange asked) where
  -- There is no workload.
  pub without_load_comes : (error : LoadError) (r r' w t : ℕ) (held : Option (List ℕ))
      → HasNoWorkload (Some asked) old r r' error
      → (reads_workload (Some asked) ≡ true → HoldsBut (ReadsClean r r' old new) (Err error))
      → (reads_workload (Some asked) ≡ false → (new ≡ old) × (r' ≡ r))
      → (reads_workload (Some asked) ≡ true → TakesAtMost 1048577 old new)
      → ((IsErrOf {T = Workload} (Err error) errors.Read → ⊥) → r' ≡ r)
      → r ≤ r'
      → ComesTo (Some asked) old new (record { reads = r; writes = w; threads = t; held = held }) (record { reads = r'; writes = w; threads = t; held = held })
      (without_load error)
  without_load_comes error r r' w t held none clean unread taken faultless later = record {
    range = g;
    run = λ k. ends error none;
    check = λ k. absurd (judges_one (Some asked) j k);
    read = record {
      unread = λ x k. unread x;
      clean = λ x past. cleanly error past (clean x);
      whole = whole_at error;
      input = λ k. absurd (judges_one (Some asked) j k);
      few = taken;
      few_judged = λ k. absurd (judges_one (Some asked) j k);
      faultless = faults error faultless;
    };
    threads = λ n. refl;
    later = (later, omega arith);
  }
    where
      ends : (e : LoadError) → HasNoWorkload (Some asked) old r r' e
          → Ends (Some asked) old (record { reads = r; writes = w; threads = t; held = held }) (record { reads = r'; writes = w; threads = t; held = held })
          (without_load e)
      ends errors.Memory h = (refl, refl)
      ends errors.Read h = (h.0, h.1, refl)
      ends errors.TooLong h = (h.0, h.1, refl)
      ends (errors.Refused line cause) h = (h.0, h.1, refl)

      cleanly : (e : LoadError) → IsPastReading (status_of (without_load e)) → HoldsBut (ReadsClean r r' old new) (Err e) → ReadsClean r r' old new
      cleanly errors.Memory past h = absurd (past.1 refl)
      cleanly errors.Read past h = absurd (past.0 refl)
      cleanly errors.TooLong past h = h
      cleanly (errors.Refused line cause) past h = h

      whole_at : (e : LoadError) → reads_workload (Some asked) ≡ true → IfSome (journal_in_end (without_load e)) (λ x. IfSome old (λ bytes. IsAtEnd new))
      whole_at errors.Memory x = tt
      whole_at errors.Read x = tt
      whole_at errors.TooLong x = tt
      whole_at (errors.Refused line cause) x = tt

      faults : (e : LoadError) → ((IsErrOf {T = Workload} (Err e) errors.Read → ⊥) → r' ≡ r) → (status_of (without_load e) ≡ 4 → ⊥) → r' ≡ r
      faults errors.Memory h n = h (λ q. cc)
      faults errors.Read h n = absurd (n refl)
      faults errors.TooLong h n = h (λ q. cc)
      faults (errors.Refused line cause) h n = h (λ q. cc)

  -- A workload was read or made.
  module _ (load : Workload) (r r' : ℕ) (is : HasRead (Some asked) old)
      (clean : reads_workload (Some asked) ≡ true → ReadsClean r r' old new) (whole : reads_workload (Some asked) ≡ true → IfSome old (λ bytes. IsAtEnd new))
      (unread : reads_workload (Some asked) ≡ false → (new ≡ old) × (r' ≡ r)) (taken : reads_workload (Some asked) ≡ true
      → TakesAtMost 1048577 old new) (faultless : r' ≡ r) (later : r ≤ r') where
    read_for : (n : ℕ) (x : Option Journal) → IsReadFor (Some asked) old new r r' n x
    read_for n x = record {
      unread = λ q k. unread q;
      clean = λ q past. clean q;
      whole = λ q. at_end x (whole q);
      input = λ k. absurd (judges_one (Some asked) j k);
      few = taken;
      few_judged = λ k. absurd (judges_one (Some asked) j k);
      faultless = λ m. faultless;
    }
      where
        at_end : (x : Option Journal) → IfSome old (λ bytes. IsAtEnd new) → IfSome x (λ j. IfSome old (λ bytes. IsAtEnd new))
        at_end None h = tt
        at_end (Some y) h = h

    pub without_run_comes : (why : NoRun) (t t' w : ℕ) (held : Option (List ℕ)) → HasReason t t' why
        → ComesTo (Some asked) old new (record { reads = r; writes = w; threads = t; held = held })
        (record { reads = r'; writes = w; threads = t'; held = held }) (without_run why)
    without_run_comes why t t' w held h = record {
      range = g;
      run = λ k. ends why h;
      check = λ k. absurd (judges_one (Some asked) j k);
      read = read_for _ _;
      threads = threads_at why h;
      later = (later, omega arith);
    }
      where
        ends : (x : NoRun) → HasReason t t' x
            → Ends (Some asked) old (record { reads = r; writes = w; threads = t; held = held }) (record { reads = r'; writes = w; threads = t'; held = held })
            (without_run x)
        ends reason.Refused h = (refl, h, is, refl)
        ends (reason.Spent s) h = (refl, h.0, is, refl)
        ends reason.Memory h = (refl, refl)

        threads_at : (x : NoRun) → HasReason t t' x → (status_of (without_run x) ≡ 7 → ⊥) → t' ≡ t
        threads_at reason.Refused h n = absurd (n refl)
        threads_at (reason.Spent s) h n = h.1
        threads_at reason.Memory h n = h

    pub written_comes : (journal : Journal) (text : List ℕ) (e : End) (t t' w w' : ℕ) (held held' : Option (List ℕ)) → IsLoadOf asked old load
        → IsRun load journal → IsReadAgain asked journal → text ≡ output asked load journal → t' ≡ t → w ≤ w' → WritesOutput w w' held held' text journal e
        → ComesTo (Some asked) old new (record { reads = r; writes = w; threads = t; held = held })
        (record { reads = r'; writes = w'; threads = t'; held = held' }) e
    written_comes journal text e t t' w w' held held' loads run again same threads more h = record {
      range = g;
      run = λ k. ends e h;
      check = λ k. absurd (judges_one (Some asked) j k);
      read = read_for _ _;
      threads = λ n. threads;
      later = (later, more);
    }
      where
        ran : (P : List ℕ → Type 0) → P text → RanWorkload (Some asked) old journal P
        ran P h = record { asked = asked; asks = refl; load = load; is = loads; is_run = run; again = again; written = subst P same h }

        ends : (e : End) → WritesOutput w w' held held' text journal e
            → Ends (Some asked) old (record { reads = r; writes = w; threads = t; held = held })
            (record { reads = r'; writes = w'; threads = t'; held = held' }) e
        ends (end.Done x) h = subst (λ (y : Journal). RanWorkload (Some asked) old y (Appends held held')) (sym h.0) (ran (Appends held held') h.1)
        ends (end.WriteFault x) h = (
          h.1,
          subst (λ (y : Journal). RanWorkload (Some asked) old y (AppendsFront held held')) (sym h.0)
              (ran (AppendsFront held held') h.2),
        )
        ends _ h = absurd h

-- Where nothing was started.
module _ (P : Type 0) (asked : Asked) (j : judges (Some asked) ≡ false) where
  pub started_without_run : (why : NoRun) → (judges (Some asked) ≡ true) ⊎ StartsNothing (status_of (without_run why)) → P
  started_without_run why (inl k) = absurd (judges_one (Some asked) j k)
  started_without_run why (inr q) = absurd (other why q)
    where
      other : (x : NoRun) → StartsNothing (status_of (without_run x)) → ⊥
      other reason.Refused q = let l = starts_early 7 q in omega arith
      other (reason.Spent s) q = let l = starts_early 8 q in omega arith
      other reason.Memory q = not_six q

  pub started_written : (w w' : ℕ) (held held' : Option (List ℕ)) (text : List ℕ) (journal : Journal) (e : End) → WritesOutput w w' held held' text journal e
      → (judges (Some asked) ≡ true) ⊎ StartsNothing (status_of e) → P
  started_written w w' held held' text journal e h (inl k) = absurd (judges_one (Some asked) j k)
  started_written w w' held held' text journal e h (inr q) = absurd (other e h q)
    where
      other : (x : End) → WritesOutput w w' held held' text journal x → StartsNothing (status_of x) → ⊥
      other (end.Done y) h (inl q) = cc
      other (end.Done y) h (inr (inl q)) = cc
      other (end.Done y) h (inr (inr q)) = cc
      other (end.WriteFault y) h q = let l = starts_early 5 q in omega arith
      other _ h q = absurd h

-- What was asked for is what the words ask for.
pub as_words : {old new : Option (List ℕ)} {a b : Outside} {e : End} (words : Option Asked) (asked : Asked) → words ≡ Some asked
    → ComesTo (Some asked) old new a b e → ComesTo words old new a b e
as_words {old} {new} {a} {b} {e} words asked is h = subst (λ (w : Option Asked). ComesTo w old new a b e) (sym is) h
