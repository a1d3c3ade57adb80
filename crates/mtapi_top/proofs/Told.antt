-- What follows of the outcome from how the command came to its end, and from what was told of that.
use Rattle.mtapi_top.proofs.Names.{◌≡◌, ◌≤◌, ◌⊎◌, ℕ, Bool, true, false, List, Option, Some, None, refl, sym, ap, subst, ◌∙◌, inl, inr, IfSome, is_some, Appends, AppendsFront, Rose, Workload, Journal, journal_text, Verdict, IsVerdict, Asked, End, Outcome, reads_workload, judges, InRange, RanWorkload, IsTextTwo, IsPlainOutput, Outside, Ends, HasRead, IsTold, IsWorkload, IsRefused, IsRefusedInput, IsInput, status_of, verdict_status, has_line, Checks, HasEnded, IsReadFor, StartsNothing}
use Rattle.std.specs.Prelude.{◌^◌, ◌↔◌, IsSome}
use Rattle.journal_check.specs.declared.verdicts.Verdict.TheVariants as verdict
use Rattle.mtapi_top.specs.declared.ends.End.TheVariants as end
use Rattle.mtapi_top.specs.Check.{HasNoVerdict, IsJudged, verdict_line}
use Rattle.mtapi_top.specs.Command.{journal_in_end, spent_of}
use Rattle.mtapi_top.specs.PartEnds.{ComesTo, channels_of}
use Rattle.mtapi_top.proofs.Carried.{text_two as run_text_two}
use Rattle.mtapi_top.proofs.Refused.{Told, told_status, no_refusal, not_workload, nothing_asked}
use Rattle.mtapi_top.proofs.Judged.{input_not_refused, same_load, same_journal, same_verdict, unjudged_refused}
use Rattle.mtapi_top.proofs.SettledOutput.{plain_output}
use Rattle.mtapi_top.proofs.Ended.{is_asked, memory_of_run, memory_of_check, named_is_three, not_both, judges_one, not_six}

either : {C : Type 0} (x : Bool) → (x ≡ false → C) → (x ≡ true → C) → C
either false f t = f refl
either true f t = t refl

-- ---- the end that was told

-- Want of memory for a message stands for an end whose message names a line.
as_memory : {words : Option Asked} {old new : Option (List ℕ)} {a b : Outside} (e : End) → has_line e ≡ true → ComesTo words old new a b e
    → ComesTo words old new a b end.Memory
as_memory {words} {old} {new} {a} {b} e l h = record {
  range = h.range;
  run = λ j. memory_of_run words old a b e l (h.run j);
  check = λ j. memory_of_check old (channels_of a) (channels_of b) e l (h.check j);
  read = record {
    unread = h.read.unread;
    clean = λ r past. absurd (past.1 refl);
    whole = λ r. tt;
    input = λ j past. absurd (past.1 refl);
    few = h.read.few;
    few_judged = h.read.few_judged;
    faultless = λ n. h.read.faultless (λ q. (let m = sym (named_is_three e l) ∙ q in cc));
  };
  threads = λ n. h.threads (λ q. (let m = sym (named_is_three e l) ∙ q in cc));
  later = h.later;
}

pub record IsToldOf (words : Option Asked) (old new : Option (List ℕ)) (a b : Outside) (f f' : ℕ) (p p' : Option (List ℕ)) (outcome : Outcome) : Type 0 where
  pub end : End
  pub comes : ComesTo words old new a b end
  pub told : IsTold end f f' p p' outcome

pub told_of : {words : Option Asked} {old new : Option (List ℕ)} {a b : Outside} {e : End} {f f' : ℕ} {p p' : Option (List ℕ)} {outcome : Outcome}
    → ComesTo words old new a b e → Told e f f' p p' outcome
    → IsToldOf words old new a b f f' p p' outcome
told_of {words} {old} {new} {a} {b} {e} {f} {f'} {p} {p'} {outcome} h (inl t) = record { end = e; comes = h; told = t }
told_of {words} {old} {new} {a} {b} {e} {f} {f'} {p} {p'} {outcome} h (inr t) = record { end = end.Memory; comes = as_memory e t.0 h; told = t.1 }

-- ---- what the command shows, by its status, the journal and what shows that the turns are used up

module _ {T : Type 0} where
  some_all : (o : Option T) (P : T → Type 0) → ((t : T) → P t) → IfSome o P
  some_all None P f = tt
  some_all (Some t) P f = f t

  some_weaker : (o : Option T) (P Q : T → Type 0) → ((t : T) → P t → Q t) → IfSome o P → IfSome o Q
  some_weaker None P Q f h = tt
  some_weaker (Some t) P Q f h = f t h

-- of a run
pub data Runs (words : Option Asked) (old : Option (List ℕ)) (a b : Outside) : ℕ → Option Journal → Option ℕ → Type 0 where
  is_done : (j : Journal) → RanWorkload words old j (Appends a.held b.held) → Runs words old a b 0 (Some j) None
  is_refused : reads_workload words ≡ true → IfSome old IsRefused → b.held ≡ a.held → Runs words old a b 3 None None
  is_unread : reads_workload words ≡ true → Rose a.reads b.reads → b.held ≡ a.held → Runs words old a b 4 None None
  is_cut : (j : Journal) → Rose a.writes b.writes → RanWorkload words old j (AppendsFront a.held b.held) → Runs words old a b 5 (Some j) None
  is_memory : b.held ≡ a.held → Runs words old a b 6 None None
  is_threadless : Rose a.threads b.threads → HasRead words old → b.held ≡ a.held → Runs words old a b 7 None None
  is_spent : (s : ℕ) → 2 ^ 62 ≤ s → HasRead words old → b.held ≡ a.held → Runs words old a b 8 None (Some s)

-- of `check`
pub data Judges (old : Option (List ℕ)) (a b : Outside) : ℕ → Type 0 where
  says_yes : IsJudged old verdict.Yes → Appends a.held b.held (verdict_line verdict.Yes) → Judges old a b 0
  says_no : (v : Verdict) → (v ≡ verdict.Yes → ⊥) → 9 ≡ verdict_status v → IsJudged old v → Appends a.held b.held (verdict_line v) → Judges old a b 9
  says_cut : (v : Verdict) → Rose a.writes b.writes → IsJudged old v → AppendsFront a.held b.held (verdict_line v) → Judges old a b 5
  says_refused : IfSome old IsRefusedInput → b.held ≡ a.held → Judges old a b 3
  says_unread : Rose a.reads b.reads → b.held ≡ a.held → Judges old a b 4
  says_memory : b.held ≡ a.held → Judges old a b 6

pub data Shows (words : Option Asked) (old : Option (List ℕ)) (a b : Outside) : ℕ → Option Journal → Option ℕ → Type 0 where
  unasked : words ≡ None → b.held ≡ a.held → Shows words old a b 2 None None
  ran : (n : ℕ) (j : Option Journal) (s : Option ℕ) → judges words ≡ false → is_some words ≡ true → Runs words old a b n j s → Shows words old a b n j s
  judged : (n : ℕ) → judges words ≡ true → Judges old a b n → Shows words old a b n None None

none_some : (words : Option Asked) → is_some words ≡ true → words ≡ None → ⊥
none_some words s n = let m = ap is_some (sym n) ∙ s in cc

none_judged : (words : Option Asked) → judges words ≡ true → words ≡ None → ⊥
none_judged words j n = let m = ap judges (sym n) ∙ j in cc

module _ (words : Option Asked) (old : Option (List ℕ)) (a b : Outside) where
  by_run : (e : End) → judges words ≡ false → Ends words old a b e → Shows words old a b (status_of e) (journal_in_end e) (spent_of e)
  by_run (end.Done j) k h = ran _ _ _ k (ap is_some h.asks) (is_done j h)
  by_run end.Usage k h = unasked h.0 h.1
  by_run (end.Refused line cause) k h = ran _ _ _ k (is_asked words h.0)
      (is_refused h.0 (some_weaker old _ IsRefused (λ t x. inr (x.0, record { line = line; cause = cause }, x.1)) h.1) h.2)
  by_run end.TooLong k h = ran _ _ _ k (is_asked words h.0) (is_refused h.0 (some_weaker old _ IsRefused (λ t x. inl x) h.1) h.2)
  by_run end.ReadFault k h = ran _ _ _ k (is_asked words h.0) (is_unread h.0 h.1 h.2)
  by_run (end.WriteFault j) k h = ran _ _ _ k (ap is_some h.1.asks) (is_cut j h.0 h.1)
  by_run end.Memory k h = ran _ _ _ k h.0 (is_memory h.1)
  by_run end.NoThread k h = ran _ _ _ k h.0 (is_threadless h.1 h.2 h.3)
  by_run (end.Spent s) k h = ran _ _ _ k h.0 (is_spent s h.1 h.2 h.3)
  by_run _ k h = absurd h

  unjudged : (e : End) → status_of e ≡ 3 → HasNoVerdict old e → IfSome old IsRefusedInput
  unjudged e q h = some_weaker old _ IsRefusedInput (λ t x. unjudged_refused t e q x.0 x.1) h

  by_check : (e : End) → judges words ≡ true → Checks old (channels_of a) (channels_of b) e → Shows words old a b (status_of e) (journal_in_end e) (spent_of e)
  by_check (end.Judged verdict.Yes) k h = judged _ k (says_yes h.0 h.1)
  by_check (end.Judged (verdict.Illegal n)) k h = judged _ k (says_no (verdict.Illegal n) (λ x. cc) refl h.0 h.1)
  by_check (end.Judged verdict.NotRun) k h = judged _ k (says_no verdict.NotRun (λ x. cc) refl h.0 h.1)
  by_check (end.VerdictFault v) k h = judged _ k (says_cut v h.0 h.1 h.2)
  by_check end.InputTooLong k h = judged _ k (says_refused (some_weaker old _ IsRefusedInput (λ t l. inl l) h.0) h.1)
  by_check (end.Refused line cause) k h = judged _ k (says_refused (unjudged (end.Refused line cause) refl h.0) h.1)
  by_check end.TooLong k h = judged _ k (says_refused (unjudged end.TooLong refl h.0) h.1)
  by_check (end.JournalLine line) k h = judged _ k (says_refused (unjudged (end.JournalLine line) refl h.0) h.1)
  by_check end.JournalCut k h = judged _ k (says_refused (unjudged end.JournalCut refl h.0) h.1)
  by_check end.ReadFault k h = judged _ k (says_unread h.0 h.1)
  by_check end.Memory k h = judged _ k (says_memory h)
  by_check _ k h = absurd h

-- ---- what follows of each clause

not_two_check : {old : Option (List ℕ)} {a b : Outside} {n : ℕ} → Judges old a b n → n ≡ 2 → ⊥
not_two_check (says_memory h) q = cc
not_two_check _ q = cc

-- what has a verdict isn't refused, and has one verdict
not_refused : {old : Option (List ℕ)} {v : Verdict} (Q : Type 0) → IsJudged old v → IfSome old (λ x. IsRefusedInput x → Q)
not_refused {old} {v} Q y =
    some_weaker old (λ t. IsInput t y.load y.journal) _ (λ t i z. absurd (input_not_refused t y.load y.journal i z)) y.input

by_verdict : {old : Option (List ℕ)} (w : Verdict) (n : ℕ) → n ≡ verdict_status w → IsJudged old w
    → IfSome old (λ x. (load : Workload) (o : Journal) (v : Verdict) → IsInput x load o → IsVerdict load o v → (n ≡ verdict_status v) ⊎ (n ≡ 6))
by_verdict {old} w n s y = some_weaker old (λ t. IsInput t y.load y.journal) _ (λ t j load o v i is.
    let loads = same_load t y.load load y.journal o j i in
    let journals = same_journal t y.load load y.journal o j i in
    let mine = subst (λ (x : Workload). IsVerdict x o w) loads (subst (λ (x : Journal). IsVerdict y.load x w) journals y.verdict) in
    inl (s ∙ ap verdict_status (same_verdict load o v w is mine))) y.input

module _ {words : Option Asked} {old : Option (List ℕ)} {a b : Outside} where
  not_two_run : {n : ℕ} {j : Option Journal} {s : Option ℕ} → Runs words old a b n j s → n ≡ 2 → ⊥
  not_two_run (is_memory h) q = cc
  not_two_run _ q = cc

  pub headline : {n : ℕ} {j : Option Journal} {s : Option ℕ} → Shows words old a b n j s → n ≡ 0
      → IfSome j (λ x. RanWorkload words old x (Appends a.held b.held))
  headline (ran _ _ _ k i (is_done j x)) q = x
  headline (ran _ _ _ k i (is_cut j r x)) q = absurd (cc)
  headline _ q = tt

  pub headline_cut : {n : ℕ} {j : Option Journal} {s : Option ℕ} → Shows words old a b n j s → n ≡ 5
      → IfSome j (λ x. RanWorkload words old x (AppendsFront a.held b.held))
  headline_cut (ran _ _ _ k i (is_cut j r x)) q = x
  headline_cut (ran _ _ _ k i (is_done j x)) q = absurd (cc)
  headline_cut _ q = tt

  pub text_two : {n : ℕ} {j : Option Journal} {s : Option ℕ} → Shows words old a b n j s → IfSome j (λ x. IsTextTwo (journal_text x))
  text_two (ran _ _ _ k i (is_done j x)) = run_text_two j x.is_run.layout
  text_two (ran _ _ _ k i (is_cut j r x)) = run_text_two j x.is_run.layout
  text_two _ = tt

  pub settled : {n : ℕ} {j : Option Journal} {s : Option ℕ} → Shows words old a b n j s → IfSome words InRange → n ≡ 0
      → IfSome j (λ x. IsPlainOutput words old x (Appends a.held b.held))
  settled (ran _ _ _ k i (is_done j x)) g q = plain_output j (Appends a.held b.held) words old x g
  settled (ran _ _ _ k i (is_cut j r x)) g q = absurd (cc)
  settled _ g q = tt

  pub settled_cut : {n : ℕ} {j : Option Journal} {s : Option ℕ} → Shows words old a b n j s → IfSome words InRange → n ≡ 5
      → IfSome j (λ x. IsPlainOutput words old x (AppendsFront a.held b.held))
  settled_cut (ran _ _ _ k i (is_cut j r x)) g q = plain_output j (AppendsFront a.held b.held) words old x g
  settled_cut (ran _ _ _ k i (is_done j x)) g q = absurd (cc)
  settled_cut _ g q = tt

  pub journal : {n : ℕ} {j : Option Journal} {s : Option ℕ} → Shows words old a b n j s → IsSome j ↔ ((judges words ≡ false) × ((n ≡ 0) ⊎ (n ≡ 5)))
  journal (ran _ _ _ k i (is_done j x)) = (λ q. (k, inl refl), λ q. refl)
  journal (ran _ _ _ k i (is_cut j r x)) = (λ q. (k, inr refl), λ q. refl)
  journal (judged n k x) = (λ q. absurd (cc), λ q. absurd (judges_one words q.0 k))
  journal _ = (λ q. absurd (cc), λ q. absurd (elim q.1 [ inl e ↦ cc | inr e ↦ cc ]))

  pub spent : {n : ℕ} {j : Option Journal} {s : Option ℕ} → Shows words old a b n j s → IsSome s ↔ (n ≡ 8)
  spent (ran _ _ _ k i (is_spent s x r h)) = (λ q. refl, λ q. refl)
  spent (judged _ k (says_memory h)) = (λ q. absurd (cc), λ q. absurd (cc))
  spent _ = (λ q. absurd (cc), λ q. absurd (cc))

  pub usage : {n : ℕ} {j : Option Journal} {s : Option ℕ} → Shows words old a b n j s → (n ≡ 2) ↔ (words ≡ None)
  usage (unasked e h) = (λ q. e, λ q. refl)
  usage (ran _ _ _ k i x) = (λ q. absurd (not_two_run x q), λ e. absurd (none_some words i e))
  usage (judged _ k x) = (λ q. absurd (not_two_check x q), λ e. absurd (none_judged words k e))

  pub refused : {n : ℕ} {j : Option Journal} {s : Option ℕ} → Shows words old a b n j s → judges words ≡ false → n ≡ 3 → IfSome old IsRefused
  refused (ran _ _ _ k i (is_refused r x h)) l q = x
  refused (judged _ k x) l q = absurd (judges_one words l k)
  refused _ l q = absurd (cc)

  pub refused_where : {n : ℕ} {j : Option Journal} {s : Option ℕ} → Shows words old a b n j s → reads_workload words ≡ true → (Rose a.reads b.reads → ⊥)
      → IfSome old (λ x. IsRefused x → (n ≡ 3) ⊎ (n ≡ 6))
  refused_where (unasked e h) r n = absurd (nothing_asked words e r)
  refused_where (ran _ _ _ k i (is_done j x)) r n = no_refusal _ words old j _ x r
  refused_where (ran _ _ _ k i (is_refused x y h)) r n = some_all old _ (λ t z. inl refl)
  refused_where (ran _ _ _ k i (is_unread x y h)) r n = absurd (n y)
  refused_where (ran _ _ _ k i (is_cut j y x)) r n = no_refusal _ words old j _ x r
  refused_where (ran _ _ _ k i (is_memory h)) r n = some_all old _ (λ t z. inr refl)
  refused_where (ran _ _ _ k i (is_threadless x y h)) r n = some_weaker old IsWorkload _ (λ t w z. absurd (not_workload t w z)) (y r)
  refused_where (ran _ _ _ k i (is_spent s x y h)) r n = some_weaker old IsWorkload _ (λ t w z. absurd (not_workload t w z)) (y r)
  refused_where (judged _ k x) r n = absurd (not_both words r k)

  pub reading : {n : ℕ} {j : Option Journal} {s : Option ℕ} → Shows words old a b n j s → (n ≡ 3) ⊎ (n ≡ 4)
      → (reads_workload words ≡ true) ⊎ (judges words ≡ true)
  reading (ran _ _ _ k i (is_refused r x h)) q = inl r
  reading (ran _ _ _ k i (is_unread r x h)) q = inl r
  reading (judged _ k x) q = inr k
  reading _ q = absurd (elim q [ inl e ↦ cc | inr e ↦ cc ])

  pub read_fault : {n : ℕ} {j : Option Journal} {s : Option ℕ} → Shows words old a b n j s → n ≡ 4 → Rose a.reads b.reads
  read_fault (ran _ _ _ k i (is_unread r x h)) q = x
  read_fault (judged _ k (says_unread x h)) q = x
  read_fault _ q = absurd (cc)

  pub write_fault : {n : ℕ} {j : Option Journal} {s : Option ℕ} → Shows words old a b n j s → n ≡ 5 → Rose a.writes b.writes
  write_fault (ran _ _ _ k i (is_cut j x r)) q = x
  write_fault (judged _ k (says_cut v x y h)) q = x
  write_fault _ q = absurd (cc)

  pub no_thread : {n : ℕ} {j : Option Journal} {s : Option ℕ} → Shows words old a b n j s → n ≡ 7 → Rose a.threads b.threads
  no_thread (ran _ _ _ k i (is_threadless x r h)) q = x
  no_thread (judged _ k (says_memory h)) q = absurd (cc)
  no_thread _ q = absurd (cc)

  pub turns_spent : {n : ℕ} {j : Option Journal} {s : Option ℕ} → Shows words old a b n j s → IfSome s (λ x. 2 ^ 62 ≤ x)
  turns_spent (ran _ _ _ k i (is_spent s x r h)) = x
  turns_spent _ = tt

  pub nothing : {n : ℕ} {j : Option Journal} {s : Option ℕ} → Shows words old a b n j s → (n ≡ 0 → ⊥) → (n ≡ 5 → ⊥) → (n ≡ 9 → ⊥) → b.held ≡ a.held
  nothing (unasked e h) x y z = h
  nothing (ran _ _ _ k i (is_done j r)) x y z = absurd (x refl)
  nothing (ran _ _ _ k i (is_refused r v h)) x y z = h
  nothing (ran _ _ _ k i (is_unread r v h)) x y z = h
  nothing (ran _ _ _ k i (is_cut j w r)) x y z = absurd (y refl)
  nothing (ran _ _ _ k i (is_memory h)) x y z = h
  nothing (ran _ _ _ k i (is_threadless t r h)) x y z = h
  nothing (ran _ _ _ k i (is_spent s v r h)) x y z = h
  nothing (judged _ k (says_yes v h)) x y z = absurd (x refl)
  nothing (judged _ k (says_no v d s i h)) x y z = absurd (z refl)
  nothing (judged _ k (says_cut v w i h)) x y z = absurd (y refl)
  nothing (judged _ k (says_refused v h)) x y z = h
  nothing (judged _ k (says_unread v h)) x y z = h
  nothing (judged _ k (says_memory h)) x y z = h

  pub complete : {n : ℕ} {j : Option Journal} {s : Option ℕ} → Shows words old a b n j s → reads_workload words ≡ true → (Rose a.reads b.reads → ⊥)
      → (Rose a.writes b.writes → ⊥) → (Rose a.threads b.threads → ⊥)
      → IfSome old (λ x. IsWorkload x → (n ≡ 0) ⊎ (n ≡ 6) ⊎ (n ≡ 8))
  complete (unasked e h) r x w y = absurd (nothing_asked words e r)
  complete (ran _ _ _ k i (is_done j z)) r x w y = some_all old _ (λ t z. inl refl)
  complete (ran _ _ _ k i (is_refused z v h)) r x w y = some_weaker old IsRefused _ (λ t v z. absurd (not_workload t z v)) v
  complete (ran _ _ _ k i (is_unread z v h)) r x w y = absurd (x v)
  complete (ran _ _ _ k i (is_cut j v z)) r x w y = absurd (w v)
  complete (ran _ _ _ k i (is_memory h)) r x w y = some_all old _ (λ t z. inr (inl refl))
  complete (ran _ _ _ k i (is_threadless v z h)) r x w y = absurd (y v)
  complete (ran _ _ _ k i (is_spent s v z h)) r x w y = some_all old _ (λ t z. inr (inr refl))
  complete (judged _ k z) r x w y = absurd (not_both words r k)

  pub complete_generated : {n : ℕ} {j : Option Journal} {s : Option ℕ} → Shows words old a b n j s → is_some words ≡ true → reads_workload words ≡ false
      → judges words ≡ false → (Rose a.writes b.writes → ⊥)
      → (Rose a.threads b.threads → ⊥) → (n ≡ 0) ⊎ (n ≡ 6) ⊎ (n ≡ 8)
  complete_generated (unasked e h) s r l w y = absurd (none_some words s e)
  complete_generated (ran _ _ _ k i (is_done j z)) s r l w y = inl refl
  complete_generated (ran _ _ _ k i (is_refused z v h)) s r l w y = absurd (let m = sym z ∙ r in cc)
  complete_generated (ran _ _ _ k i (is_unread z v h)) s r l w y = absurd (let m = sym z ∙ r in cc)
  complete_generated (ran _ _ _ k i (is_cut j v z)) s r l w y = absurd (w v)
  complete_generated (ran _ _ _ k i (is_memory h)) s r l w y = inr (inl refl)
  complete_generated (ran _ _ _ k i (is_threadless v z h)) s r l w y = absurd (y v)
  complete_generated (ran _ _ _ k i (is_spent o v z h)) s r l w y = inr (inr refl)
  complete_generated (judged _ k z) s r l w y = absurd (judges_one words l k)

  pub check_yes : {n : ℕ} {j : Option Journal} {s : Option ℕ} → Shows words old a b n j s → judges words ≡ true → n ≡ 0
      → IsJudged old verdict.Yes × Appends a.held b.held (verdict_line verdict.Yes)
  check_yes (ran _ _ _ k i x) l q = absurd (judges_one words k l)
  check_yes (judged _ k (says_yes y h)) l q = (y, h)
  check_yes _ l q = absurd (cc)

  pub check_no : {n : ℕ} {j : Option Journal} {s : Option ℕ} → Shows words old a b n j s → judges words ≡ true → n ≡ 9
      → (v : Verdict) × (v ≡ verdict.Yes → ⊥) × IsJudged old v × Appends a.held b.held (verdict_line v)
  check_no (ran _ _ _ k i x) l q = absurd (judges_one words k l)
  check_no (judged _ k (says_no v d s y h)) l q = (v, d, y, h)
  check_no _ l q = absurd (cc)

  pub check_cut : {n : ℕ} {j : Option Journal} {s : Option ℕ} → Shows words old a b n j s → judges words ≡ true → n ≡ 5
      → (v : Verdict) × IsJudged old v × AppendsFront a.held b.held (verdict_line v)
  check_cut (ran _ _ _ k i x) l q = absurd (judges_one words k l)
  check_cut (judged _ k (says_cut v w y h)) l q = (v, y, h)
  check_cut _ l q = absurd (cc)

  pub check_nine : {n : ℕ} {j : Option Journal} {s : Option ℕ} → Shows words old a b n j s → n ≡ 9 → judges words ≡ true
  check_nine (judged _ k x) q = k
  check_nine (ran _ _ _ k i (is_memory h)) q = absurd (cc)
  check_nine _ q = absurd (cc)

  pub check_refused : {n : ℕ} {j : Option Journal} {s : Option ℕ} → Shows words old a b n j s → judges words ≡ true → n ≡ 3 → IfSome old IsRefusedInput
  check_refused (ran _ _ _ k i x) l q = absurd (judges_one words k l)
  check_refused (judged _ k (says_refused y h)) l q = y
  check_refused _ l q = absurd (cc)

  pub check_refused_where : {n : ℕ} {j : Option Journal} {s : Option ℕ} → Shows words old a b n j s → judges words ≡ true → (Rose a.reads b.reads → ⊥)
      → IfSome old (λ x. IsRefusedInput x → (n ≡ 3) ⊎ (n ≡ 6))
  check_refused_where (unasked e h) l r = absurd (none_judged words l e)
  check_refused_where (ran _ _ _ k i x) l r = absurd (judges_one words k l)
  check_refused_where (judged _ k (says_yes y h)) l r = not_refused _ y
  check_refused_where (judged _ k (says_no v d s y h)) l r = not_refused _ y
  check_refused_where (judged _ k (says_cut v w y h)) l r = not_refused _ y
  check_refused_where (judged _ k (says_refused y h)) l r = some_all old _ (λ t z. inl refl)
  check_refused_where (judged _ k (says_unread y h)) l r = absurd (r y)
  check_refused_where (judged _ k (says_memory h)) l r = some_all old _ (λ t z. inr refl)

  pub check_complete : {n : ℕ} {j : Option Journal} {s : Option ℕ} → Shows words old a b n j s → judges words ≡ true → (Rose a.reads b.reads → ⊥)
      → (Rose a.writes b.writes → ⊥)
      → (n ≡ 0) ⊎ (n ≡ 3) ⊎ (n ≡ 6) ⊎ (n ≡ 9)
  check_complete (unasked e h) l r w = absurd (none_judged words l e)
  check_complete (ran _ _ _ k i x) l r w = absurd (judges_one words k l)
  check_complete (judged _ k (says_yes y h)) l r w = inl refl
  check_complete (judged _ k (says_no v d s y h)) l r w = inr (inr (inr refl))
  check_complete (judged _ k (says_cut v x y h)) l r w = absurd (w x)
  check_complete (judged _ k (says_refused y h)) l r w = inr (inl refl)
  check_complete (judged _ k (says_unread y h)) l r w = absurd (r y)
  check_complete (judged _ k (says_memory h)) l r w = inr (inr (inl refl))

  pub decides : {n : ℕ} {j : Option Journal} {s : Option ℕ} → Shows words old a b n j s → judges words ≡ true → (Rose a.reads b.reads → ⊥)
      → (Rose a.writes b.writes → ⊥)
      → IfSome old (λ x. (load : Workload) (o : Journal) (v : Verdict) → IsInput x load o → IsVerdict load o v → (n ≡ verdict_status v) ⊎ (n ≡ 6))
  decides (unasked e h) l r w = absurd (none_judged words l e)
  decides (ran _ _ _ k i x) l r w = absurd (judges_one words k l)
  decides (judged _ k (says_yes y h)) l r w = by_verdict verdict.Yes 0 refl y
  decides (judged _ k (says_no v d s y h)) l r w = by_verdict v 9 s y
  decides (judged _ k (says_cut v x y h)) l r w = absurd (w x)
  decides (judged _ k (says_refused y h)) l r w = some_weaker old IsRefusedInput _ (λ t z load o v i is. absurd (input_not_refused t load o i z)) y
  decides (judged _ k (says_unread y h)) l r w = absurd (r y)
  decides (judged _ k (says_memory h)) l r w = some_all old _ (λ t load o v i is. inr refl)

-- ---- of the outcome

module _ {words : Option Asked} {old new : Option (List ℕ)} {a b : Outside} {f f' : ℕ} {p p' : Option (List ℕ)} {outcome : Outcome}
    (t : IsToldOf words old new a b f f' p p' outcome) where
  pub shown : Shows words old a b outcome.status outcome.journal outcome.spent
  shown =
      subst (λ (n : ℕ). Shows words old a b n outcome.journal outcome.spent) (sym t.told.status)
      (subst (λ (j : Option Journal). Shows words old a b (status_of t.end) j outcome.spent) (sym t.told.journal)
      (subst (λ (s : Option ℕ). Shows words old a b (status_of t.end) (journal_in_end t.end) s) (sym t.told.spent)
      (either (judges words) (λ k. by_run words old a b t.end k (t.comes.run k)) (λ k. by_check words old a b t.end k (t.comes.check k)))))

  pub all_threads : (outcome.status ≡ 7 → ⊥) → b.threads ≡ a.threads
  all_threads n = t.comes.threads (λ q. n (t.told.status ∙ q))

  pub ended : HasEnded words (record { left = old; reads = a.reads; writes = a.writes; held = a.held; threads = a.threads; says = f; said = p })
      (record { left = new; reads = b.reads; writes = b.writes; held = b.held; threads = b.threads; says = f'; said = p' }) outcome
  ended = record { end = t.end; run = t.comes.run; check = t.comes.check; told = t.told }

  pub read : IsReadFor words old new a.reads b.reads outcome.status outcome.journal
  read = subst (λ (n : ℕ). IsReadFor words old new a.reads b.reads n outcome.journal) (sym t.told.status)
      (subst (λ (j : Option Journal). IsReadFor words old new a.reads b.reads (status_of t.end) j) (sym t.told.journal) t.comes.read)

  pub later : (a.reads ≤ b.reads) × (a.writes ≤ b.writes) × (f ≤ f')
  later = (t.comes.later.0, t.comes.later.1, t.told.said.later)

-- Where nothing was started.
pub idle : (P : Type 0) (words : Option Asked) (e : End) (f f' : ℕ) (p p' : Option (List ℕ)) (outcome : Outcome)
    → ((judges words ≡ true) ⊎ StartsNothing (status_of e) → P)
    → Told e f f' p p' outcome → (judges words ≡ true) ⊎ StartsNothing outcome.status → P
idle P words e f f' p p' outcome h t (inl k) = h (inl k)
idle P words e f f' p p' outcome h t (inr q) =
    told_status (λ (n : ℕ). StartsNothing n → P) e f f' p p' outcome (λ s. h (inr s)) (λ six. absurd (not_six six)) t q
