-- A node that carried a workload's parts out has run the workload.
use Rattle.workload_runners.proofs.Names.{[], ◌++◌, ◌+◌, ◌-◌, ◌<◌, ◌∙◌, ◌∷◌, ◌≡◌, ◌≤◌, All, Bool, CallerAs, CallerIn, Close, Final, IsRun, Journal, KeptAs, get_or, Legal, List, MainAs, NodeEntry, None, Option, Part, RunBy, RunOf, Some, State, Terms, Workload, accepted_end, ap, append_assoc, arith, counts_next, entries_of, entry, if◌then◌else◌, is_dropped, journal_run, kept, length, nat_tests, next, no_counts, opening, refl, skipped, slice_get, slice_index, subst, suc, sym, terms_for, zero, ℕ}
use Rattle.std.proofs.Common.{map, take, drop}
use Rattle.std.proofs.lemmas.List.{take_all}
use Rattle.mtapi_machine.specs.declared.replies.Reply.TheVariants as reply
use Rattle.workload_runners.specs.declared.statements.Stop.{Stop}
use Rattle.workload_runners.proofs.OwnParts.{MainCuts}
use Rattle.workload_runners.proofs.WholeRun.{Known, KnownSeat, run_by}
use Rattle.workload_runners.specs.declared.crew.run.RanNode.{RanNode}
use Rattle.workload_runners.specs.Rounds.{WorkerAs}
use Rattle.workload_runners.specs.Ran.{EachCalled, RanAs, StandsIn}
use Rattle.workload_runners.specs.declared.parts.MainPart.{MainPart}
use Rattle.workload_runners.specs.declared.parts.CallerPart.{CallerPart}

abbrev pub MainDoes : MainPart → Terms → ℕ → Option Stop → List NodeEntry → Type 0
MainDoes p t who stop es = stop ≡ None → MainAs p.part.now.statements who es

abbrev pub CallerDoes : CallerPart → Terms → ℕ → Option Stop → List NodeEntry → Type 0
CallerDoes p t who stop es = stop ≡ None → CallerAs p.part.now.statements who es

pub first_part : (ps : List Part) (p : Part) → 1 ≤ length ps → p ≡ get_or ps 0 p → (qs : List Part) × (ps ≡ p ∷ qs)
first_part [] p l e = absurd (omega arith)
first_part (q ∷ qs) p l e = (qs, ap (λ (x : Part). x ∷ qs) (sym e))

pub rest_of : (ps qs : List Part) (p : Part) → ps ≡ p ∷ qs → take (length ps - 1) (drop 1 ps) ≡ qs
rest_of ps qs p e = ap (λ (l : List Part). take (length l - 1) (drop 1 l)) e ∙ take_all (suc (length qs) - 1) qs (omega arith)

-- the part at a place, and what its caller did
record DidAt (ps : List Part) (i who : ℕ) (H front behind : List NodeEntry) : Type 0 where
  part : Part
  is : slice_get ps i ≡ Some part
  did : CallerAs part.statements who (entries_of who H)
  place : StandsIn who front behind (entries_of who H)

each_at : (t : Terms) (H front behind : List NodeEntry) (who : ℕ) (ds : List CallerPart) (us : List (Option Stop))
    → EachCalled CallerDoes t H front behind who ds us → All (λ (s : Option Stop). s ≡ None) us → (i : ℕ) → i < length ds
    → DidAt (map (λ (c : CallerPart). c.part.now) ds) i (who + i) H front behind
each_at t H front behind who [] us e n i l = absurd (omega arith)
each_at t H front behind who (d ∷ ds) [] e n i l = absurd e
each_at t H front behind who (d ∷ ds) (u ∷ us) e n zero l =
    let here : who ≡ who + 0 = omega arith in
    subst (λ (k : ℕ). DidAt (map (λ (c : CallerPart). c.part.now) (d ∷ ds)) 0 k H front behind) here
    (record { part = d.part.now; is = refl; did = e.0.0 (n 0 u (omega arith)); place = e.0.1 })
each_at t H front behind who (d ∷ ds) (u ∷ us) e n (suc i) l =
    let r = each_at t H front behind (suc who) ds us e.1 (λ k s h. n (suc k) s (omega arith)) i (omega arith) in
    let there : suc who + i ≡ who + suc i = omega arith in
    subst (λ (k : ℕ). DidAt (map (λ (c : CallerPart). c.part.now) (d ∷ ds)) (suc i) k H front behind) there
    (record { part = r.part; is = r.is; did = r.did; place = r.place })

behind_main : (ps : List Part) (p q : Part) (w i : ℕ) → slice_get ps i ≡ Some q → slice_get (p ∷ ps) ((w + 1 + i) - w) ≡ Some q
behind_main ps p q w i e = let n : (w + 1 + i) - w ≡ suc i = omega arith in ap (λ (k : ℕ). slice_get (p ∷ ps) k) n ∙ e

-- a number stands beside each kept entry
both_or_none : (b : Bool) (es : List NodeEntry) (e : NodeEntry) (ns : List ℕ) (n : ℕ) → length es ≡ length ns
    → length (if b then es else e ∷ es) ≡ length (if b then ns else n ∷ ns)
both_or_none b es e ns n e1 = grind (arith, nat_tests)

beside_each : (s : State) (counts : List ℕ) (L : List NodeEntry) → length (kept s L) ≡ length (skipped s counts L)
unfolding kept skipped
beside_each s counts [] = refl
beside_each s counts (e ∷ L) =
    both_or_none (is_dropped s e) (kept (next s e) L) e (skipped (next s e) (counts_next s counts e) L) (slice_index counts e.who)
    (beside_each (next s e) (counts_next s counts e) L)

map_length : (ds : List CallerPart) → length (map (λ (c : CallerPart). c.part.now) ds) ≡ length ds
map_length [] = refl
map_length (d ∷ ds) = ap suc (map_length ds)

module _ (load : Workload) (ps : List Part) {A : Type 0} (main : MainPart) (others : List CallerPart) (r : RanNode (Option Stop) (Option Stop) A)
    (x : RanAs WorkerAs MainDoes CallerDoes main others (terms_for load) r) (none : r.told ≡ None) (nones : All (λ (s : Option Stop). s ≡ None) r.others.items)
    (are : map (λ (c : CallerPart). c.part.now) others ≡ ps) (parts : load.parts ≡ main.part.now ∷ ps) where
  abbrev w : ℕ
  w = load.settings.workers

  abbrev p : Part
  p = main.part.now

  abbrev cuts : MainCuts w x.history x.own x.close r.last
  cuts = record {
    before = x.ends.before;
    behind = x.ends.behind;
    rest = x.ends.rest;
    is = x.ends.is;
    main_before = x.ends.main_before;
    main_behind = x.ends.main_behind;
    main_rest = x.ends.main_rest;
  }

  long : length others ≡ length ps
  long = sym (map_length others) ∙ ap (λ (l : List Part). length l) are

  known_caller : (k : ℕ) → w < k → k < w + length (p ∷ ps)
      → KnownSeat (CallerIn (p ∷ ps) w) k x.history x.ends.before (entry w Close x.close ∷ (x.ends.behind ++ entry w Final r.last ∷ x.ends.rest))
  known_caller k l h =
      let few = long in
      let d = each_at (terms_for load) x.history x.ends.before (entry w Close x.close ∷ (x.ends.behind ++ entry w Final r.last ∷ x.ends.rest)) (w + 1) others
      r.others.items x.called nones (k - (w + 1)) (omega arith) in
      let here : w + 1 + (k - (w + 1)) ≡ k = omega arith in
      subst (λ (i : ℕ). KnownSeat (CallerIn (p ∷ ps) w) i x.history x.ends.before (entry w Close x.close
      ∷ (x.ends.behind ++ entry w Final r.last ∷ x.ends.rest)))
      here (record {
        did = (
          d.part,
          behind_main ps p d.part w (k - (w + 1)) (subst (λ (l : List Part). slice_get l (k - (w + 1)) ≡ Some d.part) are d.is),
          d.did,
        );
        place = record { there = d.place.there; none = d.place.none };
      })

  known : Known (terms_for load) w (w + length (p ∷ ps)) (p ∷ ps) p.statements x.history
  known =
      let fits = x.legal.fits in
      let few = fits.settings.workers.1 in
      let many = fits.callers in
      let count : length load.parts ≡ length (p ∷ ps) = ap (λ (l : List Part). length l) parts in
      record {
        legal = x.legal.from;
        workers_are = refl;
        seats_are = ap (λ (n : ℕ). w + n) count;
        main_seat = omega arith;
        few = omega arith;
        own = x.own;
        a = x.close;
        b = r.last;
        cuts = cuts;
        main = x.main none;
        called = known_caller;
        worked = λ k l. let d = x.worked k l in record { did = d.0; place = record { there = d.1.there; none = d.1.none } };
      }

  pub run_is : IsRun load r.journal
  run_is =
      let fits = x.legal.fits in
      let few = fits.settings.workers.1 in
      let many = fits.callers in
      let whole = run_by load (terms_for load) p ps x.history known parts in
      let told = journal_run load (terms_for load) x.history (omega arith, omega arith) whole in
      let run = subst (λ (es : List NodeEntry). RunOf load es r.journal.entries.skipped) (sym x.kept.entries)
      (subst (λ (ns : List ℕ). RunOf load (kept (opening (terms_for load)) x.history) ns) (sym x.kept.numbers) told) in
      let ends = run.ends in
      record {
        settings = x.kept.settings;
        callers = x.kept.callers;
        layout = x.kept.layout;
        beside = ap (λ (es : List NodeEntry). length es) x.kept.entries
            ∙ (beside_each (opening (terms_for load)) no_counts x.history ∙ ap (λ (ns : List ℕ). length ns) (sym x.kept.numbers));
        history = x.history;
        answered = x.legal;
        made = whole;
        kept = x.kept;
        legal = x.kept.legal;
        run = run;
        tasks = accepted_end (terms_for load) r.journal.entries.entries (ends.before ++ entry w Close reply.Ok ∷ ends.behind) w x.kept.legal
            (ends.closes ∙ sym (append_assoc ends.before (entry w Close reply.Ok ∷ ends.behind) (entry w Final reply.Ok ∷ [])));
      }

pub run_from : (load : Workload) (ps : List Part) {A : Type 0} {main : MainPart} {others : List CallerPart} (r : RanNode (Option Stop) (Option Stop) A)
    (t : Terms) → t ≡ terms_for load → RanAs WorkerAs MainDoes CallerDoes main others t r → r.told ≡ None → All (λ (s : Option Stop). s ≡ None) r.others.items
    → map (λ (c : CallerPart). c.part.now) others ≡ ps → load.parts ≡ main.part.now ∷ ps → IsRun load r.journal
run_from load ps {main = main} {others = others} r t e x none nones are parts =
    run_is load ps main others r (subst (λ (u : Terms). RanAs WorkerAs MainDoes CallerDoes main others u r) e x) none nones are parts
