-- Fronts of runs, and that no run goes on from a deadlock.
use Rattle.std.proofs.Common.{◌≡◌, ℕ, Bool, true, false, cond, List, [], ◌∷◌, ◌++◌, length, refl, sym, ◌∙◌, subst, arith, append_assoc}
use Rattle.std.proofs.lemmas.List.{append-nil, length-append, nil_from_length}
use Rattle.history.specs.Histories.{entry}
use Rattle.mtapi_machine.specs.declared.ops.Op.{Op}
use Rattle.mtapi_machine.specs.declared.ops.Op.TheVariants as op
use Rattle.mtapi_machine.specs.declared.replies.Reply.TheVariants as reply
use Rattle.mtapi_machine.specs.State.{State}
use Rattle.mtapi_machine.specs.Legal.{NodeEntry, next, after}
use Rattle.mtapi_machine.specs.Kept.{is_dropped, kept}
use Rattle.workload_file.specs.declared.workload.Workload.{Workload}
use Rattle.workload_runs.specs.RunOf.{RunOf}
use Rattle.run_report.specs.Report.{run_terms}
use Rattle.begun_runs.specs.Begun.{Begun, FrontsOfRuns, FrontsOfBegun, NoRunGoesOn}

pub fronts_of_runs : FrontsOfRuns
fronts_of_runs load es more ns beside even even_rest run = record { rest = more; beside = beside; even = even; even_rest = even_rest; run = run }

pub fronts_of_begun : FrontsOfBegun
fronts_of_begun load es more ns beside even b = record {
  rest = more ++ b.rest;
  beside = beside ++ b.beside;
  even = even;
  even_rest = let whole = b.even in let others = b.even_rest in grind (arith, length-append);
  run = subst (λ (l : List NodeEntry). RunOf load l (ns ++ (beside ++ b.beside))) (append_assoc es more b.rest)
      (subst (λ (l : List ℕ). RunOf load ((es ++ more) ++ b.rest) l) (append_assoc ns beside b.beside) b.run);
}

-- a run has begun
pub begun_whole : (load : Workload) (es : List NodeEntry) (ns : List ℕ) → length es ≡ length ns → RunOf load es ns → Begun load es ns
begun_whole load es ns even run = record {
  rest = [];
  beside = [];
  even = even;
  even_rest = refl;
  run = subst (λ (l : List NodeEntry). RunOf load l (ns ++ [])) (sym (append-nil es))
      (subst (λ (l : List ℕ). RunOf load es l) (sym (append-nil ns)) run);
}

-- an entry that was answered Ok stays in a journal
stays_last : (s : State) (L : List NodeEntry) (who : ℕ) (o : Op) → kept s (L ++ entry who o reply.Ok ∷ []) ≡ [] → ⊥
unfolding kept
stays_last s [] who o e = absurd (cc)
stays_last s (x ∷ L) who o e = either (is_dropped s x) (kept (next s x) (L ++ entry who o reply.Ok ∷ [])) (stays_last (next s x) L who o) e
  where
    either : (b : Bool) (K : List NodeEntry) → (K ≡ [] → ⊥) → cond b K (x ∷ K) ≡ [] → ⊥
    either true K more q = more q
    either false K more q = cc

-- nothing stands behind a list where both together are nothing
none_behind : {A : Type 0} (es more : List A) → es ++ more ≡ [] → more ≡ []
none_behind [] more q = q
none_behind (b ∷ es) more q = absurd (cc)

-- a list that isn't empty, behind another, has the last element of both
last_behind : {A : Type 0} (es more X : List A) (y : A) → es ++ more ≡ X ++ y ∷ [] → (more ≡ [] → ⊥) → (Y : List A) × (more ≡ Y ++ y ∷ [])
last_behind [] more X y e some = (X, e)
last_behind (a ∷ es) more [] y e some = absurd (some (none_behind es more (cc)))
last_behind (a ∷ es) more (b ∷ X) y e some = last_behind es more X y (cc) some

pub no_run_goes_on : NoRunGoesOn
no_run_goes_on load layout es more ns beside stuck even legal run =
    let begun : Begun load (es ++ more) (ns ++ beside) = begun_whole load (es ++ more) (ns ++ beside) even run in
    let still = stuck.still more beside legal begun in
    let ends = run.ends in
    let close = entry load.settings.workers op.Close reply.Ok in
    let final = entry load.settings.workers op.Final reply.Ok in
    let last = last_behind es more (ends.before ++ close ∷ ends.behind) final (ends.closes ∙ sym (append_assoc ends.before (close ∷ ends.behind) (final ∷ [])))
    (λ none. stuck.unended (whole none)) in
    stays_last (after (run_terms layout load) es) last.0 load.settings.workers op.Final
    (subst (λ (l : List NodeEntry). kept (after (run_terms layout load) es) l ≡ []) last.1 still)
  where
    no_more : more ≡ [] → beside ≡ []
    no_more none = nil_from_length beside (let l = stuck.begun.even in grind (arith, length-append, none))

    whole : more ≡ [] → RunOf load es ns
    whole none =
        subst (λ (l : List ℕ). RunOf load es l) (append-nil ns)
        (subst (λ (l : List ℕ). RunOf load es (ns ++ l)) (no_more none)
        (subst (λ (l : List NodeEntry). RunOf load l (ns ++ beside)) (append-nil es)
        (subst (λ (l : List NodeEntry). RunOf load (es ++ l) (ns ++ beside)) none run)))
