-- Lists that go on, entry by entry.
use Rattle.std.proofs.Common.{◌≡◌, ℕ, List, [], ◌∷◌, ◌++◌, sym, ◌∙◌, ap, subst, length, append_assoc, arith}
use Rattle.std.proofs.lemmas.List.{append-nil, length-append}
use Rattle.mtapi_machine.specs.Legal.{NodeEntry}
use Rattle.node_journals.specs.Journals.{KeptEntries}
use Rattle.workload_file.specs.declared.workload.Workload.{Workload}
use Rattle.workload_runs.specs.RunOf.{RunOf}
use Rattle.begun_runs.specs.Begun.{Begun, EntriesGoOn}

pub goes_on_here : (a : KeptEntries) → EntriesGoOn a a
goes_on_here a = ([], [], sym (append-nil a.entries), sym (append-nil a.skipped))

pub goes_on_one : (a b c : KeptEntries) (e : NodeEntry) (n : ℕ) → EntriesGoOn a b
    → c ≡ record { entries = b.entries ++ e ∷ []; skipped = b.skipped ++ n ∷ [] } → EntriesGoOn a c
goes_on_one a b c e n g is = (
  g.0 ++ e ∷ [],
  g.1 ++ n ∷ [],
  ap (λ z. z.entries) is ∙ (ap (λ (l : List NodeEntry). l ++ e ∷ []) g.2 ∙ append_assoc a.entries g.0 (e ∷ [])),
  ap (λ z. z.skipped) is ∙ (ap (λ (l : List ℕ). l ++ n ∷ []) g.3 ∙ append_assoc a.skipped g.1 (n ∷ [])),
)

-- where more entries make a run of a list, it has begun
pub begun_by : (load : Workload) (a b : KeptEntries) → length a.skipped ≡ length a.entries → length b.skipped ≡ length b.entries → EntriesGoOn a b
    → RunOf load b.entries b.skipped → Begun load a.entries a.skipped
begun_by load a b even whole g run = record {
  rest = g.0;
  beside = g.1;
  even = sym even;
  even_rest =
      let entries : length b.entries ≡ length (a.entries ++ g.0) = ap (λ (l : List NodeEntry). length l) g.2 in
      let numbers : length b.skipped ≡ length (a.skipped ++ g.1) = ap (λ (l : List ℕ). length l) g.3 in
      grind (arith, length-append, even, whole);
  run = subst (λ (l : List NodeEntry). RunOf load l (a.skipped ++ g.1)) g.2 (subst (λ (l : List ℕ). RunOf load b.entries l) g.3 run);
}
