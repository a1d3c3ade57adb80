-- The log of a list, with one more entry.
use Rattle.node_core.proofs.Names.{nat_tests, ◌≡◌, ℕ, ◌<◌, ◌^◌, Bool, true, false, List, [], ◌∷◌, ◌++◌, length, refl, sym, ◌∙◌, ap, subst, arith, slice_index, Option, None, Result, Ok, IfOk, IfSome, IsErr, ◌↔◌, entry, Op, Reply, Terms, State, opening, NodeEntry, Legal, after_from, after, pends_alike, drops, is_dropped, is_pending, kept, skipped, counted, counts_after, no_counts, Node, KeptEntries, kept_of, skipped_of, NodeStands, terms_of_node, seat_count, node_history_of, keeps, lost, AddsTo, Logs, KeepsOf, LoggedFrom, HasTerms, KeptAs, IsKeptJournal}
use Rattle.std.specs.declared.alloc.AllocError.{AllocError}
use Rattle.node_journals.specs.declared.entries.Journal.{Journal}
use Rattle.mtapi_machine.proofs.Drops.{Kept-legal, after-kept}
use Rattle.node_core.specs.declared.journaled.Kept.{Kept}
use Rattle.node_core.specs.declared.journaled.Kept.TheVariants.{Nothing, Lost, Entries}
use Rattle.node_core.specs.declared.journaled.Log.{Log}
use Rattle.node_core.proofs.KeptLemmas.{kept-append, skipped-append, counts-append, number_le}

-- what is kept of a list is kept of the longer one, with what the entry adds
added : (s : State) (L : List NodeEntry) (e : NodeEntry) (old new : Kept) (n : ℕ) → KeepsOf s old L → AddsTo old e n new → is_dropped (after_from s L) e ≡ false
    → n ≡ slice_index (counts_after s no_counts L) e.who → KeepsOf s new (L ++ e ∷ [])
added s L e old Nothing n k a d m = tt
added s L e old Lost n k a d m = tt
added s L e old (Entries x) n k a d m = grind (arith, nat_tests, kept, kept-append, skipped, no_counts, skipped-append)

-- an entry that is left out adds nothing
left_out : (s : State) (L : List NodeEntry) (e : NodeEntry) (k : Kept) → KeepsOf s k L → is_dropped (after_from s L) e ≡ true → KeepsOf s k (L ++ e ∷ [])
left_out s L e Nothing k d = tt
left_out s L e Lost k d = tt
left_out s L e (Entries x) k d = (
  k.0 ∙ (none (kept s L) ∙ (ap (λ b. kept s L ++ kept_of b e) (sym d) ∙ sym (kept-append s L e))),
  k.1 ∙ (none (skipped s no_counts L) ∙ (ap (λ b. skipped s no_counts L ++ skipped_of b (slice_index (counts_after s no_counts L) e.who)) (sym d)
      ∙ sym (skipped-append s no_counts L e))),
)
  where
    none : {A : Type 0} (xs : List A) → xs ≡ xs ++ []
    none [] = refl
    none (x ∷ xs) = ap (λ l. x ∷ l) (none xs)

logged : (s : State) (g k : Log) (L : List NodeEntry) (e : NodeEntry) (b : Bool) → LoggedFrom s g L → is_dropped (after_from s L) e ≡ b → Logs g b e k
    → LoggedFrom s k (L ++ e ∷ [])
logged s g k L e true old d new = grind (arith, nat_tests, kept, left_out, counted, counts-append, no_counts)
logged s g k L e false old d new = grind (arith, nat_tests, kept, added, counted, counts-append, no_counts)

-- the node goes on with the list, and so does the log
pub journal_goes_on : (n m : Node) (g k : Log) (L : List NodeEntry) (who : ℕ) (op : Op) (r : Reply) (alike : Bool) → LoggedFrom (opening (terms_of_node n)) g L
    → terms_of_node m ≡ terms_of_node n → pends_alike (after (terms_of_node n) L) who op ≡ alike → Logs g (drops alike r) (entry who op r) k
    → LoggedFrom (opening (terms_of_node m)) k (L ++ entry who op r ∷ [])
journal_goes_on n m g k L who op r alike old same is new =
    subst (λ (t : Terms). LoggedFrom (opening t) k (L ++ entry who op r ∷ [])) (sym same)
    (logged (opening (terms_of_node n)) g k L (entry who op r) (drops alike r) old (ap (λ b. drops b r) is) new)

-- a number fits, and so does a seat
pub number_fits : (n : Node) (g : Log) (L : List NodeEntry) (who : ℕ) → LoggedFrom (opening (terms_of_node n)) g L → length L < 2 ^ 62
    → slice_index g.counts who < 2 ^ 63
number_fits n g L who st l = grind (arith, nat_tests, number_le, terms_of_node)

-- nothing was called yet
pub logged_none : (s : State) (g : Log) → KeepsOf s g.kept [] → g.counts ≡ no_counts → LoggedFrom s g []
unfolding counts_after
logged_none s g a b = record { kept = a; counts = b }

pub kept_none : (s : State) (k : KeptEntries) → k ≡ record { entries = []; skipped = [] } → KeepsOf s (Entries k) []
unfolding kept skipped
kept_none s k e = (ap (λ (x : KeptEntries). x.entries) e, ap (λ (x : KeptEntries). x.skipped) e)

-- the kept entries are legal, and lead to the same state
pub kept_legal : (t : Terms) (L E : List NodeEntry) → Legal t L → E ≡ kept (opening t) L → Legal t E × (after t E ≡ after t L)
kept_legal t L E l e = grind (arith, nat_tests, Kept-legal, after-kept)

-- the journal that is handed out
module _ (t : Terms) where
  pub journal_none : (k : Kept) (r : Result (Option Journal) AllocError) → IsKeptJournal t k r → (r ≡ Ok None) ↔ (keeps k ≡ false)
  journal_none Nothing r e = (λ x. refl, λ x. e)
  journal_none Lost r e = rw e (λ x. cc, λ x. cc)
  journal_none (Entries k) r e = rw e (λ x. cc, λ x. cc)

  pub journal_has : (k : Kept) (r : Result (Option Journal) AllocError) → IsKeptJournal t k r → IfOk r (λ o. IfSome o (HasTerms t))
  journal_has Nothing r e = rw e tt
  journal_has Lost r e = rw e tt
  journal_has (Entries k) r e = rw e (record { layout = refl; settings = refl; callers = refl })

  pub journal_lost : (k : Kept) (r : Result (Option Journal) AllocError) → IsKeptJournal t k r → IsErr r ↔ (lost k ≡ true)
  journal_lost Nothing r e = rw e (λ x. cc, λ x. cc)
  journal_lost Lost r e = rw e (λ x. refl, λ x. refl)
  journal_lost (Entries k) r e = rw e (λ x. cc, λ x. cc)

  pub journal_kept : (k : Kept) (r : Result (Option Journal) AllocError) (L : List NodeEntry) → IsKeptJournal t k r → KeepsOf (opening t) k L → Legal t L
      → IfOk r (λ o. IfSome o (λ j. KeptAs t j L))
  journal_kept Nothing r L e h l = rw e tt
  journal_kept Lost r L e h l = rw e tt
  journal_kept (Entries k) r L e h l = grind (arith, nat_tests, kept_legal)
