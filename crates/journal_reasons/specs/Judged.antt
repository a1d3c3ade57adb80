-- What is said of a journal by itself.
use Rattle.std.specs.Prelude.{◌≡◌, ◌↔◌, ℕ, ◌-◌, List, [], ◌∷◌, ◌++◌, take, Option, Some, None, IfSome}
use Rattle.std.specs.List.{AllByRecursion}
use Rattle.history.specs.Histories.{entry}
use Rattle.mtapi_machine.specs.declared.replies.Reply.{Reply}
use Rattle.mtapi_machine.specs.declared.terms.Terms.{Terms}
use Rattle.mtapi_machine.specs.Legal.{NodeEntry, Legal as IsLegalList}
use Rattle.node_journals.specs.declared.entries.Journal.{Journal}
use Rattle.journal_check.specs.Verdicts.{IsLegal, IsFirstIllegal, terms_of_journal}
use Rattle.journal_reasons.specs.declared.judging.Judgement.{Judgement}
use Rattle.journal_reasons.specs.declared.judging.Judgement.TheVariants.{Legal, Illegal}

-- the number, from 1, of the first entry that isn't allowed, if there is one
abbrev pub place_judged : Judgement → Option ℕ
place_judged Legal = None
place_judged (Illegal n instead why) = Some n

-- the entries that are named as allowed in its place
abbrev pub instead_of : Judgement → List NodeEntry
instead_of Legal = []
instead_of (Illegal n instead why) = instead.items

-- in place of the n-th entry: the same seat asks the same, and behind the entries before it this reply is allowed
pub record IsInstead (terms : Terms) (L : List NodeEntry) (n : ℕ) (e : NodeEntry) : Type 0 where
  pub given : Reply
  pub same_call : take n L ≡ take (n - 1) L ++ entry e.who e.op given ∷ []
  pub allowed : IsLegalList terms (take (n - 1) L ++ e ∷ [])

-- each of these is allowed in its place
abbrev pub AreInstead : Terms → List NodeEntry → ℕ → List NodeEntry → Type 0
AreInstead terms L n es = AllByRecursion (IsInstead terms L n) es

-- the journal is legal where no place is named, and only there; a place that is named is the first that isn't allowed, and each entry
-- that is named in its place is allowed there
pub record IsJudgement (j : Journal) (v : Judgement) : Type 0 where
  pub legal : (place_judged v ≡ None) ↔ IsLegal j
  pub refused : (n : ℕ) → (place_judged v ≡ Some n) ↔ IsFirstIllegal (terms_of_journal j) j.entries.entries n
  pub instead : IfSome (place_judged v) (λ n. AreInstead (terms_of_journal j) j.entries.entries n (instead_of v))
