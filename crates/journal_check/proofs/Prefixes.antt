-- Prefixes of a list of entries, one entry more, and the first one that isn't legal.
use Rattle.journal_check.proofs.Names.{◌≡◌, ℕ, ◌+◌, ◌≤◌, ◌<◌, List, [], ◌∷◌, ◌++◌, zero, suc, length, take, drop, get_or, sym, ◌∙◌, ap, subst, arith, take-append-drop, take-take, Terms, opening, NodeEntry, IsNext, LegalFrom, Fits, Legal, after, Legal-rest, Legal-append, Legal-one, Legal-prefix, IsFirstIllegal, nat_tests, eqb-true, eq-eqb}
use Rattle.std.proofs.lemmas.Grind.{take_at_read}
use Rattle.std.proofs.lemmas.List.{length-take}

-- the empty list
pub empty_legal : (terms : Terms) → Fits terms → Legal terms []
unfolding LegalFrom
empty_legal terms fits = record { fits = fits; from = tt }

pub take_next : (es : List NodeEntry) (i : ℕ) (e : NodeEntry) → i < length es → e ≡ get_or es i e → take (i + 1) es ≡ take i es ++ e ∷ []
take_next es i e below at = (take_at_read es i e below).1 ∙ ap (λ (x : NodeEntry). take i es ++ x ∷ []) (sym at)

pub legal_more : (terms : Terms) (L : List NodeEntry) (e : NodeEntry) → Legal terms L → IsNext (after terms L) e → Legal terms (L ++ e ∷ [])
legal_more terms L e h n = record { fits = h.fits; from = Legal-append (opening terms) L (e ∷ []) h.from (Legal-one (after terms L) e n) }

-- a prefix of a prefix
legal_before : (terms : Terms) (es : List NodeEntry) (m i : ℕ) → m ≤ i → Legal terms (take i es) → Legal terms (take m es)
legal_before terms es m i within h =
    let front : take m (take i es) ≡ take m es = take-take m i es within in
    subst (Legal terms) front (Legal-prefix terms (take m (take i es)) (drop m (take i es)) (subst (Legal terms) (sym (take-append-drop m (take i es))) h))

-- the entry that may not come next is the first one that isn't legal
pub first_here : (terms : Terms) (es : List NodeEntry) (i : ℕ) (e : NodeEntry) → i < length es → e ≡ get_or es i e → Legal terms (take i es)
    → (IsNext (after terms (take i es)) e → ⊥) → IsFirstIllegal terms es (i + 1)
unfolding LegalFrom
first_here terms es i e below at h never = record {
  some = omega arith;
  illegal = λ more.
      let l : Legal terms (take i es ++ e ∷ []) = subst (Legal terms) (take_next es i e below at) more in
      never (Legal-rest (opening terms) (take i es) (e ∷ []) l.from).0;
  before = λ m one less. legal_before terms es m i (omega (arith, less)) h;
}

-- any prefix of a legal list
pub legal_front : (terms : Terms) (es : List NodeEntry) (n : ℕ) → Legal terms es → Legal terms (take n es)
legal_front terms es n h = Legal-prefix terms (take n es) (drop n es) (subst (Legal terms) (sym (take-append-drop n es)) h)

pub short_take : (es : List NodeEntry) (i : ℕ) → length (take i es) ≤ length es
short_take es i = omega (arith, length-take i es)
