-- A journal's lines, read one after the other.
use Rattle.std.proofs.lemmas.Bool.Decides.{nat_tests}
use Rattle.journal_text.proofs.Names.{arith, ◌≡◌, ℕ, ◌+◌, List, [], ◌∷◌, eqb, Result, Ok, Err, refl, sym, ap, ◌∙◌, inl, inr, onto_first, cases_Bool, KeptEntries, between, Head, TextError, head_of, in_line, line_adds_entry, at_end, entries_from, no_entries, no_line, journal_from, journal_of, FailsAs, ◌>>=◌}
use Rattle.journal_text.proofs.Reading.{with_entries}

onto_some : (x : ℕ) (parts : List (List ℕ)) → (n : List ℕ) × (ns : List (List ℕ)) × (onto_first x parts ≡ n ∷ ns)
onto_some x [] = (x ∷ [], [], refl)
onto_some x (p ∷ ps) = (x ∷ p, ps, refl)

-- a text has a first piece
parts_some : (text : List ℕ) → (n : List ℕ) × (ns : List (List ℕ)) × (between 10 text ≡ n ∷ ns)
parts_some [] = ([], [], refl)
parts_some (x ∷ xs) =
    elim (cases_Bool (eqb x 10)) [
      | inl t ↦ ([], between 10 xs, rw t refl)
      | inr f ↦ let o = onto_some x (between 10 xs) in (o.0, o.1, rw f o.2)
    ]

-- ---- entries

pub step_is : (head : Head) (line : ℕ) (kept : KeptEntries) (text next : List ℕ) (texts : List (List ℕ)) (r : Result KeptEntries TextError)
    → line_adds_entry head line kept text ≡ r
    → entries_from head line kept (text ∷ next ∷ texts) ≡ (r >>= λ more. entries_from head (line + 1) more (next ∷ texts))
unfolding entries_from
step_is head line kept text next texts r a = ap (λ (s : Result KeptEntries TextError). s >>= λ more. entries_from head (line + 1) more (next ∷ texts)) a

first_is : (head : Head) (line : ℕ) (kept : KeptEntries) (lines : List (List ℕ)) (text rest : List ℕ) (r : Result KeptEntries TextError)
    → lines ≡ text ∷ between 10 rest → line_adds_entry head line kept text ≡ r
    → entries_from head line kept lines ≡ (r >>= λ more. entries_from head (line + 1) more (between 10 rest))
first_is head line kept lines text rest r e a =
    let o = parts_some rest in
    ap (entries_from head line kept) (e ∙ ap (λ l. text ∷ l) o.2) ∙ step_is head line kept text o.0 o.1 r a
    ∙ ap (λ l. r >>= λ more. entries_from head (line + 1) more l) (sym o.2)

pub entries_more : (head : Head) (line : ℕ) (kept more : KeptEntries) (lines : List (List ℕ)) (text rest : List ℕ) (total : Result KeptEntries TextError)
    → entries_from head line kept lines ≡ total → lines ≡ text ∷ between 10 rest → line_adds_entry head line kept text ≡ Ok more
    → entries_from head (line + 1) more (between 10 rest) ≡ total
entries_more head line kept more lines text rest total h e a = sym (first_is head line kept lines text rest (Ok more) e a) ∙ h

fails_on : {A B : Type 0} (e : TextError) (a : Result A TextError) (b : Result B TextError) → ((x : TextError) → a ≡ Err x → b ≡ Err x) → FailsAs e a
    → FailsAs e b
fails_on e a b e1 e2 = grind (arith, nat_tests)

pub entries_fail : (error : TextError) (head : Head) (line : ℕ) (kept : KeptEntries) (lines : List (List ℕ)) (text rest : List ℕ)
    (total : Result KeptEntries TextError) → entries_from head line kept lines ≡ total → lines ≡ text ∷ between 10 rest
    → FailsAs error (line_adds_entry head line kept text) → FailsAs error total
entries_fail error head line kept lines text rest total h e f =
    fails_on error (line_adds_entry head line kept text) total (λ x a. sym h ∙ first_is head line kept lines text rest (Err x) e a) f

pub entries_end : (head : Head) (line : ℕ) (kept : KeptEntries) (lines : List (List ℕ)) (text : List ℕ) (total : Result KeptEntries TextError)
    → entries_from head line kept lines ≡ total → lines ≡ text ∷ [] → total ≡ at_end kept text
unfolding entries_from
entries_end head line kept lines text total h e = sym h ∙ ap (entries_from head line kept) e

-- ---- journals

pub journal_none : (bytes text : List ℕ) → between 10 bytes ≡ text ∷ [] → journal_of bytes ≡ no_line text
unfolding journal_of journal_from
journal_none bytes text e = ap journal_from e

pub lines_are : (text next : List ℕ) (texts : List (List ℕ)) (r : Result Head TextError) → in_line 1 (head_of text) ≡ r
    → journal_from (text ∷ next ∷ texts) ≡ (r >>= λ head. entries_from head 2 no_entries (next ∷ texts) >>= λ kept. Ok (with_entries head kept))
unfolding journal_from
lines_are text next texts r a = ap (λ (s : Result Head TextError). s >>= λ head. entries_from head 2 no_entries (next
    ∷ texts) >>= λ kept. Ok (with_entries head kept)) a

journal_is : (bytes text rest : List ℕ) (r : Result Head TextError) → between 10 bytes ≡ text ∷ between 10 rest → in_line 1 (head_of text) ≡ r
    → journal_of bytes ≡ (r >>= λ head. entries_from head 2 no_entries (between 10 rest) >>= λ kept. Ok (with_entries head kept))
unfolding journal_of
journal_is bytes text rest r e a =
    let o = parts_some rest in
    ap journal_from (e ∙ ap (λ l. text ∷ l) o.2) ∙ lines_are text o.0 o.1 r a
    ∙ ap (λ l. r >>= λ head. entries_from head 2 no_entries l >>= λ kept. Ok (with_entries head kept)) (sym o.2)

pub journal_headless : (error : TextError) (bytes text rest : List ℕ) → between 10 bytes ≡ text ∷ between 10 rest → FailsAs error (in_line 1 (head_of text))
    → FailsAs error (journal_of bytes)
journal_headless error bytes text rest e f = fails_on error (in_line 1 (head_of text)) (journal_of bytes) (λ x a. journal_is bytes text rest (Err x) e a) f

entries_are : (head : Head) (lines : List (List ℕ)) (r : Result KeptEntries TextError) → entries_from head 2 no_entries lines ≡ r
    → (entries_from head 2 no_entries lines >>= λ kept. Ok (with_entries head kept)) ≡ (r >>= λ kept. Ok (with_entries head kept))
entries_are head lines r a = ap (λ (s : Result KeptEntries TextError). s >>= λ kept. Ok (with_entries head kept)) a

pub journal_fails : (error : TextError) (bytes text rest : List ℕ) (head : Head) → between 10 bytes ≡ text ∷ between 10 rest
    → in_line 1 (head_of text) ≡ Ok head → FailsAs error (entries_from head 2 no_entries (between 10 rest)) → FailsAs error (journal_of bytes)
journal_fails error bytes text rest head e a f =
    fails_on error (entries_from head 2 no_entries (between 10 rest)) (journal_of bytes) (λ x b. journal_is bytes text rest (Ok head) e a
    ∙ entries_are head (between 10 rest) (Err x) b) f

pub journal_read : (bytes text rest : List ℕ) (head : Head) (kept : KeptEntries) → between 10 bytes ≡ text ∷ between 10 rest
    → in_line 1 (head_of text) ≡ Ok head → entries_from head 2 no_entries (between 10 rest) ≡ Ok kept → journal_of bytes ≡ Ok (with_entries head kept)
journal_read bytes text rest head kept e a b = journal_is bytes text rest (Ok head) e a ∙ entries_are head (between 10 rest) (Ok kept) b

pub fails_from : {A : Type 0} (e : TextError) (r : Result A TextError) → r ≡ Err e → FailsAs e r
fails_from e r e1 = grind (arith, nat_tests)
