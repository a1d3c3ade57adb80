-- A journal that was written is read as the same.
use Rattle.std.proofs.lemmas.Bool.Decides.{nat_tests}
use Rattle.journal_text.proofs.Names.{◌≡◌, ℕ, ◌+◌, List, [], ◌∷◌, ◌++◌, Result, Ok, refl, sym, ap, ◌∙◌, append_assoc, length, arith, Vec, IfOk, AllByRecursion, AreNodeSettings, append-nil, NodeEntry, KeptEntries, Journal, between, Head, head_text, entry_text, head_for, entry_lines, lines_text, journal_text, in_line, with_kept, line_adds_entry, entries_from, no_entries, journal_from, journal_of, ◌>>=◌, HeadFits, EntryFits, EntriesFit, AllPartsFit, HasPlace, JournalFits, IsWritable}
use Rattle.journal_text.proofs.Reading.{with_entries}
use Rattle.journal_text.proofs.Steps.{step_is, lines_are}
use Rattle.journal_text.proofs.Plain.{between_line}
use Rattle.journal_text.proofs.LinesAgain.{entry_again, entry_above}
use Rattle.journal_text.proofs.HeadsAgain.{head_again, head_above}

-- the lines of entries, and the empty text behind the last line feed
abbrev ended_lines : Head → List NodeEntry → List ℕ → List (List ℕ)
ended_lines head es ns = entry_lines head es ns ++ [] ∷ []

ended_some : (lines : List (List ℕ)) → (n : List ℕ) × (ns : List (List ℕ)) × (lines ++ [] ∷ [] ≡ n ∷ ns)
ended_some [] = ([], [], refl)
ended_some (l ∷ ls) = (l, ls ++ [] ∷ [], refl)

adds_again : (head : Head) (line : ℕ) (kept : KeptEntries) (e : NodeEntry) (n : ℕ) → HeadFits head → EntryFits head e n
    → line_adds_entry head line kept (entry_text head e n) ≡ Ok (with_kept kept (e, n))
unfolding line_adds_entry
adds_again head line kept e n g f = ap (λ o. in_line line o >>= λ x. Ok (with_kept kept x)) (entry_again head e n g f)

first_again : (head : Head) (line : ℕ) (kept : KeptEntries) (e : NodeEntry) (n : ℕ) (lines : List (List ℕ)) → HeadFits head → EntryFits head e n
    → entries_from head line kept (entry_text head e n ∷ (lines ++ [] ∷ [])) ≡ entries_from head (line + 1) (with_kept kept (e, n)) (lines ++ [] ∷ [])
first_again head line kept e n lines g f =
    let o = ended_some lines in
    ap (λ l. entries_from head line kept (entry_text head e n ∷ l)) o.2
    ∙ step_is head line kept (entry_text head e n) o.0 o.1 (Ok (with_kept kept (e, n))) (adds_again head line kept e n g f)
    ∙ ap (entries_from head (line + 1) (with_kept kept (e, n))) (sym o.2)

-- further entries, and their numbers
abbrev with_all : KeptEntries → List NodeEntry → List ℕ → KeptEntries
with_all kept es ns = record { entries = kept.entries ++ es; skipped = kept.skipped ++ ns }

all_none : (kept : KeptEntries) → kept ≡ with_all kept [] []
all_none kept = ap (λ es. record { entries = es; skipped = kept.skipped }) (sym (append-nil kept.entries))
    ∙ ap (λ ns. record { entries = kept.entries ++ []; skipped = ns }) (sym (append-nil kept.skipped))

all_more : (kept : KeptEntries) (e : NodeEntry) (n : ℕ) (es : List NodeEntry) (ns : List ℕ)
    → with_all (with_kept kept (e, n)) es ns ≡ with_all kept (e ∷ es) (n ∷ ns)
all_more kept e n es ns = ap (λ l. record { entries = l; skipped = (kept.skipped ++ n ∷ []) ++ ns }) (append_assoc kept.entries (e ∷ []) es)
    ∙ ap (λ l. record { entries = kept.entries ++ e ∷ es; skipped = l }) (append_assoc kept.skipped (n ∷ []) ns)

entries_again : (head : Head) (line : ℕ) (kept : KeptEntries) (es : List NodeEntry) (ns : List ℕ) → HeadFits head → EntriesFit head es ns
    → entries_from head line kept (ended_lines head es ns) ≡ Ok (with_all kept es ns)
unfolding entries_from
entries_again head line kept [] [] g f = ap (λ k. Ok k) (all_none kept)
entries_again head line kept [] (n ∷ ns) g f = absurd f
entries_again head line kept (e ∷ es) [] g f = absurd f
entries_again head line kept (e ∷ es) (n ∷ ns) g f =
    grind (arith, nat_tests, entries_again head (line + 1) (with_kept kept (e, n)) es ns g f.1, first_again, entry_lines, with_kept, all_more)

-- ---- lines

lines_again : (head : Head) (es : List NodeEntry) (ns : List ℕ) → HeadFits head → EntriesFit head es ns
    → between 10 (lines_text (entry_lines head es ns)) ≡ ended_lines head es ns
lines_again head [] [] g f = refl
lines_again head [] (n ∷ ns) g f = absurd f
lines_again head (e ∷ es) [] g f = absurd f
lines_again head (e ∷ es) (n ∷ ns) g f = grind (arith, nat_tests, lines_again head es ns g f.1, between_line, entry_text, lines_text, entry_lines, entry_above)

whole_again : (head : Head) (es : List NodeEntry) (ns : List ℕ) → HeadFits head → EntriesFit head es ns
    → journal_from (head_text head ∷ ended_lines head es ns) ≡ Ok (with_entries head (record { entries = es; skipped = ns }))
whole_again head es ns g f =
    let o = ended_some (entry_lines head es ns) in
    ap (λ l. journal_from (head_text head ∷ l)) o.2
    ∙ lines_are (head_text head) o.0 o.1 (Ok head) (ap (in_line 1) (head_again head g))
    ∙ ap (λ l. entries_from head 2 no_entries l >>= λ kept. Ok (with_entries head kept)) (sym o.2)
    ∙ ap (λ r. r >>= λ kept. Ok (with_entries head kept)) (entries_again head 2 no_entries es ns g f)

pub text_again : (j : Journal) → JournalFits j → journal_of (journal_text j) ≡ Ok j
unfolding journal_of journal_text
text_again j e1 = grind (arith, nat_tests, head_for, journal_from, between_line, head_text, lines_text, entry_lines, head_above, lines_again, whole_again)

-- ---- what the types keep, beside what makes a journal one that can be written

entries_fit : (head : Head) (es : List NodeEntry) (ns : List ℕ) → length ns ≡ length es → AllPartsFit es ns → AllByRecursion (HasPlace head) es
    → EntriesFit head es ns
entries_fit head [] [] same parts places = tt
entries_fit head [] (n ∷ ns) same parts places = absurd cc
entries_fit head (e ∷ es) [] same parts places = absurd cc
entries_fit head (e ∷ es) (n ∷ ns) same parts places =
    (record { place = places.0; parts = parts.0 }, entries_fit head es ns (omega (arith, same)) parts.1 places.1)

writable_fits : (j : Journal) → AreNodeSettings j.settings → length j.entries.skipped ≡ length j.entries.entries
    → AllPartsFit j.entries.entries j.entries.skipped → IsWritable j → JournalFits j
writable_fits j e1 e2 e3 e4 = grind (arith, nat_tests, entries_fit, head_for)

pub again_from : {E : Type 0} (j : Journal) (r : Result (Vec ℕ) E) → IfOk r (λ t. t.items ≡ journal_text j) → AreNodeSettings j.settings
    → length j.entries.skipped ≡ length j.entries.entries → IfOk r (λ t. AllPartsFit j.entries.entries j.entries.skipped) → IsWritable j
    → IfOk r (λ t. journal_of t.items ≡ Ok j)
again_from j r e1 e2 e3 e4 e5 = grind (arith, nat_tests, journal_of, text_again, writable_fits)
