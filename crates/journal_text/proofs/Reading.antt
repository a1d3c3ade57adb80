-- A text that is read is the text of the journal that it gives.
use Rattle.std.proofs.lemmas.Bool.Decides.{nat_tests}
use Rattle.journal_text.proofs.Names.{◌≡◌, ℕ, ◌+◌, List, [], ◌∷◌, ◌++◌, length, true, ◌&&◌, Option, Some, Result, Ok, refl, sym, ap, ◌∙◌, arith, append_assoc, join_with_byte, bytes_eq, and_parts, cond_some, append-nil, join_with_byte-slice_split, bytes_eq-Decides, Layout, NodeEntry, KeptEntries, Journal, between, bind_some, Head, TextError, head_text, head_of, head_in, head_from, numbers_behind, has_callers, or_else, entry_text, entry_of_line, entry_from, if_spelled, has_words, is_seated, entry_lines, lines_text, journal_text, in_line, with_kept, line_adds_entry, at_end, entries_from, no_entries, journal_from, journal_of, ◌>>=◌}

-- ---- steps that may fail

pub bytes_are : (a b : List ℕ) → bytes_eq a b ≡ true → a ≡ b
bytes_are a b h = (bytes_eq-Decides a b).0 h

pub ok_parts : {A B : Type 0} (r : Result A TextError) (f : A → Result B TextError) (y : B) → (r >>= f) ≡ Ok y → (x : A) × (r ≡ Ok x) × (f x ≡ Ok y)
ok_parts r f y e1 = grind (arith, nat_tests)

pub in_line_some : {A : Type 0} (line : ℕ) (o : Option A) (x : A) → in_line line o ≡ Ok x → o ≡ Some x
in_line_some line o x e1 = grind (arith, nat_tests)

-- ---- lines

-- what was read as an entry is the entry's line
pub entry_spelled : (head : Head) (line : List ℕ) (x : NodeEntry × ℕ) → entry_of_line head line ≡ Some x → entry_text head x.0 x.1 ≡ line
unfolding entry_of_line
entry_spelled head line x h =
    let p = bind_some (entry_from head (between 32 line)) (if_spelled head line) x h in
    let c = cond_some (has_words head.layout p.0.0 && is_seated head p.0.0 && bytes_eq (entry_text head p.0.0 p.0.1) line) p.0 x p.2 in
    let t = and_parts (has_words head.layout p.0.0 && is_seated head p.0.0) _ c.0 in
    rw (← c.1) (bytes_are (entry_text head p.0.0 p.0.1) line t.1)

head_in_spelled : (l : _) (line : List ℕ) (h : Head) → head_in l line ≡ Some h → head_text h ≡ line
unfolding head_in
head_in_spelled l line h e1 = grind (arith, nat_tests, head_from, numbers_behind, cond_some, has_callers, bytes_eq, head_text, and_parts, bytes_are)

or_else_spelled : (line : List ℕ) (h : Head) (a b : Option Head) → ((x : Head) → a ≡ Some x → head_text x ≡ line)
    → ((x : Head) → b ≡ Some x → head_text x ≡ line) → or_else a b ≡ Some h → head_text h ≡ line
or_else_spelled line h a b e1 e2 e3 = grind (arith, nat_tests)

-- what was read as a head is the head's line
pub head_spelled : (line : List ℕ) (h : Head) → head_of line ≡ Some h → head_text h ≡ line
unfolding head_of
head_spelled line h e = or_else_spelled line h _ _ (head_in_spelled Layout.One line) (head_in_spelled Layout.Two line) e

-- ---- texts

-- as many numbers as entries
abbrev pub IsBeside : KeptEntries → Type 0
IsBeside k = length k.entries ≡ length k.skipped

lines_append : (xs ys : List (List ℕ)) → lines_text (xs ++ ys) ≡ lines_text xs ++ lines_text ys
lines_append [] ys = refl
lines_append (x ∷ xs) ys = rw (lines_append xs ys) (sym (append_assoc x (10 ∷ lines_text xs) (lines_text ys)))

entry_lines_append : (head : Head) (es : List NodeEntry) (ns : List ℕ) (e : NodeEntry) (n : ℕ) → length es ≡ length ns
    → entry_lines head (es ++ e ∷ []) (ns ++ n ∷ []) ≡ entry_lines head es ns ++ entry_text head e n ∷ []
entry_lines_append head [] [] e n h = refl
entry_lines_append head [] (m ∷ ns) e n h = absurd (omega (arith, h))
entry_lines_append head (d ∷ es) [] e n h = absurd (omega (arith, h))
entry_lines_append head (d ∷ es) (m ∷ ns) e n h = ap (λ l. entry_text head d m ∷ l) (entry_lines_append head es ns e n (omega (arith, h)))

abbrev kept_text : Head → KeptEntries → List ℕ
kept_text head k = lines_text (entry_lines head k.entries k.skipped)

length_more : {A : Type 0} (xs : List A) (x : A) → length (xs ++ x ∷ []) ≡ length xs + 1
length_more [] x = refl
length_more (y ∷ ys) x = omega (arith, length_more ys x)

kept_beside : (k : KeptEntries) (x : NodeEntry × ℕ) → IsBeside k → IsBeside (with_kept k x)
kept_beside k x h = omega (arith, h, length_more k.entries x.0, length_more k.skipped x.1)

kept_more : (head : Head) (k : KeptEntries) (x : NodeEntry × ℕ) → IsBeside k
    → kept_text head (with_kept k x) ≡ kept_text head k ++ (entry_text head x.0 x.1 ++ 10 ∷ [])
kept_more head k x h = ap lines_text (entry_lines_append head k.entries k.skipped x.0 x.1 h)
    ∙ lines_append (entry_lines head k.entries k.skipped) (entry_text head x.0 x.1 ∷ [])

pub at_end_is : {A : Type 0} (x y : A) (last : List ℕ) → at_end x last ≡ Ok y → (x ≡ y) × (last ≡ [])
at_end_is x y last e1 = grind (arith, nat_tests)

-- the entries that were read are those whose lines these are
pub entries_spelled : (head : Head) (line : ℕ) (kept k : KeptEntries) (text : List ℕ) (texts : List (List ℕ)) → IsBeside kept
    → entries_from head line kept (text ∷ texts) ≡ Ok k → kept_text head k ≡ kept_text head kept ++ join_with_byte 10 (text ∷ texts)
unfolding entries_from line_adds_entry
entries_spelled head line kept k text [] b h =
    let p = at_end_is kept k text h in
    rw (← p.0, p.1) (sym (append-nil (kept_text head kept)))
entries_spelled head line kept k text (next ∷ texts) b h =
    let p = ok_parts (line_adds_entry head line kept text) (λ more. entries_from head (line + 1) more (next ∷ texts)) k h in
    let q = ok_parts (in_line line (entry_of_line head text)) (λ x. Ok (with_kept kept x)) p.0 p.1 in
    let spelled = entry_spelled head text q.0 (in_line_some line (entry_of_line head text) q.0 q.1) in
    let same : with_kept kept q.0 ≡ p.0 = cc in
    let rest = entries_spelled head (line + 1) (with_kept kept q.0) k next texts (kept_beside kept q.0 b) (rw (← same) at p.2) in
    let first = rw spelled at (kept_more head kept q.0 b) in
    rest ∙ ap (λ l. l ++ join_with_byte 10 (next ∷ texts)) first ∙ append_assoc (kept_text head kept) (text ++ 10 ∷ []) (join_with_byte 10 (next ∷ texts))
    ∙ ap (λ l. kept_text head kept ++ l) (append_assoc text (10 ∷ []) (join_with_byte 10 (next ∷ texts)))

-- a head with entries is a journal
abbrev pub with_entries : Head → KeptEntries → Journal
with_entries head kept = record { layout = head.layout; settings = head.settings; callers = head.callers; entries = kept }

journal_whole : (head : Head) (kept : KeptEntries) (text next : List ℕ) (texts : List (List ℕ)) → head_text head ≡ text
    → kept_text head kept ≡ join_with_byte 10 (next ∷ texts) → journal_text (with_entries head kept) ≡ join_with_byte 10 (text ∷ next ∷ texts)
unfolding journal_text
journal_whole head kept text next texts a b = ap (λ l. l ++ 10 ∷ kept_text head kept) a ∙ ap (λ l. text ++ 10 ∷ l) b

journal_lines : (j : Journal) (texts : List (List ℕ)) → journal_from texts ≡ Ok j → journal_text j ≡ join_with_byte 10 texts
unfolding journal_from
journal_lines j [] h = absurd cc
journal_lines j ([] ∷ []) h = absurd cc
journal_lines j ((b ∷ bs) ∷ []) h = absurd cc
journal_lines j (text ∷ next ∷ texts) h =
    let p = ok_parts (in_line 1 (head_of text)) (λ head. entries_from head 2 no_entries (next ∷ texts) >>= λ kept. Ok (with_entries head kept)) j h in
    let q = ok_parts (entries_from p.0 2 no_entries (next ∷ texts)) (λ kept. Ok (with_entries p.0 kept)) j p.2 in
    let spelled = head_spelled text p.0 (in_line_some 1 (head_of text) p.0 p.1) in
    let rest = entries_spelled p.0 2 no_entries q.0 next texts refl q.1 in
    let same : with_entries p.0 q.0 ≡ j = cc in
    ap journal_text (sym same) ∙ journal_whole p.0 q.0 text next texts spelled rest

-- what is read is written as the same
pub text_spelled : (bytes : List ℕ) (j : Journal) → journal_of bytes ≡ Ok j → journal_text j ≡ bytes
unfolding journal_of
text_spelled bytes j h = journal_lines j (between 10 bytes) h ∙ join_with_byte-slice_split 10 bytes
