-- Faulty lines, one after the other.
use Rattle.workload_mistakes.proofs.Names.{◌≡◌, ℕ, ◌≤◌, ◌<◌, Bool, true, false, ◌||◌, List, [], ◌∷◌, ◌++◌, length, Ok, Err, refl, sym, ap, ◌∙◌, arith, ◌↔◌, Cause, Mistake, mended, mended_text, IsTextWorkload, AreFaulty, fault_of_mistake, ends, has_end}
use Rattle.workload_file.specs.Reading.{workload_of}

-- the text with one line more mended
pub after_one : (ms : List Mistake) (m : Mistake) (text : List ℕ) → mended_text (ms ++ m ∷ []) text ≡ mended m (mended_text ms text)
after_one [] m text = refl
after_one (first ∷ ms) m text = after_one ms m (mended first text)

-- one line more is faulty
one_more : (ms : List Mistake) (m : Mistake) (text : List ℕ) → AreFaulty ms text → workload_of (mended_text ms text) ≡ Err (fault_of_mistake m)
    → AreFaulty (ms ++ m ∷ []) text
one_more [] m text old new = (new, tt)
one_more (first ∷ ms) m text old new = (old.0, one_more ms m (mended first text) old.1 new)

-- the same of the text that the lines told so far give
pub one_told : (ms : List Mistake) (m : Mistake) (line : ℕ) (cause : Cause) (bytes text : List ℕ) → AreFaulty ms bytes → text ≡ mended_text ms bytes
    → workload_of text ≡ Err (record { line = line; cause = cause }) → m.line ≡ line → m.cause ≡ cause → AreFaulty (ms ++ m ∷ []) bytes
one_told ms m line cause bytes text old same judged l c =
    let fault : fault_of_mistake m ≡ record { line = line; cause = cause } = (λ i. record { line = l i; cause = c i }) in
    one_more ms m bytes old (rw (sym same) (judged ∙ (λ i. Err (sym fault i))))

no_workload : (m : Mistake) (ms : List Mistake) (text : List ℕ) → AreFaulty (m ∷ ms) text → IsTextWorkload text → ⊥
no_workload m ms text faulty load = let e : Err (fault_of_mistake m) ≡ Ok load.0 = sym faulty.0 ∙ load.1 in cc

-- where some line is faulty, the text is no workload
pub none_of_some : (ms : List Mistake) (bytes : List ℕ) → 1 ≤ length ms → AreFaulty ms bytes → (ms ≡ []) ↔ IsTextWorkload bytes
none_of_some [] bytes some faulty = absurd (omega (arith, some))
none_of_some (m ∷ ms) bytes some faulty = (λ e. absurd cc, λ load. absurd (no_workload m ms bytes faulty load))

-- where the lines told give a workload, there is none exactly where the text is one
pub none_left : (ms : List Mistake) (bytes text : List ℕ) → AreFaulty ms bytes → text ≡ mended_text ms bytes → IsTextWorkload text
    → (ms ≡ []) ↔ IsTextWorkload bytes
none_left [] bytes text faulty same load = (λ e. (load.0, rw (sym same) load.1), λ l. refl)
none_left (m ∷ ms) bytes text faulty same load = (λ e. absurd cc, λ l. absurd (no_workload m ms bytes faulty l))

-- the text is within the limit, so a longer one has some line mended
pub none_too_long : (ms : List Mistake) (bytes text : List ℕ) → AreFaulty ms bytes → text ≡ mended_text ms bytes → length bytes ≤ 1048576
    → 1048576 < length text
    → (ms ≡ []) ↔ IsTextWorkload bytes
none_too_long [] bytes text faulty same short long = let e : length text ≡ length bytes = ap length same in absurd (omega (arith, e))
none_too_long (m ∷ ms) bytes text faulty same short long = (λ e. absurd cc, λ l. absurd (no_workload m ms bytes faulty l))

or_true : (b : Bool) → (b || true) ≡ true
or_true true = refl
or_true false = refl

-- the last line told has a cause that ends it
pub ended_by : (ms : List Mistake) (m : Mistake) → ends m.cause ≡ true → has_end (ms ++ m ∷ []) ≡ true
ended_by [] m e = ap (λ (b : Bool). b || false) e
ended_by (first ∷ ms) m e = ap (λ (b : Bool). ends first.cause || b) (ended_by ms m e) ∙ or_true (ends first.cause)
