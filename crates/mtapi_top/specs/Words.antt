-- The words that the command takes, and what they ask for.
use Rattle.std.specs.Prelude.{ℕ, ◌≤◌, List, [], ◌∷◌, map, codes, Bool, true, false, Option, Some, None, if◌then◌else◌}
use Rattle.std.specs.Str.{bytes_eq}
use denote.Ref.{Bor}
use Rattle.number_text.specs.Numbers.{number_within}
use Rattle.mtapi_top.specs.declared.words.Asked.{Asked}
use Rattle.mtapi_top.specs.declared.words.Asked.TheVariants as asks

-- the texts behind a list of words
abbrev pub texts : List (Bor (List ℕ)) → List (List ℕ)
texts words = map (λ w. w.now) words

-- what the words behind `run` ask for: its report alone, or with the journal behind it
abbrev pub run_asks : List (List ℕ) → Option Asked
run_asks [] = Some asks.Report
run_asks (option ∷ []) = if bytes_eq option (codes "--journal") then Some asks.Journal else None
run_asks (option ∷ next ∷ more) = None

-- the summary of so many tasks with so many workers, where both are numbers in their ranges
abbrev pub generated_asks : Option ℕ → Option ℕ → Option Asked
generated_asks (Some n) (Some w) = Some (asks.Generated n w)
generated_asks (Some n) None = None
generated_asks None w = None

-- what the words behind `gen` ask for: 1 to 19,000 tasks, with 1 to 16 workers, or 4 where they don't say
abbrev pub gen_asks : List (List ℕ) → Option Asked
gen_asks [] = None
gen_asks (tasks ∷ []) = generated_asks (number_within 1 19000 tasks) (Some 4)
gen_asks (tasks ∷ workers ∷ []) = generated_asks (number_within 1 19000 tasks) (number_within 1 16 workers)
gen_asks (tasks ∷ workers ∷ next ∷ more) = None

-- what the words behind `check` ask for: there are none
abbrev pub check_asks : List (List ℕ) → Option Asked
check_asks [] = Some asks.Check
check_asks (next ∷ more) = None

-- what the words ask for; nothing, where the command takes no such words
abbrev pub asked_by_words : List (List ℕ) → Option Asked
asked_by_words [] = None
asked_by_words (word ∷ options) =
    if bytes_eq word (codes "run") then run_asks options
    else (if bytes_eq word (codes "gen") then gen_asks options else (if bytes_eq word (codes "check") then check_asks options else None))

-- the words ask for the run of a workload that is read
abbrev pub reads_workload : Option Asked → Bool
reads_workload (Some asks.Report) = true
reads_workload (Some asks.Journal) = true
reads_workload _ = false

-- the words ask for a journal to be judged, and for no run
abbrev pub judges : Option Asked → Bool
judges (Some asks.Check) = true
judges _ = false

-- the numbers of what was asked for are in their ranges
abbrev pub InRange : Asked → Type 0
InRange (asks.Generated n w) = (1 ≤ n) × (n ≤ 19000) × (1 ≤ w) × (w ≤ 16)
InRange _ = Unit {0}
