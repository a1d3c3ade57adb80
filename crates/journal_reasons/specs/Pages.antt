-- What is written of an input that has a journal in it, and how the program ends.
use Rattle.std.specs.Prelude.{◌≡◌, ◌⊎◌, ℕ, zero, suc, ◌+◌, ◌≤◌, ◌<◌, Bool, true, false, List, [], ◌∷◌, ◌++◌, length, flat_map, codes, Option, Some, None, is_none, Ok}
use Rattle.std.specs.Fmt.{decimal}
use Rattle.std.specs.Io.KnownBytes.{Appends}
use Rattle.byte_io.specs.Causes.{AppendsFront, WritesText}
use Rattle.mtapi_machine.specs.Legal.{NodeEntry}
use Rattle.node_journals.specs.declared.entries.Journal.{Journal}
use Rattle.number_text.specs.Lists.{between}
use Rattle.journal_text.specs.Journals.{journal_of, journal_text}
use Rattle.journal_text.specs.Splits.{IsSplit, OfParts}
use Rattle.journal_reading.specs.Ends as shown
use Rattle.journal_reading.specs.Ends.{IsShowTold, RestFails, shows_line}
use Rattle.journal_reading.specs.declared.ends.RunView.TheVariants.{Picture}
use Rattle.journal_reading.specs.declared.ends.ShowEnd.{ShowEnd}
use Rattle.journal_reading.specs.declared.ends.ShowEnd.TheVariants as end
use Rattle.journal_reasons.specs.Judged.{IsJudgement, place_judged, instead_of}
use Rattle.journal_reasons.specs.declared.judging.Judgement.{Judgement}
use Rattle.journal_reasons.specs.declared.judging.Judgement.TheVariants as found
use Rattle.journal_reasons.specs.declared.reading.JudgeEnd.{JudgeEnd}
use Rattle.journal_reasons.specs.declared.reading.JudgeEnd.TheVariants.{Legal, Illegal, Usage, Refused}

-- the line of this number, from 0; empty if there are fewer
unfoldable pub nth_line : List (List ℕ) → ℕ → List ℕ
nth_line [] n = []
nth_line (line ∷ lines) zero = line
nth_line (line ∷ lines) (suc n) = nth_line lines n

-- The line that is written of an input of these two parts: that the journal is legal, or the line of the first entry that
-- isn't allowed, by its number in the input, from 1, and its text.
unfoldable pub first_line : List ℕ → List ℕ → Option ℕ → List ℕ
first_line front rest None = codes "legal\n"
first_line front rest (Some n) =
    codes "illegal line " ++ (decimal (length (between 10 front) + n) ++ (codes ": " ++ (nth_line (between 10 rest) n ++ 10 ∷ [])))

-- the line of an entry, as it stands in the text of the journal that has it alone
abbrev pub line_of : Journal → NodeEntry → List ℕ
line_of j e = nth_line (between 10 (journal_text (record j { entries = record { entries = e ∷ []; skipped = 0 ∷ [] } }))) 1

-- a line for each entry that is named as allowed
abbrev pub instead_lines : Journal → List NodeEntry → List ℕ
instead_lines j es = flat_map (λ e. codes "instead: " ++ (line_of j e ++ 10 ∷ [])) es

-- the line of the words that say why
abbrev pub why_line : Judgement → List ℕ
why_line found.Legal = []
why_line (found.Illegal n instead why) = codes "why: " ++ (why.items ++ 10 ∷ [])

-- what is written of a journal that was judged
abbrev pub judged_page_text : List ℕ → List ℕ → Journal → Judgement → List ℕ
judged_page_text front rest j v = first_line front rest (place_judged v) ++ (why_line v ++ instead_lines j (instead_of v))

-- an input has a journal behind what may stand before it, which was judged, and this is written of it
pub record IsPage (bytes : List ℕ) (yes : Bool) (page : List ℕ) : Type 0 where
  pub front : List ℕ
  pub rest : List ℕ
  pub split : IsSplit bytes front rest
  pub journal : Journal
  pub read : journal_of rest ≡ Ok journal
  pub judgement : Judgement
  pub judged : IsJudgement journal judgement
  pub legal : yes ≡ is_none (place_judged judgement)
  pub text : page ≡ judged_page_text front rest journal judgement

-- no journal stands in it, for this cause
abbrev pub HasNoJournal : List ℕ → ShowEnd → Type 0
HasNoJournal bytes e = OfParts bytes (λ front rest. RestFails rest e)

-- an input that isn't too long has a journal, and what the output held has grown by a page on it, or by a front of one
abbrev pub Writes : Bool → List ℕ → (List ℕ → Type 0) → Type 0
Writes legal bytes P = (length bytes ≤ 67108864) × (page : List ℕ) × IsPage bytes legal page × P page

-- what an end says of the bytes of the input and of the output before and after; want of memory and a failed read say nothing
abbrev pub JudgesInput : List ℕ → Option (List ℕ) → Option (List ℕ) → JudgeEnd → Type 0
JudgesInput bytes old new Legal = Writes true bytes (λ page. Appends old new page)
JudgesInput bytes old new Illegal = Writes false bytes (λ page. Appends old new page)
JudgesInput bytes old new (Refused end.WriteFault) = (legal : Bool) × Writes legal bytes (λ page. AppendsFront old new page)
JudgesInput bytes old new (Refused end.TooLong) = 67108864 < length bytes
JudgesInput bytes old new (Refused end.ReadFault) = Unit {0}
JudgesInput bytes old new (Refused end.Memory) = Unit {0}
JudgesInput bytes old new (Refused e) = (length bytes ≤ 67108864) × HasNoJournal bytes e
JudgesInput bytes old new Usage = ⊥

-- something may be written
abbrev pub judge_writes : JudgeEnd → Bool
judge_writes Legal = true
judge_writes Illegal = true
judge_writes (Refused e) = shown.show_writes e
judge_writes Usage = false

-- a status, and what is said on the error output
pub record IsSaid (code : ℕ) (text : List ℕ) (before now : ℕ) (old new : Option (List ℕ)) (status : ℕ) : Type 0 where
  pub answered : status ≡ code
  pub said : WritesText before now old new text

-- what is said of the words that the program takes
unfoldable pub judge_usage : List ℕ
judge_usage = codes "usage: mtapi judge\n"

-- how each end is told: 0 for a legal journal, and 1 for another one; the others as by the programs that show a run
abbrev pub IsEndTold : JudgeEnd → ℕ → ℕ → Option (List ℕ) → Option (List ℕ) → ℕ → Type 0
IsEndTold Legal before now old new status = IsSaid 0 [] before now old new status
IsEndTold Illegal before now old new status = IsSaid 1 [] before now old new status
IsEndTold Usage before now old new status = IsSaid 2 judge_usage before now old new status
IsEndTold (Refused e) before now old new status =
    IsShowTold Picture e before now old new status ⊎ ((shows_line e ≡ true) × IsShowTold Picture end.Memory before now old new status)
