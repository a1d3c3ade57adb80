-- What was read and written of an input is what the end says of it.
use Rattle.std.proofs.Common.{◌≡◌, ℕ, ◌≤◌, ◌<◌, ◌^◌, Bool, true, false, List, ◌++◌, length, length-append, Option, Some, None, Ok, ◌∙◌, subst, arith}
use Rattle.std.specs.Prelude.{IfSome, Result, is_none}
use Rattle.std.specs.Global.{Vec}
use Rattle.std.specs.Io.KnownBytes.{Appends}
use Rattle.byte_io.specs.declared.whole.ReadAllError.{ReadAllError}
use Rattle.byte_io.specs.Causes.{AppendsFront, ReadsWhole}
use Rattle.node_journals.specs.declared.entries.Journal.{Journal}
use Rattle.journal_text.specs.Journals.{journal_of}
use Rattle.journal_text.specs.Splits.{IsSplit}
use Rattle.journal_reading.specs.Ends.{RestFails}
use Rattle.journal_reading.specs.declared.ends.ShowEnd.{ShowEnd}
use Rattle.journal_reading.specs.declared.ends.ShowEnd.TheVariants as end
use Rattle.journal_reasons.specs.Judged.{IsJudgement, place_judged}
use Rattle.journal_reasons.specs.Pages.{IsPage, HasNoJournal, Writes, JudgesInput, judged_page_text}
use Rattle.journal_reasons.specs.declared.judging.Judgement.{Judgement}
use Rattle.journal_reasons.specs.declared.reading.JudgeEnd.TheVariants.{Legal, Illegal, Refused}

pub short_front : (bytes front rest : List ℕ) → IsSplit bytes front rest → length bytes ≤ 67108864 → length front < 2 ^ 62
short_front bytes front rest split few =
    let both : length (front ++ rest) ≤ 67108864 = subst (λ (xs : List ℕ). length xs ≤ 67108864) split.whole few in
    omega (arith, length-append front rest, both)

pub page_on : (bytes front rest : List ℕ) (j : Journal) (v : Judgement) (legal : Bool) (page : List ℕ) → IsSplit bytes front rest
    → journal_of rest ≡ Ok j → IsJudgement j v → legal ≡ is_none (place_judged v)
    → page ≡ judged_page_text front rest j v → IsPage bytes legal page
page_on bytes front rest j v legal page split read judged same text = record {
  front = front;
  rest = rest;
  split = split;
  journal = j;
  read = read;
  judgement = v;
  judged = judged;
  legal = same;
  text = text;
}

pub none_in : (bytes front rest : List ℕ) (e : ShowEnd) → IsSplit bytes front rest → RestFails rest e → HasNoJournal bytes e
none_in bytes front rest e split fails = record { front = front; rest = rest; split = split; holds = fails }

refuses : (bytes : List ℕ) (old new : Option (List ℕ)) (e : ShowEnd) → length bytes ≤ 67108864 → HasNoJournal bytes e → JudgesInput bytes old new (Refused e)
refuses bytes old new end.Memory few none = tt
refuses bytes old new (end.BadLine line) few none = (few, none)
refuses bytes old new end.CutShort few none = (few, none)
refuses bytes old new _ few none = absurd none.holds

pub refuses_input : (left left' old new : Option (List ℕ)) (r : Result (Vec ℕ) ReadAllError) (v : Vec ℕ) (now : List ℕ) (e : ShowEnd)
    → IfSome left (λ bytes. ReadsWhole 67108864 bytes left' r) → r ≡ Ok v → now ≡ v.items → HasNoJournal now e
    → IfSome left (λ bytes. JudgesInput bytes old new (Refused e))
refuses_input None left' old new r v now e whole read same none = tt
refuses_input (Some bytes) left' old new r v now e whole read same none =
    let it = subst (ReadsWhole 67108864 bytes left') read whole in
    refuses bytes old new e it.1 (subst (λ (xs : List ℕ). HasNoJournal xs e) (same ∙ it.0) none)

-- what is written of what was read is written of the input
writes_input : (left left' : Option (List ℕ)) (r : Result (Vec ℕ) ReadAllError) (v : Vec ℕ) (now page : List ℕ) (legal : Bool) (P : List ℕ → Type 0)
    → IfSome left (λ bytes. ReadsWhole 67108864 bytes left' r) → r ≡ Ok v → now ≡ v.items → IsPage now legal page → P page
    → IfSome left (λ bytes. Writes legal bytes P)
writes_input None left' r v now page legal P whole read same is holds = tt
writes_input (Some bytes) left' r v now page legal P whole read same is holds =
    let it = subst (ReadsWhole 67108864 bytes left') read whole in
    (it.1, page, subst (λ (xs : List ℕ). IsPage xs legal page) (same ∙ it.0) is, holds)

pub writes_legal : (left left' old new : Option (List ℕ)) (r : Result (Vec ℕ) ReadAllError) (v : Vec ℕ) (now page : List ℕ) (legal : Bool)
    → IfSome left (λ bytes. ReadsWhole 67108864 bytes left' r) → r ≡ Ok v → now ≡ v.items → IsPage now legal page → Appends old new page
    → legal ≡ true → IfSome left (λ bytes. JudgesInput bytes old new Legal)
writes_legal left left' old new r v now page legal whole read same is holds so =
    writes_input left left' r v now page true (λ p. Appends old new p) whole read same (subst (λ (b : Bool). IsPage now b page) so is) holds

pub writes_illegal : (left left' old new : Option (List ℕ)) (r : Result (Vec ℕ) ReadAllError) (v : Vec ℕ) (now page : List ℕ) (legal : Bool)
    → IfSome left (λ bytes. ReadsWhole 67108864 bytes left' r) → r ≡ Ok v → now ≡ v.items → IsPage now legal page → Appends old new page
    → legal ≡ false → IfSome left (λ bytes. JudgesInput bytes old new Illegal)
writes_illegal left left' old new r v now page legal whole read same is holds so =
    writes_input left left' r v now page false (λ p. Appends old new p) whole read same (subst (λ (b : Bool). IsPage now b page) so is) holds

cut_so : (left old new : Option (List ℕ)) (legal : Bool) → IfSome left (λ bytes. Writes legal bytes (λ page. AppendsFront old new page))
    → IfSome left (λ bytes. JudgesInput bytes old new (Refused end.WriteFault))
cut_so None old new legal cut = tt
cut_so (Some bytes) old new legal cut = (legal, cut)

pub writes_part : (left left' old new : Option (List ℕ)) (r : Result (Vec ℕ) ReadAllError) (v : Vec ℕ) (now page : List ℕ) (legal : Bool)
    → IfSome left (λ bytes. ReadsWhole 67108864 bytes left' r) → r ≡ Ok v → now ≡ v.items → IsPage now legal page → AppendsFront old new page
    → IfSome left (λ bytes. JudgesInput bytes old new (Refused end.WriteFault))
writes_part left left' old new r v now page legal whole read same is cut =
    cut_so left old new legal (writes_input left left' r v now page legal (λ p. AppendsFront old new p) whole read same is cut)
