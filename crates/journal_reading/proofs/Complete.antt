-- Without a fault what shows an input is written, unless memory ran out.
use Rattle.std.proofs.Common.{◌≡◌, ◌⊎◌, ℕ, List, Option, Some, None, Ok, inl, inr, refl, sym, ◌∙◌, subst, arith}
use Rattle.std.specs.Prelude.{IfSome, Result}
use Rattle.std.specs.Global.{Vec}
use Rattle.byte_io.specs.declared.whole.ReadAllError.{ReadAllError}
use Rattle.byte_io.specs.Causes.{Rose, ReadsWhole}
use Rattle.journal_text.proofs.Splits.{same_split}
use Rattle.journal_reading.specs.declared.reading.KeptRun.{KeptRun}
use Rattle.journal_reading.specs.declared.ends.ShowEnd.{ShowEnd}
use Rattle.journal_reading.specs.declared.ends.ShowEnd.TheVariants as end
use Rattle.journal_reading.specs.declared.ends.RunView.{RunView}
use Rattle.journal_reading.specs.Ends.{ShowsInput, HasInput, IsJournalInput, IsFront, IsFrontWorkload, IsJournal, InputFails, IsTextRefused, FrontFails, RestFails}

-- a part is a workload or none
workload_once : (front : List ℕ) (e : ShowEnd) → FrontFails front e → IsFrontWorkload front → (e ≡ end.Memory)
workload_once front end.Memory fails load = refl
workload_once front (end.Refused line cause) fails load = absurd (let both = sym fails.1 ∙ load.2 in cc)
workload_once front end.WorkloadTooLong fails load = absurd (omega (arith, fails, load.0))
workload_once front _ fails load = absurd fails

-- a rest is a journal or none
journal_once : (rest : List ℕ) (e : ShowEnd) → RestFails rest e → IsJournal rest → (e ≡ end.Memory)
journal_once rest end.Memory fails journal = refl
journal_once rest (end.BadLine line) fails journal = absurd (let both = sym fails ∙ journal.1 in cc)
journal_once rest end.CutShort fails journal = absurd (let both = sym fails ∙ journal.1 in cc)
journal_once rest _ fails journal = absurd fails

-- so is what stands before a journal
front_once : (view : RunView) (front : List ℕ) (e : ShowEnd) → IsTextRefused view front e → IsFront view front → (e ≡ end.Memory)
front_once RunView.Picture front e fails may = fails
front_once RunView.Trace front e fails may = workload_once front e fails may

fails_else : (view : RunView) (front rest : List ℕ) (e : ShowEnd) → IsTextRefused view front e ⊎ (IsFront view front × RestFails rest e)
    → IsFront view front × IsJournal rest → (e ≡ end.Memory)
fails_else view front rest e (inl fails) is = front_once view front e fails is.0
fails_else view front rest e (inr fails) is = journal_once rest e fails.1 is.1

-- an input has one first part and one rest
input_once : (view : RunView) (bytes : List ℕ) (e : ShowEnd) → InputFails view bytes e → IsJournalInput view bytes → (e ≡ end.Memory)
input_once view bytes e none some =
    let same = same_split bytes none.front none.rest some.front some.rest none.split some.split in
    let there = subst (λ (xs : List ℕ). IsFront view none.front
    × IsJournal xs) (sym same.1) (subst (λ (xs : List ℕ). IsFront view xs × IsJournal some.rest) (sym same.0) some.holds) in
    fails_else view none.front none.rest e none.holds there

ends_well : (IsShown : KeptRun → List ℕ → Type 0) (view : RunView) (a b : Option (List ℕ)) (bytes : List ℕ) (r : ShowEnd) (read read' written written' : ℕ)
    → ShowsInput IsShown view a b bytes r
    → (r ≡ end.ReadFault → Rose read read') → (r ≡ end.WriteFault → Rose written written')
    → (Rose read read' → ⊥) → (Rose written written' → ⊥) → HasInput view bytes → (r ≡ end.Done) ⊎ (r ≡ end.Memory)
ends_well IsShown view a b bytes end.Done _ _ _ _ d reads writes calm dry h = inl refl
ends_well IsShown view a b bytes end.Memory _ _ _ _ d reads writes calm dry h = inr refl
ends_well IsShown view a b bytes end.ReadFault _ _ _ _ d reads writes calm dry h = absurd (calm (reads refl))
ends_well IsShown view a b bytes end.WriteFault _ _ _ _ d reads writes calm dry h = absurd (dry (writes refl))
ends_well IsShown view a b bytes end.TooLong _ _ _ _ d reads writes calm dry h = absurd (omega (arith, d, h.0))
ends_well IsShown view a b bytes _ _ _ _ _ d reads writes calm dry h = inr (input_once view bytes _ d.1 h.1)

pub completes : (IsShown : KeptRun → List ℕ → Type 0) (view : RunView) (left a b : Option (List ℕ)) (r : ShowEnd) (read read' written written' : ℕ)
    → IfSome left (λ bytes. ShowsInput IsShown view a b bytes r)
    → (r ≡ end.ReadFault → Rose read read') → (r ≡ end.WriteFault → Rose written written')
    → (Rose read read' → ⊥) → (Rose written written' → ⊥) → IfSome left (λ bytes. HasInput view bytes → (r ≡ end.Done) ⊎ (r ≡ end.Memory))
completes IsShown view None a b r _ _ _ _ d reads writes calm dry = tt
completes IsShown view (Some bytes) a b r _ _ _ _ d reads writes calm dry = λ h. ends_well IsShown view a b bytes r _ _ _ _ d reads writes calm dry h

-- what was read whole, and can't be shown, is refused; so an input that can be ends otherwise only for want of memory
pub refused_else : (view : RunView) (left left' : Option (List ℕ)) (r : Result (Vec ℕ) ReadAllError) (v : Vec ℕ) (now : List ℕ) (e : ShowEnd)
    → IfSome left (λ bytes. ReadsWhole 67108864 bytes left' r) → r ≡ Ok v → now ≡ v.items → InputFails view now e
    → IfSome left (λ bytes. HasInput view bytes → (e ≡ end.Done) ⊎ (e ≡ end.Memory))
refused_else view None left' r v now e whole read same fails = tt
refused_else view (Some bytes) left' r v now e whole read same fails =
    λ h. inr (input_once view now e fails (subst (IsJournalInput view) (sym (same ∙ (subst (ReadsWhole 67108864 bytes left') read whole).0)) h.1))
