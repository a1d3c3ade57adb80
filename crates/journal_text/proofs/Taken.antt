-- What was taken of a source that was read without a fault.
use Rattle.journal_text.proofs.Names.{◌≡◌, ℕ, ◌≤◌, List, drop, length, Option, Some, None, Ok, Err, sym, ◌∙◌, arith, IfSome, IsAtEnd, Vec, drop_of_length-le, ReadsWhole, TooLong, ReadsJournalClean, IfSome_then}

at_end : (bytes : List ℕ) (new : Option (List ℕ)) → length bytes ≤ 67108864 → IsAtEnd new → IfSome new (λ rest. rest ≡ drop 67108865 bytes)
at_end bytes None le e = tt
at_end bytes (Some rest) le e = let short : length bytes ≤ 67108865 = omega arith in e ∙ sym (drop_of_length-le bytes short)

-- a source that was read to its end
pub end_clean : (before now : ℕ) (old new : Option (List ℕ)) (v : Vec ℕ) → now ≡ before → IfSome old (λ bytes. ReadsWhole 67108864 bytes new (Ok v))
    → ReadsJournalClean before now old new
end_clean before now old new v same h = record { faults = same; taken = IfSome_then old h (λ bytes r. at_end bytes new r.1 r.2) }

-- a source that was read to one byte past the limit
pub long_clean : (before now : ℕ) (old new : Option (List ℕ)) → now ≡ before → IfSome old (λ bytes. ReadsWhole 67108864 bytes new (Err TooLong))
    → ReadsJournalClean before now old new
long_clean before now old new same h = record { faults = same; taken = IfSome_then old h (λ bytes r. r.1) }

-- the text of the bytes of a source that was read to its end
pub text_same : (text : List ℕ) (old new : Option (List ℕ)) (v : Vec ℕ) → text ≡ v.items → IfSome old (λ bytes. ReadsWhole 67108864 bytes new (Ok v))
    → IfSome old (λ bytes. text ≡ bytes)
text_same text old new v e h = IfSome_then old h (λ bytes r. e ∙ r.0)
