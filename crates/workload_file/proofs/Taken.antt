-- What was taken of a source that was read without a fault.
use Rattle.workload_file.proofs.Cited.{◌≡◌, ℕ, ◌≤◌, List, drop, length, Option, Some, None, Ok, Err, sym, ◌∙◌, arith, IfSome, IsAtEnd, Vec, drop_of_length-le, ReadsWhole, TooLong, ReadsClean}
use Rattle.std.proofs.lemmas.Option.{IfSome_then}

at_end : (bytes : List ℕ) (new : Option (List ℕ)) → length bytes ≤ 1048576 → IsAtEnd new → IfSome new (λ rest. rest ≡ drop 1048577 bytes)
at_end bytes None le e = tt
at_end bytes (Some rest) le e = let short : length bytes ≤ 1048577 = omega arith in e ∙ sym (drop_of_length-le bytes short)

pub end_clean : (before now : ℕ) (old new : Option (List ℕ)) (v : Vec ℕ) → now ≡ before → IfSome old (λ bytes. ReadsWhole 1048576 bytes new (Ok v))
    → ReadsClean before now old new
end_clean before now old new v same h = record { faults = same; taken = IfSome_then old h (λ bytes r. at_end bytes new r.1 r.2) }

pub long_clean : (before now : ℕ) (old new : Option (List ℕ)) → now ≡ before → IfSome old (λ bytes. ReadsWhole 1048576 bytes new (Err TooLong))
    → ReadsClean before now old new
long_clean before now old new same h = record { faults = same; taken = IfSome_then old h (λ bytes r. r.1) }
