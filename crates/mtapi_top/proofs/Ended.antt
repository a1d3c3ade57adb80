-- Which words exclude one another, and what the ends of a run have in common.
use Rattle.mtapi_top.proofs.Names.{◌≡◌, ◌≤◌, ℕ, arith, true, false, List, Option, Some, None, refl, sym, ◌∙◌, inl, inr, is_some, Asked, End, reads_workload, judges, Outside, Ends, status_of, has_line, Channels, Checks, StartsNothing}
use Rattle.mtapi_top.specs.declared.words.Asked.TheVariants as asks
use Rattle.mtapi_top.specs.declared.ends.End.TheVariants as end

pub is_asked : (words : Option Asked) → reads_workload words ≡ true → is_some words ≡ true
is_asked None r = absurd (cc)
is_asked (Some asked) r = refl

pub not_both : (words : Option Asked) → reads_workload words ≡ true → judges words ≡ true → ⊥
not_both (Some asks.Check) r j = cc
not_both _ r j = cc

pub judges_one : (words : Option Asked) → judges words ≡ false → judges words ≡ true → ⊥
judges_one words f t = let both = sym f ∙ t in cc

-- Want of memory for a message stands for an end whose message names a line

pub memory_of_run : (words : Option Asked) (bytes : Option (List ℕ)) (a b : Outside) (e : End) → has_line e ≡ true → Ends words bytes a b e
    → Ends words bytes a b end.Memory
memory_of_run words bytes a b (end.Refused line cause) l h = (is_asked words h.0, h.2)
memory_of_run words bytes a b (end.JournalLine line) l h = absurd h
memory_of_run words bytes a b _ l h = absurd (cc)

pub memory_of_check : (bytes : Option (List ℕ)) (a b : Channels) (e : End) → has_line e ≡ true → Checks bytes a b e → Checks bytes a b end.Memory
memory_of_check bytes a b (end.Refused line cause) l h = h.1
memory_of_check bytes a b (end.JournalLine line) l h = h.1
memory_of_check bytes a b _ l h = absurd (cc)

-- The status of an end whose message names a line

pub named_is_three : (e : End) → has_line e ≡ true → status_of e ≡ 3
named_is_three (end.Refused line cause) l = refl
named_is_three (end.JournalLine line) l = refl
named_is_three _ l = absurd (cc)

-- Where nothing was started, the status is at most 4, so it isn't that of want of memory

pub starts_early : (n : ℕ) → StartsNothing n → n ≤ 4
starts_early n (inl q) = omega arith
starts_early n (inr (inl q)) = omega arith
starts_early n (inr (inr q)) = omega arith

pub not_six : StartsNothing 6 → ⊥
not_six q = let l = starts_early 6 q in omega arith
