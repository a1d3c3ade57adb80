-- Where each change names the task that it ends, the ends that are seen are those that were named.
use Rattle.run_report.proofs.Names.{arith, nat_tests, ◌≡◌, ℕ, ◌+◌, ◌<◌, length, get_or, take, true, false, not, List, [], map, map-append, entry_of, ShortEntry, Option, None, refl, take_at_read, holds, TaskEnd, NodeEntry, EndEffect, effect_of, SeenRun, with_effect, nothing_seen, seen_from}
use Rattle.run_report.specs.Ends.{names_each_end, with_named_end}
use Rattle.run_report.proofs.History.{seen_more}

-- these are the ends that are seen, and no queue is disabled
pub record Named (ends : ℕ → Option TaskEnd) (v : SeenRun) : Type 0 where
  pub same : (h : ℕ) → ends h ≡ v.ends h
  pub clear : (q : ℕ) → holds (λ x. not x.enabled) (v.queues q) ≡ false

pub named_change : (n : ℕ) (c : EndEffect) (ends : ℕ → Option TaskEnd) (v : SeenRun) → names_each_end c ≡ true → Named ends v
    → Named (with_named_end c ends) (with_effect n c v)
named_change n c ends v e1 e2 = grind (arith, nat_tests)

pub named_none : (n : ℕ) (ends : ℕ → Option TaskEnd) → ((h : ℕ) → ends h ≡ None) → Named ends (seen_from n nothing_seen [])
unfolding seen_from
named_none n ends none = record { same = none; clear = λ q. refl }

-- one entry more
pub named_next : (n i : ℕ) (xs : List ShortEntry) (x : ShortEntry) (c : EndEffect) (old new : ℕ → Option TaskEnd) → i < length xs → x ≡ get_or xs i x
    → c ≡ effect_of (entry_of x).op (entry_of x).reply → names_each_end c ≡ true
    → Named old (seen_from n nothing_seen (map entry_of (take i xs))) → ((h : ℕ) → new h ≡ with_named_end c old h)
    → Named new (seen_from n nothing_seen (map entry_of (take (i + 1) xs)))
named_next n i xs x c old new e1 e2 e3 e4 e5 e6 =
    grind (arith, nat_tests, take_at_read, map-append, named_change, seen_from, nothing_seen, with_effect, seen_more)
