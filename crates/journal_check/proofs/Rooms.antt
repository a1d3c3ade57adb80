-- How many of a kind are live, and how many of its last handles aren't, as the node tells it.
use Rattle.journal_check.proofs.Names.{◌≡◌, ℕ, ◌+◌, ◌≤◌, ◌<◌, Bool, true, false, cond, List, length, refl, sym, ◌∙◌, ap, arith, ◌==◌, ◌-◌, not, take, get_or, nat_tests, ObjectKind, Terms, State, NodeEntry, after, PoolNode, PoolNodeStands, Renaming, renamed, Follows, live_in, is_live_of, is_full_of, made_in, most_of, lasts_of, gone_of, gone_in, taken_in, renaming_of, Following, Made, of_kind, last_handles, made_count, gone_count, freed_count, EndsObjects, Laws, room_of, Mirrors, HasFollowed, Same, eqb-true, eq-eqb}
use Rattle.node_steps.specs.Stands.{terms_of}
use Rattle.journal_check.proofs.Lists.{how_many-next}
use Rattle.journal_check.proofs.Ends.{told_more, told_less}

-- a handle names a live object where its other one does
pub live_here : (w : Laws) (n : PoolNode) (g : Renaming) (k : ObjectKind) (h : ℕ) (b : Bool)
    → ((L : List NodeEntry) → PoolNodeStands n L → is_live_of k (after (terms_of n) L) (g k h) ≡ b) →
    (terms : Terms) (s : State) (count : ℕ) → Mirrors n g terms s count → Follows g s → is_live_of k s h ≡ b
live_here w n g k h b told terms s count m f =
    let a : is_live_of k (after (terms_of n) m.own) (g k h) ≡ b = told m.own m.stands in
    let e : is_live_of k (after (terms_of n) m.own) (g k h) ≡ is_live_of k (renamed g (room_of terms) s) (g k h) =
    ap (λ (t : State). is_live_of k t (g k h)) m.renames in
    sym ((w.live g (room_of terms) s k f).same h) ∙ sym e ∙ a

-- one handle more
pub gone_next : (k : ObjectKind) (s : State) (hs : List ℕ) (i d gone : ℕ) (b : Bool) → i < length hs → is_live_of k s (get_or hs i d) ≡ b
    → gone_of k s (take i hs) ≡ gone → gone_of k s (take (i + 1) hs) ≡ gone + cond {A = ℕ} (not b) 1 0
gone_next k s hs i d gone b below here e =
    how_many-next (λ h. not (is_live_of k s h)) hs i d below ∙ ap (λ (m : ℕ). m + cond {A = ℕ} (not (is_live_of k s (get_or hs i d))) 1 0) e
    ∙ ap (λ (c : Bool). gone + cond {A = ℕ} (not c) 1 0) here

module _ (w : Laws) (f : Following) (k : ObjectKind) (most : ℕ) (mosts : (s : State) → s.terms.settings ≡ f.terms.settings
    → most_of k s ≡ most) (L : List NodeEntry) (h : HasFollowed f L) where
  abbrev reached : State
  reached = after f.terms L

  pub most_of_it : most_of k reached ≡ most
  most_of_it = mosts reached (ap (λ (t : Terms). t.settings) (w.terms f.terms L))

  -- where the live ones and those that are known to be gone take all, it is full
  pub all_taken : (alive : ℕ) → live_in k reached ≡ alive → alive + gone_count (of_kind f.made k) ≡ most → is_full_of k reached ≡ true
  all_taken alive live all = grind (arith, nat_tests, w.room f.terms L k, h.made.gone k, w.kept f.terms L k, most_of_it)

module _ (w : Laws) (f : Following) (k : ObjectKind) (alive most : ℕ)
    (lives : (L : List NodeEntry) → PoolNodeStands f.node L → live_in k (after (terms_of f.node) L) ≡ alive)
    (mosts : (s : State) → s.terms.settings ≡ f.terms.settings → most_of k s ≡ most) where
  module _ (L : List NodeEntry) (h : HasFollowed f L) where
    abbrev s : State
    s = after f.terms L

    pub alive_here : live_in k s ≡ alive
    alive_here =
        let a : live_in k (after (terms_of f.node) h.node.own) ≡ alive = lives h.node.own h.node.stands in
        let e : live_in k (after (terms_of f.node) h.node.own) ≡ live_in k (renamed (renaming_of f.names) (room_of f.terms) s) =
        ap (live_in k) h.node.renames in
        sym (w.live (renaming_of f.names) (room_of f.terms) s k h.follows).count ∙ sym e ∙ a

    most_here : most_of k s ≡ most
    most_here = mosts s (ap (λ (t : Terms). t.settings) (w.terms f.terms L))

    -- whether it is full, by the handles that were kept
    pub full_here : is_full_of k s ≡ (alive + gone_of k s (last_handles (of_kind f.made k)) == most)
    full_here =
        let a = alive_here in let b = most_here in let c = h.made.lasts k in
        w.room f.terms L k ∙ ap (λ (n : ℕ). n + gone_of k s (lasts_of k s) == most_of k s) a ∙ ap (λ (n : ℕ). alive + gone_of k s (lasts_of k s) == n) b
        ∙ ap (λ (hs : List ℕ). alive + gone_of k s hs == most) (sym c)

  -- how many are gone, by the handles that were kept
  module _ (gone : ℕ) (goes : (L : List NodeEntry) → HasFollowed f L → gone_of k (after f.terms L) (last_handles (of_kind f.made k)) ≡ gone) where
    gone_here : (L : List NodeEntry) → HasFollowed f L → gone_in k (after f.terms L) ≡ gone
    gone_here L h = ap (gone_of k (after f.terms L)) (sym (h.made.lasts k)) ∙ goes L h

    pub all_made : (L : List NodeEntry) → HasFollowed f L → alive + gone ≤ made_count (of_kind f.made k)
    all_made L h = omega (arith, gone_here L h, alive_here L h, h.made.made k, (w.gone f.terms L k).made)

    -- they may be kept, and what was kept before was no more
    pub same_gone : (L : List NodeEntry) → HasFollowed f L → (made : Made) → EndsObjects k gone (made_count (of_kind f.made k) - alive - gone) f.made made
        → Same f (record f { made = made })
    same_gone K i made ends = record {
      terms = refl;
      node = refl;
      there = λ L h. record {
        node = h.node;
        terms = h.terms;
        follows = h.follows;
        made = told_more ends (after f.terms L) (enough L h) (free L h) h.made;
        few = h.few;
      };
      back = λ L h. record {
        node = h.node;
        terms = h.terms;
        follows = h.follows;
        made = told_less ends (after f.terms L) known known_free h.made;
        few = h.few;
      };
    }
      where
        enough : (L : List NodeEntry) → HasFollowed f L → gone ≤ gone_in k (after f.terms L)
        enough L h = let a : gone_in k (after f.terms L) ≡ gone = gone_here L h in omega (arith, a)

        free : (L : List NodeEntry) → HasFollowed f L
            → (made_count (of_kind f.made k) - alive - gone) + taken_in k (after f.terms L) ≤ made_in k (after f.terms L)
        free L h = omega (arith, gone_here L h, alive_here L h, h.made.made k, (w.gone f.terms L k).made)

        known : gone_count (of_kind f.made k) ≤ gone
        known = omega (arith, gone_here K i, i.made.gone k)

        known_free : freed_count (of_kind f.made k) ≤ made_count (of_kind f.made k) - alive - gone
        known_free = omega (arith, gone_here K i, alive_here K i, i.made.made k, i.made.freed k)
