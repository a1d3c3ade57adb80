-- How the index follows the slots.
use Rattle.std.proofs.Common.{◌≡◌, ◌≢◌, inl, inr, ℕ, ◌+◌, ◌<◌, ◌≤◌, [], List, length, Some, None, cond, Result, Ok, Err, replicate, sym, ap, ◌∙◌, subst, arith}
use Rattle.std.specs.List.{Contains, insert, remove}
use Rattle.std.specs.Prelude.{slice_index_or, IsOk, is_ok}
use Rattle.std.proofs.lemmas.Bool.{cases_eq, cases_lt}
use Rattle.std.proofs.lemmas.List.{get_or_default}
use Rattle.std.proofs.lemmas.List.Edits.{length-insert, length-remove}
use Rattle.std.proofs.lemmas.List.Quantifiers.{all_pairs_remove}
use Rattle.std.proofs.lemmas.List.Sums.{count_by-le-length}
use Rattle.handle_pool.specs.Slots.{Slots, slot_of, generation_of, slot_value, free_slot, is_live, Inserts, with_value, without}
use Rattle.handle_pool.specs.Walks.{HasLive, NoneLive, OneEach}
use Rattle.handle_pool.proofs.GetLemmas.{get-insert_same, get-insert_before, get-insert_other, get-with_value_same, get-with_value_other, get-without_same, get-without_other}
use Rattle.handle_pool.proofs.CountLemmas.{live_count-new, max_of-new, live_count-insert, max_of-insert, live_count-with_value, max_of-with_value, live_count-without, max_of-without}
use Rattle.handle_pool.proofs.StandsLemmas.{get-fresh}
use Rattle.keyed_pool.specs.Index.{AreRising, Locates, IsIndexed}
use Rattle.keyed_pool.specs.declared.IndexEntry.{IndexEntry}
use Rattle.keyed_pool.proofs.EntryLemmas.{same_place, contains-new, contains-old, contained, rising-insert, kept, contains-left}

module _ {T : Type 0} (id : T → ℕ) where
  abbrev entry : T → ℕ → IndexEntry
  entry v handle = record { id = id v; handle = handle }

  pub IsIndexed-new : (p : Slots T) (max len room : ℕ) (entries : List IndexEntry) → p.slots ≡ replicate max (free_slot 1) → entries ≡ [] → len ≡ 0 → max ≤ room
      → IsIndexed id p entries len room
  IsIndexed-new p max len room entries fresh empty none fits = record {
    rising = subst AreRising (sym empty) (λ i j d before within. absurd (omega (arith, within)));
    live = λ e there. absurd (omega (arith, ap length empty, there.1));
    listed = λ handle v found. let dead : slot_value p handle ≡ None = rw fresh (get-fresh max (slot_of handle) (generation_of handle)) in absurd (cc);
    counted = ap length empty ∙ sym (live_count-new p max fresh);
    measured = none ∙ sym (ap length empty);
    fits = omega (arith, fits, max_of-new p max fresh);
  }

  module _ (p : Slots T) (entries : List IndexEntry) (len room : ℕ) (index : IsIndexed id p entries len room) where
    -- the entry of a live value
    pub entry_at : (handle : ℕ) (v : T) (d : IndexEntry) → slot_value p handle ≡ Some v
        → (k : ℕ) × (k < length entries) × (slice_index_or entries k d ≡ entry v handle)
    entry_at handle v d found =
        let there = index.listed handle v found in
        (there.0, there.1, get_or_default entries there.0 d (entry v handle) there.1 ∙ there.2)

    pub each : OneEach id p
    each = record {
      only = λ h k v w found other same.
          let a = entry_at h v (entry v h) found in
          let b = entry_at k w (entry v h) other in
          let here = same_place entries index.rising a.0 b.0 (entry v h) a.1 b.1 (ap (λ (e : IndexEntry). e.id) a.2 ∙ same
          ∙ sym (ap (λ (e : IndexEntry). e.id) b.2)) in
          ap (λ (e : IndexEntry). e.handle) (sym a.2 ∙ ap (λ n. slice_index_or entries n (entry v h)) here ∙ b.2);
    }

    -- what a search finds is live, and where it finds nothing, none is
    pub found_live : (n place : ℕ) (e : IndexEntry) → Locates entries n (Ok place) → e ≡ slice_index_or entries place e → HasLive p e.handle (λ v. id v ≡ n)
    found_live n place e located is =
        let live = index.live e (place, located.0, sym is) in
        (live.0, live.1, live.2 ∙ ap (λ (x : IndexEntry). x.id) is ∙ located.1 e)

    pub found_none : (n place : ℕ) → Locates entries n (Err place) → NoneLive (slot_value p) (λ v. id v ≡ n)
    found_none n place located handle v found same =
        let there = entry_at handle v (entry v handle) found in
        let is = ap (λ (e : IndexEntry). e.id) there.2 in
        let parts = located.1 index.rising in
        elim (cases_lt there.0 place) [
          | inl below ↦ omega (arith, is, same, parts.0 there.0 (entry v handle) below)
          | inr above ↦ omega (arith, is, same, parts.1 there.0 (entry v handle) above there.1)
        ]

    pub spare : (new : Slots T) (handle : ℕ) (v : T) → Inserts p new handle v → len < room
    spare new handle v inserts = omega (
      arith,
      index.measured,
      index.counted,
      index.fits,
      live_count-insert p new handle v inserts,
      max_of-insert p new handle v
          inserts,
      count_by-le-length is_live new.slots,
    )

    pub IsIndexed-insert : (new : Slots T) (handle : ℕ) (v : T) (place more space : ℕ) → Inserts p new handle v → Locates entries (id v) (Err place)
        → more ≡ len + 1 → room ≤ space → IsIndexed id new (insert entries place (entry v handle)) more space
    IsIndexed-insert new handle v place more space inserts located one wide =
        let within = located.0 in
        let parts = located.1 index.rising in
        let dead = get-insert_before p new handle v inserts in
        record {
          rising = rising-insert entries place (entry v handle) within index.rising parts.0 parts.1;
          live = λ e there. elim (contained entries place (entry v handle) within e there) [
            | inl is ↦ (
              v,
              ap (slot_value new) (ap (λ (x : IndexEntry). x.handle) is)
                  ∙ get-insert_same p new handle v inserts,
              sym (ap (λ (x : IndexEntry). x.id) is),
            )
            | inr old ↦
                let was = index.live e old in
                let differs : e.handle ≢ handle = λ same. let no = ap (slot_value p) same ∙ dead in absurd (cc (no, was.1)) in
                (was.0, get-insert_other p new handle e.handle v inserts differs ∙ was.1, was.2)
          ];
          listed = λ h w found. elim (cases_eq h handle) [
            | inl same ↦
                let read = ap (slot_value new) same ∙ get-insert_same p new handle v inserts in
                let is : v ≡ w = cc (read, found) in
                subst (Contains (insert entries place (entry v handle))) (ap (λ x. entry x handle) is
                ∙ ap (entry w) (sym same)) (contains-new entries place (entry v handle) within)
            | inr differs ↦ contains-old entries place (entry v handle) within (entry w h)
                (index.listed h w (sym (get-insert_other p new handle h v inserts differs) ∙ found))
          ];
          counted = omega (arith, index.counted, length-insert entries place (entry v handle) within, live_count-insert p new handle v inserts);
          measured = omega (arith, index.measured, one, length-insert entries place (entry v handle) within);
          fits = omega (arith, index.fits, wide, max_of-insert p new handle v inserts);
        }

    -- with the answer of an insert that has room
    pub IsIndexed-grown : {E : Type 0} (r : Result Unit E) (new : Slots T) (handle n place : ℕ) (v : T) (items : List IndexEntry) (more space : ℕ) → IsOk r
        → items ≡ cond (is_ok r) (insert entries place (record { id = n; handle = handle })) entries → more ≡ cond (is_ok r) (len + 1) len → room ≤ space
        → n ≡ id v → Inserts p new handle v → Locates entries n (Err place) → IsIndexed id new items more space
    IsIndexed-grown (Err e) new handle n place v items more space ok grown one wide same inserts located = absurd (cc)
    IsIndexed-grown (Ok u) new handle n place v items more space ok grown one wide same inserts located =
        subst (λ (xs : List IndexEntry). IsIndexed id new xs more space) (sym grown)
        (subst (λ (m : ℕ). IsIndexed id new (insert entries place (record { id = m; handle = handle })) more space) (sym same)
        (IsIndexed-insert new handle v place more space inserts (subst (λ (m : ℕ). Locates entries m (Err place)) same located) one wide))

    -- the value's id stays
    pub IsIndexed-with_value : (handle : ℕ) (old new : T) → slot_value p handle ≡ Some old → id new ≡ id old
        → IsIndexed id (with_value p handle new) entries len room
    IsIndexed-with_value handle old new found keeps = record {
      rising = index.rising;
      live = λ e there.
          let was = index.live e there in
          elim (cases_eq e.handle handle) [
            | inl same ↦
                let read = ap (slot_value p) same ∙ found in
                let is : was.0 ≡ old = cc (read, was.1) in
                (new, ap (slot_value (with_value p handle new)) same ∙ get-with_value_same p handle old new found, keeps ∙ ap id (sym is) ∙ was.2)
            | inr differs ↦ (was.0, get-with_value_other p handle e.handle old new found differs ∙ was.1, was.2)
          ];
      listed = λ h w live. elim (cases_eq h handle) [
        | inl same ↦
            let read = ap (slot_value (with_value p handle new)) same ∙ get-with_value_same p handle old new found in
            let is : new ≡ w = cc (read, live) in
            subst (Contains entries) (λ i. record { id = (sym keeps ∙ ap id is) i; handle = sym same i }) (index.listed handle old found)
        | inr differs ↦ index.listed h w (sym (get-with_value_other p handle h old new found differs) ∙ live)
      ];
      counted = index.counted ∙ sym (live_count-with_value p handle old new found);
      measured = index.measured;
      fits = omega (arith, index.fits, max_of-with_value p handle new);
    }

    pub IsIndexed-without : (handle : ℕ) (v : T) (place fewer space : ℕ) → slot_value p handle ≡ Some v → Locates entries (id v) (Ok place) → fewer + 1 ≡ len
        → space ≡ room → IsIndexed id (without p handle) (remove entries place) fewer space
    IsIndexed-without handle v place fewer space found located one same_room =
        let within = located.0 in
        let e = entry v handle in
        let own = entry_at handle v e found in
        let at : place ≡ own.0 = same_place entries index.rising place own.0 e within own.1 (located.1 e ∙ sym (ap (λ (x : IndexEntry). x.id) own.2)) in
        let here : slice_index_or entries place e ≡ e = ap (λ n. slice_index_or entries n e) at ∙ own.2 in
        record {
          rising = all_pairs_remove (λ (a b : IndexEntry). a.id < b.id) entries place within index.rising;
          live = λ x there.
              let left = kept entries place within x there in
              let was = index.live x (left.0, left.1, left.3) in
              let differs : x.handle ≢ handle = λ same.
              let read = ap (slot_value p) same ∙ found in
              let is : was.0 ≡ v = cc (read, was.1) in
              left.2 (same_place entries index.rising left.0 place x left.1 within (ap (λ (y : IndexEntry). y.id) left.3 ∙ sym was.2 ∙ ap id is
              ∙ sym (located.1 x)))
              in
              (was.0, get-without_other p handle x.handle v found differs ∙ was.1, was.2);
          listed = λ h w live. elim (cases_eq h handle) [
            | inl same ↦ let none = ap (slot_value (without p handle)) same ∙ get-without_same p handle v found in absurd (cc (none, live))
            | inr differs ↦
                let there = index.listed h w (sym (get-without_other p handle h v found differs) ∙ live) in
                let apart : there.0 ≢ place = λ same.
                differs (ap (λ (x : IndexEntry). x.handle) (sym there.2 ∙ ap (λ n. slice_index_or entries n (entry w h)) same
                ∙ get_or_default entries place (entry w h) e within ∙ here))
                in
                contains-left entries place within (entry w h) there.0 there.1 apart there.2
          ];
          counted = omega (arith, index.counted, length-remove entries place within, live_count-without p handle v found);
          measured = omega (arith, index.measured, one, length-remove entries place within);
          fits = omega (arith, index.fits, same_room, max_of-without p handle);
        }
