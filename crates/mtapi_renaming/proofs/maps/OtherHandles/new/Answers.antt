use Rattle.std.proofs.Common.{rules, ◌≡◌, ℕ, List, [], ap}
use Rattle.std.specs.Ordering.{nat_cmp}
use Rattle.std.specs.BTreeMap.{is_at}
use Rattle.std.specs.Map.{lookup}
use Rattle.mtapi_values.specs.declared.handles.ObjectKind.{ObjectKind}
use Rattle.mtapi_values.specs.declared.handles.ObjectKind.TheVariants.{Action}
use Rattle.mtapi_renaming.specs.Renaming.{or_zero}
use Rattle.mtapi_renaming.specs.declared.maps.OtherHandles.{OtherHandles}
use Rattle.mtapi_renaming.specs.Renaming.{renames_nothing}
use Rattle.mtapi_renaming.specs.Maps.{map_of, renaming_of}
use Rattle.mtapi_renaming.proofs.maps.OtherHandles.new.Goals as goal

-- where each map is empty, nothing stands beside a handle
empty : (m : OtherHandles) → ((k : ObjectKind) → (map_of m k).entries ≡ []) → renaming_of m ≡ renames_nothing
empty m e = λ i k h. ap (λ (es : List (ℕ × ℕ)). or_zero (lookup (is_at (nat_cmp h)) es)) (e k) i

pub returns : goal.returns
returns c = empty _ by_kind
  where
    by_kind : (k : ObjectKind) → (map_of (record {
      actions = c.new.result;
      tasks = c.new-2.result;
      groups = c.new-3.result;
      queues = c.new-4.result;
      mutexes = c.new-5.result;
      sems = c.new-6.result;
      rwls = c.new-7.result;
      segments = c.new-8.result;
    }) k).entries ≡ []
    by_kind Action = search rules
    by_kind _ = search rules
