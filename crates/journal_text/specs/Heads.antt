-- The head line: the number of the text, and the terms of the node.
use Rattle.std.specs.Prelude.{ℕ, ◌&&◌, Bool, nat_le, List, [], ◌∷◌, ◌++◌, codes, map, Option, Some, None, unwrap_or, if◌then◌else◌, ◌==◌}
use Rattle.std.specs.{List.join_with_byte, List.slice_index_or, List.after_first, Str.bytes_eq, Fmt.decimal}
use Rattle.mtapi_values.specs.{Attributes.NodeSettings, AttributeTables.after_set, AttributeTables.node_attributes}
use Rattle.mtapi_values.specs.declared.handles.Layout.{Layout}
use Rattle.number_text.specs.{Numbers.number_within, Lists.between}
use Rattle.journal_text.specs.declared.heads.Head.{Head}

-- ---- written

-- the number of the text of a layout
abbrev pub version : Layout → List ℕ
version Layout.One = codes "1"
version Layout.Two = codes "2"

-- a setting, behind its key
abbrev pub setting_text : List ℕ → ℕ → List ℕ
setting_text key n = key ++ decimal n

-- the settings up to the groups
abbrev pub first_texts : Head → List (List ℕ)
first_texts h =
    setting_text (codes "workers=") h.settings.workers
    ∷ setting_text (codes "callers=") h.callers
    ∷ setting_text (codes "tasks=") h.settings.tasks
    ∷ setting_text (codes "actions=") h.settings.actions
    ∷ setting_text (codes "groups=") h.settings.groups
    ∷ []

-- the settings from the queues on
abbrev pub last_texts : Head → List (List ℕ)
last_texts h =
    setting_text (codes "queues=") h.settings.queues
    ∷ setting_text (codes "objects=") h.settings.objects
    ∷ setting_text (codes "priorities=") h.settings.priorities
    ∷ setting_text (codes "generations=") h.settings.generations
    ∷ []

-- the head line
unfoldable pub head_text : Head → List ℕ
head_text h = join_with_byte 32 (codes "mtapi-journal" ∷ version h.layout ∷ (first_texts h ++ last_texts h))

-- ---- read

-- the number behind the = of a word, and 0 where there is none
unfoldable pub number_behind : List ℕ → ℕ
number_behind word = unwrap_or (number_within 0 4294967295 (after_first (λ b. b == 61) word)) 0

-- the numbers behind the = of the words of a line
unfoldable pub numbers_behind : List ℕ → List ℕ
numbers_behind line = map number_behind (between 32 line)

-- a setting that is changed, where it takes the value
unfoldable pub with_setting : ℕ → ℕ → NodeSettings → NodeSettings
with_setting number value settings = after_set node_attributes number value settings

abbrev pub usual_head_settings : NodeSettings
usual_head_settings = record { workers = 1; tasks = 1024; actions = 64; groups = 128; queues = 16; objects = 16; priorities = 4; generations = 4294967295 }

-- the settings that the numbers behind the words give
unfoldable pub settings_from : List ℕ → NodeSettings
settings_from ns =
    with_setting 8 (slice_index_or ns 10 0)
    (with_setting 7 (slice_index_or ns 9 0)
    (with_setting 6 (slice_index_or ns 8 0)
    (with_setting 5 (slice_index_or ns 7 0)
    (with_setting 4 (slice_index_or ns 6 0)
    (with_setting 3 (slice_index_or ns 5 0)
    (with_setting 2 (slice_index_or ns 4 0)
    (with_setting 1 (slice_index_or ns 2 0) usual_head_settings)))))))

-- the head of this layout that a line may be
unfoldable pub head_from : Layout → List ℕ → Head
head_from layout ns = record { layout = layout; settings = settings_from ns; callers = slice_index_or ns 3 0 }

-- there is a caller, and there are at most 9
abbrev pub has_callers : Head → Bool
has_callers h = nat_le 1 h.callers && nat_le h.callers 9

-- the head of this layout whose line this is
unfoldable pub head_in : Layout → List ℕ → Option Head
head_in layout line =
    let h = head_from layout (numbers_behind line) in
    if has_callers h && bytes_eq (head_text h) line then Some h else None

-- the head in text 1, or else in text 2
abbrev pub or_else : Option Head → Option Head → Option Head
or_else (Some h) other = Some h
or_else None other = other

unfoldable pub head_of : List ℕ → Option Head
head_of line = or_else (head_in Layout.One line) (head_in Layout.Two line)
