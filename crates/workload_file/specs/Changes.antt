-- What a statement without a fault adds: what its options give, and what it does with them.
use Rattle.std.specs.Prelude.{ℕ, ◌-◌, ◌^◌, List, [], ◌∷◌, map, Bool, true, false, Option, Some, None, if◌then◌else◌}
use Rattle.mtapi_values.specs.Attributes.{NodeSettings}
use Rattle.mtapi_values.specs.AttributeTables.{node_attributes, after_set}
use Rattle.mtapi_values.specs.Kinds.{kind_named}
use Rattle.number_text.specs.Numbers.{whole_number}
use Rattle.number_text.specs.Lists.{list_of}
use Rattle.workload_file.specs.declared.table.Word.{Word}
use Rattle.workload_file.specs.declared.table.Word.TheVariants as word
use Rattle.workload_file.specs.declared.table.OptionShape.{OptionShape}
use Rattle.workload_file.specs.declared.table.OptionShape.TheVariants as shape
use Rattle.workload_file.specs.declared.table.Naming.{Naming}
use Rattle.workload_file.specs.declared.table.Naming.TheVariants as rule
use Rattle.workload_file.specs.declared.table.Field.{Field}
use Rattle.workload_file.specs.declared.table.Absent.{Absent}
use Rattle.workload_file.specs.declared.table.Absent.TheVariants as absent
use Rattle.workload_file.specs.declared.values.OptionValue.{OptionValue}
use Rattle.workload_file.specs.declared.values.OptionValue.TheVariants as given
use Rattle.workload_file.specs.declared.workload.Statement.{Statement}
use Rattle.workload_file.specs.declared.reading.Reading.{Reading}
use Rattle.workload_file.specs.declared.reading.LineEffect.{LineEffect}
use Rattle.workload_file.specs.declared.reading.LineEffect.TheVariants as change
use Rattle.workload_file.specs.Table.{fields, naming}
use Rattle.workload_file.specs.Values.{number_from_to, cores_of, flag_of, mode_of, timeout_of, is_name}
use Rattle.workload_file.specs.Names.{place_of, use_in}
use Rattle.workload_file.specs.Options.{text_of}
use Rattle.workload_file.specs.Deeds.{number_given, deed_with}

-- ---- options

-- a value, where the text is one
abbrev pub or_bad : {A : Type 0} → (A → OptionValue) → Option A → OptionValue
or_bad f None = given.Bad
or_bad f (Some x) = f x

-- a name, where it is bound
abbrev pub or_unbound : Option ℕ → OptionValue
or_unbound None = given.Unbound
or_unbound (Some place) = given.Place (Some place)

-- what a text gives, by the shape of its option; a name is the place of the statement before that bound it
unfoldable pub value_given : List Statement → OptionShape → List ℕ → OptionValue
value_given before (shape.Number low high) text = or_bad given.Number (number_from_to low high text)
value_given before shape.Whole text = or_bad given.Whole (whole_number text)
value_given before shape.Args text = or_bad given.Args (list_of text)
value_given before shape.Cores text = or_bad (λ mask. given.Cores (record { 0 = mask })) (cores_of text)
value_given before shape.Kind text = or_bad given.Kind (kind_named text)
value_given before shape.Flag text = or_bad given.Flag (flag_of text)
value_given before shape.Mode text = or_bad given.Mode (mode_of text)
value_given before shape.Timeout text = or_bad given.Timeout (timeout_of text)
value_given before (shape.Named sort) text = if is_name text then or_unbound (place_of sort text before) else given.Bad

-- what an absent option gives
unfoldable pub value_absent : Absent → OptionShape → OptionValue
value_absent (absent.Number n) s = given.Number n
value_absent absent.Usual shape.Args = given.Args []
value_absent absent.Usual shape.Cores = given.Cores (record { 0 = 2 ^ 64 - 1 })
value_absent absent.Usual shape.Flag = given.Flag false
value_absent absent.Usual (shape.Named sort) = given.Place None
value_absent _ _ = given.Missing

-- what an option gives
abbrev pub option_value_at : List Statement → Field → Option (List ℕ) → OptionValue
option_value_at before field None = value_absent field.absent field.shape
option_value_at before field (Some text) = value_given before field.shape text

-- what these options give, in the order of the table
abbrev pub values_in : List Statement → List (List ℕ) → List Field → List OptionValue
values_in before options fields = map (λ field. option_value_at before field (text_of field.key options)) fields

-- a text that is none of its option's
abbrev pub is_bad : OptionValue → Bool
is_bad given.Bad = true
is_bad _ = false

-- an option that has to be there, and isn't
abbrev pub is_missing : OptionValue → Bool
is_missing given.Missing = true
is_missing _ = false

-- a name that this caller didn't bind earlier to such a thing
abbrev pub names_nothing : OptionValue → Bool
names_nothing given.Unbound = true
names_nothing _ = false

-- ---- statements

-- the number, or 0 where there is none
abbrev pub number_or_zero : Option ℕ → ℕ
number_or_zero None = 0
number_or_zero (Some n) = n

-- the name of a statement that binds one
abbrev pub bound_name : Naming → List ℕ → Option (List ℕ)
bound_name (rule.Binds sort) name = Some name
bound_name rule.Bare name = None
bound_name rule.Caller name = None
bound_name (rule.Uses sort) name = None

-- the settings of a text without a node line
abbrev pub usual_settings : NodeSettings
usual_settings = record { workers = 1; tasks = 1024; actions = 64; groups = 128; queues = 16; objects = 16; priorities = 4; generations = 4294967295 }

-- the settings with one attribute set, by its number
unfoldable pub with_node_setting : ℕ → ℕ → NodeSettings → NodeSettings
with_node_setting number value settings = after_set node_attributes number value settings

-- the settings that these values of a node line give
unfoldable pub settings_by : List OptionValue → NodeSettings
settings_by (a ∷ b ∷ c ∷ d ∷ e ∷ f ∷ g ∷ h ∷ []) =
    with_node_setting 8 (number_given h) (with_node_setting 7 (number_given g)
    (with_node_setting 6 (number_given f) (with_node_setting 5 (number_given e)
    (with_node_setting 4 (number_given d) (with_node_setting 3 (number_given c)
    (with_node_setting 2 (number_given b) (with_node_setting 1 (number_given a) usual_settings)))))))
settings_by _ = usual_settings

-- what a statement at this line adds, of its word, its name, the place of the name that it uses, and the values of its options
unfoldable pub change_with : ℕ → Word → List ℕ → Option ℕ → List OptionValue → LineEffect
change_with line word.Node name place values = change.Node (settings_by values)
change_with line word.Caller name place values = change.Caller name
change_with line w name place values = change.Statement
    (record { line = line; name = bound_name (naming w) name; deed = deed_with w (number_or_zero place) values })

-- the same of its options, behind what was read before it
abbrev pub change_of : Reading → ℕ → Word → List ℕ → List (List ℕ) → LineEffect
change_of r line w name options = change_with line w name (use_in r.current.statements (naming w) name) (values_in r.current.statements options (fields w))
