-- Well-formed workloads.
use Rattle.std.specs.Prelude.{◌≡◌, ℕ, ◌+◌, ◌^◌, ◌≤◌, ◌<◌, ◌==◌, List, [], ◌∷◌, ◌++◌, length, map, codes, Bool, true, false, IsTrue, IfSome, slice_get, is_some, if◌then◌else◌, FitsSigned}
use Rattle.std.specs.List.{AllByRecursion, list_any, flat_map}
use Rattle.std.specs.Int.{w64}
use Rattle.std.specs.Str.{bytes_eq}
use Rattle.mtapi_values.specs.declared.timeouts.Timeout.{Timeout}
use Rattle.mtapi_values.specs.declared.timeouts.Timeout.TheVariants as timeout
use Rattle.workload_file.specs.declared.table.Word.TheVariants as word
use Rattle.workload_file.specs.declared.table.Sort.{Sort}
use Rattle.workload_file.specs.declared.table.OptionShape.{OptionShape}
use Rattle.workload_file.specs.declared.table.OptionShape.TheVariants as shape
use Rattle.workload_file.specs.declared.table.Naming.{Naming}
use Rattle.workload_file.specs.declared.table.Naming.TheVariants as rule
use Rattle.workload_file.specs.declared.table.Field.{Field}
use Rattle.workload_file.specs.declared.values.OptionValue.{OptionValue}
use Rattle.workload_file.specs.declared.values.OptionValue.TheVariants as given
use Rattle.workload_file.specs.declared.workload.Statement.{Statement}
use Rattle.workload_file.specs.declared.workload.Part.{Part}
use Rattle.workload_file.specs.declared.workload.Workload.{Workload}
use Rattle.workload_file.specs.Values.{is_name}
use Rattle.workload_file.specs.Table.{naming, fields}
use Rattle.workload_file.specs.Deeds.{word_for, values, setting_values, place_used, binds, is_begin}
use Rattle.workload_file.specs.Names.{is_called}
use Rattle.workload_file.specs.Changes.{usual_settings}

-- the statement at this place binds such a thing
abbrev pub IsBoundAt : Sort → List Statement → ℕ → Type 0
IsBoundAt sort statements place = (place < length statements) × IfSome (slice_get statements place) (λ s. binds sort s.deed ≡ true)

-- a timeout with at most 1,000,000 looks after the first
abbrev pub IsTimeout : Timeout → Type 0
IsTimeout timeout.NoWait = Unit {0}
IsTimeout timeout.Infinite = Unit {0}
IsTimeout (timeout.Looks looks) = looks ≤ 1000000

-- the value is in the range of its option, or what the absent option gives;
-- a name stands for a statement before this one that bound such a thing
abbrev pub FitsShape : List Statement → OptionShape → OptionValue → Type 0
FitsShape before (shape.Number low high) (given.Number n) = (low ≤ n) × (n ≤ high)
FitsShape before shape.Whole (given.Whole z) = FitsSigned w64 z
FitsShape before shape.Args (given.Args zs) = (length zs ≤ 16) × AllByRecursion (FitsSigned w64) zs
FitsShape before shape.Cores (given.Cores mask) = (0 < mask.0) × (mask.0 < 2 ^ 64)
FitsShape before shape.Kind (given.Kind kind) = Unit {0}
FitsShape before shape.Flag (given.Flag b) = Unit {0}
FitsShape before shape.Mode (given.Mode b) = Unit {0}
FitsShape before shape.Timeout (given.Timeout t) = IsTimeout t
FitsShape before (shape.Named sort) (given.Place place) = IfSome place (IsBoundAt sort before)
FitsShape before _ _ = ⊥

-- each value fits its option
abbrev pub AllFit : List Statement → List Field → List OptionValue → Type 0
AllFit before [] [] = Unit {0}
AllFit before (field ∷ fields) (value ∷ values) = FitsShape before field.shape value × AllFit before fields values
AllFit before [] (value ∷ values) = ⊥
AllFit before (field ∷ fields) [] = ⊥

-- the statement binds a name
abbrev pub has_name : Naming → Bool
has_name (rule.Binds sort) = true
has_name rule.Bare = false
has_name rule.Caller = false
has_name (rule.Uses sort) = false

-- a name that is bound is well formed, and no statement before bound it
abbrev pub IsNew : List Statement → List ℕ → Type 0
IsNew before name = IsTrue (is_name name) × (list_any (λ s. is_called name s.name) before ≡ false)

-- a statement behind those before it in its part
pub record IsStatement (before : List Statement) (s : Statement) : Type 0 where
  pub named : is_some s.name ≡ has_name (naming (word_for s.deed))
  pub name : IfSome s.name (IsNew before)
  pub uses : IfSome (place_used s.deed) (λ u. IsBoundAt u.0 before u.1)
  pub options : AllFit before (fields (word_for s.deed)) (values s.deed)

-- each of these statements, behind those before them
abbrev pub AreStatements : List Statement → List Statement → Type 0
AreStatements before [] = Unit {0}
AreStatements before (s ∷ rest) = IsStatement before s × AreStatements (before ++ s ∷ []) rest

-- how many of the statements are `begin`
abbrev pub begins : List Statement → ℕ
begins [] = 0
begins (s ∷ rest) = (if is_begin s.deed then 1 else 0) + begins rest

-- a part: its name and its statements
pub record IsPart (p : Part) : Type 0 where
  pub name : IsTrue (is_name p.name)
  pub statements : AreStatements [] p.statements

-- main's part: it has no line, and one begin at most
pub record IsMain (p : Part) : Type 0 where
  pub line : p.line ≡ 0
  pub name : p.name ≡ codes "main"
  pub begin : begins p.statements ≤ 1

-- the part of a further caller: it has a line, and no begin
pub record IsFurther (p : Part) : Type 0 where
  pub line : 1 ≤ p.line
  pub begin : begins p.statements ≡ 0

-- the first part is main's, and the others are those of further callers
abbrev pub MainFirst : List Part → Type 0
MainFirst [] = ⊥
MainFirst (p ∷ rest) = IsMain p × AllByRecursion IsFurther rest

-- no two parts have one name
abbrev pub HaveDifferentNames : List Part → Type 0
HaveDifferentNames [] = Unit {0}
HaveDifferentNames (p ∷ rest) = (list_any (λ q. bytes_eq p.name q.name) rest ≡ false) × HaveDifferentNames rest

-- a line, where there is one
abbrev pub line_if_any : ℕ → List ℕ
line_if_any line = if line == 0 then [] else line ∷ []

-- the lines of a part, in order
abbrev pub part_lines : Part → List ℕ
part_lines p = line_if_any p.line ++ map (λ s. s.line) p.statements

-- the lines of all statements, `node` and `caller` among them, in order
abbrev pub statement_lines : Workload → List ℕ
statement_lines load = line_if_any load.node_line ++ flat_map part_lines load.parts

-- each number is greater than the one before it
abbrev pub Rise : ℕ → List ℕ → Type 0
Rise last [] = Unit {0}
Rise last (line ∷ lines) = (last < line) × Rise line lines

-- a well-formed workload
pub record WellFormed (load : Workload) : Type 0 where
  -- 1 to 9 parts, main's first, with different names
  pub count : length load.parts ≤ 9
  pub main : MainFirst load.parts
  pub names : HaveDifferentNames load.parts
  pub parts : AllByRecursion IsPart load.parts
  -- at most 20,000 statements, whose lines rise from 1 on
  pub statements : length (statement_lines load) ≤ 20000
  pub lines : Rise 0 (statement_lines load)
  -- without a node line the settings are the usual ones; each is in its range
  pub usual : load.node_line ≡ 0 → load.settings ≡ usual_settings
  pub settings : AllFit [] (fields word.Node) (setting_values load.settings)
