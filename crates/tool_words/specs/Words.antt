-- The words of the program, and the commands that they are.
use Rattle.std.specs.Prelude.{◌≡◌, ◌≢◌, ℕ, Bool, ◌≤◌, ◌<◌, ◌^◌, ◌⊎◌, ◌↔◌, List, [], ◌∷◌, IsTrue, String, string_bytes, codes, length, map, All, AllPairs, Contains}
use Rattle.std.specs.Char.{is_ascii_digit}
use Rattle.std.specs.List.{flat_map, list_all}
use Rattle.std.specs.Str.Parse.{digits_value}
use Rattle.std.specs.declared.alloc.Global.{Global}
use Rattle.ps_options.specs.declared.options.Options.{Options}
use Rattle.tool_words.specs.declared.command.Command.{Command}
use Rattle.tool_words.specs.declared.command.Command.TheVariants.{Run, Text, Explain, Help, Version}
use Rattle.tool_words.specs.declared.settings.Kind.{Kind}
use Rattle.tool_words.specs.declared.settings.Kind.TheVariants.{Workers, Rows, Partitions, Seed}

-- a setting of a run: a number of a kind, by the word that writes it, or that the run is serial
pub data Setting : Type 0 where
  Number : Kind → List ℕ → Setting
  Serial : Setting

-- the flag of each kind of setting
abbrev pub flag_of_kind : Kind → List ℕ
flag_of_kind Workers = codes "--workers"
flag_of_kind Rows = codes "--rows"
flag_of_kind Partitions = codes "--partitions"
flag_of_kind Seed = codes "--seed"

abbrev pub flag_of : Setting → List ℕ
flag_of (Number kind numeral) = flag_of_kind kind
flag_of Serial = codes "--serial"

-- the words of a setting
abbrev pub words_of : Setting → List (List ℕ)
words_of (Number kind numeral) = flag_of_kind kind ∷ numeral ∷ []
words_of Serial = codes "--serial" ∷ []

-- a numeral is 1 to 20 decimal digits, and this is its number
abbrev pub IsNumeral : List ℕ → Type 0
IsNumeral word = IsTrue (list_all is_ascii_digit word) × ((1 ≤ length word) × (length word ≤ 20))

abbrev pub number_of : List ℕ → ℕ
number_of numeral = digits_value 10 numeral

-- the numbers that a kind may have
abbrev pub IsInRange : Kind → ℕ → Type 0
IsInRange Workers n = (1 ≤ n) × (n ≤ 256)
IsInRange Rows n = (1 ≤ n) × (n ≤ 2 ^ 20)
IsInRange Partitions n = (1 ≤ n) × (n ≤ 1024)
IsInRange Seed n = n < 2 ^ 64

-- the setting is one that a run may have
abbrev pub IsAllowed : Setting → Type 0
IsAllowed (Number kind numeral) = IsNumeral numeral × IsInRange kind (number_of numeral)
IsAllowed Serial = Unit {0}

-- n is what the settings set for a kind, and the default where they set nothing for it
abbrev pub IsSetOrDefault : List Setting → Kind → ℕ → ℕ → Type 0
IsSetOrDefault settings kind default n =
    ((numeral : List ℕ) × Contains settings (Number kind numeral) × (n ≡ number_of numeral))
    ⊎ (((numeral : List ℕ) → ¬ Contains settings (Number kind numeral)) × (n ≡ default))

-- the options that the settings give, and whether the run is serial
pub record Give (settings : List Setting) (options : Options) (serial : Bool) : Type 0 where
  pub workers : IsSetOrDefault settings Workers 4 options.workers
  pub rows : IsSetOrDefault settings Rows 100000 options.morsel_rows
  pub partitions : IsSetOrDefault settings Partitions 16 options.partitions
  pub seed : IsSetOrDefault settings Seed 0 options.seed
  pub serial_is : IsTrue serial ↔ Contains settings Serial

-- the words are a command's name and then those of these settings, each allowed, and no two by one flag
pub record IsNamedWith (name : List ℕ) (words : List (String Global)) (settings : List Setting) : Type 0 where
  pub words_are : map string_bytes words ≡ name ∷ flat_map words_of settings
  pub allowed : All IsAllowed settings
  pub differ : AllPairs (λ s t. flag_of s ≢ flag_of t) settings

-- the words are that name and some settings
abbrev pub IsNamed : List ℕ → List (String Global) → Type 0
IsNamed name words = (settings : List Setting) × IsNamedWith name words settings

-- the words are a command `run`, a command `text`, and a command `explain`
abbrev pub IsRun : List (String Global) → Type 0
IsRun words = IsNamed (codes "run") words

abbrev pub IsText : List (String Global) → Type 0
IsText words = IsNamed (codes "text") words

abbrev pub IsExplain : List (String Global) → Type 0
IsExplain words = IsNamed (codes "explain") words

-- the words are a command that reads a document of a plan
abbrev pub ReadsPlan : List (String Global) → Type 0
ReadsPlan words = IsRun words ⊎ IsExplain words

-- the words are a command that reads a document, of a plan or of a query
abbrev pub ReadsDocument : List (String Global) → Type 0
ReadsDocument words = ReadsPlan words ⊎ IsText words

-- the words are a command that answers by a table
abbrev pub AsksTable : List (String Global) → Type 0
AsksTable words = IsRun words ⊎ IsText words

-- the words are `--help` or `--version`, alone
abbrev pub IsHelp : List (String Global) → Type 0
IsHelp words = map string_bytes words ≡ codes "--help" ∷ []

abbrev pub IsVersion : List (String Global) → Type 0
IsVersion words = map string_bytes words ≡ codes "--version" ∷ []

-- the words are a command
abbrev pub AreWords : List (String Global) → Type 0
AreWords words = ReadsDocument words ⊎ IsHelp words ⊎ IsVersion words

-- the words are that name and some settings, which give these options
abbrev pub IsNamedCommand : List ℕ → List (String Global) → Options → Bool → Type 0
IsNamedCommand name words options serial = (settings : List Setting) × IsNamedWith name words settings × Give settings options serial

-- the words are this command
abbrev pub IsCommand : List (String Global) → Command → Type 0
IsCommand words (Run options serial) = IsNamedCommand (codes "run") words options serial
IsCommand words (Text options serial) = IsNamedCommand (codes "text") words options serial
IsCommand words Explain = IsExplain words
IsCommand words Help = IsHelp words
IsCommand words Version = IsVersion words
