-- The node that a JSON value tells, over tables.
use Rattle.std.proofs.Common.{◌≡◌, ℕ, List, [], ◌∷◌, refl, ap, sym, ◌∙◌}
use Rattle.std.specs.Prelude.{Bool, ℤ, Option, Some, None, All, codes, slice_get, unwrap_or}
use Rattle.serde_json.specs.Data.{Data}
use Rattle.pu_base.specs.declared.arena.Node.{Node}
use Rattle.ps_frame.specs.Tables.{Frame}
use Rattle.ps_meaning.specs.Steps.{Cut, Name}
use Rattle.ps_meaning.specs.declared.options.ExprIR.{ExprIR}
use Rattle.ps_meaning.specs.declared.options.FunctionIR.{FunctionIR}
use Rattle.ps_meaning.specs.declared.options.FunctionIR.TheVariants as call
use Rattle.ps_plan.specs.declared.ir.IR.{IR}
use Rattle.ps_plan.specs.declared.ir.IR.TheVariants as entry
use Rattle.ps_meaning.specs.declared.options.JoinType.{JoinType}
use Rattle.ps_meaning.specs.declared.options.JoinType.TheVariants as how
use Rattle.ps_meaning.specs.declared.options.JoinValidation.{JoinValidation}
use Rattle.ps_meaning.specs.declared.options.JoinValidation.TheVariants as validation
use Rattle.ps_meaning.specs.declared.options.OutputName.TheVariants as output
use Rattle.ps_meaning.specs.declared.options.SinkType.{SinkType}
use Rattle.ps_meaning.specs.declared.options.SinkType.TheVariants as sink
use Rattle.ps_meaning.specs.declared.options.UniqueKeepStrategy.{UniqueKeepStrategy}
use Rattle.ps_meaning.specs.declared.options.UniqueKeepStrategy.TheVariants as keep
use Rattle.ps_document.proofs.Told.{entry_in, item_in, list-told, list-told_where, list_in, look_up, number_in, option-told, option_in, text_in, truth_in, whole_number-told, whole_number_in}
use Rattle.ps_document.proofs.ToldExpr.{what-told, what_in}
use Rattle.ps_document.specs.Expressions.{entry_number}
use Rattle.ps_document.specs.Json.{count, list_of, or_null, text, truth}
use Rattle.ps_document.specs.Nodes.{CanStand, IsNamed, IsNode, IsUnnamed, cut_json, function_json, key_json, named_json, names_json, node_json}
use Rattle.ps_document.specs.Words.{join_word, keep_word, validation_word}

abbrev pub named_in : Data → ExprIR
named_in d = record { node = entry_in (item_in 1 d); output_name = output.Alias (text_in (item_in 0 d)) }

abbrev pub key_in : Data → ExprIR
key_in d = record { node = entry_in d; output_name = output.ColumnLhs [] }

abbrev offset_and_length_in : Data → ℤ × ℕ
offset_and_length_in d = (whole_number_in (item_in 0 d), number_in (item_in 1 d))

abbrev pub cut_in : Data → Cut
cut_in d = option_in offset_and_length_in d

abbrev pub names_in : Data → Option (List Name)
names_in d = option_in (list_in text_in) d

abbrev pub join_in : Data → JoinType
join_in d =
    look_up (text_in d)
    ((codes "inner", how.Inner) ∷ (codes "left", how.Left) ∷ (codes "right", how.Right) ∷ (codes "full", how.Full) ∷ (codes "semi", how.Semi) ∷ (codes "anti", how.Anti) ∷ [])
    how.Cross

abbrev pub validation_in : Data → JoinValidation
validation_in d = look_up (text_in d) ((codes "m:m", validation.ManyToMany) ∷ (codes "m:1", validation.ManyToOne) ∷ (codes "1:m", validation.OneToMany) ∷ []) validation.OneToOne

abbrev pub keep_in : Data → UniqueKeepStrategy
keep_in d = look_up (text_in d) ((codes "first", keep.First) ∷ (codes "last", keep.Last) ∷ (codes "any", keep.Any) ∷ []) keep.None

named-told : (e : ExprIR) → IsNamed e → named_in (named_json e) ≡ e
named-told e is = ap (λ name. record { node = e.node; output_name = name }) (sym is)

key-told : (e : ExprIR) → IsUnnamed e → key_in (key_json e) ≡ e
key-told e is = ap (λ name. record { node = e.node; output_name = name }) (sym is)

cut-told : (cut : Cut) → cut_in (cut_json cut) ≡ cut
cut-told None = refl
cut-told (Some s) = ap (λ z. Some (z, s.1)) (whole_number-told s.0)

names-told : (names : Option (List Name)) → names_in (names_json names) ≡ names
names-told None = refl
names-told (Some ns) = ap Some (list-told text text_in (λ s. refl) ns)

suffix-told : (suffix : Option Name) → option_in text_in (or_null text suffix) ≡ suffix
suffix-told o = option-told text text_in (λ s. refl) o

offset-told : (offset : Option ℕ) → option_in number_in (or_null count offset) ≡ offset
offset-told o = option-told count number_in (λ n. refl) o

join-told : (h : JoinType) → join_in (text (join_word h)) ≡ h
join-told how.Inner = refl
join-told how.Left = refl
join-told how.Right = refl
join-told how.Full = refl
join-told how.Semi = refl
join-told how.Anti = refl
join-told how.Cross = refl

validation-told : (v : JoinValidation) → validation_in (text (validation_word v)) ≡ v
validation-told validation.ManyToMany = refl
validation-told validation.ManyToOne = refl
validation-told validation.OneToMany = refl
validation-told validation.OneToOne = refl

keep-told : (k : UniqueKeepStrategy) → keep_in (text (keep_word k)) ≡ k
keep-told keep.First = refl
keep-told keep.Last = refl
keep-told keep.Any = refl
keep-told keep.None = refl

named-list : (es : List ExprIR) → All IsNamed es → list_in named_in (list_of named_json es) ≡ es
named-list es all = list-told_where named_json named_in IsNamed named-told es all

key-list : (es : List ExprIR) → All IsUnnamed es → list_in key_in (list_of key_json es) ≡ es
key-list es all = list-told_where key_json key_in IsUnnamed key-told es all

entry-list : (ns : List Node) → list_in entry_in (list_of entry_number ns) ≡ ns
entry-list ns = list-told entry_number entry_in (λ n. refl) ns

truth-list : (bs : List Bool) → list_in truth_in (list_of truth bs) ≡ bs
truth-list bs = list-told truth truth_in (λ b. refl) bs

abbrev pub no_frame : Frame
no_frame = record { schema = []; rows = [] }

module _ (tables : List Frame) where
  -- the node of a word and what follows it
  abbrev node_of : List ℕ → Data → Data → Data → Data → Data → Data → Data → Data → Data → IR
  node_of w a b c d e f g h i =
      look_up w
      (
      (codes "scan", entry.DataFrameScan (unwrap_or (slice_get tables (number_in a)) no_frame) (names_in b)) ∷ (codes "project", entry.SimpleProjection (entry_in a) (list_in text_in b))
      ∷ (codes "select", entry.Select (entry_in a) (list_in named_in b)) ∷ (codes "hstack", entry.HStack (entry_in a) (list_in named_in b))
      ∷ (codes "filter", entry.Filter (entry_in a) (key_in b)) ∷ (codes "slice", entry.Slice (entry_in a) (whole_number_in b) (number_in c))
      ∷ (codes "sink", entry.Sink (entry_in a) sink.Memory) ∷ (codes "file_sink", entry.Sink (entry_in a) sink.File)
      ∷ (codes "row_index", entry.MapFunction (entry_in a) (call.RowIndex (text_in b) (option_in number_in c))) ∷ (codes "map", entry.MapFunction (entry_in a) (call.User (number_in b)))
      ∷ (codes "sort", entry.Sort (entry_in a) (list_in key_in b) (cut_in e) (record { descending = list_in truth_in c; nulls_last = list_in truth_in d }))
      ∷ (codes "union", entry.Union (list_in entry_in a) (record { slice = cut_in b })) ∷ (codes "hconcat", entry.HConcat (list_in entry_in a))
      ∷ (codes "cache", entry.Cache (entry_in a) (number_in b) 0)
      ∷ (codes "group_by", entry.GroupBy (entry_in a) (list_in named_in b) (list_in named_in c) (truth_in d) (record { slice = cut_in e }))
      ∷ (
        codes "join",
        entry.Join (entry_in a) (entry_in b) (list_in key_in d) (list_in key_in e)
            (record { how = join_in c; suffix = option_in text_in f; join_nulls = truth_in g; validation = validation_in h; slice = cut_in i }),
      )
      ∷ (codes "distinct", entry.Distinct (entry_in a) (record { subset = names_in b; maintain_order = truth_in c; keep_strategy = keep_in d; slice = cut_in e })) ∷ []
      )
      (entry.LeftOut (what_in a))

  abbrev pub node_in : Data → IR
  node_in d = node_of (text_in (item_in 0 d)) (item_in 1 d) (item_in 2 d) (item_in 3 d) (item_in 4 d) (item_in 5 d) (item_in 6 d) (item_in 7 d) (item_in 8 d) (item_in 9 d)

  sink-told : (i : Node) (payload : SinkType) → node_in (node_json 0 (entry.Sink i payload)) ≡ entry.Sink i payload
  sink-told i sink.Memory = refl
  sink-told i sink.File = refl

  call-told : (i : Node) (g : FunctionIR) → node_in (function_json (entry_number i) g) ≡ entry.MapFunction i g
  call-told i (call.RowIndex name offset) = ap (λ o. entry.MapFunction i (call.RowIndex name o)) (offset-told offset)
  call-told i (call.User n) = refl

  told : (table : ℕ) (e : IR) → CanStand tables table e → node_in (node_json table e) ≡ e
  told table (entry.DataFrameScan df columns) stands = λ i. entry.DataFrameScan (unwrap_or (stands i) no_frame) (names-told columns i)
  told table (entry.SimpleProjection n columns) stands = ap (entry.SimpleProjection n) (list-told text text_in (λ s. refl) columns)
  told table (entry.Select n es) stands = ap (entry.Select n) (named-list es stands)
  told table (entry.HStack n es) stands = ap (entry.HStack n) (named-list es stands)
  told table (entry.Filter n predicate) stands = ap (entry.Filter n) (key-told predicate stands)
  told table (entry.Slice n offset len) stands = ap (λ z. entry.Slice n z len) (whole_number-told offset)
  told table (entry.Sink n payload) stands = sink-told n payload
  told table (entry.MapFunction n g) stands = call-told n g
  told table (entry.Sort n by cut o) stands =
      λ i. entry.Sort n (key-list by stands.0 i) (cut-told cut i) (record { descending = truth-list o.descending i; nulls_last = truth-list o.nulls_last i })
  told table (entry.Union ns o) stands = λ i. entry.Union (entry-list ns i) (record { slice = cut-told o.slice i })
  told table (entry.HConcat ns) stands = ap entry.HConcat (entry-list ns)
  told table (entry.Cache n id hits) stands = ap (entry.Cache n id) (sym stands)
  told table (entry.GroupBy n keys aggs maintain o) stands =
      λ i. entry.GroupBy n (named-list keys stands.0 i) (named-list aggs stands.1 i) maintain (record { slice = cut-told o.slice i })
  told table (entry.Join l r left_on right_on a) stands =
      λ i. entry.Join l r (key-list left_on stands.0 i) (key-list right_on stands.1 i)
      (record { how = join-told a.how i; suffix = suffix-told a.suffix i; join_nulls = a.join_nulls; validation = validation-told a.validation i; slice = cut-told a.slice i })
  told table (entry.Distinct n o) stands =
      λ i. entry.Distinct n (record { subset = names-told o.subset i; maintain_order = o.maintain_order; keep_strategy = keep-told o.keep_strategy i; slice = cut-told o.slice i })
  told table (entry.LeftOut w) stands = ap entry.LeftOut (what-told w)

  pub node-told : (e : IR) (d : Data) → IsNode tables e d → node_in d ≡ e
  node-told e d is = ap node_in is.json ∙ told is.table e is.stands
