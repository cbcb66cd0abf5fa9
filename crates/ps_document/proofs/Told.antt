-- What JSON values tell: a text, a number, a list, and which thing a word stands for.
use Rattle.std.proofs.Common.{◌≡◌, ℕ, List, [], ◌∷◌, Bool, false, get_or, refl, ap, sym, ◌∙◌, if◌then◌else◌}
use Rattle.std.specs.Prelude.{map, ℤ, pos, negsuc, Option, Some, None, codes, All}
use Rattle.std.specs.List.{AllByRecursion, AllZip}
use Rattle.std.proofs.lemmas.List.Elements.{recursion_from_All}
use Rattle.std.specs.Str.{bytes_eq}
use Rattle.serde_json.specs.Data.{Data, Num, array, boolean, float, negative, null, number, string, unsigned}
use Rattle.serde_json.specs.View.{items_of}
use Rattle.pu_base.specs.declared.arena.Node.{Node}
use Rattle.ps_frame.specs.declared.value.DataType.{DataType}
use Rattle.ps_frame.specs.declared.value.DataType.TheVariants as kind
use Rattle.ps_document.proofs.Lists.{elements_of, elements_of-items}
use Rattle.ps_document.specs.Json.{list_of, or_null, text, whole_number}
use Rattle.ps_document.specs.Words.{kind_word}

abbrev pub text_in : Data → List ℕ
text_in (string s) = s
text_in _ = []

abbrev pub truth_in : Data → Bool
truth_in (boolean b) = b
truth_in _ = false

abbrev number_of : Num → ℕ
number_of (unsigned n) = n
number_of _ = 0

abbrev pub number_in : Data → ℕ
number_in (number n) = number_of n
number_in _ = 0

abbrev whole_number_of : Num → ℤ
whole_number_of (unsigned n) = pos n
whole_number_of (negative z) = z
whole_number_of (float x) = pos 0

abbrev pub whole_number_in : Data → ℤ
whole_number_in (number n) = whole_number_of n
whole_number_in _ = pos 0

abbrev pub entry_in : Data → Node
entry_in d = record { 0 = number_in d }

abbrev pub items_in : Data → List Data
items_in (array ds) = elements_of ds
items_in _ = []

-- the item at a place
abbrev pub item_in : ℕ → Data → Data
item_in i d = get_or (items_in d) i null

-- a part behind the word of an entry
abbrev pub part : ℕ → List Data → Data
part i ds = get_or (elements_of (items_of ds)) i null

-- equal entries have one word
pub word_at : {d e : Data} → d ≡ e → text_in (item_in 0 d) ≡ text_in (item_in 0 e)
word_at e = ap (λ d. text_in (item_in 0 d)) e

abbrev pub list_in : {A : Type 0} → (Data → A) → Data → List A
list_in f d = map f (items_in d)

abbrev pub option_in : {A : Type 0} → (Data → A) → Data → Option A
option_in f null = None
option_in f d = Some (f d)

-- what stands beside a word, or else the last
abbrev pub look_up : {A : Type 0} → List ℕ → List (List ℕ × A) → A → A
look_up w [] a = a
look_up w (p ∷ ps) a = if bytes_eq w p.0 then p.1 else look_up w ps a

abbrev pub kind_in : Data → DataType
kind_in d = look_up (text_in d) ((codes "bool", kind.Boolean) ∷ (codes "int", kind.Int64) ∷ (codes "idx", kind.IdxSize) ∷ []) kind.String

pub whole_number-told : (z : ℤ) → whole_number_in (whole_number z) ≡ z
whole_number-told (pos n) = refl
whole_number-told (negsuc n) = refl

pub kind-told : (k : DataType) → kind_in (text (kind_word k)) ≡ k
kind-told kind.Boolean = refl
kind-told kind.Int64 = refl
kind-told kind.IdxSize = refl
kind-told kind.String = refl

-- a kind is told by its word
pub kind-of_word : (k l : DataType) → text (kind_word k) ≡ text (kind_word l) → k ≡ l
kind-of_word k l e = sym (kind-told k) ∙ ap kind_in e ∙ kind-told l

pub option-told : {A : Type 0} (json : A → Data) (f : Data → A) → ((x : A) → option_in f (json x) ≡ Some x) → (o : Option A) → option_in f (or_null json o) ≡ o
option-told json f told None = refl
option-told json f told (Some x) = told x

items-told : {A : Type 0} (json : A → Data) (f : Data → A) (P : A → Type 0) → ((x : A) → P x → f (json x) ≡ x) → (xs : List A) → AllByRecursion P xs → map f (map json xs) ≡ xs
items-told json f P told [] all = refl
items-told json f P told (x ∷ xs) all = λ i. told x all.0 i ∷ items-told json f P told xs all.1 i

each : {A : Type 0} (P : A → Type 0) → ((x : A) → P x) → (xs : List A) → AllByRecursion P xs
each P p [] = tt
each P p (x ∷ xs) = (p x, each P p xs)

-- a list tells its elements, where these are told
pub list-told_where : {A : Type 0} (json : A → Data) (f : Data → A) (P : A → Type 0) → ((x : A) → P x → f (json x) ≡ x) → (xs : List A) → All P xs → list_in f (list_of json xs) ≡ xs
list-told_where json f P told xs all = ap (map f) (elements_of-items (map json xs)) ∙ items-told json f P told xs (recursion_from_All P xs all)

pub list-told : {A : Type 0} (json : A → Data) (f : Data → A) → ((x : A) → f (json x) ≡ x) → (xs : List A) → list_in f (list_of json xs) ≡ xs
list-told json f told xs = ap (map f) (elements_of-items (map json xs)) ∙ items-told json f (λ x. f (json x) ≡ x) (λ x t. t) xs (each (λ x. f (json x) ≡ x) told xs)

-- things beside which their JSON stands are told
pub all-told : {A : Type 0} (R : A → Data → Type 0) (f : Data → A) → ((x : A) (d : Data) → R x d → f d ≡ x) → (xs : List A) (ds : List Data) → AllZip R xs ds → map f ds ≡ xs
all-told R f told [] [] z = refl
all-told R f told [] (d ∷ ds) z = absurd z
all-told R f told (x ∷ xs) [] z = absurd z
all-told R f told (x ∷ xs) (d ∷ ds) z = λ i. told x d z.0 i ∷ all-told R f told xs ds z.1 i
