-- The command that settings give.
use Rattle.std.proofs.Common.{◌≡◌, ◌⊎◌, inl, inr, ℕ, ◌<◌, ◌^◌, List, [], ◌∷◌, sym, ◌∙◌, ap, subst, arith, Global, String}
use Rattle.std.specs.Prelude.{false, Option, Some, None, All, codes, map, string_bytes, unwrap_or}
use Rattle.std.specs.List.{flat_map}
use Rattle.std.proofs.lemmas.List.Elements.{All-contains, All-nil}
use Rattle.ps_options.specs.declared.options.Options.{Options}
use Rattle.tool_words.specs.Told.{IsSet, IsTold, MayStand, told_at}
use Rattle.tool_words.specs.Words.{Give, IsAllowed, IsInRange, IsNamed, IsNamedWith, IsSetOrDefault, Number, Setting, words_of}
use Rattle.tool_words.specs.declared.settings.Kind.{Kind}
use Rattle.tool_words.specs.declared.settings.Kind.TheVariants.{Workers, Rows, Partitions, Seed}
use Rattle.tool_words.specs.declared.settings.Told.{Told}

-- nothing is told at first
pub told-nothing : (told : Told) → told.workers ≡ None → told.rows ≡ None → told.partitions ≡ None → told.seed ≡ None → told.serial ≡ false → IsTold told []
told-nothing told w r p s serial = record {
  may_stand = record { allowed = All-nil IsAllowed; differ = λ i j d below there. absurd (omega arith) };
  numbers = each;
  serial = (λ is. absurd cc, λ (k, below, is). absurd (omega arith));
}
  where
    unset : (kind : Kind) (o : Option ℕ) → o ≡ None → IsSet [] kind o
    unset kind o e = subst (IsSet [] kind) (sym e) (λ numeral (k, below, is). omega arith)

    each : (kind : Kind) → IsSet [] kind (told_at told kind)
    each Workers = unset Workers told.workers w
    each Rows = unset Rows told.rows r
    each Partitions = unset Partitions told.partitions p
    each Seed = unset Seed told.seed s

set-or-default : (settings : List Setting) (kind : Kind) (default n : ℕ) (o : Option ℕ) → IsSet settings kind o → n ≡ unwrap_or o default → IsSetOrDefault settings kind default n
set-or-default settings kind default n None h e = inr (h, e)
set-or-default settings kind default n (Some m) (numeral, there, is) e = inl (numeral, there, e ∙ is)

in-range : (settings : List Setting) (kind : Kind) (default n : ℕ) → All IsAllowed settings → IsInRange kind default → IsSetOrDefault settings kind default n → IsInRange kind n
in-range settings kind default n allowed fits (inl (numeral, there, is)) = subst (IsInRange kind) (sym is) (All-contains IsAllowed settings (Number kind numeral) allowed there).1
in-range settings kind default n allowed fits (inr (none, is)) = subst (IsInRange kind) (sym is) fits

module _ (told : Told) (settings : List Setting) (h : IsTold told settings) where
  pub give : (options : Options) (w r p s : ℕ) → w ≡ unwrap_or told.workers 4 → r ≡ unwrap_or told.rows 100000 → p ≡ unwrap_or told.partitions 16 → s ≡ unwrap_or told.seed 0
      → options.workers ≡ w → options.morsel_rows ≡ r → options.partitions ≡ p → options.seed ≡ s → Give settings options told.serial
  give options w r p s ew er ep es ow or op os = record {
    workers = set-or-default settings Workers 4 options.workers told.workers (h.numbers Workers) (ow ∙ ew);
    rows = set-or-default settings Rows 100000 options.morsel_rows told.rows (h.numbers Rows) (or ∙ er);
    partitions = set-or-default settings Partitions 16 options.partitions told.partitions (h.numbers Partitions) (op ∙ ep);
    seed = set-or-default settings Seed 0 options.seed told.seed (h.numbers Seed) (os ∙ es);
    serial_is = h.serial;
  }

  pub fits : (w r p : ℕ) → w ≡ unwrap_or told.workers 4 → r ≡ unwrap_or told.rows 100000 → p ≡ unwrap_or told.partitions 16
      → ¬ (((w < 1) ⊎ (256 < w)) ⊎ (((r < 1) ⊎ (2 ^ 20 < r)) ⊎ ((p < 1) ⊎ (1024 < p))))
  fits w r p ew er ep out =
      let allowed = h.may_stand.allowed in
      let a = in-range settings Workers 4 w allowed (omega arith, omega arith) (set-or-default settings Workers 4 w told.workers (h.numbers Workers) ew) in
      let b = in-range settings Rows 100000 r allowed (omega arith, omega arith) (set-or-default settings Rows 100000 r told.rows (h.numbers Rows) er) in
      let d = in-range settings Partitions 16 p allowed (omega arith, omega arith) (set-or-default settings Partitions 16 p told.partitions (h.numbers Partitions) ep) in
      omega arith

pub same-rest : (name : List ℕ) (all rest more : List (List ℕ)) → all ≡ name ∷ rest → all ≡ name ∷ more → rest ≡ more
same-rest name all rest more e f = cc

pub not-named : (name : List ℕ) (all : List (String Global)) (rest : List (List ℕ)) → map string_bytes all ≡ name ∷ rest → ((more : List Setting) → rest ≡ flat_map words_of more → ¬ MayStand more) → ¬ IsNamed name all
not-named name all rest e never (settings, named) =
    never settings (same-rest name (map string_bytes all) rest (flat_map words_of settings) e named.words_are) (record { allowed = named.allowed; differ = named.differ })

pub named-with : (name : List ℕ) (all words : List (String Global)) (settings : List Setting) → map string_bytes all ≡ name ∷ map string_bytes words → map string_bytes words ≡ flat_map words_of settings → MayStand settings → IsNamedWith name all settings
named-with name all words settings e f m = record { words_are = e ∙ ap (λ rest. name ∷ rest) f; allowed = m.allowed; differ = m.differ }
