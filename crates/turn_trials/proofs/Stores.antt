-- Zips of the trials have stores and heads for their inputs.
use Rattle.std.proofs.Common.{◌≡◌, ◌≤◌, ℕ, Bool, List, [], ◌∷◌, ap, length, zero-add, ◌∙◌, lit≤}
use Rattle.std.proofs.lemmas.List.{length-replicate}
use Rattle.std.specs.Prelude.{◌+◌, replicate, slice_index, slice_set}
use Rattle.plain_nodes.specs.Seen.{IsNewZip}
use Rattle.plain_nodes.specs.declared.zip.ZipNode.{ZipNode}
use Rattle.turn_scripts.specs.Stores.{HasStores}

-- a new one has a store and a head for each input, and nothing came
pub new_stores : (extend : Bool) (inputs k : ℕ) (z : ZipNode) → IsNewZip extend inputs z → inputs ≡ k → 1 ≤ k → HasStores k z
new_stores extend inputs k z new as_many some = record { some = some; came = ap length new.came ∙ length-replicate inputs 0 ∙ as_many; heads = new.heads ∙ as_many }

pub new_came : (extend : Bool) (inputs : ℕ) (z : ZipNode) → IsNewZip extend inputs z → inputs ≡ 2 → z.came.items ≡ 0 ∷ 0 ∷ []
new_came extend inputs z new two = new.came ∙ ap (λ (k : ℕ). replicate k 0) two

-- what is fed and claimed has the heads that it had
pub fed_stores : (new one both zip : ZipNode) (first second : ℕ) → length new.heads.items ≡ 2 → one ≡ record new { came = one.came } → both ≡ record one { came = both.came } → both.came.items ≡ first ∷ second ∷ [] → zip ≡ record both { booked = zip.booked } → HasStores 2 zip
fed_stores new one both zip first second heads of_new of_one came of_both =
    record {
      some = lit≤ tt;
      came = ap (λ (z : ZipNode). length z.came.items) of_both ∙ ap length came;
      heads = ap (λ (z : ZipNode). length z.heads.items) of_both ∙ ap (λ (z : ZipNode). length z.heads.items) of_one ∙ ap (λ (z : ZipNode). length z.heads.items) of_new ∙ heads;
    }

-- rows of the second input, behind those of the first
pub second_came : (first rows : ℕ) (old new : List ℕ) → old ≡ first ∷ 0 ∷ [] → new ≡ slice_set old 1 (slice_index old 1 + rows) → new ≡ first ∷ rows ∷ []
second_came first rows old new was is = is ∙ ap (λ (xs : List ℕ). slice_set xs 1 (slice_index xs 1 + rows)) was ∙ ap (λ (k : ℕ). first ∷ k ∷ []) (zero-add rows)
