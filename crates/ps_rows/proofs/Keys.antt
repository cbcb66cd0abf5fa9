-- A whole zip of a table and expressions, parted after the table's columns.
use Rattle.std.proofs.Common.{◌≡◌, ℕ, zero, suc, ◌≤◌, List, [], ◌∷◌, ◌++◌, length, take, drop, replicate, refl, sym, subst, ◌∙◌, ap, arith, take-append-drop}
use Rattle.std.specs.Prelude.{map, Option, Some}
use Rattle.std.specs.List.{AllByRecursion}
use Rattle.std.proofs.lemmas.List.{length-map}
use Rattle.ps_frame.proofs.Broadcasts.{rows_of-join}
use Rattle.ps_frame.proofs.Rows.{length-rows_of}
use Rattle.ps_frame.specs.Frames.{AllOfHeight, IsFrame, all_beside, column_values, kinds_of}
use Rattle.ps_frame.specs.Tables.{Fields, Frame, beside, rows_of}
use Rattle.ps_frame.specs.Trees.{Tree}
use Rattle.ps_frame.specs.Series.{Series}
use Rattle.ps_frame.specs.Zip.{Zipped}
use Rattle.ps_frame.specs.declared.value.DataType.{DataType}
use Rattle.ps_frame.specs.declared.value.Value.{Value}
use Rattle.ps_meaning.proofs.Fits.{all-drop, all-take}
use Rattle.ps_rows.specs.Keyed.{IsTableWithKeys}
use Rattle.ps_zip.specs.Zips.{KeepsZip, expr_kinds, keyed_kinds}

-- the kinds of the first columns, and of the others
record Parts (ks : List DataType) (es : List (Option DataType)) (cs : List Series) : Type 0 where
  front : map (λ (c : Series). c.kind) (take (length ks) cs) ≡ ks
  back : map (λ (c : Series). Some c.kind) (drop (length ks) cs) ≡ es
  long : length ks ≤ length cs
  width : length (take (length ks) cs) ≡ length ks

parts : (ks : List DataType) (es : List (Option DataType)) (cs : List Series) → map (λ (c : Series). Some c.kind) cs ≡ map Some ks ++ es → Parts ks es cs
parts [] es cs e = record { front = refl; back = e; long = omega arith; width = refl }
parts (k ∷ ks) es [] e = cc
parts (k ∷ ks) es (c ∷ cs) e =
    let here : c.kind ≡ k = cc in
    let rest : map (λ (c : Series). Some c.kind) cs ≡ map Some ks ++ es = cc in
    let p = parts ks es cs rest in
    record { front = λ i. here i ∷ p.front i; back = p.back; long = (let l = p.long in omega arith); width = ap suc p.width }

-- rows are as wide as there are columns
beside-widths : (n : ℕ) (vs : List Value) (rows : List (List Value)) → AllByRecursion (λ row. length row ≡ n) rows → AllByRecursion (λ row. length row ≡ suc n) (beside vs rows)
beside-widths n [] rows a = tt
beside-widths n (v ∷ vs) [] a = tt
beside-widths n (v ∷ vs) (row ∷ rows) a = (ap suc a.0, beside-widths n vs rows a.1)

no-widths : (h : ℕ) → AllByRecursion (λ (row : List Value). length row ≡ 0) (replicate h [])
no-widths zero = tt
no-widths (suc h) = (refl, no-widths h)

widths : (h : ℕ) (cs : List Series) → AllByRecursion (λ row. length row ≡ length cs) (rows_of h (column_values cs))
widths h [] = no-widths h
widths h (c ∷ cs) = beside-widths (length cs) c.values (rows_of h (column_values cs)) (widths h cs)

module _ (z : Zipped) (schema : Fields) (ts : List Tree) (cs : List Series) (h : ℕ) (k : KeepsZip z (keyed_kinds schema ts) cs h) where
  kind-parts : Parts (kinds_of schema) (expr_kinds schema ts) cs
  kind-parts = parts (kinds_of schema) (expr_kinds schema ts) cs k.kinds_are

  width-is : length (kinds_of schema) ≡ length schema
  width-is = length-map schema (λ f. f.1)

  pub wide : length schema ≤ length cs
  wide = subst (λ n. n ≤ length cs) width-is kind-parts.long

  pub front-frame : IsFrame schema (take (length schema) cs) h
  front-frame = record {
    kinds = ap (λ n. map (λ (c : Series). c.kind) (take n cs)) (sym width-is) ∙ kind-parts.front;
    heights = all-take (λ (c : Series). length c.values ≡ h) (length schema) cs k.heights;
    small = k.small;
  }

  pub with-keys : (t : Frame) (keys : List Series) → t.schema ≡ schema → t.rows ≡ rows_of h (column_values (take (length schema) cs)) → keys ≡ drop (length schema) cs → IsTableWithKeys z schema (expr_kinds schema ts) t keys
  with-keys t keys s rows back =
      let front = take (length schema) cs in
      let back_heights : AllOfHeight h (drop (length schema) cs) = all-drop (λ (c : Series). length c.values ≡ h) (length schema) cs k.heights in
      let key_heights : AllOfHeight h keys = subst (λ (ds : List Series). AllOfHeight h ds) (sym back) back_heights in
      let height : length t.rows ≡ h = ap length rows ∙ length-rows_of h front front-frame.heights in
      let front_width : length front ≡ length schema = ap (λ n. length (take n cs)) (sym width-is) ∙ kind-parts.width ∙ width-is in
      record {
        schema_is = s;
        whole_is = k.whole;
        rows = k.rows ∙ ap (λ (ds : List Series). rows_of h (column_values ds)) (sym (take-append-drop (length schema) cs) ∙ ap (λ ds. front ++ ds) (sym back))
            ∙ rows_of-join h h front keys key_heights refl
            ∙ (λ i. all_beside (sym rows i) (rows_of (sym height i) (column_values keys)));
        widths = subst (λ n. AllByRecursion (λ row. length row ≡ n) t.rows) front_width (subst (AllByRecursion (λ row. length row ≡ length front)) (sym rows) (widths h front));
        kinds_are = ap (map (λ (c : Series). Some c.kind)) (back ∙ ap (λ n. drop n cs) (sym width-is)) ∙ kind-parts.back;
        heights = subst (λ n. AllOfHeight n keys) (sym height) key_heights;
      }
