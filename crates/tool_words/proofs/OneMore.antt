-- What one setting more tells, and which settings words can be.
use Rattle.std.proofs.Common.{◌≡◌, ◌≢◌, ◌⊎◌, inl, inr, ℕ, List, [], ◌∷◌, ◌++◌, length, get_or, refl, sym, ◌∙◌, ap, subst, arith, append_assoc, length-append}
use Rattle.std.specs.Prelude.{cond, Option, Some, None, IsTrue, Contains, codes}
use Rattle.std.specs.List.{flat_map}
use Rattle.std.specs.Str.{bytes_eq}
use Rattle.std.proofs.Math.ListN.{get_or-append}
use Rattle.std.proofs.Math.Seq.{get_or-append_seam}
use Rattle.std.proofs.lemmas.List.Elements.{All-push, All-contains, Contains-append_left, Contains-append_right, Contains-push, Contains-push_cases, Contains-get_or}
use Rattle.std.proofs.lemmas.List.Quantifiers.{all_pairs_push}
use Rattle.tool_words.specs.Told.{IsSet, IsTold, IsToldAlso, MayStand, told_at}
use Rattle.tool_words.specs.Words.{IsAllowed, Number, Serial, Setting, flag_of, flag_of_kind, number_of, words_of}
use Rattle.tool_words.specs.declared.settings.Kind.{Kind}
use Rattle.tool_words.specs.declared.settings.Kind.TheVariants.{Workers, Rows, Partitions, Seed}
use Rattle.tool_words.specs.declared.settings.Told.{Told}

-- flags differ

abbrev kind_at : List ℕ → Option Kind
kind_at flag = cond (bytes_eq flag (codes "--workers")) (Some Workers)
    (cond (bytes_eq flag (codes "--rows")) (Some Rows)
    (cond (bytes_eq flag (codes "--partitions")) (Some Partitions)
    (cond (bytes_eq flag (codes "--seed")) (Some Seed) None)))

kind_at-is : (kind : Kind) → kind_at (flag_of_kind kind) ≡ Some kind
kind_at-is Workers = refl
kind_at-is Rows = refl
kind_at-is Partitions = refl
kind_at-is Seed = refl

pub same-kind : (a b : Kind) → flag_of_kind a ≡ flag_of_kind b → a ≡ b
same-kind a b e = let f : Some a ≡ Some b = sym (kind_at-is a) ∙ ap kind_at e ∙ kind_at-is b in cc

pub not-serial : (kind : Kind) → flag_of_kind kind ≢ codes "--serial"
not-serial kind e = let f : Some kind ≡ Option.None = sym (kind_at-is kind) ∙ ap kind_at e in cc

-- which settings the words can be

pub none-left : (more : List Setting) → [] ≡ flat_map words_of more → more ≡ []
none-left [] e = refl
none-left (Number kind numeral ∷ more) e = absurd cc
none-left (Serial ∷ more) e = absurd cc

pub begins-serial : (rest : List (List ℕ)) (more : List Setting) → codes "--serial" ∷ rest ≡ flat_map words_of more
    → (after : List Setting) × (more ≡ Serial ∷ after) × (rest ≡ flat_map words_of after)
begins-serial rest [] e = absurd cc
begins-serial rest (Number kind numeral ∷ more) e = absurd (not-serial kind (let f : codes "--serial" ≡ flag_of_kind kind = cc in sym f))
begins-serial rest (Serial ∷ more) e = (more, refl, cc)

pub begins-number : (kind : Kind) (rest : List (List ℕ)) (more : List Setting) → flag_of_kind kind ∷ rest ≡ flat_map words_of more
    → (numeral : List ℕ) × (after : List Setting) × (more ≡ Number kind numeral ∷ after) × (rest ≡ numeral ∷ flat_map words_of after)
begins-number kind rest [] e = absurd cc
begins-number kind rest (Number other numeral ∷ more) e =
    let same : kind ≡ other = same-kind kind other cc in
    (numeral, more, ap (λ k. Number k numeral ∷ more) (sym same), cc)
begins-number kind rest (Serial ∷ more) e = absurd (not-serial kind cc)

pub begins-otherwise : (flag : List ℕ) (rest : List (List ℕ)) (more : List Setting) → flag ≢ codes "--serial" → ((kind : Kind) → flag ≢ flag_of_kind kind)
    → ¬ (flag ∷ rest ≡ flat_map words_of more)
begins-otherwise flag rest [] s k e = cc
begins-otherwise flag rest (Number kind numeral ∷ more) s k e = k kind cc
begins-otherwise flag rest (Serial ∷ more) s k e = s cc

-- one setting after others

pub one-more : (seen : List Setting) (s : Setting) (more : List Setting) → seen ++ (s ∷ more) ≡ seen ++ (s ∷ []) ++ more
one-more seen s more = sym (append_assoc seen (s ∷ []) more)

pub allowed-among : (seen : List Setting) (s : Setting) (more : List Setting) → MayStand (seen ++ (s ∷ more)) → IsAllowed s
allowed-among seen s more m = All-contains IsAllowed (seen ++ (s ∷ more)) s m.allowed (Contains-append_right seen (s ∷ more) s (0, omega arith, refl))

pub not-twice : (seen : List Setting) (s t : Setting) (more : List Setting) → Contains seen s → flag_of s ≡ flag_of t → ¬ MayStand (seen ++ (t ∷ more))
not-twice seen s t more (k, below, is) same m =
    let early : get_or (seen ++ (t ∷ more)) k s ≡ s = get_or-append seen (t ∷ more) s k below ∙ is in
    let late : get_or (seen ++ (t ∷ more)) (length seen) s ≡ t = get_or-append_seam seen t more s in
    m.differ k (length seen) s below (omega (arith, length-append {A = Setting})) (ap flag_of early ∙ same ∙ sym (ap flag_of late))

pub may-stand-more : (seen : List Setting) (s : Setting) → MayStand seen → IsAllowed s → ((t : Setting) → Contains seen t → flag_of t ≢ flag_of s) → MayStand (seen ++ (s ∷ []))
may-stand-more seen s m a new = record {
  allowed = All-push IsAllowed seen s m.allowed a;
  differ = all_pairs_push (λ x y. flag_of x ≢ flag_of y) seen s m.differ (λ k d below. new (get_or seen k d) (Contains-get_or seen k d below));
}

-- what is told with one setting more

kept : (seen : List Setting) (s : Setting) (kind : Kind) (o : Option ℕ) → ((numeral : List ℕ) → s ≢ Number kind numeral) → IsSet seen kind o → IsSet (seen ++ (s ∷ [])) kind o
kept seen s kind None other h = λ numeral there. by numeral (Contains-push_cases seen s (Number kind numeral) there)
  where
    by : (numeral : List ℕ) → Contains seen (Number kind numeral) ⊎ (s ≡ Number kind numeral) → ⊥
    by numeral (inl there) = h numeral there
    by numeral (inr e) = other numeral e
kept seen s kind (Some n) other (numeral, there, is) = (numeral, Contains-append_left seen (s ∷ []) (Number kind numeral) there, is)

number-new : (told : Told) (seen : List Setting) (kind : Kind) (numeral : List ℕ) → IsTold told seen → told_at told kind ≡ None → (t : Setting) → Contains seen t → flag_of t ≢ flag_of_kind kind
number-new told seen kind numeral h none Serial there e = not-serial kind (sym e)
number-new told seen kind numeral h none (Number other m) there e =
    let same : other ≡ kind = same-kind other kind e in
    let absent : IsSet seen kind None = subst (λ (o : Option ℕ). IsSet seen kind o) none (h.numbers kind) in
    absent m (subst (λ (k : Kind). Contains seen (Number k m)) same there)

pub told-number : (told after : Told) (seen : List Setting) (kind : Kind) (numeral : List ℕ) (n : ℕ) → IsTold told seen → IsToldAlso told kind n after → told_at told kind ≡ None
    → IsAllowed (Number kind numeral) → n ≡ number_of numeral → IsTold after (seen ++ (Number kind numeral ∷ []))
told-number told after seen kind numeral n h also none allowed is = record {
  may_stand = may-stand-more seen (Number kind numeral) h.may_stand allowed (number-new told seen kind numeral h none);
  numbers = λ other. by other (also.0 other);
  serial = (λ t. Contains-append_left seen (Number kind numeral ∷ []) Serial (h.serial.0 (subst IsTrue also.1 t)), λ there. subst IsTrue (sym also.1) (h.serial.1 (before there)));
}
  where
    by : (other : Kind) → ((other ≡ kind) × (told_at after other ≡ Some n)) ⊎ ((other ≢ kind) × (told_at after other ≡ told_at told other)) → IsSet (seen ++ (Number kind numeral ∷ [])) other (told_at after other)
    by other (inl (same, e)) = subst (λ (o : Option ℕ). IsSet (seen ++ (Number kind numeral ∷ [])) other o) (sym e)
        (numeral, subst (λ (k : Kind). Contains (seen ++ (Number kind numeral ∷ [])) (Number k numeral)) (sym same) (Contains-push seen (Number kind numeral)), is)
    by other (inr (unlike, e)) = subst (λ (o : Option ℕ). IsSet (seen ++ (Number kind numeral ∷ [])) other o) (sym e)
        (kept seen (Number kind numeral) other (told_at told other) (λ m q. unlike (let f : kind ≡ other = cc in sym f)) (h.numbers other))

    before : Contains (seen ++ (Number kind numeral ∷ [])) Serial → Contains seen Serial
    before there = at (Contains-push_cases seen (Number kind numeral) Serial there)
      where
        at : Contains seen Serial ⊎ (Number kind numeral ≡ Serial) → Contains seen Serial
        at (inl x) = x
        at (inr e) = absurd cc

pub told-serial : (told after : Told) (seen : List Setting) → IsTold told seen → IsTrue after.serial → ((kind : Kind) → told_at after kind ≡ told_at told kind) → ¬ IsTrue told.serial
    → IsTold after (seen ++ (Serial ∷ []))
told-serial told after seen h is same new = record {
  may_stand = may-stand-more seen Serial h.may_stand tt fresh;
  numbers = λ kind. subst (λ (o : Option ℕ). IsSet (seen ++ (Serial ∷ [])) kind o) (sym (same kind)) (kept seen Serial kind (told_at told kind) (λ m q. absurd cc) (h.numbers kind));
  serial = (λ t. Contains-push seen Serial, λ there. is);
}
  where
    fresh : (t : Setting) → Contains seen t → flag_of t ≢ codes "--serial"
    fresh Serial there e = new (h.serial.1 there)
    fresh (Number kind numeral) there e = not-serial kind e
