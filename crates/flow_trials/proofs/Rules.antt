-- The joins of the trials break no rule on names and kinds.
use Rattle.std.proofs.Common.{◌≡◌, Bool, true, false, ◌&&◌, ◌||◌, [], ◌∷◌, refl, ap, subst, inl, inr}
use Rattle.std.proofs.lemmas.Bool.{false≢true}
use Rattle.std.proofs.lemmas.Slice.Eq.{bytes_eq-Decides}
use Rattle.std.specs.Prelude.{codes}
use Rattle.std.specs.Str.{bytes_eq}
use Rattle.made_tables.specs.Joinable.{CanJoin}
use Rattle.bare_nodes.specs.Uncalled.{no_functions}
use Rattle.flow_scripts.proofs.Rules.{keeps_rules, none_lacks}
use Rattle.ps_frame.specs.Tables.{Fields}
use Rattle.ps_frame.specs.declared.value.DataType.TheVariants as kind
use Rattle.ps_meaning.proofs.Containing.{contains-first}
use Rattle.ps_meaning.specs.StepRefusals.{KeysMisfit, lacks_column, repeats}
use Rattle.ps_meaning.specs.Steps.{JoinStep, Name, join}
use Rattle.ps_meaning.specs.declared.options.JoinType.TheVariants as how
use Rattle.flow_trials.specs.Tested.{number_read, plain_join, texts}

-- neither of these two names stands twice
two-names : (n : Name) → repeats n (codes "a" ∷ codes "a_right" ∷ []) ≡ true → ⊥
two-names n h = by (bytes_eq n (codes "a")) refl (bytes_eq n (codes "a_right")) h
  where
    by : (b : Bool) → bytes_eq n (codes "a") ≡ b → (c : Bool) → ((b && (bytes_eq n (codes "a_right") || false)) || ((c && false) || false)) ≡ true → ⊥
    by true q c h =
        let same : n ≡ codes "a" = (bytes_eq-Decides n (codes "a")).0 q in
        let away : bytes_eq n (codes "a_right") ≡ false = ap (λ (k : Name). bytes_eq k (codes "a_right")) same in
        end c (subst (λ (d : Bool). ((true && (d || false)) || ((c && false) || false)) ≡ true) away h)
      where
        end : (c : Bool) → (false || ((c && false) || false)) ≡ true → ⊥
        end true h = false≢true h
        end false h = false≢true h
    by false q true h = false≢true h
    by false q false h = false≢true h

abbrev pub both_texts : Fields
both_texts = (codes "a", kind.String) ∷ (codes "a_right", kind.String) ∷ []

-- all pairs of texts
abbrev pub all_pairs : JoinStep
all_pairs = record { left_on = []; right_on = []; args = plain_join how.Cross }

no-keys : KeysMisfit how.Cross [] [] → ⊥
no-keys (inl h) = h refl
no-keys (inr h) = h refl

pub can_cross : CanJoin all_pairs texts texts texts
can_cross =
    record {
      given = both_texts;
      fit = (
        no_functions,
        record {
          fit = record {
            complete = tt;
            typed = record {
              kinds = refl;
              rules = keeps_rules no_functions (join all_pairs) (texts ∷ texts ∷ []) (record {
                missing = λ n h. false≢true h;
                repeated = λ n h. h;
                names = λ n h. two-names n h;
                kinds = λ h. false≢true h;
                typed = λ h. false≢true h;
                columns = λ h. cc;
                literal = λ h. h;
              });
              alike = tt;
              names = (refl, (refl, tt));
            };
            keys = no-keys;
            key = λ h. h;
            unvalidated = λ h. h;
            in_memory = λ h. h;
            known = λ h. h;
            built = tt;
            input = λ needs e. needs;
            columns = ((λ e. cc), ((λ e. cc), tt));
          };
          schema = refl;
        },
      );
      fields = ((contains-first (codes "a", kind.String) ((codes "a_right", kind.String) ∷ []), tt), refl);
    }

-- the pairs of texts that are one number
abbrev pub same_numbers : JoinStep
same_numbers = record { left_on = number_read.1 ∷ []; right_on = number_read.1 ∷ []; args = plain_join how.Inner }

one-key : KeysMisfit how.Inner (number_read.1 ∷ []) (number_read.1 ∷ []) → ⊥
one-key (inl h) = h refl
one-key (inr h) = cc

neither-lacks : (n : Name) → (lacks_column n texts (number_read.1 ∷ []) || lacks_column n texts (number_read.1 ∷ [])) ≡ true → ⊥
neither-lacks n h = by (lacks_column n texts (number_read.1 ∷ [])) (none_lacks n (codes "a") kind.String kind.Int64) h
  where
    by : (b : Bool) → (b ≡ true → ⊥) → (b || b) ≡ true → ⊥
    by true away h = away refl
    by false away h = false≢true h

pub can_match : CanJoin same_numbers texts texts texts
can_match =
    record {
      given = both_texts;
      fit = (
        no_functions,
        record {
          fit = record {
            complete = (tt, (tt, tt));
            typed = record {
              kinds = refl;
              rules = keeps_rules no_functions (join same_numbers) (texts ∷ texts ∷ []) (record {
                missing = neither-lacks;
                repeated = λ n h. h;
                names = λ n h. two-names n h;
                kinds = λ h. false≢true h;
                typed = λ h. false≢true h;
                columns = λ h. cc;
                literal = λ h. h;
              });
              alike = tt;
              names = (refl, (refl, tt));
            };
            keys = one-key;
            key = λ h. h;
            unvalidated = λ h. h;
            in_memory = λ h. h;
            known = λ h. h;
            built = tt;
            input = λ needs e. needs;
            columns = ((λ e. cc), ((λ e. cc), tt));
          };
          schema = refl;
        },
      );
      fields = ((contains-first (codes "a", kind.String) ((codes "a_right", kind.String) ∷ []), tt), refl);
    }
