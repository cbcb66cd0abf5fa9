-- The maps of the trials break no rule on names and kinds.
use Rattle.std.proofs.Common.{◌≡◌, ◌<◌, ℕ, [], ◌∷◌, Some, refl, inr, arith}
use Rattle.std.proofs.lemmas.Bool.{false≢true}
use Rattle.std.specs.Prelude.{codes}
use Rattle.bare_nodes.specs.Uncalled.{no_functions}
use Rattle.flow_scripts.proofs.Rules.{keeps_rules, none_lacks, one_name}
use Rattle.ps_frame.specs.Tables.{Fields}
use Rattle.ps_frame.specs.declared.value.DataType.TheVariants as kind
use Rattle.ps_meaning.specs.Schemas.{output_schema}
use Rattle.ps_meaning.specs.Steps.{Step, select, user}
use Rattle.ps_nodes.specs.Fit.{CanMap}
use Rattle.ps_walks.specs.Fit.{IsFit}
use Rattle.map_flow_trials.specs.Answers.{first_row_or_none}
use Rattle.map_flow_trials.specs.Shown.{count_read, numbers, reads}

-- a map that reads counts off numbers
pub can_read : CanMap reads numbers
unfolding reads
can_read =
    inr (
      (codes "a", kind.IdxSize) ∷ [],
      (
        no_functions,
        record {
          fit = record {
            complete = (tt, tt);
            typed = record {
              kinds = refl;
              rules = keeps_rules no_functions (select (count_read ∷ [])) (numbers ∷ []) (record {
                missing = λ n h. none_lacks n (codes "a") kind.Int64 kind.IdxSize h;
                repeated = λ n h. h;
                names = λ n h. one_name n (codes "a") h;
                kinds = λ h. h;
                typed = λ h. false≢true h;
                columns = λ h. cc;
                literal = λ h. h;
              });
              alike = tt;
              names = (refl, tt);
            };
            keys = λ h. h;
            key = λ h. h;
            unvalidated = λ h. h;
            in_memory = λ h. h;
            known = λ h. h;
            built = tt;
            input = λ needs e. needs;
            columns = ((λ e. cc), tt);
          };
          schema = refl;
        },
      ),
    )

-- and one of the functions, which may be asked
pub record IsAsked (step : Step) (s : Fields) : Type 0 where
  pub fit : IsFit first_row_or_none step (s ∷ [])
  pub schema : output_schema first_row_or_none step (s ∷ []) ≡ Some s

pub asked : (n : ℕ) → n < 2 → IsAsked (user n) numbers
asked n low =
    record {
      fit = record {
        complete = tt;
        typed = record {
          kinds = refl;
          rules = keeps_rules first_row_or_none (user n) (numbers ∷ []) (record {
            missing = λ m h. false≢true h;
            repeated = λ m h. h;
            names = λ m h. one_name m (codes "a") h;
            kinds = λ h. cc;
            typed = λ h. false≢true h;
            columns = λ h. cc;
            literal = λ h. h;
          });
          alike = tt;
          names = (refl, tt);
        };
        keys = λ h. h;
        key = λ h. h;
        unvalidated = λ h. h;
        in_memory = λ h. h;
        known = λ h. omega (arith, low, h);
        built = tt;
        input = λ needs e. needs;
        columns = ((λ e. cc), tt);
      };
      schema = refl;
    }
