-- What is written out of what is held of a column stands for the column.
use Rattle.std.proofs.Common.{◌≡◌, List, [], ◌∷◌, refl, subst, sym, ◌∙◌, ap, inl}
use Rattle.std.specs.Prelude.{map, option_to_list, Option, Some, None}
use Rattle.std.specs.List.{AllZip}
use Rattle.ps_expr_eval.specs.Held.{IsOneOf, Keeps, cells_of, held_cell}
use Rattle.ps_expr_eval.specs.declared.computed.ComputedColumn.{ComputedColumn}
use Rattle.ps_expr_eval.proofs.Zips.{not_empty}
use Rattle.ps_frame.specs.Causes.{Cause, Cell, Column, faulty, is_empty, value}
use Rattle.ps_frame.specs.Evaluated.{AreAmong, Holds, StandsFor}
use Rattle.ps_frame.specs.declared.value.DataFault.{DataFault}
use Rattle.ps_frame.specs.declared.value.Evaluated.{Evaluated}

holds-first : (cells : List Cell) → AllZip Holds (map held_cell cells) cells
holds-first [] = tt
holds-first (value v ∷ cells) = (refl, holds-first cells)
holds-first (faulty c cs ∷ cells) = (inl refl, holds-first cells)

ends : (causes : List Cause) (o : Option DataFault) → IsOneOf causes o → is_empty (option_to_list o) ≡ is_empty causes
ends causes None e = ap is_empty (sym e)
ends causes (Some f) h = sym (not_empty causes f h)

among : (causes : List Cause) (o : Option DataFault) → IsOneOf causes o → AreAmong causes (option_to_list o)
among causes None e = tt
among causes (Some f) h = (h, tt)

pub stands : (e : Evaluated) (p : ComputedColumn) (c : Column) → e.cells.items ≡ cells_of p.cells → e.broken.items ≡ option_to_list p.fault → Keeps p c → StandsFor e c
stands e p c cells broken k = record {
  cells = subst (λ hs. AllZip Holds hs c.cells) (sym (cells ∙ k.cells)) (holds-first c.cells);
  ended = ap is_empty broken ∙ ends c.broken p.fault k.ended;
  among = subst (AreAmong c.broken) (sym broken) (among c.broken p.fault k.ended);
}
