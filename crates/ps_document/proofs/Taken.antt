-- Elements that are taken off the end of a list.
use Rattle.std.proofs.Common.{◌≡◌, List, [], ◌∷◌, ◌++◌, ◌∙◌, ap, sym, reverse, append_assoc}
use Rattle.std.proofs.lemmas.List.{reverse-append}

-- an element that is taken off the end stands next after those taken from the list the other way round
pub taken_off : {A : Type 0} (taken left left' all : List A) (x : A) → left ≡ left' ++ x ∷ [] → taken ++ reverse left ≡ all → (taken ++ x ∷ []) ++ reverse left' ≡ all
taken_off taken left left' all x e is =
    append_assoc taken (x ∷ []) (reverse left') ∙ ap (λ l. taken ++ l) (sym (ap reverse e ∙ reverse-append left' (x ∷ []))) ∙ is
