-- Nine elements.
use Rattle.std.proofs.Common.{◌≡◌, List, [], ◌∷◌, length, get_or, arith}

-- the elements of a list of nine, each told by its place
pub nine_items : {A : Type 0} (xs : List A) (a b c d e f g h i : A) → length xs ≡ 9 → a ≡ get_or xs 0 a → b ≡ get_or xs 1 b → c ≡ get_or xs 2 c → d ≡ get_or xs 3 d → e ≡ get_or xs 4 e → f ≡ get_or xs 5 f → g ≡ get_or xs 6 g → h ≡ get_or xs 7 h → i ≡ get_or xs 8 i → xs ≡ a ∷ b ∷ c ∷ d ∷ e ∷ f ∷ g ∷ h ∷ i ∷ []
nine_items [] a b c d e f g h i n p0 p1 p2 p3 p4 p5 p6 p7 p8 = absurd (omega arith)
nine_items (x0 ∷ []) a b c d e f g h i n p0 p1 p2 p3 p4 p5 p6 p7 p8 = absurd (omega arith)
nine_items (x0 ∷ x1 ∷ []) a b c d e f g h i n p0 p1 p2 p3 p4 p5 p6 p7 p8 = absurd (omega arith)
nine_items (x0 ∷ x1 ∷ x2 ∷ []) a b c d e f g h i n p0 p1 p2 p3 p4 p5 p6 p7 p8 = absurd (omega arith)
nine_items (x0 ∷ x1 ∷ x2 ∷ x3 ∷ []) a b c d e f g h i n p0 p1 p2 p3 p4 p5 p6 p7 p8 = absurd (omega arith)
nine_items (x0 ∷ x1 ∷ x2 ∷ x3 ∷ x4 ∷ []) a b c d e f g h i n p0 p1 p2 p3 p4 p5 p6 p7 p8 = absurd (omega arith)
nine_items (x0 ∷ x1 ∷ x2 ∷ x3 ∷ x4 ∷ x5 ∷ []) a b c d e f g h i n p0 p1 p2 p3 p4 p5 p6 p7 p8 = absurd (omega arith)
nine_items (x0 ∷ x1 ∷ x2 ∷ x3 ∷ x4 ∷ x5 ∷ x6 ∷ []) a b c d e f g h i n p0 p1 p2 p3 p4 p5 p6 p7 p8 = absurd (omega arith)
nine_items (x0 ∷ x1 ∷ x2 ∷ x3 ∷ x4 ∷ x5 ∷ x6 ∷ x7 ∷ []) a b c d e f g h i n p0 p1 p2 p3 p4 p5 p6 p7 p8 = absurd (omega arith)
nine_items (x0 ∷ x1 ∷ x2 ∷ x3 ∷ x4 ∷ x5 ∷ x6 ∷ x7 ∷ x8 ∷ []) a b c d e f g h i n p0 p1 p2 p3 p4 p5 p6 p7 p8 = cc
nine_items (x0 ∷ x1 ∷ x2 ∷ x3 ∷ x4 ∷ x5 ∷ x6 ∷ x7 ∷ x8 ∷ x9 ∷ xs) a b c d e f g h i n p0 p1 p2 p3 p4 p5 p6 p7 p8 = absurd (omega arith)
