-- What each of a list of items brings, told by the items before it.
use Rattle.std.specs.Prelude.{List, [], ◌∷◌, ◌++◌}

-- what the items js bring, one after the other, where the items is came before them
abbrev pub brought_after : {I A : Type 0} → (List I → I → List A) → List I → List I → List A
brought_after brings is [] = []
brought_after brings is (j ∷ js) = brings is j ++ brought_after brings (is ++ (j ∷ [])) js

abbrev pub brought : {I A : Type 0} → (List I → I → List A) → List I → List A
brought brings js = brought_after brings [] js
