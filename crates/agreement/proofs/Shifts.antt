-- Moves behind more actions.
use Rattle.std.proofs.Common.{◌≡◌, ℕ, zero, suc, ◌+◌, List, [], ◌∷◌, ◌++◌, refl, ap, ◌∙◌, arith}
use Rattle.agreement.specs.Convert.{Mark, mark, shift, shifts}

pub shifts-nil : (k : ℕ) → shifts k [] ≡ []
shifts-nil zero = refl
shifts-nil (suc k) = ap shift (shifts-nil k)

shift-append : (ms ns : List Mark) → shift (ms ++ ns) ≡ shift ms ++ shift ns
shift-append [] ns = refl
shift-append (mark p c ∷ ms) ns = ap {B = List Mark} (λ l. mark (suc p) c ∷ l) (shift-append ms ns)

pub shifts-append : (k : ℕ) (ms ns : List Mark) → shifts k (ms ++ ns) ≡ shifts k ms ++ shifts k ns
shifts-append zero ms ns = refl
shifts-append (suc k) ms ns = ap shift (shifts-append k ms ns) ∙ shift-append (shifts k ms) (shifts k ns)

pub shifts-more : (k m : ℕ) (ms : List Mark) → shifts k (shifts m ms) ≡ shifts (k + m) ms
shifts-more zero m ms = let e : m ≡ 0 + m = omega arith in ap (λ n. shifts n ms) e
shifts-more (suc k) m ms =
    let e : suc (k + m) ≡ suc k + m = omega arith in ap shift (shifts-more k m ms) ∙ ap (λ n. shifts n ms) e

pub shifts-one : (k n : ℕ) → shifts k (mark 0 n ∷ []) ≡ mark k n ∷ []
shifts-one zero n = refl
shifts-one (suc k) n = ap shift (shifts-one k n)
