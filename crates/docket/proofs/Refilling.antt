-- A slot that gets back what was taken out of it, or is the same, leaves the slots as they were.
use Rattle.std.proofs.Common.{◌≡◌, ℕ, List, get_or, set, None, Option, sym, ap, ◌∙◌, set-set}
use lib.Seq.{set-get_or}

pub put_back : {T : Type 0} (h : List (Option T)) (k : ℕ) (v w : Option T) → get_or h k None ≡ w → set (set h k v) k w ≡ h
put_back h k v w e = set-set h k v w ∙ ap (set h k) (sym e) ∙ set-get_or h k None
