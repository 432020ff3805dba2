-- Answers that differ, and what equal answers hold.
use Rattle.std.proofs.Common.{◌≡◌, ℕ, Bool, true, false, cond, Some, None, Ok, Err, Option, Result, sym, refl, arith}

pub none≢some : {X : Type 0} (x : X) → ◌≡◌ {A = Option X} None (Some x) → ⊥
none≢some x h = let z : ◌≡◌ {A = ℕ} 0 1 = cc in omega arith

pub some_same : {X : Type 0} (x y : X) → ◌≡◌ {A = Option X} (Some x) (Some y) → x ≡ y
some_same x y h = cc

pub err≢ok : {X E : Type 0} (e : E) (x : X) → ◌≡◌ {A = Result X E} (Err e) (Ok x) → ⊥
err≢ok e x h = let z : ◌≡◌ {A = ℕ} 0 1 = cc in omega arith

pub ok_same : {X E : Type 0} (x y : X) → ◌≡◌ {A = Result X E} (Ok x) (Ok y) → x ≡ y
ok_same x y h = cc

pub err_same : {X E : Type 0} (d e : E) → ◌≡◌ {A = Result X E} (Err d) (Err e) → d ≡ e
err_same d e h = cc

-- what a choice between a value and none says of its test
pub cond-none : {X : Type 0} (b : Bool) (x : X) → None ≡ cond b (Some x) None → b ≡ false
cond-none true x h = absurd (none≢some x h)
cond-none false x h = refl

pub cond-some : {X : Type 0} (b : Bool) (x y : X) → Some y ≡ cond b (Some x) None → (b ≡ true) × (y ≡ x)
cond-some true x y h = (refl, some_same y x h)
cond-some false x y h = absurd (none≢some y (sym h))

pub cond_ok : {X E : Type 0} (b : Bool) (x y : X) (e : E) → Ok y ≡ cond b (Ok x) (Err e) → (b ≡ true) × (y ≡ x)
cond_ok true x y e h = (refl, ok_same {E = _} y x h)
cond_ok false x y e h = absurd (err≢ok e y (sym h))

pub cond_err : {X E : Type 0} (b : Bool) (x : X) (d e : E) → Err d ≡ cond b (Ok x) (Err e) → (b ≡ false) × (d ≡ e)
cond_err true x d e h = absurd (err≢ok d x h)
cond_err false x d e h = (refl, err_same d e h)
