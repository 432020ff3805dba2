-- The table of rows as the function that it stands for.
use Rattle.std.proofs.Common.{◌≡◌, ℕ, zero, suc, ◌<◌, List, map, length, get_or, set, replicate, sym, refl, ap, ◌∙◌, arith}
use mathlib.Core.Path.{fun_ext}
use Rattle.std.proofs.lemmas.List.{map-set, length-map, get_or-map}
use Rattle.records.specs.declared.Item.{Item}
use Rattle.machines.specs.Memory.{upd}
use Rattle.machines.proofs.Tables.{table-set}
use Rattle.conversions.specs.declared.rows.Row.{Row}
use Rattle.conversions.specs.Hosts.{width}
use Rattle.conversions.specs.Along.{Own, start, come_of}
use Rattle.conversions.specs.Rows.{window, own_of, owns}

own_at : (rows : List Row) (t : ℕ) (d : Row) → t < length rows → owns rows t ≡ own_of (get_or rows t d)
own_at rows t d l = get_or-map own_of rows t d start l

own-set : (rows : List Row) (t : ℕ) (r : Row) → t < length rows → owns (set rows t r) ≡ upd (owns rows) t (own_of r)
own-set rows t r l =
    (λ i u. get_or (map-set own_of rows t r i) u start)
    ∙ table-set (λ _ s. s) (λ _. start) (map own_of rows) t (own_of r) (omega (arith, length-map rows own_of))

-- one thread's row is changed
pub own-changed : (rows : List Row) (t : ℕ) (d r : Row) (change : Own → Own) → t < length rows
    → own_of r ≡ change (own_of (get_or rows t d)) → owns (set rows t r) ≡ upd (owns rows) t (change (owns rows t))
own-changed rows t d r change l q = own-set rows t r l ∙ ap (upd (owns rows) t) (q ∙ ap change (sym (own_at rows t d l)))

-- what comes where all that waits in a thread's row comes
pub all-come : (rows : List Row) (t : ℕ) (d : Row) (n : ℕ) (item : Item) → t < length rows → n ≡ width (window (get_or rows t d)) → item ≡ come_of t
    → replicate (width (owns rows t).hosts) (come_of t) ≡ replicate n item
all-come rows t d n item l e q =
    let w = ap (λ (s : Own). width s.hosts) (own_at rows t d l) ∙ sym e in
    λ i. replicate (w i) (sym q i)

pub own_fresh : (n : ℕ) (r : Row) → own_of r ≡ start → owns (replicate n r) ≡ (λ _. start)
own_fresh n r e = fun_ext (λ u. go n u)
  where
    go : (n u : ℕ) → owns (replicate n r) u ≡ start
    go zero u = refl
    go (suc n) zero = e
    go (suc n) (suc u) = go n u
