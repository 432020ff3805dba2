-- One record of the checks of rules 11, 13 and 16: what is kept tells whether it breaks the rule, and is kept on.
use Rattle.std.proofs.Common.{◌≡◌, ℕ, ◌+◌, ◌<◌, Bool, true, false, cond, not, ◌&&◌, ◌||◌, eqb, leb, ◌⊎◌, List, length, get_or, set, replicate, is_some, Some, None, Option, sym, inl, inr, refl, ap, ◌∙◌, ⊎_elim, arith}
use mathlib.Core.Bool.{and-true}
use denote.Enum.Bare.{sameb}
use Rattle.std.specs.Prelude.{unwrap_or}
use Rattle.std.proofs.lemmas.Bool.{true≢false, cases_Bool, cases_eq, or_left, or_right, and_left, and_right, eq-eqb, ne_eqb}
use Rattle.std.proofs.lemmas.Bool.Decides.{nat_tests}
use Rattle.std.proofs.lemmas.List.{length-set, length-replicate, get_or-replicate, get_or-set_same, get_or-set_other}
use Rattle.records.specs.declared.Record.{Record}
use Rattle.records.specs.First.{some}
use Rattle.records.specs.Letters.{letter, is_plain, is_volatile}
use Rattle.records.specs.Names.{at}
use Rattle.form.specs.contracts.rules.Sort.{the_type}
use Rattle.form.specs.declared.rules.Sort.{Sort}
use Rattle.form.specs.declared.rules.Sort.TheVariants.{Plain, Volatile}
use Rattle.form.specs.declared.rules.Frame.{Frame}
use Rattle.form.specs.declared.rules.Frame.TheVariants.{Before, Within, After}
use Rattle.form.specs.Rules.{before, stray, misplaced, sort_of, accesses, mixed, of_same_thread, end_of, frame_after, misframed}
use Rattle.form.proofs.Found.{some_next, some_quiet}
use Rattle.form.proofs.Layouts.{straight}
use Rattle.form.proofs.Tables.{Table, Counts, fresh, put}

-- ── 11: by thread ──
module _ (xs : List Record) (k : ℕ) where
  pub misplaced_is : (last : ℕ) (counts : List ℕ) → last ≡ before xs k → Counts xs k counts → (stray k (at xs k).thread last || leb 64 (get_or counts (at xs k).thread 0)) ≡ misplaced xs k
  misplaced_is last counts e n =
      ap (λ b. stray k (at xs k).thread b || leb 64 (get_or counts (at xs k).thread 0)) e ∙ by (cases_Bool (stray k (at xs k).thread (before xs k)))
    where
      by : (stray k (at xs k).thread (before xs k) ≡ true) ⊎ (stray k (at xs k).thread (before xs k) ≡ false)
          → (stray k (at xs k).thread (before xs k) || leb 64 (get_or counts (at xs k).thread 0)) ≡ misplaced xs k
      by (inl t) = or_left _ _ t ∙ sym (or_left _ _ t)
      by (inr f) = ap (λ m. stray k (at xs k).thread (before xs k) || leb 64 m) (n.1 (at xs k).thread (straight k (at xs k).thread (before xs k) f).small)

-- ── 13: by location ──
abbrev pub is_sort : Sort → Option Sort → Bool
is_sort s None = false
is_sort Plain (Some Plain) = true
is_sort Plain (Some Volatile) = false
is_sort Volatile (Some Plain) = false
is_sort Volatile (Some Volatile) = true

abbrev pub of_sort : Sort → ℕ → Bool
of_sort Plain = is_plain
of_sort Volatile = is_volatile

-- the sort that is kept of a location is that of each of the first k records that accesses it
abbrev pub Known : List Record → ℕ → ℕ → Option Sort → Type 0
Known xs k x o = (s : Sort) → is_sort s o ≡ some (accesses (of_sort s) xs x) k

abbrev pub Sorted : List Record → ℕ → List (Option Sort) → Type 0
Sorted xs k ts = (length ts ≡ 64) × ((x : ℕ) → x < 64 → Known xs k x (get_or ts x None))

pub sorts-fresh : (xs : List Record) → Sorted xs 0 (replicate 64 None)
sorts-fresh xs = (length-replicate {A = Option Sort} 64 None, λ x l s. ap (is_sort s) (get_or-replicate 64 x None None l))

-- one sort of each
abbrev both : Option Sort → Option Sort → Bool
both o p = (is_sort Plain o && is_sort Volatile p) || (is_sort Volatile o && is_sort Plain p)

of_is : (s : Sort) (c : ℕ) → of_sort s c ≡ is_sort s (sort_of c)
of_is Plain c = grind (arith, nat_tests)
of_is Volatile c = grind (arith, nat_tests)

differs : (o : Option Sort) (s : Sort) → not (sameb the_type (unwrap_or o s) s) ≡ both (Some s) o
differs None Plain = refl
differs None Volatile = refl
differs (Some Plain) Plain = refl
differs (Some Plain) Volatile = refl
differs (Some Volatile) Plain = refl
differs (Some Volatile) Volatile = refl

joined : (o : Option Sort) (s t : Sort) → both (Some s) o ≡ false → is_sort t (Some (unwrap_or o s)) ≡ (is_sort t o || is_sort t (Some s))
joined None s t e = refl
joined (Some Plain) Plain Plain e = refl
joined (Some Plain) Plain Volatile e = refl
joined (Some Plain) Volatile t e = absurd (true≢false e)
joined (Some Volatile) Plain t e = absurd (true≢false e)
joined (Some Volatile) Volatile Plain e = refl
joined (Some Volatile) Volatile Volatile e = refl

module _ (xs : List Record) (k : ℕ) (l : (at xs k).target < 64) (ts : List (Option Sort)) (known : Sorted xs k ts) where
  mixed_is : (s : Sort) → Some s ≡ sort_of (at xs k).letter → both (Some s) (get_or ts (at xs k).target None) ≡ mixed xs k
  mixed_is s e =
      λ i. (access Plain i && known.1 (at xs k).target l Volatile i) || (access Volatile i && known.1 (at xs k).target l Plain i)
    where
      access : (t : Sort) → is_sort t (Some s) ≡ of_sort t (at xs k).letter
      access t = ap (is_sort t) e ∙ sym (of_is t (at xs k).letter)

  -- a letter that accesses no location
  module _ (e : None ≡ sort_of (at xs k).letter) where
    none : (t : Sort) → of_sort t (at xs k).letter ≡ false
    none t = of_is t (at xs k).letter ∙ ap (is_sort t) (sym e)

    pub unmixed : false ≡ mixed xs k
    unmixed =
        λ i. (sym (none Plain) i && some (accesses is_volatile xs (at xs k).target) k)
        || (sym (none Volatile) i && some (accesses is_plain xs (at xs k).target) k)

    pub sorts-stay : Sorted xs (k + 1) ts
    sorts-stay = (
      known.0,
      λ x m t. known.1 x m t ∙ sym (some_quiet (accesses (of_sort t) xs x) k (and_left _ _ (none t))),
    )

  -- an access; v is the sort of its location, as was kept or as the access itself tells
  module _ (s : Sort) (e : Some s ≡ sort_of (at xs k).letter) (v : Sort) (is : v ≡ unwrap_or (get_or ts (at xs k).target None) s) where
    pub differs-mixed : not (sameb the_type v s) ≡ mixed xs k
    differs-mixed = ap (λ u. not (sameb the_type u s)) is ∙ differs (get_or ts (at xs k).target None) s ∙ mixed_is s e

    pub sorts-next : false ≡ mixed xs k → Sorted xs (k + 1) (set ts (at xs k).target (Some v))
    sorts-next same = (length-set ts (at xs k).target _ ∙ known.0, at_location)
      where
        here : Known xs (k + 1) (at xs k).target (Some v)
        here t =
            ap (λ u. is_sort t (Some u)) is ∙ joined (get_or ts (at xs k).target None) s t (mixed_is s e ∙ sym same)
            ∙ (λ i. known.1 (at xs k).target l t i || access i) ∙ sym (some_next (accesses (of_sort t) xs (at xs k).target) k)
          where
            access : is_sort t (Some s) ≡ accesses (of_sort t) xs (at xs k).target k
            access =
                ap (is_sort t) e ∙ sym (of_is t (at xs k).letter)
                ∙ sym (ap (λ b. of_sort t (at xs k).letter && b) (eq-eqb (at xs k).target _ refl) ∙ and-true _)

        at_location : (x : ℕ) → x < 64 → Known xs (k + 1) x (get_or (set ts (at xs k).target (Some v)) x None)
        at_location x m t =
            ⊎_elim (λ same. ap (λ y. is_sort t (get_or (set ts (at xs k).target (Some v)) y None)) same
            ∙ ap (is_sort t) (get_or-set_same ts (at xs k).target (Some v) None (omega (arith, known.0)))
            ∙ here t ∙ ap (λ y. some (accesses (of_sort t) xs y) (k + 1)) (sym same))
            (λ ne. ap (is_sort t) (get_or-set_other ts (at xs k).target x (Some v) None ne) ∙ known.1 x m t
            ∙ sym (some_quiet (accesses (of_sort t) xs x) k (and_right _ _ (ne_eqb (at xs k).target x (λ same. ne (sym same))))))
            (cases_eq x (at xs k).target)

-- ── 16: by thread ──
-- where a thread stands by two flags: that it has a record, and that it has an E
abbrev pub frame_of : Bool → Bool → Frame
frame_of begun ended = cond ended After (cond begun Within Before)

abbrev pub frame : List Record → ℕ → ℕ → Frame
frame xs k t = frame_of (some (of_same_thread xs t) k) (some (end_of xs t) k)

abbrev pub Framed : List Record → ℕ → List Frame → Type 0
Framed xs k ts = Table (frame xs k) Before 8 ts

pub frames-fresh : (xs : List Record) → Framed xs 0 (replicate 8 Before)
frames-fresh xs = fresh (frame xs 0) Before Before 8 (λ t. refl)

stopped : (b e : Bool) (c : ℕ) → not (is_some (frame_after (frame_of b e) c)) ≡ (cond b (eqb c (letter "B")) (not (eqb c (letter "B"))) || e)
stopped b true c = grind (arith, nat_tests)
stopped true false c = grind (arith, nat_tests)
stopped false false c = grind (arith, nat_tests)

moved : (b e : Bool) (c : ℕ) (f : Frame) → Some f ≡ frame_after (frame_of b e) c → frame_of true (e || eqb c (letter "E")) ≡ f
moved b true c f h = grind (arith, nat_tests)
moved true false c f h = grind (arith, nat_tests)
moved false false c f h = grind (arith, nat_tests)

module _ (xs : List Record) (k : ℕ) (l : (at xs k).thread < 8) (ts : List Frame) (known : Framed xs k ts) where
  next_is : frame_after (get_or ts (at xs k).thread Before) (at xs k).letter ≡ frame_after (frame xs k (at xs k).thread) (at xs k).letter
  next_is = ap (λ f. frame_after f (at xs k).letter) (known.1 (at xs k).thread l)

  pub misframed_is : not (is_some (frame_after (get_or ts (at xs k).thread Before) (at xs k).letter)) ≡ misframed xs k
  misframed_is = ap (λ o. not (is_some o)) next_is ∙ stopped _ _ (at xs k).letter

  module _ (f : Frame) (e : Some f ≡ frame_after (get_or ts (at xs k).thread Before) (at xs k).letter) where
    pub frames-next : Framed xs (k + 1) (set ts (at xs k).thread f)
    frames-next =
        put (frame xs k) (frame xs (k + 1)) Before 8 ts known (at xs k).thread f l here other
      where
        mine : eqb (at xs k).thread (at xs k).thread ≡ true
        mine = eq-eqb (at xs k).thread _ refl

        here : frame xs (k + 1) (at xs k).thread ≡ f
        here =
            (λ i. frame_of
            ((some_next (of_same_thread xs (at xs k).thread) k ∙ or_right _ _ mine) i)
            ((some_next (end_of xs (at xs k).thread) k
            ∙ ap (λ b. some (end_of xs (at xs k).thread) k || (b && eqb (at xs k).letter (letter "E"))) mine) i))
            ∙ moved _ _ (at xs k).letter f (e ∙ next_is)

        other : (t : ℕ) → (t ≡ (at xs k).thread → ⊥) → frame xs (k + 1) t ≡ frame xs k t
        other t ne =
            let not_mine = ne_eqb (at xs k).thread t (λ same. ne (sym same)) in
            λ i. frame_of (some_quiet (of_same_thread xs t) k not_mine i) (some_quiet (end_of xs t) k (and_left _ _ not_mine) i)
