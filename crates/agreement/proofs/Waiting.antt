-- The moments of a thread's waiting writes, and of the reads that go with them.
use Rattle.std.proofs.Common.{◌≡◌, ℕ, suc, ◌+◌, ◌<◌, ◌≤◌, Bool, true, false, cond, ◌&&◌, ◌||◌, eqb, ltb, List, [], ◌∷◌, ◌++◌, length, sym, refl, ap, ◌∙◌, subst, ap₂, arith}
use Rattle.std.specs.List.{AllByRecursion}
use Rattle.std.proofs.ByRecursion.{All-append}
use Rattle.std.proofs.lemmas.Bool.{false≢true, lt-ltb, le-ltb, and_from, and_left, and_right, or_parts, cond-true, cond-false}
use Rattle.records.specs.declared.action.Action.TheVariants.{Write}
use Rattle.records.specs.Names.{Case}
use Rattle.machines.specs.declared.items.RunItem.{RunItem}
use Rattle.agreement.specs.Convert.{Group, group, holds, joins}
use Rattle.agreement.specs.Moments.{before, index, drains, is_read, writes_to, action_at, writes_before, performed, drained, effect_of}
use Rattle.agreement.specs.Moments.{effect, served_by, host_of, host, moment, earlier}
use Rattle.agreement.proofs.Dictionary.{before_head, before-tail, before_le, before_not}
use Rattle.agreement.proofs.Tallies.{all-each, all_left, all_right}
use Rattle.agreement.proofs.Groups.{places, writes_in, newest_first, newest_to, writes_in-joins}
use Rattle.agreement.proofs.Indices.{drained_up}

-- rising numbers
abbrev Ascending : List ℕ → Type 0
Ascending [] = Unit {0}
Ascending (x ∷ xs) = AllByRecursion (λ y. x < y) xs × Ascending xs

ascending-snoc : (xs : List ℕ) (a : ℕ) → Ascending xs → AllByRecursion (λ x. x < a) xs → Ascending (xs ++ (a ∷ []))
ascending-snoc [] a h l = (tt, tt)
ascending-snoc (x ∷ xs) a h l = (All-append (λ y. x < y) xs (a ∷ []) h.0 (l.0, tt), ascending-snoc xs a h.1 l.1)

module _ (c : Case) (js : List RunItem) (t : ℕ) where
  -- when an action comes
  abbrev pub when : ℕ → ℕ
  when p = effect c js t (host c js t p)

  -- ── Waiting writes with their reads ──
  -- a waiting write with the reads that go with it; d writes of the thread are before it
  pub record Held (d q y : ℕ) (ps : List ℕ) : Type 0 where
    pub kind : (n : ℕ) × (action_at c t q ≡ Write n y)
    pub rank : length (writes_before c t q) ≡ d
    pub readers : AllByRecursion (λ p. (is_read (action_at c t p) ≡ true) × (host c js t p ≡ q) × (q < p)) ps
    pub ascending : Ascending ps

  abbrev pub Grouped : ℕ → List Group → Type 0
  Grouped d [] = Unit {0}
  Grouped d (group q y ps ∷ hs) = Held d q y ps × AllByRecursion (λ z. q < z) (writes_in hs) × Grouped (suc d) hs

  -- x comes with the write at q
  abbrev pub Goes : ℕ → ℕ → Type 0
  Goes q x = moment c js t x ≡ drained c js t q ∷ t ∷ q ∷ x ∷ []

  module _ {d q y : ℕ} {ps : List ℕ} (h : Held d q y ps) where
    pub host-write : host c js t q ≡ q
    host-write = ap (host_of c js t q) h.kind.1

    pub effect-write : effect c js t q ≡ drained c js t q
    effect-write = ap (effect_of c js t q) h.kind.1

    pub when-host : (x : ℕ) → host c js t x ≡ q → when x ≡ drained c js t q
    when-host x e = ap (effect c js t) e ∙ effect-write

    pub goes_with : (x : ℕ) → host c js t x ≡ q → Goes q x
    goes_with x e = ap₂ {C = List ℕ} (λ i z. i ∷ t ∷ z ∷ x ∷ []) (when-host x e) e

    pub goes_self : Goes q q
    goes_self = goes_with q host-write

  -- ── They come by age, and a write before its reads ──
  pub with_older : (q x r z : ℕ) → Goes q x → Goes r z → q < r → earlier c js t x z ≡ true
  with_older q x r z g k l =
      ap₂ before g k
      ∙ before_le (drained c js t q) (drained c js t r) (t ∷ q ∷ x ∷ []) (t ∷ r ∷ z ∷ []) (drained_up c js t q r (omega arith))
      (before-tail t t (q ∷ x ∷ []) (r ∷ z ∷ []) refl (before_head q r (x ∷ []) (z ∷ []) l))

  pub with_same : (q x z : ℕ) → Goes q x → Goes q z → x < z → earlier c js t x z ≡ true
  with_same q x z g k l =
      ap₂ before g k
      ∙ before-tail (drained c js t q) (drained c js t q) (t ∷ q ∷ x ∷ []) (t ∷ q ∷ z ∷ []) refl
      (before-tail t t (q ∷ x ∷ []) (q ∷ z ∷ []) refl
      (before-tail q q (x ∷ []) (z ∷ []) refl (before_head x z [] [] l)))

  pub not_yet : (x z : ℕ) → earlier c js t x z ≡ true → earlier c js t z x ≡ false
  not_yet x z h = before_not (moment c js t x) (moment c js t z) h

  -- what goes with a write comes before all newer groups
  pub ahead : (q x : ℕ) → Goes q x → (d : ℕ) (hs : List Group) → Grouped d hs → AllByRecursion (λ z. q < z) (writes_in hs)
      → AllByRecursion (λ z. earlier c js t x z ≡ true) (places hs)
  ahead q x g d [] gr l = tt
  ahead q x g d (group r y ps ∷ hs) gr l = (
    with_older q x r r g (goes_self gr.0) l.0,
    All-append (λ z. earlier c js t x z ≡ true) ps (places hs)
        (all-each (λ p h. with_older q x r p g (goes_with gr.0 p h.1) l.0) ps gr.0.readers)
        (ahead q x g (suc d) hs gr.2 l.1),
  )

  -- rising by moments
  abbrev pub RisingIn : List ℕ → Type 0
  RisingIn [] = Unit {0}
  RisingIn (x ∷ xs) = AllByRecursion (λ z. earlier c js t x z ≡ true) xs × RisingIn xs

  rise-readers : (q : ℕ) (ps zs : List ℕ) → Ascending ps → AllByRecursion (λ p. Goes q p) ps
      → AllByRecursion (λ p. AllByRecursion (λ z. earlier c js t p z ≡ true) zs) ps → RisingIn zs → RisingIn (ps ++ zs)
  rise-readers q [] zs a g h r = r
  rise-readers q (p ∷ ps) zs a g h r = (
    All-append (λ z. earlier c js t p z ≡ true) ps zs (later ps a.0 g.1) h.0,
    rise-readers q ps zs a.1 g.1 h.1 r,
  )
    where
      later : (us : List ℕ) → AllByRecursion (λ y. p < y) us → AllByRecursion (λ u. Goes q u) us → AllByRecursion (λ z. earlier c js t p z ≡ true) us
      later [] l k = tt
      later (u ∷ us) l k = (with_same q p u g.0 k.0 l.0, later us l.1 k.1)

  pub rise : (d : ℕ) (hs : List Group) → Grouped d hs → RisingIn (places hs)
  rise d [] gr = tt
  rise d (group q y ps ∷ hs) gr =
      let k = gr.0.readers in
      let goes : AllByRecursion (λ p. Goes q p) ps = all-each (λ p h. goes_with gr.0 p h.1) ps k in (
        All-append (λ z. earlier c js t q z ≡ true) ps (places hs)
            (all-each (λ p h. with_same q q p (goes_self gr.0) (goes_with gr.0 p h.1) h.2) ps k)
            (ahead q q (goes_self gr.0) (suc d) hs gr.2 gr.1),
        rise-readers q ps (places hs) gr.0.ascending goes
            (all-each (λ p g. ahead q p g (suc d) hs gr.2 gr.1) ps goes) (rise (suc d) hs gr.2),
      )

  -- ── When they come ──
  pub dues-writes : (P : ℕ → Type 0) (d : ℕ) (hs : List Group) → Grouped d hs → ((k : ℕ) → P (index (drains t) (d + k) js))
      → AllByRecursion (λ q. P (drained c js t q)) (writes_in hs)
  dues-writes P d [] gr f = tt
  dues-writes P d (group q y ps ∷ hs) gr f =
      let now : d + 0 ≡ length (writes_before c t q) = let e = gr.0.rank in omega arith in (
        subst (λ z. P (index (drains t) z js)) now (f 0),
        dues-writes P (suc d) hs gr.2
            (λ k. let e : d + suc k ≡ suc d + k = omega arith in subst (λ z. P (index (drains t) z js)) e (f (suc k))),
      )

  pub dues : (P : ℕ → Type 0) (d : ℕ) (hs : List Group) → Grouped d hs
      → AllByRecursion (λ q. P (drained c js t q)) (writes_in hs) → AllByRecursion (λ x. P (when x)) (places hs)
  dues P d [] gr w = tt
  dues P d (group q y ps ∷ hs) gr w = (
    subst P (sym (when-host gr.0 q (host-write gr.0))) w.0,
    All-append (λ x. P (when x)) ps (places hs)
        (all-each (λ p h. subst P (sym (when-host gr.0 p h.1)) w.0) ps gr.0.readers)
        (dues P (suc d) hs gr.2 w.1),
  )

  -- ── New members ──
  pub grouped-snoc : (d a y : ℕ) (hs : List Group) → Grouped d hs → AllByRecursion (λ q. q < a) (writes_in hs)
      → Held (d + length hs) a y [] → Grouped d (hs ++ (group a y [] ∷ []))
  grouped-snoc d a y [] gr l h = (subst (λ z. Held z a y []) (omega arith) h, tt, tt)
  grouped-snoc d a y (group q z ps ∷ hs) gr l h =
      (gr.0, snoc hs gr.1, grouped-snoc (suc d) a y hs gr.2 l.1 (subst (λ z. Held z a y []) (omega arith) h))
    where
      snoc : (ks : List Group) → AllByRecursion (λ z. q < z) (writes_in ks) → AllByRecursion (λ z. q < z) (writes_in (ks ++ (group a y [] ∷ [])))
      snoc [] k = (l.0, tt)
      snoc (group r u us ∷ ks) k = (k.0, snoc ks k.1)

  pub grouped-join : (a x : ℕ) → is_read (action_at c t a) ≡ true → (d : ℕ) (hs : List Group) → Grouped d hs
      → AllByRecursion (λ q. q < a) (places hs) → holds x hs ≡ true → host c js t a ≡ newest_to x hs → Grouped d (joins a x hs)
  grouped-join a x r d [] gr l h e = absurd (false≢true h)
  grouped-join a x r d (group q y ps ∷ hs) gr l h e =
      go (holds x hs) refl e (λ k g. grouped-join a x r (suc d) hs gr.2 (all_right (λ q. q < a) ps (places hs) l.1) k g)
    where
      go : (b : Bool) → holds x hs ≡ b → host c js t a ≡ cond b (newest_to x hs) q
          → (holds x hs ≡ true → host c js t a ≡ newest_to x hs → Grouped (suc d) (joins a x hs))
          → Grouped d (cond b (group q y ps ∷ joins a x hs) (group q y (ps ++ (a ∷ [])) ∷ hs))
      go true k g rec = (gr.0, subst (λ l. AllByRecursion (λ z. q < z) l) (sym (writes_in-joins a x hs)) gr.1, rec k g)
      go false k g rec = (
        record {
          kind = gr.0.kind;
          rank = gr.0.rank;
          readers = All-append (λ p. (is_read (action_at c t p) ≡ true) × (host c js t p ≡ q) × (q < p)) ps (a ∷ [])
              gr.0.readers ((r, g, l.0), tt);
          ascending = ascending-snoc ps a gr.0.ascending (all_left (λ q. q < a) ps (places hs) l.1);
        },
        gr.1,
        gr.2,
      )

  -- ── Which write serves a read of x at place a ──
  module _ (a x : ℕ) where
    abbrev Serves : ℕ → Bool
    Serves q = writes_to x (action_at c t q) && ltb (performed c js t a) (drained c js t q)

    pub served_none : (d : ℕ) (hs : List Group) (acc : List ℕ) → Grouped d hs → holds x hs ≡ false
        → served_by c js t a x (newest_first hs acc) ≡ served_by c js t a x acc
    served_none d [] acc gr h = refl
    served_none d (group q y ps ∷ hs) acc gr h =
        let o = or_parts (eqb x y) (holds x hs) h in
        served_none (suc d) hs (q ∷ acc) gr.2 o.1
        ∙ cond-false (Serves q) q _ (and_left (writes_to x (action_at c t q)) _ (ap (writes_to x) gr.0.kind.1 ∙ o.0))

    pub served_old : (qs : List ℕ) → AllByRecursion (λ q. drained c js t q ≤ performed c js t a) qs → served_by c js t a x qs ≡ a
    served_old [] h = refl
    served_old (q ∷ qs) h =
        cond-false (Serves q) q _ (and_right (writes_to x (action_at c t q)) _ (le-ltb _ _ h.0)) ∙ served_old qs h.1

    pub served_newest : (d : ℕ) (hs : List Group) (acc : List ℕ) → Grouped d hs → holds x hs ≡ true
        → AllByRecursion (λ q. performed c js t a < drained c js t q) (writes_in hs)
        → served_by c js t a x (newest_first hs acc) ≡ newest_to x hs
    served_newest d [] acc gr h l = absurd (false≢true h)
    served_newest d (group q y ps ∷ hs) acc gr h l =
        go (holds x hs) refl h (λ e. served_newest (suc d) hs (q ∷ acc) gr.2 e l.1)
      where
        go : (b : Bool) → holds x hs ≡ b → (eqb x y || b) ≡ true
            → (holds x hs ≡ true → served_by c js t a x (newest_first hs (q ∷ acc)) ≡ newest_to x hs)
            → served_by c js t a x (newest_first hs (q ∷ acc)) ≡ cond b (newest_to x hs) q
        go true e o rec = rec e
        go false e o rec =
            served_none (suc d) hs (q ∷ acc) gr.2 e
            ∙ cond-true (Serves q) q _
            (and_from (writes_to x (action_at c t q)) _ (ap (writes_to x) gr.0.kind.1 ∙ left (eqb x y) o) (lt-ltb _ _ l.0))
          where
            left : (b : Bool) → (b || false) ≡ true → b ≡ true
            left true k = refl
            left false k = k
