-- Moves in a thread's list: whatever moves make of a thread's program order is a list that its store buffer can emit.
use Rattle.std.proofs.Common.{◌≡◌, ℕ, zero, suc, ◌≢◌, List, [], ◌∷◌, ◌++◌, sym, refl, ap, ◌∙◌, subst}
use Rattle.records.specs.declared.action.Action.{Action}
use Rattle.records.specs.declared.action.Action.TheVariants.{Read, Write}
use Rattle.agreement.specs.Convert.{Group, group, Mark, mark}
use Rattle.agreement.proofs.Buffer.{here, there, reads, Emits, done, emit, write, join, pass, turn, release, reads-snoc, emits}
use Rattle.agreement.proofs.Buffer.{unemit, stay}

-- Carry w y c K b K': in K, c reads of y that saw w come first, then the read b of another location; K' is K without b
pub data Carry (w y : ℕ) : ℕ → List Action → Action → List Action → Type 0 where
  stop : {n z s : ℕ} {K : List Action} → z ≢ y → Carry w y zero (Read n z s ∷ K) (Read n z s) K
  skip : {n z s c : ℕ} {b : Action} {K K' : List Action} → s ≡ w → z ≡ y
      → Carry w y c K b K' → Carry w y (suc c) (Read n z s ∷ K) b (Read n z s ∷ K')

-- one move, by its place and count
pub data OneMove : ℕ → ℕ → List Action → List Action → Type 0 where
  at : {w y c : ℕ} {b : Action} {K K' : List Action}
      → Carry w y c K b K' → OneMove zero c (Write w y ∷ K) (b ∷ Write w y ∷ K')
  on : {a : Action} {p c : ℕ} {K K' : List Action} → OneMove p c K K' → OneMove (suc p) c (a ∷ K) (a ∷ K')

pub data Moves : List Mark → List Action → List Action → Type 0 where
  still : {K L : List Action} → K ≡ L → Moves [] K L
  step : {p c : ℕ} {ms : List Mark} {J K L : List Action} → OneMove p c J K → Moves ms K L → Moves (mark p c ∷ ms) J L

pub none_moves : {p c : ℕ} {K : List Action} → OneMove p c [] K → ⊥
none_moves d = elim d [ ]

-- ── A move keeps a list emitted ──
uncarry : (w y : ℕ) (ns : List ℕ) {c : ℕ} {b : Action} (K : List Action) {L' : List Action}
    → Carry w y c (reads w y ns ++ K) b L' → (c' : ℕ) × (K' : List Action) × (L' ≡ reads w y ns ++ K') × Carry w y c' K b K'
uncarry w y [] {c} {b} K {L'} k = (c, L', refl, k)
uncarry w y (n ∷ ns) K (stop h) = absurd (h refl)
uncarry w y (n ∷ ns) K (skip e f k) =
    let h = uncarry w y ns K k in (h.0, h.1, ap {B = List Action} (λ z. Read n y w ∷ z) h.2, h.3)

-- the drain of the oldest group is put off until the later read b of another location has passed it
delay : {w y : ℕ} (ns : List ℕ) {gs : List Group} {rs L L' : List Action} {c : ℕ} {b : Action}
    → Emits [] gs rs L → Carry w y c L b L' → Emits [] (group w y ns ∷ gs) rs (b ∷ Write w y ∷ (reads w y ns ++ L'))
delay ns done k = elim k [ ]
delay ns (write d) k = write (delay ns d k)
delay ns (join j d) k = join (there j) (delay ns d k)
delay {w} {y} ns (pass f d) (stop h) = pass (h, f) (release (emits w y ns d))
delay {w} {y} ns {gs} {b = b} (pass {n} {rs = rs} f d) (skip {K' = K'} e₁ e₂ k) =
    join (here e₁ e₂ f)
    (subst (λ z. Emits [] (group w y (ns ++ (n ∷ [])) ∷ gs) rs (b ∷ Write w y ∷ z)) (reads-snoc w y ns n K' ∙ (cc))
    (delay (ns ++ (n ∷ [])) d k))
delay ns (turn d) k = elim k [ ]
delay ns (release d) k = elim k [ ]

close : {R : List Action} {gs : List Group} {rs L L' : List Action} {p c : ℕ}
    → Emits R gs rs L → OneMove p c L L' → Emits R gs rs L'
close done m = elim m [ ]
close (emit d) (on m) = emit (close d m)
close (write d) m = write (close d m)
close (join j d) m = join j (close d m)
close (pass f d) (on m) = pass f (close d m)
close (turn d) (on m) = turn (close d m)
close (release d) (on m) = release (close d m)
close (release {w} {y} {ns} {gs} {rs} d) (at {c = c} {b = b} {K' = K'} k) =
    let h = unemit w y ns d in
    let g = uncarry w y ns h.0 (subst (λ z. Carry w y c z b K') h.1 k) in
    subst (λ z. Emits [] (group w y ns ∷ gs) rs (b ∷ Write w y ∷ z)) (sym g.2) (delay ns h.2 g.3)

closes : {R : List Action} {gs : List Group} {rs : List Action} {ms : List Mark} {L L' : List Action}
    → Emits R gs rs L → Moves ms L L' → Emits R gs rs L'
closes {R} {gs} {rs} d (still e) = subst (λ z. Emits R gs rs z) e d
closes d (step m h) = closes (close d m) h

-- what the moves of a thread make of its list is what it can emit
pub moved : {ms : List Mark} {P L : List Action} → Moves ms P L → Emits [] [] P L
moved {P = P} h = closes (stay P) h
