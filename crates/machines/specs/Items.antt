-- What an item says to each machine; none where its letter is not of that kind or an unused field is not 0.
use Rattle.std.specs.Prelude.{Bool, true, false, cond, ◌&&◌, List, [], ◌∷◌, ◌++◌, Some, None, Option, ◌==◌}
use Rattle.records.specs.declared.Item.{Item}
use Rattle.records.specs.Letters.{letter}
use Rattle.machines.specs.declared.items.RunItem.{RunItem}
use Rattle.machines.specs.declared.items.RunItem.TheVariants.{Perform, Drain}
use Rattle.machines.specs.declared.items.CertificateItem.{CertificateItem}
use Rattle.machines.specs.declared.items.CertificateItem.TheVariants.{Move, Come}

abbrev pub only_thread : Item → Bool
only_thread i = i.place == 0 && i.count == 0

abbrev pub unless : {A : Type 0} → Bool → A → Option A
unless true a = Some a
unless false a = None

abbrev pub run_item : Item → Option RunItem
run_item i =
    cond (i.letter == (letter "A")) (unless (only_thread i) (Perform i.thread))
    (cond (i.letter == (letter "D")) (unless (only_thread i) (Drain i.thread)) None)

abbrev pub certificate_item : Item → Option CertificateItem
certificate_item i =
    cond (i.letter == (letter "M")) (Some (Move i.thread i.place i.count))
    (cond (i.letter == (letter "O")) (unless (only_thread i) (Come i.thread)) None)

-- ── Lists of items ──
abbrev pub one : {I : Type 0} → Option I → List I
one None = []
one (Some i) = i ∷ []

-- what the items say, by what one item says; those that say nothing to the machine are left out, and none of them is taken
abbrev pub said : {I : Type 0} → (Item → Option I) → List Item → List I
said says [] = []
said says (i ∷ is) = one (says i) ++ said says is
