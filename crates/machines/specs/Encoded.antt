-- What is said to a machine, as an item.
use Rattle.records.specs.declared.Item.{Item}
use Rattle.records.specs.Letters.{letter}
use Rattle.machines.specs.declared.items.RunItem.{RunItem}
use Rattle.machines.specs.declared.items.RunItem.TheVariants.{Perform, Drain}
use Rattle.machines.specs.declared.items.CertificateItem.{CertificateItem}
use Rattle.machines.specs.declared.items.CertificateItem.TheVariants.{Move, Come}

abbrev pub run_encoded : RunItem → Item
run_encoded (Perform t) = record { letter = letter "A"; thread = t; place = 0; count = 0 }
run_encoded (Drain t) = record { letter = letter "D"; thread = t; place = 0; count = 0 }

abbrev pub certificate_encoded : CertificateItem → Item
certificate_encoded (Move t p c) = record { letter = letter "M"; thread = t; place = p; count = c }
certificate_encoded (Come t) = record { letter = letter "O"; thread = t; place = 0; count = 0 }
