-- Evidence as items, and what both conversions make of it.
use Rattle.std.specs.Prelude.{List, map}
use Rattle.records.specs.declared.Item.{Item}
use Rattle.records.specs.Names.{Case}
use Rattle.machines.specs.declared.items.RunItem.{RunItem}
use Rattle.machines.specs.declared.items.CertificateItem.{CertificateItem}
pub use Rattle.machines.specs.Encoded.{run_encoded, certificate_encoded}
use Rattle.machines.specs.Items.{run_item, certificate_item, said}
use Rattle.agreement.specs.Convert.{replay}
use Rattle.agreement.specs.Moments.{by_moments}

-- ── What items say ──
abbrev pub run_items : List Item → List RunItem
run_items is = said run_item is

abbrev pub certificate_items : List Item → List CertificateItem
certificate_items js = said certificate_item js

-- ── The conversions ──
-- the certificate that a run converts to, and the run that a certificate converts to
abbrev pub written : Case → List Item → List Item
written c is = map certificate_encoded (by_moments c (run_items is))

abbrev pub replayed : Case → List Item → List Item
replayed c js = map run_encoded (replay c (certificate_items js))
