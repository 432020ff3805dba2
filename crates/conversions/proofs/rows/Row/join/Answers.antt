use Rattle.std.proofs.Common.{◌≡◌, ℕ, ◌+◌, ◌-◌, ◌<◌, ◌≤◌, length, get_or, set, ap, ◌∙◌, arith, rules}
use Rattle.std.specs.List.{between}
use Rattle.std.proofs.lemmas.List.Edits.{length-between, get_or-between}
use Rattle.machines.specs.declared.rows.Window.{Window}
use Rattle.machines.specs.Windows.{waiting}
use Rattle.conversions.specs.declared.hosts.Host.{Host}
use Rattle.conversions.specs.declared.rows.Row.{Row}
use Rattle.conversions.specs.Hosts.{new_host, width, stay, raised, joins_at}
use Rattle.conversions.specs.Rows.{window}
use Rattle.conversions.proofs.Staying.{stay-within, joined_small, width-joins, window-joins}
use Rattle.conversions.proofs.rows.Row.join.Goals as goal
use Rattle.conversions.proofs.rows.Row.join.Goals.{Else-stay-eq0}

-- ── The read stays at a host of the row ──
module _ (c : Else-stay-eq0) where
  abbrev row : Row
  row = c.args.self.now

  -- the window once the read is performed
  abbrev now : Window
  now = c.pass.new.self

  abbrev n : ℕ
  n = c.stay_at-stay.result

  abbrev host : Host
  host = get_or row.hosts (now.from + n - 1) (new_host 0)

  same : waiting now row.hosts ≡ window row
  same = λ i. between (c.pass.ensures.from i) (c.pass.ensures.upto i) row.hosts

  stays : n ≡ stay c.args.location (window row)
  stays = c.stay_at-stay.ensures ∙ ap (stay c.args.location) c.waiting.ensures

  inside : n ≤ now.upto - now.from
  inside =
      let l = stay-within c.args.location (window row) in
      let b = length-between row.hosts row.window.from row.window.upto (omega arith) in
      let s = stays in
      omega arith

  small : host.joined < row.window.next
  small =
      let b = length-between row.hosts now.from now.upto (omega arith) in
      let i = inside in
      let l : n - 1 < length (waiting now row.hosts) = omega arith in
      let j = joined_small (waiting now row.hosts) (n - 1) (new_host 0) l in
      let e : now.from + (n - 1) ≡ now.from + n - 1 = omega arith in
      let g = ap (λ h. h.joined) (get_or-between row.hosts now.from now.upto (n - 1) (new_host 0) (omega arith))
      ∙ ap (λ k. (get_or row.hosts k (new_host 0)).joined) e in
      let w = ap width same in
      let k = row.counted in
      omega arith

  joins : waiting now (set row.hosts (now.from + n - 1) (raised host)) ≡ joins_at n (window row)
  joins = window-joins row.hosts now.from now.upto n (omega arith) inside ∙ ap (joins_at n) same

  wider : width (waiting now (set row.hosts (now.from + n - 1) (raised host))) ≤ now.next
  wider =
      let b = length-between row.hosts row.window.from row.window.upto (omega arith) in
      let i = inside in
      let w = ap width joins ∙ width-joins n (window row) (omega arith) (omega arith) in
      let k = row.counted in
      omega arith

pub overflow_add-self-2 : goal.overflow_add-self-2
overflow_add-self-2 c =
    let s = small (goal.at.overflow_add-self-2 c).Else-stay-eq0 in
    search rules

pub invariant_of-self-2 : goal.invariant_of-self-2
invariant_of-self-2 c = record { counted = wider (goal.at.invariant_of-self-2 c).Else-stay-eq0 }

pub returns-clause-hosts : goal.returns-clause-hosts
returns-clause-hosts c =
    let v = (goal.at.returns-clause-hosts c).Else-stay-eq0 in
    joins v ∙ ap (λ k. joins_at k (window (row v))) (stays v)
