-- What one item of a certificate is replayed to, and the name of each thread's next action after it.
use Rattle.std.specs.Prelude.{ℕ, suc, ◌+◌, ◌-◌, List, [], map, Some, None, Option, slice_index_or}
use Rattle.records.specs.declared.Item.{Item}
use Rattle.records.specs.declared.action.Action.{Action}
use Rattle.records.specs.Actions.{name_of}
use Rattle.records.specs.Names.{named}
use Rattle.machines.specs.declared.items.RunItem.TheVariants.{Perform}
use Rattle.machines.specs.declared.items.CertificateItem.{CertificateItem}
use Rattle.machines.specs.declared.items.CertificateItem.TheVariants.{Move, Come}
use Rattle.machines.specs.Lists.{head_of}
use Rattle.machines.specs.Memory.{upd}
use Rattle.agreement.specs.Convert.{again, drain_after}
use Rattle.machines.specs.Encoded.{run_encoded}

-- the names of the threads' next actions, as a table of eight has them
abbrev pub nexts : List ℕ → ℕ → ℕ
nexts table t = slice_index_or table t (named t 0)

-- how many actions a thread has yet to perform, from the one named n on, up to the action
abbrev pub missing : Action → ℕ → ℕ
missing b n = suc (name_of b) - n

-- for an action that comes in thread t: those, and a drain of a plain write
abbrev pub performed : ℕ → Action → ℕ → List Item
performed t b n = map run_encoded (again (missing b n) (Perform t) (drain_after t b []))

-- for the action that an O of thread t lets come, if there is one
abbrev pub coming_items : ℕ → ℕ → Option Action → List Item
coming_items t n None = []
coming_items t n (Some b) = performed t b n

abbrev pub coming_next : ℕ → (ℕ → ℕ) → Option Action → ℕ → ℕ
coming_next t next None = next
coming_next t next (Some b) = upd next t (next t + missing b (next t))

-- for an item; a move performs nothing
abbrev pub item_replay : (ℕ → List Action) → (ℕ → ℕ) → Option CertificateItem → List Item
item_replay left next None = []
item_replay left next (Some (Move t p c)) = []
item_replay left next (Some (Come t)) = coming_items t (next t) (head_of (left t))

abbrev pub item_next : (ℕ → List Action) → (ℕ → ℕ) → Option CertificateItem → ℕ → ℕ
item_next left next None = next
item_next left next (Some (Move t p c)) = next
item_next left next (Some (Come t)) = coming_next t next (head_of (left t))
