-- The writes that wait in a thread, oldest first, each a host with the number of reads that have joined it.
use Rattle.std.specs.Prelude.{ℕ, zero, suc, ◌+◌, Bool, cond, List, [], ◌∷◌, ◌==◌, slice_index_or, slice_set}
use Rattle.conversions.specs.declared.hosts.Host.{Host}

abbrev pub new_host : ℕ → Host
new_host x = record { location = x; joined = 0 }

-- how many actions wait: the writes, and the reads that joined them
abbrev pub width : List Host → ℕ
width [] = 0
width (h ∷ hs) = suc (h.joined + width hs)

-- where a read of x stays: how many hosts there are up to the newest to x; 0 if none is to x
abbrev pub behind : Bool → ℕ → ℕ
behind b zero = cond b 1 0
behind b (suc n) = suc (suc n)

abbrev pub stay : ℕ → List Host → ℕ
stay x [] = 0
stay x (h ∷ hs) = behind (x == h.location) (stay x hs)

-- one more read joins the host at which it stays
abbrev pub raised : Host → Host
raised h = record { location = h.location; joined = h.joined + 1 }

abbrev pub joins_at : ℕ → List Host → List Host
joins_at zero hs = hs
joins_at (suc n) hs = slice_set hs n (raised (slice_index_or hs n (new_host 0)))

-- how many actions come when the oldest host drains
abbrev pub leaving : List Host → ℕ
leaving [] = 0
leaving (h ∷ hs) = suc h.joined
