-- What a complete run converts to, by moments. Nothing here follows the converter's steps.
-- An action is told by its thread and its place, an item of the run by its index.
use Rattle.std.specs.Prelude.{◌≡◌, ℕ, zero, suc, ◌+◌, Bool, true, false, cond, ◌&&◌, ◌||◌, ◌⊎◌, List, [], ◌∷◌, ◌++◌, length, Ok, Err, Result, ◌==◌, ◌≢◌, nat_lt, slice_index_or}
use Rattle.records.specs.declared.action.Action.{Action}
use Rattle.records.specs.declared.action.Action.TheVariants.{Read, Write, Sync}
use Rattle.records.specs.declared.action.SyncOp.TheVariants.{End}
use Rattle.records.specs.Names.{Case, thread}
use Rattle.machines.specs.declared.items.RunItem.{RunItem}
use Rattle.machines.specs.declared.items.RunItem.TheVariants.{Perform, Drain}
use Rattle.machines.specs.declared.items.CertificateItem.{CertificateItem}
use Rattle.machines.specs.Run.{Waiting, waits, RunState, sees, runs}
use Rattle.agreement.specs.Convert.{Mark, mark, comings, all_moves, sum_over}

-- how many numbers below n pass
abbrev pub count : (ℕ → Bool) → ℕ → ℕ
count f zero = 0
count f (suc n) = cond (f n) (suc (count f n)) (count f n)

-- dictionary order
abbrev pub before : List ℕ → List ℕ → Bool
before xs [] = false
before [] (y ∷ ys) = true
before (x ∷ xs) (y ∷ ys) = nat_lt x y || (x == y && before xs ys)

-- the index of the item with k such items ahead of it; if there is none, the number of items, which is after the last
abbrev pub index : (RunItem → Bool) → ℕ → List RunItem → ℕ
index f k [] = 0
index f zero (i ∷ is) = cond (f i) 0 (suc (index f zero is))
index f (suc k) (i ∷ is) = suc (cond (f i) (index f k is) (index f (suc k) is))

abbrev pub performs : ℕ → RunItem → Bool
performs t (Perform u) = u == t
performs t (Drain u) = false

abbrev pub drains : ℕ → RunItem → Bool
drains t (Perform u) = false
drains t (Drain u) = u == t

abbrev pub is_read : Action → Bool
is_read (Read n x s) = true
is_read (Write n x) = false
is_read (Sync n k o) = false

abbrev pub is_write : Action → Bool
is_write (Read n x s) = false
is_write (Write n x) = true
is_write (Sync n k o) = false

abbrev pub writes_to : ℕ → Action → Bool
writes_to x (Read n y s) = false
writes_to x (Write n y) = x == y
writes_to x (Sync n k o) = false

-- stands for the action at a place past the thread's end
abbrev pub no_action : Action
no_action = Sync 0 0 End

abbrev pub action_at : Case → ℕ → ℕ → Action
action_at c t p = slice_index_or (thread c t) p no_action

-- the places of a thread's plain writes before a place, the nearest first
abbrev pub writes_before : Case → ℕ → ℕ → List ℕ
writes_before c t zero = []
writes_before c t (suc p) = cond (is_write (action_at c t p)) (p ∷ writes_before c t p) (writes_before c t p)

-- an action by its thread and place, and the threads of actions in some order
pub data Site : Type 0 where
  site : ℕ → ℕ → Site

abbrev pub threads_in : List Site → List ℕ
threads_in [] = []
threads_in (site t p ∷ l) = t ∷ threads_in l

-- how often an action comes
abbrev pub times : ℕ → ℕ → List Site → ℕ
times t p [] = 0
times t p (site u q ∷ l) = cond (t == u && p == q) (suc (times t p l)) (times t p l)

module _ (c : Case) (is : List RunItem) where
  -- ── Moments ──
  -- a thread performs its actions in their order, and drains its plain writes in theirs
  abbrev pub performed : ℕ → ℕ → ℕ
  performed t p = index (performs t) p is

  abbrev pub drained : ℕ → ℕ → ℕ
  drained t p = index (drains t) (length (writes_before c t p)) is

  -- a plain write takes effect when it is drained, any other action when it is performed
  abbrev pub effect_of : ℕ → ℕ → Action → ℕ
  effect_of t p (Read n x s) = performed t p
  effect_of t p (Write n x) = drained t p
  effect_of t p (Sync n k o) = performed t p

  abbrev pub effect : ℕ → ℕ → ℕ
  effect t p = effect_of t p (action_at c t p)

  -- among these writes, the first to x that still waits when the read at p is performed; p if there is none
  abbrev pub served_by : ℕ → ℕ → ℕ → List ℕ → ℕ
  served_by t p x [] = p
  served_by t p x (q ∷ qs) =
      cond (writes_to x (action_at c t q) && nat_lt (performed t p) (drained t q)) q (served_by t p x qs)

  -- what an action goes with: a read that saw a waiting write with that write, any other action with itself
  abbrev pub host_of : ℕ → ℕ → Action → ℕ
  host_of t p (Read n x s) = served_by t p x (writes_before c t p)
  host_of t p (Write n x) = p
  host_of t p (Sync n k o) = p

  abbrev pub host : ℕ → ℕ → ℕ
  host t p = host_of t p (action_at c t p)

  -- when its host takes effect; at one index by thread, then by the host's age, and directly behind the host
  abbrev pub moment : ℕ → ℕ → List ℕ
  moment t p = effect t (host t p) ∷ t ∷ host t p ∷ p ∷ []

  abbrev pub earlier : ℕ → ℕ → ℕ → Bool
  earlier t p q = before (moment t p) (moment t q)

  -- ── The order ──
  -- every action once, by rising moments
  abbrev pub First : Site → List Site → Type 0
  First a [] = Unit {0}
  First (site t p) (site u q ∷ l) = (before (moment t p) (moment u q) ≡ true) × First (site t p) l

  abbrev pub Rising : List Site → Type 0
  Rising [] = Unit {0}
  Rising (a ∷ l) = First a l × Rising l

  pub record InOrder (l : List Site) : Type 0 where
    pub once : (t p : ℕ) → times t p l ≡ cond (nat_lt p (length (thread c t))) 1 0
    pub rising : Rising l

  -- ── The moves ──
  -- a read that goes with the write at q
  abbrev pub joined : ℕ → ℕ → ℕ → Bool
  joined t q p = is_read (action_at c t p) && host t p == q

  -- One move of the read at p for each of these writes that comes later. Its place is the number of actions before the
  -- read in program order that come before the write; its count, the number of reads among them that go with the write.
  abbrev pub over : ℕ → ℕ → List ℕ → List Mark
  over t p [] = []
  over t p (q ∷ qs) =
      cond (earlier t p q)
      (mark (count (λ k. earlier t k q) p) (count (λ k. joined t q k) p) ∷ over t p qs)
      (over t p qs)

  abbrev pub moves_of : ℕ → ℕ → Action → List Mark
  moves_of t p (Read n x s) = over t p (writes_before c t p)
  moves_of t p (Write n x) = []
  moves_of t p (Sync n k o) = []

  -- those of the n actions from place p on, in program order
  abbrev pub moves_from : ℕ → ℕ → ℕ → List Mark
  moves_from t zero p = []
  moves_from t (suc n) p = moves_of t p (action_at c t p) ++ moves_from t n (suc p)

  abbrev pub moves : ℕ → List Mark
  moves t = moves_from t (length (thread c t)) 0

  -- ── The list ──
  -- the moves thread by thread, and then the order
  pub record Converted (js : List CertificateItem) : Type 0 where
    pub order : List Site
    pub in_order : InOrder order
    pub listed : js ≡ all_moves (length c) 0 moves (comings (threads_in order))

  -- the same as a list that computes: all actions, sorted by moment
  abbrev pub sites_from : ℕ → ℕ → ℕ → List Site → List Site
  sites_from t zero p l = l
  sites_from t (suc n) p l = site t p ∷ sites_from t n (suc p) l

  abbrev pub sites : ℕ → ℕ → List Site
  sites zero t = []
  sites (suc d) t = sites_from t (length (thread c t)) 0 (sites d (suc t))

  abbrev pub sooner : Site → Site → Bool
  sooner (site t p) (site u q) = before (moment t p) (moment u q)

  abbrev pub insert : Site → List Site → List Site
  insert a [] = a ∷ []
  insert a (b ∷ l) = cond (sooner a b) (a ∷ b ∷ l) (b ∷ insert a l)

  abbrev pub sorted : List Site → List Site
  sorted [] = []
  sorted (a ∷ l) = insert a (sorted l)

  abbrev pub by_moments : List CertificateItem
  by_moments = all_moves (length c) 0 moves (comings (threads_in (sorted (sites (length c) 0))))

  -- ── The reversed pairs ──
  -- of a plain write and a later read of its thread that comes before it
  abbrev pub passed_by : ℕ → ℕ → List ℕ → ℕ
  passed_by t p [] = 0
  passed_by t p (q ∷ qs) = cond (earlier t p q) (suc (passed_by t p qs)) (passed_by t p qs)

  abbrev pub pairs_at : ℕ → ℕ → Action → ℕ
  pairs_at t p (Read n x s) = passed_by t p (writes_before c t p)
  pairs_at t p (Write n x) = 0
  pairs_at t p (Sync n k o) = 0

  abbrev pub pairs_from : ℕ → ℕ → ℕ → ℕ
  pairs_from t zero p = 0
  pairs_from t (suc n) p = pairs_at t p (action_at c t p) + pairs_from t n (suc p)

  abbrev pub pairs : ℕ
  pairs = sum_over (length c) 0 (λ t. pairs_from t (length (thread c t)) 0)

  -- ── What indices and hosts have to do with the machine ──
  -- a read that goes with another action saw this very write
  abbrev pub Saw : ℕ → ℕ → Type 0
  Saw t p =
      (n x s : ℕ) → action_at c t p ≡ Read n x s → (host t p ≢ p) → action_at c t (host t p) ≡ Write s x

  -- A read at p, where b waits: it goes with itself, and nothing that waits serves it, or with the write that serves it.
  abbrev pub Served : ℕ → ℕ → Action → List Waiting → Type 0
  Served t p (Read n x s) b =
      ((host t p ≡ p) × ((m : ℕ) → sees x b m ≡ m))
      ⊎ ((w : ℕ) × (action_at c t (host t p) ≡ Write w x) × ((m : ℕ) → sees x b m ≡ w))
  Served t p (Write n x) b = Unit {0}
  Served t p (Sync n k o) b = Unit {0}

  -- The item at an index performs the action that is performed at that index, or drains the write that is drained at it.
  abbrev pub Does : ℕ → RunState → RunItem → Type 0
  Does i m (Perform t) =
      (p : ℕ) × (rs : List Action) × (m.rest t ≡ action_at c t p ∷ rs) × (performed t p ≡ i)
      × Served t p (action_at c t p) (m.buffer t)
  Does i m (Drain t) =
      (q : ℕ) × (w : ℕ) × (y : ℕ) × (b : List Waiting) × (m.buffer t ≡ waits w y ∷ b)
      × (action_at c t q ≡ Write w y) × (drained t q ≡ i)

  -- so does each item from index i on
  abbrev pub Told : ℕ → Result RunState ℕ → List RunItem → Type 0
  Told i o [] = Unit {0}
  Told i (Err n) (j ∷ js) = ⊥
  Told i (Ok m) (j ∷ js) = Does i m j × Told (suc i) (runs m j) js
