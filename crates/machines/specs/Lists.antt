-- What the certificate checker's table stands for, for a case.
use Rattle.std.specs.Prelude.{ℕ, List, [], ◌∷◌, map, length, take, drop, Some, None, Option, slice_index, slice_index_or}
use Rattle.records.specs.declared.action.Action.{Action}
use Rattle.records.specs.declared.action.Action.TheVariants.{Sync}
use Rattle.records.specs.declared.action.SyncOp.TheVariants.{End}
use Rattle.records.specs.Names.{Case, thread}
use Rattle.machines.specs.declared.lists.MovedList.{MovedList}
use Rattle.machines.specs.declared.lists.Certificate.{Certificate}
use Rattle.machines.specs.Certificate.{OrderState}
use Rattle.machines.specs.Memory.{held}

-- the action at a place of a thread; past its end, which only a checker begun for another case can ask for, one that never comes
abbrev pub action_at : List Action → ℕ → Action
action_at l p = slice_index_or l p (Sync 0 0 End)

-- of the list of thread t: how many have come, and the places in their moved order
abbrev pub come_of : List MovedList → ℕ → ℕ
come_of lists t = slice_index (map (λ l. l.next) lists) t

abbrev pub places_of : List MovedList → ℕ → List ℕ
places_of lists t = slice_index_or (map (λ l. l.places) lists) t []

-- what is left of a thread's moved list
abbrev pub left_of : List Action → ℕ → List ℕ → List Action
left_of l n places = drop n (map (action_at l) (take (length l) places))

abbrev pub order_state : Case → Certificate → OrderState
order_state c m =
    record {
      begun = m.begun;
      left = λ t. left_of (thread c t) (come_of m.lists t) (places_of m.lists t);
      memory = held m.memory.writes;
      turns = m.memory.turns;
    }

-- the first of a list
abbrev pub head_of : List Action → Option Action
head_of [] = None
head_of (a ∷ l) = Some a
