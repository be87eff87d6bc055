-- The first list of demand 3, up to the cut: document 00, demand 3, document 01, "Chip actions", and 02, Ticket 8.
use Rattle.std.specs.Prelude.{ℕ, ◌+◌, ◌-◌, ◌<◌, Bool, true, false, cond, not, ◌&&◌, List, [], ◌∷◌, ◌≡◌, leb, ltb, length, get_or, take}
use Rattle.units.specs.Units.{to_bytes, block_holding}
use Rattle.session.specs.declared.Session.{Session}
use Rattle.session.specs.Machine.{Setup, Machine, lent, holding}
use Rattle.session.specs.Marks.{is_marked}
use Rattle.session.specs.Record.{with_access}
use Rattle.session.specs.Suspension.{suspended, resumed}
use Rattle.flush.specs.Cut.{passed, ahead, progress, block_at, leaves}
use Rattle.flush.specs.Window.{window_actions, window_part, part_end, done_actions, flush_fails, advanced}
use Rattle.mailbox.specs.Runs as runs
use Rattle.invariants.specs.Worn.{place_of, meets}

-- "any list of flush steps, suspends and resumes without changed flash"
pub data FirstCall : Type 0 where
  step suspend resume : FirstCall

-- what a call finds and leaves, and the count j
pub record State : Type 0 where
  pub machine : Machine
  pub count : ℕ

-- what is answered: to a step a code with yes or no, to a suspend or resume yes or no
pub data Said : Type 0 where
  stepped : ℕ → Bool → Said
  told : Bool → Said

-- "A count j starts at 0; a step while not suspended adds 1 if j < N". It stops at N, or before an erase that fails, "where 01's count j stays" (02, Ticket 8):
-- `reach` is how far it comes
abbrev pub counted : ℕ → Bool → ℕ → ℕ
counted reach is_suspended j = cond (not is_suspended && ltb j reach) (j + 1) j

-- one call: "A step is given j". A step changes only the flash, suspend and resume only the session
abbrev pub after : ℕ → FirstCall → State → State
after reach step s =
    record {
      machine = lent s.machine.session (advanced s.machine s.count).flash s.machine.worn s.machine.memory;
      count = counted reach s.machine.session.suspended s.count;
    }
after reach suspend s = record { machine = holding (suspended s.machine.session).session s.machine; count = s.count }
after reach resume s = record { machine = holding (resumed s.machine.session).session s.machine; count = s.count }

-- its answer
abbrev pub answer : FirstCall → State → Said
answer step s = stepped (advanced s.machine s.count).code (advanced s.machine s.count).yes
answer suspend s = told (suspended s.machine.session).done
answer resume s = told (resumed s.machine.session).done

-- a list of them: "every call gets what the one before left"
abbrev pub after_all : ℕ → List FirstCall → State → State
after_all reach [] s = s
after_all reach (e ∷ list) s = after_all reach list (after reach e s)

-- and its answers
abbrev pub answers : ℕ → List FirstCall → State → List Said
answers reach [] s = []
answers reach (e ∷ list) s = answer e s ∷ answers reach list (after reach e s)

-- the answers that the papers give. "A step .. answers 6 while suspended, otherwise 1, with yes exactly if it adds"; where an erase fails the count stays
-- before it, and steps there "answer 3, or 6 when suspended" (02, Ticket 8)
abbrev pub step_said : ℕ → Bool → Bool → ℕ → Said
step_said reach fails is_suspended j = cond is_suspended (stepped 6 false) (cond (ltb j reach) (stepped 1 true) (stepped (cond fails 3 1) false))

-- "Suspending twice, or resuming when not suspended, .. answers no; otherwise they answer yes"
abbrev pub expected : ℕ → Bool → List FirstCall → Bool → ℕ → List Said
expected reach fails [] is_suspended j = []
expected reach fails (step ∷ list) is_suspended j = step_said reach fails is_suspended j ∷ expected reach fails list is_suspended (counted reach is_suspended j)
expected reach fails (suspend ∷ list) is_suspended j = told (not is_suspended) ∷ expected reach fails list true j
expected reach fails (resume ∷ list) is_suspended j = told is_suspended ∷ expected reach fails list false j

-- the session as the suspends and resumes of a list leave it: the steps leave it alone
abbrev pub access_after : List FirstCall → Session → Session
access_after [] s = s
access_after (step ∷ list) s = access_after list s
access_after (suspend ∷ list) s = access_after list (suspended s).session
access_after (resume ∷ list) s = access_after list (resumed s).session

-- "the flush has N actions"
abbrev pub actions_of : Session → ℕ
actions_of s = length (window_actions s)

-- how many of them are done before an erase fails: all N where none does
abbrev pub reach_of : Machine → ℕ
reach_of m = length (done_actions m)

-- the state at the first list's start
abbrev pub start : Machine → State
start m = record { machine = m; count = 0 }

-- and after the list, where the cut falls
abbrev pub cut : Machine → List FirstCall → State
cut m list = after_all (reach_of m) list (start m)

-- the list as a run of calls: "A step is given j"
abbrev pub call_for : FirstCall → ℕ → runs.Call
call_for step j = runs.advance j
call_for suspend j = runs.suspend
call_for resume j = runs.resume

abbrev pub calls_of : ℕ → List FirstCall → State → List runs.Call
calls_of reach [] s = []
calls_of reach (e ∷ list) s = call_for e s.count ∷ calls_of reach list (after reach e s)

-- the byte of the flash at x lies in a marked block
abbrev pub in_marked : Session → ℕ → Bool
in_marked s x =
    leb (to_bytes s.first) x
    && (ltb x (part_end s) && is_marked (get_or s.marks (block_holding (x - to_bytes s.first)) 0))

-- a session that differs in its suspension and event byte alone
abbrev pub Kept : Session → Session → Type 0
Kept s t = t ≡ with_access t.suspended t.events s

-- what holds at the cut, of the machine at the first list's start
pub record AtCut (m : Machine) (list : List FirstCall) : Type 0 where
  -- "For every such list the answers are those of document 01", with Ticket 8's
  pub answered : answers (reach_of m) list (start m) ≡ expected (reach_of m) (flush_fails m) list m.session.suspended 0
  -- where the count stops: at the first worn block that is marked, and at N where there is none
  pub reaches : reach_of m ≡ place_of m
  pub stops : flush_fails m ≡ meets m.worn m.session.first m.session.marks
  pub through : flush_fails m ≡ false → reach_of m ≡ actions_of m.session
  -- "every call gets what the one before left": the machine is that of a run of these calls
  pub as_run : (setup : Setup) → (cut m list).machine ≡ runs.called_all setup (calls_of (reach_of m) list (start m)) m
  -- "It holds what its actions among the first j make of its old bytes"
  pub blocks : (b : ℕ) → b < m.session.size
      → block_at b (window_part m.session (cut m list).machine.flash)
      ≡ leaves m.memory b (take (cut m list).count (window_actions m.session)) (window_part m.session m.flash)
  -- "Marked blocks already passed are finished", "finished is what all of them make"
  pub finished : (b : ℕ) → b < m.session.size → progress b (cut m list).count (window_actions m.session) ≡ passed
      → block_at b (window_part m.session (cut m list).machine.flash)
      ≡ leaves m.memory b (window_actions m.session) (window_part m.session m.flash)
  -- "those still ahead are old"
  pub old : (b : ℕ) → b < m.session.size → progress b (cut m list).count (window_actions m.session) ≡ ahead
      → block_at b (window_part m.session (cut m list).machine.flash) ≡ block_at b (window_part m.session m.flash)
  -- "every other byte is as before"
  pub others : (x : ℕ) → in_marked m.session x ≡ false → get_or (cut m list).machine.flash x 0 ≡ get_or m.flash x 0
  pub flash_size : length (cut m list).machine.flash ≡ length m.flash
  -- the session, the window memory and the map
  pub session : (cut m list).machine.session ≡ access_after list m.session
  pub kept : Kept m.session (cut m list).machine.session
  pub memory_same : (cut m list).machine.memory ≡ m.memory
  pub map_same : (cut m list).machine.worn ≡ m.worn
