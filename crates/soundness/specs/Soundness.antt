-- Soundness: document 01, "Numbers" and the second paragraph of "Session", and 02, Tickets 1, 2 and 8.
use Rattle.std.specs.Prelude.{ℕ, zero, suc, ◌+◌, Bool, true, false, not, ◌&&◌, List, [], ◌∷◌, leb, eqb, length}
use Rattle.units.specs.Units.{to_bytes, round_up}
use Rattle.session.specs.declared.Session.{Session}
use Rattle.session.specs.Events.{control_lost, is_set}
use Rattle.session.specs.Machine.{Setup, Machine}
use Rattle.session.specs.Marks.{counts_of, same_counts}
use Rattle.session.specs.declared.Window.{Window}
use Rattle.session.specs.declared.Window.TheVariants.{Closed, Read, Write}

-- a length in bytes is "whole blocks", at least 1 and at most so many
unfoldable pub size_sound : ℕ → ℕ → Bool
size_sound most length = leb 1 (round_up length) && (leb (round_up length) most && eqb (to_bytes (round_up length)) length)

-- "a map of worn blocks, one byte a block": its length is S (02, Ticket 8)
abbrev pub map_sound : ℕ → ℕ → Bool
map_sound flash worn = eqb worn (round_up flash)

-- "S, the flash size, is 1 to 65,535 blocks. C, the window memory, is 1 to 64 blocks", and the map's; all lengths in bytes
unfoldable pub sizes_sound : ℕ → ℕ → ℕ → Bool
sizes_sound flash worn memory = size_sound 65535 flash && (size_sound 64 memory && map_sound flash worn)

-- "the version is 0 to 2"
abbrev pub version_sound : Session → Bool
version_sound s = leb s.version 2

-- "in a sound session, 0x40 is set exactly while access is suspended"
abbrev pub access_sound : Bool → ℕ → Bool
access_sound true events = is_set control_lost events
access_sound false events = not (is_set control_lost events)

-- "an active window has size 1 to C and ends at or before S"
abbrev pub active_sound : ℕ → ℕ → ℕ → ℕ → Bool
active_sound first size S C = leb 1 size && (leb size C && leb (first + size) S)

-- "without a window its first block and size are 0"
abbrev pub window_sound : Window → ℕ → ℕ → ℕ → ℕ → Bool
window_sound Closed first size S C = eqb first 0 && eqb size 0
window_sound Read first size S C = active_sound first size S C
window_sound Write first size S C = active_sound first size S C

-- "only a write window has marks that aren't 0, and only at blocks below its size": how many blocks may have one
abbrev pub markable : Window → ℕ → ℕ
markable Closed size = 0
markable Read size = 0
markable Write size = size

-- "every mark is 0 to 2", and 0 past the blocks that may have another
abbrev pub marks_sound : ℕ → List ℕ → Bool
marks_sound n [] = true
marks_sound zero (m ∷ ms) = leb m 0 && marks_sound zero ms
marks_sound (suc n) (m ∷ ms) = leb m 2 && marks_sound n ms

-- "A session is sound only if they equal a full count of the marks": the kept numbers of dirty and of erased blocks (02, Ticket 2)
abbrev pub counts_sound : Session → Bool
counts_sound s = same_counts s.counts (counts_of s.marks)

-- "It is sound when: the version is 0 to 2; .."
unfoldable pub session_sound : ℕ → ℕ → Session → Bool
session_sound S C s =
    version_sound s
    && (access_sound s.suspended s.events
    && (window_sound s.window s.first s.size S C
    && (marks_sound (markable s.window s.size) s.marks && counts_sound s)))

-- the lent sizes, in bytes, and the session keep the numbers
unfoldable pub sound : ℕ → ℕ → ℕ → Session → Bool
sound flash worn memory s = sizes_sound flash worn memory && session_sound (round_up flash) (round_up memory) s

-- "B, the window's first LPC block, satisfies B + C <= 65,536"
unfoldable pub sound_at : Setup → ℕ → ℕ → ℕ → Session → Bool
sound_at setup flash worn memory s = sound flash worn memory s && leb (setup.lpc + round_up memory) 65536

-- the same, of what a call is given
abbrev pub sound_in : Setup → Machine → Bool
sound_in setup m = sound_at setup (length m.flash) (length m.worn) (length m.memory) m.session
