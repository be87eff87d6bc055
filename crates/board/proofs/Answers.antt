-- What the calls over a record rest on: the way there and back, a refused record, and an answer yes or no.
use mathlib.Core.Path.{◌≡◌, refl, ap, ◌∙◌}
use mathlib.Core.Bool.{Bool, true, false, cond, and-false}
use mathlib.Core.List.{List, []}
use Prim.Native.Nat.{ℕ, zero, suc, ◌≤◌}
use native.Mathlib.Omega.{arith}
use borrow.Author.Tests.{leb-true}
use Rattle.std.specs.Prelude.{Option, None, Some, Err}
use Rattle.units.proofs.Cases.{both, chosen}
use lib.ListN.{length}
use Rattle.session.specs.declared.Session.{Session}
use Rattle.session.specs.declared.Window.{Window}
use Rattle.session.specs.declared.Window.TheVariants.{Closed, Read, Write}
use Rattle.session.specs.Machine.{Setup, lent}
use Rattle.session.specs.Record.{with_version}
use Rattle.soundness.specs.Soundness.{sizes_sound, session_sound, sound, sound_at}
use Rattle.refusals.specs.declared.Reason.TheVariants.{System}
use Rattle.refusals.specs.Refusals.{reason_for}
use Rattle.mailbox.specs.Commands.{Outcome, answered, refused}
use Rattle.mailbox.specs.Mediator.{reason_in, answer_to, mediate}
use Rattle.mailbox.proofs.Mediating.{mediate_as}
use Rattle.board.specs.declared.Record.{Record}
use Rattle.board.specs.Record.{is_yes, yes_no, window_of, window_number, previous_of, is_numbered, number_or, is_regular, session_of, record_of, afterwards}
use Rattle.board.specs.Calls.{Left, left, kept, commanded, system_error, NothingLost}

-- ---- a session of version 255 is refused with SYSTEM_ERROR

unsound : (setup : Setup) (flash worn memory : ℕ) (s : Session) → sound_at setup flash worn memory (with_version 255 s) ≡ false
unfolding sound_at sound session_sound
unsound setup flash worn memory s = rw (and-false (sizes_sound flash worn memory)) refl

system : (setup : Setup) (registers : List ℕ) (s : Session) (flash worn memory : List ℕ)
    → reason_in setup registers (lent (with_version 255 s) flash worn memory) ≡ Err System
unfolding reason_for
system setup registers s flash worn memory = rw (unsound setup (length flash) (length worn) (length memory) s) refl

pub unsound_refused : (setup : Setup) (registers : List ℕ) (s : Session) (flash worn memory : List ℕ)
    → mediate setup registers (lent (with_version 255 s) flash worn memory) ≡ refused 4 registers (lent (with_version 255 s) flash worn memory)
unfolding answer_to
unsound_refused setup registers s flash worn memory =
    mediate_as setup registers (lent (with_version 255 s) flash worn memory) (Err System) (system setup registers s flash worn memory)

-- ---- the way there and back loses nothing

windows_back : (w : Window) → window_of (window_number w) ≡ w
windows_back Closed = refl
windows_back Read = refl
windows_back Write = refl

previous_back : (spare : ℕ) (p : Option ℕ) → previous_of (yes_no (is_numbered p)) (number_or spare p) ≡ p
previous_back spare None = refl
previous_back spare (Some n) = refl

pub yes_back : (b : Bool) → is_yes (yes_no b) ≡ b
yes_back true = refl
yes_back false = refl

-- the session of a session's record is that session
pub session_back : (spare : ℕ) (s : Session) → session_of (record_of spare s) ≡ s
session_back spare s = rw (windows_back s.window, previous_back spare s.previous, yes_back s.suspended) refl

numbers_back : (n : ℕ) → n ≤ 2 → window_number (window_of n) ≡ n
numbers_back zero e = refl
numbers_back (suc zero) e = refl
numbers_back (suc (suc zero)) e = refl
numbers_back (suc (suc (suc n))) e = absurd (omega arith)

answer_back : (n : ℕ) → n ≤ 1 → yes_no (is_yes n) ≡ n
answer_back zero e = refl
answer_back (suc zero) e = refl
answer_back (suc (suc n)) e = absurd (omega arith)

numbered_back : (n k : ℕ) → n ≤ 1 → yes_no (is_numbered (previous_of n k)) ≡ n
numbered_back zero k e = refl
numbered_back (suc zero) k e = refl
numbered_back (suc (suc n)) k e = absurd (omega arith)

pub number_back : (n k : ℕ) → number_or k (previous_of n k) ≡ k
number_back n k = chosen (λ p. number_or k p ≡ k) (is_yes n) (Some k) None (λ _. refl) (λ _. refl)

-- the record of a record's session is that record, where the record is regular
record_back : (h : Record) → is_regular h ≡ true → record_of h.previous (session_of h) ≡ h
record_back h e =
    let p = both _ _ e in
    let q = both _ _ p.1 in
    rw
    (numbers_back h.window (leb-true h.window 2 q.1), numbered_back h.numbered h.previous (leb-true h.numbered 1 p.0), number_back h.numbered h.previous, answer_back h.suspended (leb-true h.suspended 1 q.0))
    refl

pub nothing_lost : NothingLost
nothing_lost = (session_back, record_back)

-- and so is that of a refused session, with the record's own version and numbers
own_back : (h : Record) → afterwards false h (with_version 255 (session_of h)) ≡ h
own_back h = rw (number_back h.numbered h.previous) refl

-- ---- a record that is regular, and one that is not

-- what a command leaves of the mediator's outcome
abbrev pub passed : Bool → Record → Outcome → Left
passed regular h o = left (afterwards regular h o.machine.session) o.registers o.actions o.machine.flash o.machine.memory

by_record : (regular : Bool) (setup : Setup) (h : Record) (registers flash worn memory : List ℕ)
    → passed regular h (mediate setup registers (lent (cond regular (session_of h) (with_version 255 (session_of h))) flash worn memory))
    ≡ cond regular (kept h.previous (mediate setup registers (lent (session_of h) flash worn memory))) (system_error h registers flash memory)
by_record true setup h registers flash worn memory = refl
by_record false setup h registers flash worn memory =
    ap (passed false h) (unsound_refused setup registers (session_of h) flash worn memory)
    ∙ ap (λ (n : Record). left n (answered (session_of h) registers 4 [] 0).registers 0 flash memory) (own_back h)

pub commanded_passed : (setup : Setup) (h : Record) (registers flash worn memory : List ℕ) (regular : Bool) (s : Session) (o : Outcome) (next : Record)
    → regular ≡ is_regular h → s ≡ cond regular (session_of h) (with_version 255 (session_of h)) → o ≡ mediate setup registers (lent s flash worn memory)
    → next ≡ afterwards regular h o.machine.session
    → left next o.registers o.actions o.machine.flash o.machine.memory ≡ commanded setup h registers flash worn memory
unfolding commanded
commanded_passed setup h registers flash worn memory regular s o next r e out kept_as =
    ap (λ (n : Record). left n o.registers o.actions o.machine.flash o.machine.memory) kept_as
    ∙ ap (passed regular h) out
    ∙ ap (λ (t : Session). passed regular h (mediate setup registers (lent t flash worn memory))) e
    ∙ by_record regular setup h registers flash worn memory
    ∙ ap (λ (b : Bool). cond b (kept h.previous (mediate setup registers (lent (session_of h) flash worn memory))) (system_error h registers flash memory)) r
