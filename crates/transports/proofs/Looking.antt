-- The mediator looks at the command, its number and its own parameters alone: what it leaves has nothing of the other arguments and of registers 13 to 15,
-- but for register 14, which it hands back.
use Rattle.std.proofs.Common.{◌≡◌, refl, sym, ap, ◌∙◌, Bool, true, false, cond, List, [], ◌∷◌, ◌++◌, Err, Option, None, Some, ℕ, min, leb, ltb, length, get_or, replicate}
use Rattle.units.specs.Units.{block_bytes, to_bytes, round_up}
use Rattle.buffers.specs.Ranges.{range, replace}
use Rattle.session.specs.declared.Window.{Window}
use Rattle.session.specs.declared.Window.TheVariants.{Read, Write}
use Rattle.session.specs.declared.Session.{Session}
use Rattle.session.specs.Machine.{Setup, Machine, lent, holding}
use Rattle.session.specs.Record.{with_version, with_window}
use Rattle.soundness.specs.Soundness.{sound_in}
use Rattle.registers.specs.Registers.{argument, number, bytes_of}
use Rattle.registers.proofs.Fields.{elements}
use Rattle.flush.specs.Window.{flush_whole}
use Rattle.refusals.specs.declared.Reason.TheVariants.{System, Repeated, Unknown, Suspended, Windowless, Argument}
use Rattle.refusals.specs.Refusals.{Checked, Accepted, undefined_flags, reason_for}
use Rattle.messages.specs.Parameters.{Parameter, y, q, u, Row, row, table, row_of}
use Rattle.messages.specs.Messages.{arguments_of}
use Rattle.messages.proofs.Rows.{◌&◌, each_row}
use Rattle.mailbox.specs.Commands.{Outcome, outcome, leaving, answered, numbered_in, info_arguments, informed, flash_informed}
use Rattle.mailbox.specs.Commands.{hint, size_for, create_arguments, closing, opened, opening, created, stopped, closed, flushing, flushed_through, flushed_all}
use Rattle.mailbox.specs.Table.{Command, create, reset, get_info, get_flash_info, create_read_window, close_window, create_write_window, mark_dirty, flush, ack, erase, unknown}
use Rattle.mailbox.specs.Mediator.{command_at, reason_of, answer_to, obeyed, mediate}
use Rattle.mailbox.proofs.Mediating.{each_command}
use Rattle.ipmi.proofs.Told.{reply_as}
use Rattle.transports.specs.Same.{given_by}

-- what is left, without registers 14 and 15
pub record Seen : Type 0 where
  pub machine : Machine
  pub front : List ℕ
  pub actions : ℕ

abbrev pub seen : Outcome → Seen
seen o = record { machine = o.machine; front = elements 14 0 o.registers; actions = o.actions }

-- where an erase fails, and where none does
either_alike : (t : Bool) (a b c d : Outcome) → seen a ≡ seen c → seen b ≡ seen d → seen (cond t a b) ≡ seen (cond t c d)
either_alike true a b c d p q = p
either_alike false a b c d p q = q

module _ (setup : Setup) (command sequence : ℕ) (xs ys : List ℕ) where
  -- two contents of the registers with the same command and number
  abbrev one : List ℕ
  one = command ∷ sequence ∷ xs

  abbrev other : List ℕ
  other = command ∷ sequence ∷ ys

  -- answers with the same arguments
  answered_alike : (s : Session) (code : ℕ) (arguments : List ℕ) (actions : ℕ) (flash worn memory : List ℕ)
      → seen (outcome (answered s one code arguments actions) flash worn memory) ≡ seen (outcome (answered s other code arguments actions) flash worn memory)
  answered_alike s code arguments actions flash worn memory =
      ap (λ (t : List ℕ). record { machine = lent s flash worn memory; front = elements 14 0 t; actions = actions }) (reply_as one code arguments s.events)
      ∙ ap (λ (t : List ℕ). record { machine = lent s flash worn memory; front = elements 14 0 t; actions = actions })
      (sym (reply_as other code arguments s.events))

  -- GET_INFO, of the same argument 0
  informed_alike : (m : Machine) → argument 0 one ≡ argument 0 other → seen (informed setup one m) ≡ seen (informed setup other m)
  informed_alike m e =
      let C = round_up (length m.memory) in
      answered_alike (with_version (min (argument 0 one) 2) m.session) 1 (info_arguments (min (argument 0 one) 2) C setup.timeout) 0
      m.flash m.worn m.memory
      ∙ ap (λ (a : ℕ). seen (leaving (answered (with_version (min a 2) m.session) other 1 (info_arguments (min a 2) C setup.timeout) 0) m)) e

  -- GET_FLASH_INFO
  flash_informed_alike : (m : Machine) → seen (flash_informed one m) ≡ seen (flash_informed other m)
  flash_informed_alike m =
      let S = round_up (length m.flash) in
      answered_alike m.session 1
      (cond (ltb m.session.version 2) (bytes_of 4 (to_bytes S) ++ bytes_of 4 block_bytes) (bytes_of 2 S ++ bytes_of 2 1)) 0 m.flash m.worn m.memory

  -- a create, of the same block and hint
  opened_alike : (window : Window) (m : Machine) (o size : ℕ) → seen (opened window o size setup one m) ≡ seen (opened window o size setup other m)
  opened_alike window m o size =
      answered_alike (with_window window o size m.session) 1 (create_arguments m.session.version setup.lpc size o) (flush_whole m).actions
      (flush_whole m).flash m.worn (replace 0 (range (to_bytes o) (to_bytes size) (flush_whole m).flash) m.memory)

  opening_alike : (window : Window) (m : Machine) (o size : ℕ) → seen (opening window o size setup one m) ≡ seen (opening window o size setup other m)
  opening_alike window m o size =
      either_alike (flush_whole m).failed (closing 3 one m) (opened window o size setup one m) (closing 3 other m) (opened window o size setup other m)
      refl (opened_alike window m o size)

  created_alike : (window : Window) (m : Machine) → number 2 0 one ≡ number 2 0 other → hint m.session one ≡ hint m.session other
      → seen (created window setup one m) ≡ seen (created window setup other m)
  created_alike window m e f =
      let size = size_for (round_up (length m.flash)) (round_up (length m.memory)) in
      opening_alike window m (number 2 0 one) (size (number 2 0 one) (hint m.session one))
      ∙ ap (λ (o : ℕ). seen (opening window o (size o (hint m.session one)) setup other m)) e
      ∙ ap (λ (n : ℕ). seen (opening window (number 2 0 other) (size (number 2 0 other) n) setup other m)) f

  -- CLOSE_WINDOW, and FLUSH with the marks that it works from
  closed_alike : (m : Machine) → seen (closed one m) ≡ seen (closed other m)
  closed_alike m = either_alike (flush_whole m).failed (stopped one m) (closing 1 one m) (stopped other m) (closing 1 other m) refl refl

  flushed_alike : (m : Machine) → seen (flushed_all one m) ≡ seen (flushed_all other m)
  flushed_alike m = either_alike (flush_whole m).failed (stopped one m) (flushed_through one m) (stopped other m) (flushed_through other m) refl refl

  -- a command whose rule and whose outcomes are alike
  obeyed_alike : (c : Command) (sound : Bool) (m : Machine)
      → c.broken m.session one (round_up (length m.flash)) ≡ c.broken m.session other (round_up (length m.flash))
      → seen (c.leaves setup one (numbered_in one m)) ≡ seen (c.leaves setup other (numbered_in other m))
      → ((code : ℕ) → seen (c.when_broken code one (numbered_in one m)) ≡ seen (c.when_broken code other (numbered_in other m)))
      → seen (obeyed c sound setup one m) ≡ seen (obeyed c sound setup other m)
  unfolding obeyed answer_to reason_for
  obeyed_alike c sound m rule left broken =
      by (reason_of c sound one m)
      ∙ ap (λ (b : Bool). seen (answer_to (reason_for sound m.session other (c.known m.session.version) c.needs b) c setup other m)) rule
    where
      by : (r : Checked) → seen (answer_to r c setup one m) ≡ seen (answer_to r c setup other m)
      by Accepted = left
      by (Err System) = refl
      by (Err Repeated) = refl
      by (Err Unknown) = refl
      by (Err Suspended) = refl
      by (Err Windowless) = refl
      by (Err Argument) = broken _

-- ---- the rows

-- the registers of a command, each by its index
abbrev pub filled_with : ℕ → List ℕ → List ℕ
filled_with command r = command ∷ elements 15 1 r

-- those that the message of a command is unpacked to, by a row: behind the number, and all
abbrev behind : Option Row → ℕ → List ℕ → List ℕ
behind o command r = arguments_of o (given_by o (filled_with command r)) ++ (0 ∷ 0 ∷ 0 ∷ [])

abbrev pub through_row : Option Row → ℕ → List ℕ → List ℕ
through_row o command r = command ∷ get_or r 1 0 ∷ behind o command r

-- the mediator leaves the same of both
abbrev pub Alike : ℕ → ℕ → Option Row → Type 0
Alike command version o =
    (setup : Setup) (r : List ℕ) (s : Session) (flash worn memory : List ℕ)
    → seen (mediate setup (filled_with command r) (lent (with_version version s) flash worn memory))
    ≡ seen (mediate setup (through_row o command r) (lent (with_version version s) flash worn memory))

-- registers with the same 11 arguments: of a command that the version does not know
module _ (setup : Setup) (r : List ℕ) (m : Machine) where
  abbrev Unasked : ℕ → Command → Type 0
  Unasked command c =
      seen (obeyed c (sound_in setup m) setup (filled_with command r) m) ≡ seen (obeyed c (sound_in setup m) setup (through_row None command r) m)

  unasked_alike : (command : ℕ) → Unasked command (command_at command)
  unasked_alike =
      each_command Unasked
      (obeyed_alike setup 1 sequence xs ys reset _ m refl refl (λ code. refl))
      (obeyed_alike setup 2 sequence xs ys get_info _ m refl (informed_alike setup 2 sequence xs ys (numbered 2) refl) (λ code. refl))
      (obeyed_alike setup 3 sequence xs ys get_flash_info _ m refl (flash_informed_alike setup 3 sequence xs ys (numbered 3)) (λ code. refl))
      (obeyed_alike setup 4 sequence xs ys create_read_window _ m refl (created_alike setup 4 sequence xs ys Read (numbered 4) refl refl) (λ code. refl))
      (obeyed_alike setup 5 sequence xs ys close_window _ m refl (closed_alike setup 5 sequence xs ys (numbered 5)) (λ code. refl))
      (obeyed_alike setup 6 sequence xs ys create_write_window _ m refl (created_alike setup 6 sequence xs ys Write (numbered 6) refl refl) (λ code. refl))
      (obeyed_alike setup 7 sequence xs ys mark_dirty _ m refl refl (λ code. refl))
      (obeyed_alike setup 8 sequence xs ys flush _ m refl (flushed_alike setup 8 sequence xs ys (flushing_in 8)) (λ code. refl))
      (obeyed_alike setup 9 sequence xs ys ack _ m refl refl (λ code. refl))
      (obeyed_alike setup 10 sequence xs ys erase _ m refl refl (λ code. refl))
      (λ n. obeyed_alike setup n sequence xs ys unknown _ m refl refl (λ code. refl))
    where
      sequence : ℕ
      sequence = get_or r 1 0

      xs : List ℕ
      xs = elements 14 2 r

      ys : List ℕ
      ys = elements 11 2 r ++ (0 ∷ 0 ∷ 0 ∷ [])

      numbered : ℕ → Machine
      numbered command = numbered_in (command ∷ sequence ∷ xs) m

      flushing_in : ℕ → Machine
      flushing_in command = holding (flushing (numbered command).session (command ∷ sequence ∷ xs)) m

none_alike : (command version : ℕ) → Alike command version None
unfolding mediate
none_alike command version setup r s flash worn memory = unasked_alike setup r (lent (with_version version s) flash worn memory) command

-- ---- registers with the parameters of a row, the other arguments zero
abbrev asks : List Parameter → Option Row
asks ps = Some (row 0 0 ps [])

-- a create of either kind, and a CLOSE_WINDOW, whose parameters the row has
module _ (code version : ℕ) (ps : List Parameter) (setup : Setup) (r : List ℕ) (s : Session) (flash worn memory : List ℕ) where
  abbrev given : Machine
  given = lent (with_version version s) flash worn memory

  abbrev mailed : List ℕ
  mailed = filled_with code r

  abbrev told : List ℕ
  told = through_row (asks ps) code r

  -- a command leaves the same of both
  abbrev Obeys : Command → Type 0
  Obeys c = seen (obeyed c (sound_in setup given) setup mailed given) ≡ seen (obeyed c (sound_in setup given) setup told given)

  creates : (w : Window) → number 2 0 mailed ≡ number 2 0 told → hint given.session mailed ≡ hint given.session told → Obeys (create code w)
  creates w e f =
      obeyed_alike setup code (get_or r 1 0) (elements 14 2 r) (behind (asks ps) code r) (create code w) _ given (ap (leb (round_up (length flash))) e)
      (created_alike setup code (get_or r 1 0) (elements 14 2 r) (behind (asks ps) code r) w (numbered_in mailed given) e f) (λ code. refl)

  closes : undefined_flags given.session mailed 0 ≡ undefined_flags given.session told 0 → Obeys close_window
  closes e =
      obeyed_alike setup code (get_or r 1 0) (elements 14 2 r) (behind (asks ps) code r) close_window _ given e
      (closed_alike setup code (get_or r 1 0) (elements 14 2 r) (behind (asks ps) code r) (numbered_in mailed given)) (λ code. refl)

reset_alike : (version : ℕ) → Alike 1 version (asks [])
unfolding mediate command_at
reset_alike version setup r s flash worn memory = obeyed_alike setup 1 (get_or r 1 0) _ _ reset _ _ refl refl (λ code. refl)

info_alike : (version : ℕ) → Alike 2 version (asks (y 0 0 ∷ []))
unfolding mediate command_at
info_alike version setup r s flash worn memory =
    obeyed_alike setup 2 (get_or r 1 0) _ _ get_info _ (lent (with_version version s) flash worn memory) refl
    (informed_alike setup 2 (get_or r 1 0) (elements 14 2 r) (get_or r 2 0 ∷ replicate 13 0)
    (numbered_in (filled_with 2 r) (lent (with_version version s) flash worn memory)) refl)
    (λ code. refl)

flash1_alike : Alike 3 1 (asks [])
unfolding mediate command_at
flash1_alike setup r s flash worn memory = obeyed_alike setup 3 (get_or r 1 0) _ _ get_flash_info _ _ refl refl (λ code. refl)

flash2_alike : Alike 3 2 (asks [])
unfolding mediate command_at
flash2_alike setup r s flash worn memory = obeyed_alike setup 3 (get_or r 1 0) _ _ get_flash_info _ _ refl refl (λ code. refl)

read1_alike : Alike 4 1 (asks (q 0 0 ∷ []))
unfolding mediate command_at
read1_alike setup r s flash worn memory = creates 4 1 (q 0 0 ∷ []) setup r s flash worn memory Read refl refl

read2_alike : Alike 4 2 (asks (q 0 0 ∷ q 2 2 ∷ []))
unfolding mediate command_at
read2_alike setup r s flash worn memory = creates 4 2 (q 0 0 ∷ q 2 2 ∷ []) setup r s flash worn memory Read refl refl

close1_alike : Alike 5 1 (asks [])
unfolding mediate command_at
close1_alike setup r s flash worn memory = closes 5 1 [] setup r s flash worn memory refl

close2_alike : Alike 5 2 (asks (y 0 0 ∷ []))
unfolding mediate command_at
close2_alike setup r s flash worn memory = closes 5 2 (y 0 0 ∷ []) setup r s flash worn memory refl

write1_alike : Alike 6 1 (asks (q 0 0 ∷ []))
unfolding mediate command_at
write1_alike setup r s flash worn memory = creates 6 1 (q 0 0 ∷ []) setup r s flash worn memory Write refl refl

write2_alike : Alike 6 2 (asks (q 0 0 ∷ q 2 2 ∷ []))
unfolding mediate command_at
write2_alike setup r s flash worn memory = creates 6 2 (q 0 0 ∷ q 2 2 ∷ []) setup r s flash worn memory Write refl refl

dirty1_alike : Alike 7 1 (asks (q 0 0 ∷ u 2 2 ∷ []))
unfolding mediate command_at
dirty1_alike setup r s flash worn memory = obeyed_alike setup 7 (get_or r 1 0) _ _ mark_dirty _ _ refl refl (λ code. refl)

dirty2_alike : Alike 7 2 (asks (q 0 0 ∷ q 2 2 ∷ []))
unfolding mediate command_at
dirty2_alike setup r s flash worn memory = obeyed_alike setup 7 (get_or r 1 0) _ _ mark_dirty _ _ refl refl (λ code. refl)

flush1_alike : Alike 8 1 (asks (q 0 0 ∷ u 2 2 ∷ []))
unfolding mediate command_at
flush1_alike setup r s flash worn memory =
    let m = numbered_in (filled_with 8 r) (lent (with_version 1 s) flash worn memory) in
    obeyed_alike setup 8 (get_or r 1 0) _ _ flush _ (lent (with_version 1 s) flash worn memory) refl
    (flushed_alike setup 8 (get_or r 1 0) (elements 14 2 r) (behind (asks (q 0 0 ∷ u 2 2 ∷ [])) 8 r) (holding (flushing m.session (filled_with 8 r)) m))
    (λ code. refl)

flush2_alike : Alike 8 2 (asks [])
unfolding mediate command_at
flush2_alike setup r s flash worn memory =
    let m = numbered_in (filled_with 8 r) (lent (with_version 2 s) flash worn memory) in
    obeyed_alike setup 8 (get_or r 1 0) _ _ flush _ (lent (with_version 2 s) flash worn memory) refl
    (flushed_alike setup 8 (get_or r 1 0) (elements 14 2 r) (behind (asks []) 8 r) (holding (flushing m.session (filled_with 8 r)) m))
    (λ code. refl)

ack_alike : (version : ℕ) → Alike 9 version (asks (y 0 0 ∷ []))
unfolding mediate command_at
ack_alike version setup r s flash worn memory = obeyed_alike setup 9 (get_or r 1 0) _ _ ack _ _ refl refl (λ code. refl)

erase_alike : Alike 10 2 (asks (q 0 0 ∷ q 2 2 ∷ []))
unfolding mediate command_at
erase_alike setup r s flash worn memory = obeyed_alike setup 10 (get_or r 1 0) _ _ erase _ _ refl refl (λ code. refl)

pub each_alike : (command version : ℕ) → Alike command version (row_of command version)
unfolding table
each_alike =
    each_row Alike
    (reset_alike 0 & reset_alike 1 & reset_alike 2 & info_alike 0 & info_alike 1 & info_alike 2 & flash1_alike & flash2_alike & read1_alike
    & read2_alike & close1_alike & close2_alike & write1_alike & write2_alike & dirty1_alike & dirty2_alike & flush1_alike & flush2_alike
    & ack_alike 0 & ack_alike 1 & ack_alike 2 & erase_alike & tt)
    none_alike
