-- What a command leaves, by its row of the table and by the first check that refuses it.
use Rattle.std.proofs.Common.{◌≡◌, refl, sym, ap, subst, ◌∙◌, Bool, true, false, cond, List, ℕ, ◌≤◌, le_trans, eqb, length, eqb-true, ne_eqb, Err}
use Rattle.units.specs.Units.{to_bytes, round_up}
use Rattle.units.proofs.Cases.{chosen}
use Rattle.session.specs.Machine.{Setup, Machine}
use Rattle.session.specs.Marks.{counts_of}
use Rattle.soundness.specs.Soundness.{size_sound, sound_in}
use Rattle.soundness.proofs.Facts.{sizes, part_within, measured}
use Rattle.refusals.specs.declared.Reason.TheVariants.{System, Repeated, Unknown, Suspended, Windowless, Argument}
use Rattle.registers.specs.Registers.{command_of}
use Rattle.refusals.specs.Refusals.{Checked, Accepted, reason_for, code_for}
use Rattle.mailbox.specs.Commands.{Outcome, numbered_in, refused}
use Rattle.mailbox.specs.Table.{Command, reset, get_info, get_flash_info, create_read_window, close_window, create_write_window, mark_dirty, flush, ack, erase, unknown}
use Rattle.mailbox.specs.Mediator.{command_at, reason_of, answer_to, obeyed, command_in, reason_in, mediate}

-- ---- the reason, by what the code was told of the row and what it found of the arguments
pub asked_as : (c : Command) (registers : List ℕ) (m : Machine) {known broken : Bool} {r : Checked}
    → r ≡ reason_for true m.session registers known c.needs broken
    → known ≡ c.known m.session.version → broken ≡ c.broken m.session registers (round_up (length m.flash))
    → r ≡ reason_of c true registers m
asked_as c registers m {known} {broken} {r} e k b =
    e
    ∙ ap (λ (t : Bool). reason_for true m.session registers t c.needs broken) k
    ∙ ap (reason_for true m.session registers (c.known m.session.version) c.needs) b

-- ---- the mediator
-- by the first check that refuses
pub mediate_as : (setup : Setup) (registers : List ℕ) (m : Machine) (r : Checked) → reason_in setup registers m ≡ r
    → mediate setup registers m ≡ answer_to r (command_in registers) setup registers m
unfolding mediate obeyed
mediate_as setup registers m r e = ap (λ (q : Checked). answer_to q (command_in registers) setup registers m) e

-- where none does, what the row of its code leaves
pub carried : (setup : Setup) (registers : List ℕ) (m : Machine) (code : ℕ) → command_of registers ≡ code → reason_in setup registers m ≡ Accepted
    → mediate setup registers m ≡ (command_at code).leaves setup registers (numbered_in registers m)
unfolding answer_to
carried setup registers m code c a =
    mediate_as setup registers m Accepted a ∙ ap (λ (n : ℕ). (command_at n).leaves setup registers (numbered_in registers m)) c

-- what holds of a command that no check refused, of a refusal for its argument, and of every other one, holds of what a call leaves
pub each_answer : (P : Outcome → Type 0) (setup : Setup) (registers : List ℕ) (m : Machine)
    → (reason_in setup registers m ≡ Accepted → P ((command_in registers).leaves setup registers (numbered_in registers m)))
    → ((code : ℕ) → P ((command_in registers).when_broken code registers (numbered_in registers m)))
    → ((code : ℕ) → P (refused code registers (numbered_in registers m))) → ((code : ℕ) → P (refused code registers m))
    → P (mediate setup registers m)
unfolding mediate obeyed answer_to
each_answer P setup registers m served broken late system = by (reason_in setup registers m) refl
  where
    code : Checked → ℕ
    code r = code_for m.session.version r

    by : (r : Checked) → reason_in setup registers m ≡ r → P (answer_to r (command_in registers) setup registers m)
    by Accepted a = served a
    by (Err System) a = system (code (Err System))
    by (Err Repeated) a = late (code (Err Repeated))
    by (Err Unknown) a = late (code (Err Unknown))
    by (Err Suspended) a = late (code (Err Suspended))
    by (Err Windowless) a = late (code (Err Windowless))
    by (Err Argument) a = broken (code (Err Argument))

-- where the sizes, B or the session are not sound
pub unsound_as : (setup : Setup) (registers : List ℕ) (m : Machine) → sound_in setup m ≡ false → mediate setup registers m ≡ refused 4 registers m
unfolding mediate obeyed answer_to reason_for
unsound_as setup registers m e = rw e

-- where they are, what the row of the code leaves
pub mediated_by : (setup : Setup) (registers : List ℕ) (m : Machine) → sound_in setup m ≡ true
    → obeyed (command_in registers) true setup registers m ≡ mediate setup registers m
unfolding mediate
mediated_by setup registers m s = ap (λ (b : Bool). obeyed (command_in registers) b setup registers m) (sym s)

-- where they are, the row of the code that the registers hold
pub row_at : (n : ℕ) (setup : Setup) (registers : List ℕ) (m : Machine) → command_of registers ≡ n → sound_in setup m ≡ true
    → obeyed (command_at n) true setup registers m ≡ mediate setup registers m
row_at n setup registers m c s = ap (λ (k : ℕ). obeyed (command_at k) true setup registers m) (sym c) ∙ mediated_by setup registers m s

-- what holds of every row with its code, and of any code without one, holds of the command of any code
pub each_command : (P : ℕ → Command → Type 0) → P reset.code reset → P get_info.code get_info → P get_flash_info.code get_flash_info
    → P create_read_window.code create_read_window → P close_window.code close_window → P create_write_window.code create_write_window
    → P mark_dirty.code mark_dirty → P flush.code flush → P ack.code ack → P erase.code erase → ((n : ℕ) → P n unknown)
    → (n : ℕ) → P n (command_at n)
unfolding command_at
each_command P p1 p2 p3 p4 p5 p6 p7 p8 p9 p10 p n =
    or_else reset p1 (or_else get_info p2 (or_else get_flash_info p3 (or_else create_read_window p4 (or_else close_window p5
    (or_else create_write_window p6 (or_else mark_dirty p7 (or_else flush p8 (or_else ack p9 (or_else erase p10 (p n))))))))))
  where
    or_else : (c : Command) → P c.code c → {d : Command} → P n d → P n (cond (eqb n c.code) c d)
    or_else c pc {d} pd = chosen (P n) (eqb n c.code) c d (λ t. subst (λ (k : ℕ). P k c) (sym (eqb-true n c.code t)) pc) (λ _. pd)

-- a code of no row
pub past_table : (n : ℕ) → (n ≡ 1 → ⊥) → (n ≡ 2 → ⊥) → (n ≡ 3 → ⊥) → (n ≡ 4 → ⊥) → (n ≡ 5 → ⊥) → (n ≡ 6 → ⊥) → (n ≡ 7 → ⊥) → (n ≡ 8 → ⊥) → (n ≡ 9 → ⊥)
    → (n ≡ 10 → ⊥) → command_at n ≡ unknown
unfolding command_at
past_table n n1 n2 n3 n4 n5 n6 n7 n8 n9 n10 =
    rw (ne_eqb n 1 n1, ne_eqb n 2 n2, ne_eqb n 3 n3, ne_eqb n 4 n4, ne_eqb n 5 n5, ne_eqb n 6 n6, ne_eqb n 7 n7, ne_eqb n 8 n8, ne_eqb n 9 n9, ne_eqb n 10 n10)

-- ---- what a sound call lends
pub record Fits (m : Machine) : Type 0 where
  pub flash_sound : size_sound 65535 (length m.flash) ≡ true
  pub memory_sound : size_sound 64 (length m.memory) ≡ true
  pub few : m.session.size ≤ 64
  pub room : to_bytes m.session.size ≤ length m.memory
  pub counts : m.session.counts ≡ counts_of m.session.marks

pub call_fits : (setup : Setup) (m : Machine) → sound_in setup m ≡ true → Fits m
call_fits setup m e =
    let z = measured setup (length m.flash) (length m.worn) (length m.memory) m.session e in
    let p = sizes (length m.flash) (length m.worn) (length m.memory) m.session z.sound in
    record {
      flash_sound = p.0;
      memory_sound = p.1;
      few = le_trans z.fits.in_memory z.memory_sized.few;
      room = (part_within (length m.flash) (length m.worn) (length m.memory) m.session z.sound).1;
      counts = z.fits.counts;
    }
