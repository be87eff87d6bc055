-- What a row leaves where C/D# is stored first is what the access leaves.
use mathlib.Core.Path.{◌≡◌, refl, sym, ap, ◌∙◌}
use mathlib.Core.List.{List}
use Prim.Native.Nat.{ℕ}
use Rattle.std.specs.Prelude.{Option}
use lib.ListN.{length, get_or, set}
use Rattle.kcs.specs.Port.{Port, phase_of}
use Rattle.kcs.specs.Effects.{Effect, on_command, data_effect, left, with_command, told_message}
use Rattle.kcs.specs.Accesses.{effected, with_control, next_byte, command_written, data_written, message_told}
use Rattle.kcs.specs.Bytes.{control_of, port_of, bytes_of}
use Rattle.kcs.proofs.Places.{changed}

-- the port with another C/D#
commanded : (n : ℕ) (xs : List ℕ) → length xs ≡ 136 → port_of (set xs 1 n) ≡ with_control (with_command n (control_of xs)) (port_of xs)
commanded n = changed (λ (ys : List ℕ). set ys 1 n) (with_command n) (λ c t. refl)

pub command_left
    : (effect : Effect) (code : ℕ) (xs ys : List ℕ) → length xs ≡ 136 → on_command (phase_of (get_or xs 0 0)) code ≡ effect
    → ys ≡ bytes_of (with_control (left effect 0x00 (control_of (set xs 1 1))) (port_of (set xs 1 1)))
    → ys ≡ bytes_of (command_written code (port_of xs))
command_left effect code xs ys long row e =
    e
    ∙ ap (λ (p : Port). bytes_of (with_control (left effect 0x00 p.control) p)) (commanded 1 xs long)
    ∙ ap (λ (f : Effect). bytes_of (with_control (left f 0x00 (with_command 1 (control_of xs))) (port_of xs))) (sym row)

-- a row of data may ask for the port that it finds
pub data_left
    : (effect : Port → Effect) (byte : ℕ) (told : Option ℕ) (xs ys : List ℕ) → length xs ≡ 136
    → data_effect byte (control_of xs) ≡ effect (with_control (with_command 0 (control_of xs)) (port_of xs))
    → ys ≡ bytes_of (effected (effect (port_of (set xs 1 0))) (next_byte (port_of (set xs 1 0))) byte (port_of (set xs 1 0)))
    → told ≡ told_message (effect (port_of (set xs 1 0))) (control_of (set xs 1 0))
    → (ys ≡ bytes_of (data_written byte (port_of xs))) × (told ≡ message_told byte (port_of xs))
data_left effect byte told xs ys long row e t = (
  e
      ∙ ap (λ (p : Port). bytes_of (effected (effect p) (next_byte p) byte p)) (commanded 0 xs long)
      ∙ ap (λ (f : Effect). bytes_of (effected f (next_byte (port_of xs)) byte (with_control (with_command 0 (control_of xs)) (port_of xs)))) (sym row),
  t
      ∙ ap (λ (p : Port). told_message (effect p) p.control) (commanded 0 xs long)
      ∙ ap (λ (f : Effect). told_message f (with_command 0 (control_of xs))) (sym row),
)
