-- The transcript of an input that is too long, and of one that is run.
use mathlib.Core.Path.{◌≡◌, refl, ap, ◌∙◌}
use mathlib.Core.Bool.{Bool, cond}
use mathlib.Core.List.{List, ◌++◌}
use Prim.Native.Nat.{ℕ, ◌+◌, ◌≤◌, ◌<◌}
use native.Mathlib.Omega.{arith}
use lib.ListN.{length, replicate}
use borrow.Author.Tests.{lt-ltb, le-ltb}
use Rattle.session.specs.Machine.{lent}
use Rattle.session.specs.Record.{fresh}
use Rattle.script.specs.Effects.{none_worn}
use Rattle.transcript.specs.declared.printing.Printed.{Printed}
use Rattle.transcript.specs.Puts.{Puts}
use Rattle.transcript.specs.Printing.{written, too_long, flash_line}
use Rattle.transcript.specs.Run.{Ran, bench, blank, run_from, ran, transcript}

pub transcript_long : (input : List ℕ) → 16384 < length input → transcript input ≡ too_long
unfolding transcript
transcript_long input h = ap (λ (b : Bool). cond b too_long ((ran input).text ++ flash_line 4 (ran input).flash)) (lt-ltb 16384 (length input) h)

transcript_ran : (input : List ℕ) → length input ≤ 16384 → transcript input ≡ (ran input).text ++ flash_line 4 (ran input).flash
unfolding transcript
transcript_ran input h = ap (λ (b : Bool). cond b too_long ((ran input).text ++ flash_line 4 (ran input).flash)) (le-ltb 16384 (length input) h)

ran_as : (input : List ℕ) → ran input ≡ run_from (length input) bench input 0 (lent fresh (replicate 16384 0xff) none_worn (replicate 8192 0xff))
unfolding blank
ran_as input = refl

pub transcript_run : (input : List ℕ) → length input ≤ 16384
    → transcript input
    ≡ (run_from (length input) bench input 0 (lent fresh (replicate 16384 0xff) none_worn (replicate 8192 0xff))).text
    ++ flash_line 4 (run_from (length input) bench input 0 (lent fresh (replicate 16384 0xff) none_worn (replicate 8192 0xff))).flash
transcript_run input h = transcript_ran input h ∙ ap (λ (r : Ran). r.text ++ flash_line 4 r.flash) (ran_as input)

-- what is put behind nothing is the whole text
pub whole_text : {before after : Printed} {xs text : List ℕ} → Puts before xs after → before.end ≡ 0 → before.text.now ≡ text
    → (after.end ≡ length xs) × (after.text.now ≡ written 0 xs text)
whole_text {before} {after} {xs} p e t = (
  front after.end before.end (length xs) p.end e,
  p.text ∙ ap (λ (n : ℕ). written n xs before.text.now) e ∙ ap (written 0 xs) t,
)
  where
    front : (end at n : ℕ) → end ≡ at + n → at ≡ 0 → end ≡ n
    front end at n h k = omega arith
