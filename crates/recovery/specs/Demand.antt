-- Demand 3, whole, as it is proved: document 00, document 01, "Chip actions", and 02, Ticket 8. Its proof is `demand_3`, in proofs/Demand.antt.
use Rattle.std.specs.Prelude.{◌≡◌, true, List}
use Rattle.session.specs.declared.Window.TheVariants.{Write}
use Rattle.session.specs.Machine.{Setup, Machine}
use Rattle.soundness.specs.Soundness.{sound_in}
use Rattle.recovery.specs.Cut.{FirstCall, cut, AtCut}
use Rattle.recovery.specs.Second.{Way, Succeeds, SecondRun, StepsSucceed, second_end, second_flash, unstopped, AddsNone, unstopped_flash}

-- for every sound session with a write window and every first list: what holds at the cut is as 01 says, and "for every two such lists, the chip
-- equals that of the flush never stopped"; each of the N steps succeeds in both, whether the run flushes by them or not
abbrev pub Demand3 : Type 0
Demand3 =
    (setup : Setup) (m : Machine) → sound_in setup m ≡ true → m.session.window ≡ Write
    → (list : List FirstCall)
    → AtCut m list
    × ((second : SecondRun setup m (cut m list).machine.flash) (way : Way) → Succeeds setup way (unstopped m) → AddsNone way m.session
    → (second_flash setup m (cut m list).machine.flash second ≡ unstopped_flash setup way m)
    × StepsSucceed (second_end setup m (cut m list).machine.flash second)
    × StepsSucceed (unstopped m))
